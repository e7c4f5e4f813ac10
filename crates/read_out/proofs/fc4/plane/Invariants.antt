use mathlib.Core.Path.{◌≡◌}
use Prim.Native.Nat.{◌+◌, ◌-◌, ◌*◌, ◌≤◌}
use lib.ListN.{length}
use Rattle.lists.specs.Tab.{times}
use Rattle.tables.specs.Conditions.{index_at}
use Rattle.read_out.specs.Copies.{copy_legs}
use Rattle.read_out.proofs.fc4.plane.Given as goal

abbrev pub invariant-loop-k : goal.invariant-loop-k
invariant-loop-k l =
    (l.k ≤ l.tables.n_satom) × (length l.full ≡ length l.initial.full)
    × (l.full ≡ times l.k (λ k. copy_legs l.tables.perms.now l.tables.n_satom 81 l.t 1 (l.to * l.tables.n_satom + k) (l.from * l.tables.n_satom + index_at l.tables.perms.now (l.t * l.tables.n_satom + k)) l.fc4) l.initial.full)

abbrev pub decreases-loop-k : goal.decreases-loop-k
decreases-loop-k l = l.tables.n_satom - l.k
