use mathlib.Core.Path.{◌≡◌}
use Prim.Native.Nat.{◌+◌, ◌-◌, ◌*◌, ◌≤◌}
use lib.ListN.{length}
use Rattle.lists.specs.Tab.{times}
use Rattle.tables.specs.Conditions.{index_at}
use Rattle.read_out.specs.Copies.{copy_legs}
use Rattle.read_out.proofs.fc2.line.Given as goal

abbrev pub invariant-loop-j : goal.invariant-loop-j
invariant-loop-j l =
    (l.j ≤ l.tables.n_satom) × (length l.full ≡ length l.initial.full)
    × (l.full ≡ times l.j (λ k. copy_legs l.tables.perms.now l.tables.n_satom 9 l.t 0 (l.first.0 * l.tables.n_satom + k) (l.home.0 * l.tables.n_satom + index_at l.tables.perms.now (l.t * l.tables.n_satom + k)) l.fc2) l.initial.full)

abbrev pub decreases-loop-j : goal.decreases-loop-j
decreases-loop-j l = l.tables.n_satom - l.j
