use mathlib.Core.Path.{◌≡◌}
use Prim.Native.Nat.{◌+◌, ◌-◌, ◌*◌, ◌≤◌}
use lib.ListN.{length}
use Rattle.lists.specs.Tab.{times}
use Rattle.tables.specs.Conditions.{index_at}
use Rattle.read_out.specs.Copies.{copy_legs}
use Rattle.read_out.proofs.fc4.line.Given as goal

abbrev pub invariant-loop-l : goal.invariant-loop-l
invariant-loop-l v =
    (v.l ≤ v.tables.n_satom) × (length v.full ≡ length v.initial.full)
    × (v.full ≡ times v.l (λ k. copy_legs v.tables.perms.now v.tables.n_satom 81 v.t 0 (v.to * v.tables.n_satom + k) (v.from * v.tables.n_satom + index_at v.tables.perms.now (v.t * v.tables.n_satom + k)) v.fc4) v.initial.full)

abbrev pub decreases-loop-l : goal.decreases-loop-l
decreases-loop-l v = v.tables.n_satom - v.l
