use mathlib.Core.Path.{◌≡◌}
use Prim.Native.Nat.{◌-◌, ◌≤◌}
use lib.ListN.{length}
use Rattle.lists.specs.Tab.{times}
use Rattle.tables.specs.Conditions.{index_at}
use Rattle.read_out.specs.Copies.{copy_legs}
use Rattle.read_out.proofs.fc3.rows.Given as goal

abbrev pub invariant-loop-i : goal.invariant-loop-i
invariant-loop-i l =
    (l.i ≤ l.tables.n_satom) × (length l.full ≡ length l.initial.full)
    × (l.full ≡ times l.i (λ i. copy_legs l.tables.perms.now l.tables.n_satom 27 (index_at l.tables.nsym_list.now i) 2 i (index_at l.tables.s2pp.now i) l.fc3) l.initial.full)

abbrev pub decreases-loop-i : goal.decreases-loop-i
decreases-loop-i l = l.tables.n_satom - l.i
