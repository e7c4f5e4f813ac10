use Prim.Native.Nat.{◌-◌, ◌≤◌}
use mathlib.Core.Path.{◌≡◌}
use Rattle.lists.specs.Tab.{times}
use Rattle.places.specs.ReadOuts.{stored_in}
use Rattle.drift.specs.Loops.{look_line}
use Rattle.drift.specs.CompactLaws.{compact_row_sums}
use Rattle.drift.proofs.compact.look_rows.Given as goal

abbrev pub invariant-loop-i : goal.invariant-loop-i
invariant-loop-i l = (l.i ≤ l.tables.n_satom) × (l.seen ≡ times l.i (λ k. look_line k (compact_row_sums l.fc (stored_in l.tables.n_satom l.tables.s2pp.now l.tables.nsym_list.now l.tables.perms.now) l.tables.n_satom k)) l.initial.seen)

abbrev pub decreases-loop-i : goal.decreases-loop-i
decreases-loop-i l = l.tables.n_satom - l.i
