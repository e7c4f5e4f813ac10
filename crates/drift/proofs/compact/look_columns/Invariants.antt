use Prim.Native.Nat.{◌+◌, ◌-◌, ◌≤◌}
use mathlib.Core.Path.{◌≡◌}
use Rattle.lists.specs.Tab.{times}
use Rattle.places.specs.ReadOuts.{stored_in}
use Rattle.drift.specs.Loops.{look_line}
use Rattle.drift.specs.CompactLaws.{column_sums}
use Rattle.drift.proofs.compact.look_columns.Given as goal

abbrev pub invariant-loop-j : goal.invariant-loop-j
invariant-loop-j l = (l.j ≤ l.tables.n_satom) × (l.seen ≡ times l.j (λ k. look_line (l.tables.n_satom + k) (column_sums l.fc (stored_in l.tables.n_satom l.tables.s2pp.now l.tables.nsym_list.now l.tables.perms.now) l.tables.n_satom k)) l.initial.seen)

abbrev pub decreases-loop-j : goal.decreases-loop-j
decreases-loop-j l = l.tables.n_satom - l.j
