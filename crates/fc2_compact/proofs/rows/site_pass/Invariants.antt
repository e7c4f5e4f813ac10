use mathlib.Core.Path.{◌≡◌}
use Rattle.lists.specs.Tab.{times}
use Rattle.tables.specs.Compact.{shifts_of, given}
use Rattle.tables.specs.Shifts.{p2s_at}
use Rattle.lines.specs.Lines.{balance_at}
use Rattle.fc2_compact.proofs.rows.site_pass.Given as goal

abbrev pub invariant-loop-p : goal.invariant-loop-p
invariant-loop-p l =
    l.fc ≡ times l.p (balance_at l.tables.n_satom (p2s_at (shifts_of (given l.tables)))) l.initial.fc
