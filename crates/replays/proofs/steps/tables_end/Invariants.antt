use Rattle.std.proofs.Common.{◌≤◌}
use Rattle.replays.proofs.steps.tables_end.Given as goal

abbrev pub invariant-loop-i : goal.invariant-loop-i
invariant-loop-i l = l.e ≤ l.most
