use Rattle.reports.specs.Seen.{conclude_none, conclude_still, conclude_worst}
use Rattle.drift.specs.Drift.{report_at, still_report}
use mathlib.Core.Path.{◌∙◌}
use Rattle.drift.proofs.conclude.Goals as goal

pub returns-then-c : goal.returns-then-c
returns-then-c c = let a = c.args in c.report_at.ensures ∙ conclude_none still_report (report_at a.n) a.c c.if-c.true

pub returns-then-c-2 : goal.returns-then-c-2
returns-then-c-2 c = let a = c.args in c.still.ensures ∙ conclude_still still_report (report_at a.n) a.c c.if-c.false c.if-c-2.true

pub returns : goal.returns
returns c = let a = c.args in c.report_at-2.ensures ∙ conclude_worst still_report (report_at a.n) a.c c.if-c.false c.if-c-2.false
