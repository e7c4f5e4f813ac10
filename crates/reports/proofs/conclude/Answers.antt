use Rattle.reports.specs.declared.Deviation.TheVariants.{Still}
use Rattle.reports.specs.Report.{report_at}
use Rattle.reports.specs.Seen.{conclude_none, conclude_still, conclude_worst}
use Rattle.reports.proofs.conclude.Goals as goal

pub returns-then-c : goal.returns-then-c
returns-then-c c = conclude_none (report_at Still 0) report_at c.args.c c.if-c.true

pub returns-then-c-2 : goal.returns-then-c-2
returns-then-c-2 c = conclude_still (report_at Still 0) report_at c.args.c c.if-c.false c.if-c-2.true

pub returns : goal.returns
returns c = conclude_worst (report_at Still 0) report_at c.args.c c.if-c.false c.if-c-2.false
