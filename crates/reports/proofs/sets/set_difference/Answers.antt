use Rattle.std.specs.Prelude.{Ok}
use native.Mathlib.Omega.{arith}
use mathlib.Core.Path.{ap, ◌∙◌}
use Rattle.reports.specs.Loops.{look_differences}
use Rattle.reports.specs.Sets.{difference-refused, difference-given}
use Rattle.reports.proofs.sets.set_difference.Goals as goal

pub returns-then-b-a : goal.returns-then-b-a
returns-then-b-a c = let a = c.args in difference-refused a.a.now a.b.now c.if-b-a.true

pub look_differences-seen-requires : goal.look_differences-seen-requires
look_differences-seen-requires c = (c.if-b-a.false, omega arith)

pub returns : goal.returns
returns c =
    let a = c.args in
    ap Ok c.conclude.ensures
    ∙ difference-given a.a.now a.b.now c.if-b-a.false
    (c.look_differences-seen.ensures ∙ ap (look_differences 0 a.a.now a.b.now) c.start.ensures)
