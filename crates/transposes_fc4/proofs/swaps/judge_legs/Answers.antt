use mathlib.Core.Path.{sym, ◌∙◌}
use Rattle.transposes_fc4.specs.Guard.{legs_bad, legs_fine}
use Rattle.transposes_fc4.proofs.swaps.judge_legs.Goals as goal

pub returns-then-any_leg_above : goal.returns-then-any_leg_above
returns-then-any_leg_above c =
    let a = c.args in
    c.with_bad_leg.ensures ∙ legs_bad a.t a.leg_a a.leg_b (sym c.any_leg_above.ensures ∙ c.if-any_leg_above.true)

pub returns : goal.returns
returns c =
    let a = c.args in
    legs_fine a.t a.leg_a a.leg_b (sym c.any_leg_above.ensures ∙ c.if-any_leg_above.false)
