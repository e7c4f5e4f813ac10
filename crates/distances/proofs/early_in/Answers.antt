use Rattle.distances.proofs.Numbers.{never_early, never_only, if_so, if_not}
use Rattle.distances.proofs.early_in.Goals as goal

pub returns-then-repeats : goal.returns-then-repeats
returns-then-repeats c = let e = c.early_of.ensures in (if_so _ _ c.if-repeats.true e.0, e.1, λ x h. c.if-repeats.true)

pub returns : goal.returns
returns c =
    let a = c.args in
    (if_not a.repeats _ c.if-repeats.false, never_early a.square _ _ _ _ _ _, never_only a.repeats)
