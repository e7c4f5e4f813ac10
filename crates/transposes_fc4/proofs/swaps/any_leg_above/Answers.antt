use Prim.Native.Nat.{◌≤◌, ◌<◌}
use native.Mathlib.Omega.{arith}
use Rattle.transposes_fc4.specs.Guard.{above_first, above_second, above_none}
use Rattle.transposes_fc4.proofs.swaps.any_leg_above.Goals as goal

pub returns-then-leg_a-gt3 : goal.returns-then-leg_a-gt3
returns-then-leg_a-gt3 c =
    let a = c.args in
    let h : 3 < a.leg_a = omega (arith, c.if-leg_a-gt3.true) in
    above_first a.leg_a a.leg_b h

pub returns-then-leg_b-gt3 : goal.returns-then-leg_b-gt3
returns-then-leg_b-gt3 c =
    let a = c.args in
    let g : a.leg_a ≤ 3 = omega (arith, c.if-leg_a-gt3.false) in
    let h : 3 < a.leg_b = omega (arith, c.if-leg_b-gt3.true) in
    above_second a.leg_a a.leg_b g h

pub returns : goal.returns
returns c =
    let a = c.args in
    let g : a.leg_a ≤ 3 = omega (arith, c.if-leg_a-gt3.false) in
    let h : a.leg_b ≤ 3 = omega (arith, c.if-leg_b-gt3.false) in
    above_none a.leg_a a.leg_b g h
