use mathlib.Core.Path.{◌≡◌, sym, ◌∙◌, subst}
use Prim.Native.Nat.{◌^◌, ◌<◌}
use native.Mathlib.Nat.{lt_of_le_of_lt}
use native.Mathlib.Omega.{arith}
use lib.Dec.{T, lit<}
use lib.IntN.{pos}
use lib.Ieee.{binary64, fits, to_bits}
use lib.Ieee.Bits.{to_bits-lt}
use mir.Syntax.{w64}
use mir.Val.{to_z}
use mir.ValLaws.{to_z_pos}
use Rattle.common.proofs.Wholes.{whole_already, at_bits, v-small, v-number, v-signed, v_pattern, nan_kept, no_nan}
use Rattle.common.proofs.round.Goals as goal
use Rattle.common.proofs.round.Goals.{After-whole_size}

pub returns-then-x : goal.returns-then-x
returns-then-x c = nan_kept c.args.x c.if-x.true

pub float_to_bits-b : goal.float_to_bits-b
float_to_bits-b c = no_nan c.args.x c.if-x.false

pub returns-then-b-ge1075 : goal.returns-then-b-ge1075
returns-then-b-ge1075 c = whole_already c.args.x (subst T (sym c.well_formed.0.1) tt) c.if-b-ge1075.true

held : (c : After-whole_size) → T (fits binary64 c.args.x)
held c = subst T (sym c.well_formed.0.1) tt

wide : (c : After-whole_size) → to_bits binary64 c.args.x < 2 ^ 64
wide c = to_bits-lt binary64 c.args.x (held c)

-- the rounded size, as an i64
z-is : (c : After-whole_size) → to_z w64 c.whole_size.result ≡ pos c.whole_size.result
z-is c = to_z_pos w64 c.whole_size.result (lt_of_le_of_lt c.whole_size.ensures.1 (lit< tt))

pub float_to_bits-result : goal.float_to_bits-result
float_to_bits-result c = v-number c.whole_size.result (to_z w64 c.whole_size.result) (z-is (goal.at.float_to_bits-result c).After-whole_size) c.whole_size.ensures.1

pub overflow_mul-result : goal.overflow_mul-result
overflow_mul-result c = omega (arith, wide (goal.at.overflow_mul-result c).After-whole_size)

pub overflow_add-result : goal.overflow_add-result
overflow_add-result c =
    let d = (goal.at.overflow_add-result c).After-whole_size in
    omega (arith, wide d, v-small c.whole_size.result (to_z w64 c.whole_size.result) (z-is d) c.whole_size.ensures.1)

pub float_from_bits-result : goal.float_from_bits-result
float_from_bits-result c =
    let d = (goal.at.float_from_bits-result c).After-whole_size in
    v_pattern c.whole_size.result (to_z w64 c.whole_size.result) (z-is d) c.whole_size.ensures.1 (to_bits binary64 c.args.x) (wide d)

pub returns : goal.returns
returns c =
    let d = (goal.at.returns c).After-whole_size in
    v-signed c.whole_size.result (to_z w64 c.whole_size.result) (z-is d) c.whole_size.ensures.1 (to_bits binary64 c.args.x) (wide d)
    ∙ at_bits c.args.x (held d) c.whole_size.result c.if-b-ge1075.false c.whole_size.ensures.0
