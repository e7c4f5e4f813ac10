use Rattle.distances.proofs.Squares.{tested, none_sure}
use Rattle.distances.proofs.Numbers.{if_so, if_not}
use Rattle.distances.specs.declared.Reach.{Reach}
use Rattle.distances.specs.Reach.{Reaches}
use Rattle.common.specs.Root.{sqrt}
use lib.Ieee.{Float, binary64, of_bits, lt, mul, div}
use mathlib.Core.Path.{◌≡◌, refl, sym, ap, ◌∙◌, subst}
use mathlib.Core.Bool.{true, false}
use Rattle.distances.proofs.with_sure.Goals as goal

with-sure : {x y : Float} (square early : Float) → x ≡ y → ◌≡◌ {A = Reach} (record { square = square; sure = x; early = early }) (record { square = square; sure = y; early = early })
with-sure square early e = ap (λ (z : Float). record { square = square; sure = z; early = early }) e

pub returns-then-sqrt-symprec : goal.returns-then-sqrt-symprec
unfolding of_bits
returns-then-sqrt-symprec c =
    let s = c.args.symprec in
    let k = of_bits binary64 4607182418800017400 in
    let h : lt (sqrt binary64 (mul binary64 c.args.square k)) s ≡ true = ap (λ (x : Float). lt x s) (sym c.sqrt.ensures) ∙ c.if-sqrt-symprec.true in (
      with-sure c.args.square c.args.early (if_so _ (mul binary64 c.args.square k) h refl),
      subst (λ (q : Float). Reaches s q (mul binary64 q k)) (sym c.requires) (tested s k tt (subst (λ (q : Float). lt (sqrt binary64 (mul binary64 q k)) s ≡ true) c.requires h)),
    )

pub returns : goal.returns
returns c =
    let s = c.args.symprec in
    let k = of_bits binary64 4607182418800017400 in
    let h : lt (sqrt binary64 (mul binary64 c.args.square k)) s ≡ false = ap (λ (x : Float). lt x s) (sym c.sqrt.ensures) ∙ c.if-sqrt-symprec.false in (
      with-sure c.args.square c.args.early (if_not _ (mul binary64 c.args.square k) h),
      subst (λ (q : Float). Reaches s q (div binary64 (of_bits binary64 0) (of_bits binary64 0))) (sym c.requires) (none_sure s),
    )
