use mathlib.Core.Path.{◌≡◌, sym, ap, ◌∙◌, subst}
use mathlib.Core.Bool.{true, false, not, true≢false}
use lib.Dec.{T}
use lib.Ieee.{Float, nan, inf, fin, binary64, is_nan, to_bits, ne}
use lib.Ieee.Compare.{differs_from_itself, nan_differs}
use Rattle.common.proofs.float_word.Goals as goal

one-pattern : (x : Float) → ne x x ≡ true → 0x7ff8_0000_0000_0000 ≡ to_bits binary64 x
unfolding to_bits
one-pattern x h =
    let e : x ≡ nan = differs_from_itself x (subst T (sym h) tt) in
    sym (ap (to_bits binary64) e)

no_nan : (x : Float) → ne x x ≡ false → T (not (is_nan x))
unfolding is_nan
no_nan nan h = absurd (true≢false (sym nan_differs ∙ h))
no_nan (inf s) h = tt
no_nan (fin s m e) h = tt

pub returns-then-x : goal.returns-then-x
returns-then-x c = one-pattern c.args.x c.if-x.true

pub float_to_bits-result : goal.float_to_bits-result
float_to_bits-result c = no_nan c.args.x c.if-x.false
