-- `nearest_whole` and `nint` are what specs/NearestWhole.antt says: `whole_is_nearest` and `nint_is_nearest`, for every finite f64. Assumes nothing.
use Rattle.std.specs.Prelude.{◌≡◌, refl, Bool, true, false, ℕ, ◌+◌, ◌-◌, ◌*◌, ◌^◌, ◌≤◌, ◌<◌, min, T, ℤ, pos, neg_ℤ, Float}
use Rattle.std.proofs.Common.{sym, ap, ◌∙◌, subst, true≢false, le_antisymm, arith}
use Rattle.std.proofs.lemmas.Bool.{false≢true}
use Rattle.std.specs.Float.{nan, inf, fin, binary64}
use Rattle.std.specs.Float.Ieee.{up, down, fits, to_signed}
use Rattle.std.specs.Float.Ieee.Fits.{down_pos, round-fits}
use Rattle.std.specs.Float.Ieee.Exact.{HasValue}
use Rattle.std.specs.Float.Ieee.Positive.{num, den}
use Rattle.std.specs.Float.Ieee.Scale.{finite}
use Rattle.std.specs.Float.Ieee.Back.{whole_unique}
use Rattle.common.specs.Whole.{half_up, nearest_whole, nint}
use Rattle.common.specs.Laws.Fields.{negative}
use Rattle.common.proofs.Wholes.{half_nearest, half-away, whole-exact, signed-whole}
use Rattle.common.specs.NearestWhole.{NearestSize, NearestWhole, NearestInteger}

-- ---- what a whole float is as an integer
-- the smaller of two numbers
low_min : (n k : ℕ) → n ≤ k → min n k ≡ n
low_min n k h = omega arith

high-min : (n k : ℕ) → k ≤ n → min n k ≡ k
high-min n k h = omega arith

-- what a float of the size n and the sign of x is, by the sign
integer_of : (x v : Float) (n : ℕ) (s : Bool) → negative x ≡ s → NearestSize x n → HasValue v s n 1 → NearestInteger x (to_signed 63 v)
integer_of x v n true q c h =
    let e = signed-whole v true n h in
    record {
      size = n;
      closest = c;
      plus = λ t. absurd (true≢false (sym q ∙ t));
      minus = λ _ l. e ∙ ap (λ (z : ℕ). neg_ℤ (pos z)) (low_min n (2 ^ 63) l);
      above = λ t. absurd (true≢false (sym q ∙ t));
      below = λ _ l. e ∙ ap (λ (z : ℕ). neg_ℤ (pos z)) (high-min n (2 ^ 63) l);
    }
integer_of x v n false q c h =
    let e = signed-whole v false n h in
    record {
      size = n;
      closest = c;
      plus = λ _ l. e ∙ ap pos (low_min n (2 ^ 63 - 1) (omega arith));
      minus = λ t. absurd (false≢true (sym q ∙ t));
      above = λ _ l. e ∙ ap pos (high-min n (2 ^ 63 - 1) (omega arith));
      below = λ t. absurd (false≢true (sym q ∙ t));
    }

rounded_fits : (x : Float) → T (fits binary64 x) → T (fits binary64 (nearest_whole x))
unfolding nearest_whole
rounded_fits nan F = F
rounded_fits (inf s) F = F
rounded_fits (fin s m e) F = round-fits binary64 s (half_up (m * up e) (down e)) 1

-- ---- the definitions are these
-- For every finite f64 the definition gives the nearest whole number.
pub whole_is_nearest : (x : Float) → T (fits binary64 x) → T (finite x) → NearestWhole x (nearest_whole x)
whole_is_nearest nan F h = absurd h
whole_is_nearest (inf s) F h = absurd h
whole_is_nearest (fin s m e) F h = record {
  held = rounded_fits (fin s m e) F;
  size = half_up (m * up e) (down e);
  whole = whole-exact s m e F;
  closest = record { nearest = half_nearest (m * up e) (down e) (down_pos e); away = half-away (m * up e) (down e) (down_pos e) };
}

-- For every finite f64 `nint` gives the nearest whole number as an i64, beyond an i64 the nearest end.
pub nint_is_nearest : (x : Float) → T (fits binary64 x) → T (finite x) → NearestInteger x (nint x)
unfolding nint
nint_is_nearest x F p = let h = whole_is_nearest x F p in integer_of x (nearest_whole x) h.size (negative x) refl h.closest h.whole
