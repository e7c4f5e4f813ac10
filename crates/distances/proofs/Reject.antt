-- Rejecting by the squares is exact: if x is above the rounded square of the tolerance s, the rounded root of x is not below s. It holds for every s: where s is
-- negative, tiny (its square rounds to 0), infinite or NaN, too. Accepting by the squares is not exact, and is not claimed. Assumes nothing.
use mathlib.Core.Path.{◌≡◌, refl, sym, ap, ◌∙◌, subst}
use mathlib.Core.Bool.{Bool, true, false, cond, false≢true}
use Prim.Native.Nat.{ℕ, zero, suc, ◌+◌, ◌*◌, ◌/◌, ◌^◌, ◌≤◌, ◌<◌}
use native.Mathlib.Nat.{le_trans, le_of_eq, lt_of_le_of_lt, lt_of_lt_of_le, lt_of_not-le, not-le_of_lt, zero-mul, mul_comm, mul_assoc, mul-mul-mul_comm, mul-pos, mul-le-mul, mul-le-mul_right, mul-lt-mul_of_pos_right, lt_of_mul-lt-mul_right, le-div_iff_mul-le, pow-suc}
use native.Mathlib.Omega.{arith}
use lib.IntN.{ℤ}
use lib.Dec.{T, ltb, eqb}
use lib.Pow.{pow_pos}
use lib.Ieee.{Float, nan, inf, fin, Format, low, up, down, round, fits, mul, lt}
use lib.Ieee.Fits.{down_pos}
use borrow.Author.Tests.{le-ltb}
use Rattle.lists.specs.Tests.{not-both}
use Rattle.common.specs.Root.{root, rounded_root, sqrt}
use Rattle.common.specs.RootLaws.{WholeRoot}
use Rattle.common.proofs.RootLaws.{root_is}
use Rattle.distances.specs.Reach.{is_positive}
use Rattle.distances.proofs.Rounded.{scaled, no-finer, round_plus, rounds_above}

-- ---- natural numbers

square_mono : (a b : ℕ) → a ≤ b → a * a ≤ b * b
square_mono a b h = mul-le-mul h h

root_lt : (a b : ℕ) → a * a < b * b → a < b
root_lt a b h = lt_of_not-le (λ (g : b ≤ a). not-le_of_lt h (square_mono b a g))

pub four-pow : (l : ℕ) → 4 ^ l ≡ 2 ^ l * 2 ^ l
four-pow zero = refl
four-pow (suc l) = pow-suc 4 l ∙ ap (λ (z : ℕ). z * 4) (four-pow l) ∙ mul-mul-mul_comm (2 ^ l) (2 ^ l) 2 2 ∙ sym (ap (λ (z : ℕ). z * z) (pow-suc 2 l))

-- s = a / c = S / L and s² < b / g: the whole part r of the root of b / g in units of 1 / (2 L) is at least 2 S
module _ (a c S L b g r : ℕ) (C : 0 < c) (G : 0 < g) (P : 0 < L) (same : a * L ≡ S * c) (below : a * a * g < b * (c * c)) (w : WholeRoot (b * (4 * (L * L)) / g) r) where
  shrunk : S * S * g < b * (L * L)
  shrunk =
      let u : S * S * g * (c * c) ≡ a * a * g * (L * L) = left in
      let v : b * (L * L) * (c * c) ≡ b * (c * c) * (L * L) = right in
      lt_of_mul-lt-mul_right (c * c) (lt_of_le_of_lt (le_of_eq u) (lt_of_lt_of_le (mul-lt-mul_of_pos_right below (mul-pos P P)) (le_of_eq (sym v))))
    where
      left : S * S * g * (c * c) ≡ a * a * g * (L * L)
      left = omega (arith, ap (λ (z : ℕ). z * z * g) same)

      right : b * (L * L) * (c * c) ≡ b * (c * c) * (L * L)
      right = omega arith

  twice : 2 * S ≤ r
  twice =
      let h : 2 * S * (2 * S) * g ≤ b * (4 * (L * L)) = omega (arith, shrunk) in
      let k : 2 * S * (2 * S) ≤ b * (4 * (L * L)) / g = (le-div_iff_mul-le G).1 h in
      let l : 2 * S < r + 1 = root_lt (2 * S) (r + 1) (lt_of_le_of_lt k w.1) in
      omega arith

  reaches : (t : ℕ) → a * (L * 2 * 2) ≤ (2 * r + t) * c
  reaches t =
      let h : 2 * S * c ≤ r * c = mul-le-mul_right c twice in
      omega (arith, h, same)

-- ---- floats

no_less : (b u v : ℕ) → ltb b (zero * u * v) ≡ false
no_less b u v = le-ltb b (zero * u * v) (le_trans (le_of_eq (ap (λ (z : ℕ). z * v) (zero-mul u) ∙ zero-mul v)) (omega arith))

plus-over : (y : Float) (m : ℕ) (e : ℤ) → T (is_positive y) → lt y (fin true m e) ≡ false
unfolding lt
plus-over nan m e p = refl
plus-over (inf true) m e p = absurd p
plus-over (inf false) m e p = refl
plus-over (fin true n d) m e p = absurd p
plus-over (fin false n d) m e p = refl

over_zero : (y : Float) (b : Bool) (d : ℤ) → T (is_positive y) → lt y (fin b zero d) ≡ false
unfolding lt
over_zero nan b d p = refl
over_zero (inf true) b d p = absurd p
over_zero (inf false) b d p = refl
over_zero (fin true n e) b d p = absurd p
over_zero (fin false n e) true d p = refl
over_zero (fin false n e) false d p = no_less (n * up e * down d) (up d) (down e)

never : (x : Float) → lt (inf false) x ≡ true → ⊥
unfolding lt
never nan h = false≢true h
never (inf t) h = false≢true h
never (fin t n d) h = false≢true h

module _ (f : Format) where
  -- the exact square of s is below x
  square-below : (m : ℕ) (e : ℤ) (n : ℕ) (d : ℤ) → T (fits f (fin false n d)) → lt (mul f (fin false m e) (fin false m e)) (fin false n d) ≡ true
      → m * up e * (m * up e) * down d < n * up d * (down e * down e)
  unfolding mul
  square-below m e n d t h =
      lt_of_not-le (λ (g : n * up d * (down e * down e) ≤ m * up e * (m * up e) * down d).
      not-both h (rounds_above f (fin false n d) (m * up e * (m * up e)) (down e * down e) tt t (mul-pos (down_pos e) (down_pos e)) g))

  root-not-below : (m : ℕ) (e : ℤ) (n : ℕ) (d : ℤ) → T (fits f (fin false m e)) → m * up e * (m * up e) * down d < suc n * up d * (down e * down e)
      → lt (sqrt f (fin false (suc n) d)) (fin false m e) ≡ false
  unfolding sqrt rounded_root
  root-not-below m e n d t h =
      rounds_above f (fin false m e) _ (2 ^ suc (suc (low f))) tt t (pow_pos (suc (suc (low f)))) (go m t h)
    where
      N : ℕ
      N = suc n * up d * 4 ^ suc (low f) / down d

      units : 4 ^ suc (low f) ≡ 4 * (2 ^ low f * 2 ^ low f)
      units = pow-suc 4 (low f) ∙ mul_comm (4 ^ low f) 4 ∙ ap (λ (z : ℕ). 4 * z) (four-pow (low f))

      half : 2 ^ suc (suc (low f)) ≡ 2 ^ low f * 2 * 2
      half = pow-suc 2 (suc (low f)) ∙ ap (λ (z : ℕ). z * 2) (pow-suc 2 (low f))

      go : (m : ℕ) → T (fits f (fin false m e)) → m * up e * (m * up e) * down d < suc n * up d * (down e * down e)
          → m * up e * 2 ^ suc (suc (low f)) ≤ (2 * root N + cond (eqb (root N * root N) N) 0 1) * down e
      go zero t h = le_trans (le_of_eq (ap (λ (z : ℕ). z * 2 ^ suc (suc (low f))) (zero-mul (up e)) ∙ zero-mul (2 ^ suc (suc (low f))))) (omega arith)
      go (suc m) t h =
          let (j, q) = scaled (low f) e (no-finer f false m e t) in
          let same : suc m * up e * 2 ^ low f ≡ suc m * 2 ^ j * down e = mul_assoc (suc m) (up e) (2 ^ low f) ∙ ap (λ (z : ℕ). suc m * z) q ∙ sym (mul_assoc (suc m) (2 ^ j) (down e)) in
          let w : WholeRoot (suc n * up d * (4 * (2 ^ low f * 2 ^ low f)) / down d) (root N) = subst (λ (z : ℕ). WholeRoot (suc n * up d * z / down d) (root N)) units (root_is N) in
          subst (λ (z : ℕ). suc m * up e * z ≤ (2 * root N + cond (eqb (root N * root N) N) 0 1) * down e) (sym half)
          (reaches (suc m * up e) (down e) (suc m * 2 ^ j) (2 ^ low f) (suc n * up d) (down d) (root N) (down_pos e) (down_pos d) (pow_pos (low f)) same h w (cond (eqb (root N * root N) N) 0 1))

  -- a root is never below a value with a minus sign, -0 included
  pub root-plus : (x : Float) (m : ℕ) (e : ℤ) → lt (sqrt f x) (fin true m e) ≡ false
  unfolding sqrt rounded_root lt
  root-plus nan m e = refl
  root-plus (inf true) m e = refl
  root-plus (inf false) m e = refl
  root-plus (fin true zero d) m e = no_less (m * up e * down d) (up d) (down e)
  root-plus (fin false zero d) m e = refl
  root-plus (fin true (suc n) d) m e = refl
  root-plus (fin false (suc n) d) m e = plus-over (round f false _ _) m e (round_plus f _ _)

  square-plus : (m : ℕ) (e : ℤ) → T (is_positive (mul f (fin false m e) (fin false m e)))
  unfolding mul
  square-plus m e = round_plus f (m * up e * (m * up e)) (down e * down e)

  -- the claim, for every tolerance s
  pub reject : (s x : Float) → T (fits f s) → T (fits f x) → lt (mul f s s) x ≡ true → lt (sqrt f x) s ≡ false
  unfolding sqrt mul lt
  reject nan x S X h = absurd (false≢true h)
  reject (inf true) x S X h = absurd (never x h)
  reject (inf false) x S X h = absurd (never x h)
  reject (fin true m e) x S X h = root-plus x m e
  reject (fin false m e) nan S X h = refl
  reject (fin false m e) (inf true) S X h = refl
  reject (fin false m e) (inf false) S X h = refl
  reject (fin false m e) (fin b zero d) S X h = absurd (false≢true (sym (over_zero (mul f (fin false m e) (fin false m e)) b d (square-plus m e)) ∙ h))
  reject (fin false m e) (fin true (suc n) d) S X h = refl
  reject (fin false m e) (fin false (suc n) d) S X h = root-not-below m e n d S (square-below m e (suc n) d X h)
