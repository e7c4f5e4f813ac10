-- Sums of squares: none has a minus sign, and one that is above a limit stays above it as more is added, or becomes a NaN. Assumes nothing.
use mathlib.Core.Path.{◌≡◌, refl}
use mathlib.Core.Bool.{true, false, false≢true}
use mathlib.Core.Logic.{◌⊎◌, inl, inr}
use Prim.Native.Nat.{ℕ, ◌+◌, ◌*◌, ◌≤◌, ◌<◌}
use native.Mathlib.Nat.{lt_of_lt_of_le, lt_of_le_of_lt, le_of_eq, mul-pos, mul_right_comm, mul-le-mul_right, mul-lt-mul_of_pos_right, lt_of_mul-lt-mul_right}
use native.Mathlib.Omega.{arith}
use lib.IntN.{ℤ}
use lib.Dec.{T}
use lib.Ieee.{Float, nan, inf, fin, Format, up, down, round, sum, add, mul, fits, lt}
use lib.Ieee.Fits.{down_pos}
use borrow.Author.Tests.{ltb-true, ltb-false, lt-ltb}
use Rattle.distances.specs.Reach.{is_positive}
use Rattle.distances.proofs.Rounded.{plain, round_plus, rounds_above, number, round_number}

-- x / p < y / q ≤ z / r
pub through_lt : (x y z p q r : ℕ) → 0 < q → 0 < r → x * q < y * p → y * r ≤ z * q → x * r < z * p
through_lt x y z p q r Q R h k =
    lt_of_mul-lt-mul_right q
    (lt_of_le_of_lt (le_of_eq (mul_right_comm x r q))
    (lt_of_lt_of_le (mul-lt-mul_of_pos_right h R)
    (chain (le_of_eq (mul_right_comm y p r)) (mul-le-mul_right p k) (le_of_eq (mul_right_comm z q p)))))
  where
    chain : {a b c d : ℕ} → a ≤ b → b ≤ c → c ≤ d → a ≤ d
    chain f g h = omega arith

module _ (f : Format) where
  pub mul-plus : (x : Float) → T (is_positive (mul f x x))
  unfolding mul
  mul-plus nan = tt
  mul-plus (inf true) = tt
  mul-plus (inf false) = tt
  mul-plus (fin true m e) = round_plus f _ _
  mul-plus (fin false m e) = round_plus f _ _

  pub add-plus : (x y : Float) → T (is_positive x) → T (is_positive y) → T (is_positive (add f x y))
  unfolding add sum
  add-plus nan y p q = tt
  add-plus (inf true) y p q = absurd p
  add-plus (inf false) nan p q = tt
  add-plus (inf false) (inf true) p q = absurd q
  add-plus (inf false) (inf false) p q = tt
  add-plus (inf false) (fin t n d) p q = tt
  add-plus (fin true m e) y p q = absurd p
  add-plus (fin false m e) nan p q = tt
  add-plus (fin false m e) (inf t) p q = q
  add-plus (fin false m e) (fin true n d) p q = absurd q
  add-plus (fin false m e) (fin false n d) p q = round_plus f _ _

-- above the limit, or a NaN: not near, either way
abbrev pub Far : Float → Float → Type 0
Far lim x = (lt lim x ≡ true) ⊎ (x ≡ nan)

-- lim < x and not y < x: lim < y
raised : (lim x y : Float) → T (is_positive lim) → T (plain x) → T (is_positive y) → T (number y) → lt lim x ≡ true → lt y x ≡ false → lt lim y ≡ true
unfolding lt
raised nan x y L X p q h k = absurd (false≢true h)
raised (inf true) x y L X p q h k = absurd L
raised (inf false) nan y L X p q h k = absurd X
raised (inf false) (inf t) y L X p q h k = absurd X
raised (inf false) (fin t n d) y L X p q h k = absurd (false≢true h)
raised (fin true a b) x y L X p q h k = absurd L
raised (fin false a b) x nan L X p q h k = absurd q
raised (fin false a b) x (inf true) L X p q h k = absurd p
raised (fin false a b) x (inf false) L X p q h k = refl
raised (fin false a b) x (fin true n d) L X p q h k = absurd p
raised (fin false a b) nan (fin false n d) L X p q h k = absurd X
raised (fin false a b) (inf t) (fin false n d) L X p q h k = absurd X
raised (fin false a b) (fin true m e) (fin false n d) L X p q h k = absurd X
raised (fin false a b) (fin false m e) (fin false n d) L X p q h k =
    lt-ltb (a * up b * down d) (n * up d * down b)
    (through_lt (a * up b) (m * up e) (n * up d) (down b) (down e) (down d) (down_pos e) (down_pos d) (ltb-true (a * up b * down e) (m * up e * down b) h) (ltb-false (n * up d * down e) (m * up e * down d) k))

module _ (f : Format) where
  -- adding what has no minus sign does not bring a value below itself
  no_less : (m : ℕ) (e : ℤ) (n : ℕ) (d : ℤ) → T (fits f (fin false m e)) → lt (round f false (m * up e * down d + n * up d * down e) (down e * down d)) (fin false m e) ≡ false
  no_less m e n d t = rounds_above f (fin false m e) _ (down e * down d) tt t (mul-pos (down_pos e) (down_pos d)) more
    where
      grown : (a b c r : ℕ) → a * (b * c) ≤ (a * c + r) * b
      grown a b c r = omega arith

      more : m * up e * (down e * down d) ≤ (m * up e * down d + n * up d * down e) * down e
      more = grown (m * up e) (down e) (down d) (n * up d * down e)

  infinite : (lim : Float) (m : ℕ) (e : ℤ) → lt lim (fin false m e) ≡ true → lt lim (inf false) ≡ true
  unfolding lt
  infinite nan m e h = h
  infinite (inf true) m e h = refl
  infinite (inf false) m e h = h
  infinite (fin t n d) m e h = refl

  pub still-far : (lim x y : Float) → T (is_positive lim) → T (fits f x) → T (is_positive x) → T (is_positive y) → Far lim x → Far lim (add f x y)
  unfolding add sum
  still-far lim nan y L F p q h = inr refl
  still-far lim (inf true) y L F p q h = absurd p
  still-far lim (inf false) nan L F p q h = inr refl
  still-far lim (inf false) (inf true) L F p q h = absurd q
  still-far lim (inf false) (inf false) L F p q h = h
  still-far lim (inf false) (fin t n d) L F p q h = h
  still-far lim (fin true m e) y L F p q h = absurd p
  still-far lim (fin false m e) nan L F p q h = inr refl
  still-far lim (fin false m e) (inf true) L F p q h = absurd q
  still-far lim (fin false m e) (inf false) L F p q (inl h) = inl (infinite lim m e h)
  still-far lim (fin false m e) (inf false) L F p q (inr h) = absurd (is_nan_lem h)
    where
      is_nan_lem : fin false m e ≡ nan → ⊥
      is_nan_lem e = let z : ◌≡◌ {A = ℕ} 0 1 = cc in omega arith
  still-far lim (fin false m e) (fin true n d) L F p q h = absurd q
  still-far lim (fin false m e) (fin false n d) L F p q (inl h) =
      inl (raised lim (fin false m e) (round f false _ (down e * down d)) L tt (round_plus f _ _) (round_number f false _ _) h (no_less m e n d F))
  still-far lim (fin false m e) (fin false n d) L F p q (inr h) = absurd (is_nan_lem h)
    where
      is_nan_lem : fin false m e ≡ nan → ⊥
      is_nan_lem e = let z : ◌≡◌ {A = ℕ} 0 1 = cc in omega arith
