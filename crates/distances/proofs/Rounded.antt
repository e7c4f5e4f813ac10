-- Floats that are not negative: a value of the format is its own rounding, and a fraction that is no less than the value rounds to no less. Assumes nothing.
use mathlib.Core.Path.{◌≡◌, refl, sym, ap, ◌∙◌, subst}
use mathlib.Core.Bool.{Bool, true, false, not, ◌&&◌, ◌||◌, cond, true≢false}
use Prim.Native.Nat.{ℕ, zero, suc, ◌+◌, ◌-◌, ◌*◌, ◌%◌, ◌^◌, ◌≤◌, ◌<◌}
use native.Mathlib.Nat.{mul-one, one-mul, zero-mul, mul_assoc, mul_comm, mul_right_comm, not-le_of_lt, lt_of_lt_of_le, lt_of_le_of_lt, le_of_eq, mul-lt-mul_of_pos_right, lt_of_mul-lt-mul_right, le_of_suc-le-suc, lt_of_not-le}
use native.Mathlib.Omega.{arith}
use lib.IntN.{ℤ, pos, negsuc}
use lib.Dec.{T, leb, ltb, eqb, leb→le, ltb→lt, eqb→eq}
use lib.Pow.{pow-add, pow_pos, pow-lt}
use lib.Ieee.{Float, nan, inf, fin, Format, prec, emax, low, up, down, odd, units, round, fits, lt, le}
use lib.Ieee.Fits.{down_pos, and_l, and_r, round_is}
use lib.Ieee.Exact.{HasValue, round_exact}
use lib.Ieee.Order.{round_mono, transfer}
use lib.Ieee.Positive.{num, den}
use borrow.Author.Tests.{ltb-false, le-ltb}
use Rattle.distances.specs.Reach.{is_positive}

-- finite, with no minus sign
abbrev pub plain : Float → Bool
plain nan = false
plain (inf s) = false
plain (fin s m e) = not s

-- ---- what `fits` says

module _ (f : Format) (s : Bool) (m : ℕ) (e : ℤ) (t : T (fits f (fin s (suc m) e))) where
  first3 : T ((eqb (suc m % 2) 1 && ltb (suc m) (2 ^ prec f)) && leb (down e) (2 ^ low f))
  unfolding fits
  first3 = and_l ((eqb (suc m % 2) 1 && ltb (suc m) (2 ^ prec f)) && leb (down e) (2 ^ low f)) (ltb (suc m * up e) (2 ^ suc (emax f) * down e)) t

  pub digits-fit : suc m < 2 ^ prec f
  digits-fit = ltb→lt (suc m) (2 ^ prec f) (and_r (eqb (suc m % 2) 1) (ltb (suc m) (2 ^ prec f)) (and_l (eqb (suc m % 2) 1 && ltb (suc m) (2 ^ prec f)) (leb (down e) (2 ^ low f)) first3))

  pub no-finer : down e ≤ 2 ^ low f
  no-finer = leb→le (down e) (2 ^ low f) (and_r (eqb (suc m % 2) 1 && ltb (suc m) (2 ^ prec f)) (leb (down e) (2 ^ low f)) first3)

  no-larger : suc m * up e < 2 ^ suc (emax f) * down e
  unfolding fits
  no-larger = ltb→lt (suc m * up e) (2 ^ suc (emax f) * down e) (and_r ((eqb (suc m % 2) 1 && ltb (suc m) (2 ^ prec f)) && leb (down e) (2 ^ low f)) (ltb (suc m * up e) (2 ^ suc (emax f) * down e)) t)

-- 2 ^ e is a power of two in units of the format's smallest value
pub scaled : (l : ℕ) (e : ℤ) → down e ≤ 2 ^ l → (j : ℕ) × (up e * 2 ^ l ≡ 2 ^ j * down e)
scaled l (pos k) h = (k + l, sym (pow-add 2 k l) ∙ sym (mul-one (2 ^ (k + l))))
scaled l (negsuc k) h =
    let g : suc k ≤ l = le_of_suc-le-suc (lt_of_not-le (λ (n : suc l ≤ suc k). not-le_of_lt (pow-lt n) h)) in
    let e : l - suc k + suc k ≡ l = omega arith in
    (l - suc k, one-mul (2 ^ l) ∙ ap (λ (z : ℕ). 2 ^ z) (sym e) ∙ pow-add 2 (l - suc k) (suc k))

module _ (f : Format) (s : Bool) where
  pub own_round : (m : ℕ) (e : ℤ) → T (fits f (fin s m e)) → HasValue (round f s (m * up e) (down e)) s (m * up e) (down e)
  own_round zero e t =
      round_exact f s (zero * up e) (down e) 0 0 (down_pos e) (pow_pos (prec f)) (pow_pos (low f + suc (emax f)))
      (rw (zero-mul (up e)) (zero-mul (2 ^ low f) ∙ sym (zero-mul (down e))))
  own_round (suc m) e t =
      let (j, q) = scaled (low f) e (no-finer f s m e t) in
      let a : suc m * up e * 2 ^ low f ≡ suc m * 2 ^ j * down e = mul_assoc (suc m) (up e) (2 ^ low f) ∙ ap (λ (z : ℕ). suc m * z) q ∙ sym (mul_assoc (suc m) (2 ^ j) (down e)) in
      let b : suc m * 2 ^ j * down e < 2 ^ (low f + suc (emax f)) * down e =
      lt_of_le_of_lt (le_of_eq (sym a))
      (lt_of_lt_of_le (mul-lt-mul_of_pos_right (no-larger f s m e t) (pow_pos (low f)))
      (le_of_eq (mul_right_comm (2 ^ suc (emax f)) (down e) (2 ^ low f) ∙ ap (λ (z : ℕ). z * down e) (mul_comm (2 ^ suc (emax f)) (2 ^ low f) ∙ sym (pow-add 2 (low f) (suc (emax f))))))) in
      round_exact f s (suc m * up e) (down e) (suc m) j (down_pos e) (digits-fit f s m e t) (lt_of_mul-lt-mul_right (down e) b) a

-- ---- rounding keeps the sign

units_plus : (f : Format) (q k : ℕ) → T (is_positive (units f false q k))
unfolding units odd
units_plus f q k = go (ltb (q * 2 ^ k) (2 ^ (low f + suc (emax f)))) q
  where
    go : (b : Bool) (q : ℕ) → T (is_positive (cond b (odd (suc (prec f)) false q k (low f)) (inf false)))
    go true zero = tt
    go true (suc q) = tt
    go false q = tt

pub round_plus : (f : Format) (a c : ℕ) → T (is_positive (round f false a c))
round_plus f a c = subst (λ (x : Float). T (is_positive x)) (sym (round_is f false a c)) (units_plus f _ _)

-- rounding gives no NaN
abbrev pub number : Float → Bool
number nan = false
number (inf s) = true
number (fin s m e) = true

units_number : (f : Format) (s : Bool) (q k : ℕ) → T (number (units f s q k))
unfolding units odd
units_number f s q k = go (ltb (q * 2 ^ k) (2 ^ (low f + suc (emax f)))) q
  where
    go : (b : Bool) (q : ℕ) → T (number (cond b (odd (suc (prec f)) s q k (low f)) (inf s)))
    go true zero = tt
    go true (suc q) = tt
    go false q = tt

pub round_number : (f : Format) (s : Bool) (a c : ℕ) → T (number (round f s a c))
round_number f s a c = subst (λ (x : Float). T (number x)) (sym (round_is f s a c)) (units_number f s _ _)

-- ---- a value that is no more than y, with no minus sign on either, is not above y

pub le_cross : (a b : ℕ) → T (ltb a b || (eqb a b && true)) → a ≤ b
le_cross a b t = refuted_lt (ltb b a) (ltb→lt b a) (ltb-false b a) (λ l. clash (ltb a b) (eqb a b) (ltb→lt a b) (eqb→eq a b) l t)
  where
    refuted_lt : (c : Bool) → (T c → b < a) → (c ≡ false → a ≤ b) → (b < a → ⊥) → a ≤ b
    refuted_lt true h k n = absurd (n (h tt))
    refuted_lt false h k n = k refl

    clash : (c d : Bool) → (T c → a < b) → (T d → a ≡ b) → b < a → T (c || (d && true)) → ⊥
    clash true d h k l t = let g = h tt in omega arith
    clash false true h k l t = let g = k tt in omega arith
    clash false false h k l t = t

pub not_above : (x r y : Float) → T (plain x) → T (is_positive y) → HasValue r false (num x) (den x) → T (le r y) → lt y x ≡ false
unfolding le lt
not_above nan r y p q v h = absurd p
not_above (inf s) r y p q v h = absurd p
not_above (fin true m e) r y p q v h = absurd p
not_above (fin false m e) r nan p q v h = refl
not_above (fin false m e) r (inf true) p q v h = absurd q
not_above (fin false m e) r (inf false) p q v h = refl
not_above (fin false m e) r (fin true n d) p q v h = absurd q
not_above (fin false m e) nan (fin false n d) p q v h = absurd v
not_above (fin false m e) (inf t) (fin false n d) p q v h = absurd v
not_above (fin false m e) (fin true k g) (fin false n d) p q v h = absurd (true≢false v.0)
not_above (fin false m e) (fin false k g) (fin false n d) p q v h =
    le-ltb (n * up d * down e) (m * up e * down d)
    (transfer (m * up e) (n * up d) (down e) (down d) (k * up g) (n * up d) (down g) (down d) (down_pos g) (down_pos d) (sym v.1) refl (le_cross (k * up g * down d) (n * up d * down g) h))

-- a fraction a / c that is no less than the value x rounds to no less than x
pub rounds_above : (f : Format) (x : Float) (a c : ℕ) → T (plain x) → T (fits f x) → 0 < c → num x * c ≤ a * den x → lt (round f false a c) x ≡ false
rounds_above f nan a c p t C h = absurd p
rounds_above f (inf s) a c p t C h = absurd p
rounds_above f (fin true m e) a c p t C h = absurd p
rounds_above f (fin false m e) a c p t C h =
    not_above (fin false m e) (round f false (m * up e) (down e)) (round f false a c) tt (round_plus f a c) (own_round f false m e t)
    (round_mono f (m * up e) (down e) a c (down_pos e) C h)
