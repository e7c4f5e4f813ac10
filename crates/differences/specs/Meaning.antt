-- What a difference report says of a set that is alike: still, or no number where a number is NaN or an infinity. So what a symmetrizer leaves is still
-- where it is finite: `SameReadOuts` is what crate `laws` proves of it. Assumes nothing.
use Rattle.std.specs.Prelude.{None, Ok, ◌≡◌, refl, Bool, true, false, ◌⊎◌, ℕ, zero, suc, ◌+◌, ◌*◌, ◌-◌, ◌/◌, ◌%◌, ◌^◌, ◌<◌, length, get_or, Float}
use Rattle.std.proofs.Common.{sym, ◌∙◌, subst, inl, inr, mul-pos, zero-lt-suc, le_refl, div-lt_iff_lt-mul, mod-lt, arith, pow_pos, eq-eqb, le-ltb}
use Rattle.std.proofs.Math.Path.{ap}
use Rattle.std.proofs.lemmas.Bool.{false≢true}
use mathlib.Core.List.{List, []}
use Rattle.std.specs.Float.{nan, inf, fin}
use Rattle.std.specs.Float.Ieee.{binary64, add, sub, neg, sum, round, is_nan, up, down, prec, low, emax}
use Rattle.std.specs.Float.Ieee.Exact.{HasValue, round_exact}
use Rattle.std.specs.Float.Ieee.Fits.{up_pos, down_pos}
use Rattle.lists.specs.Digits.{pos_of}
use Rattle.tables.specs.Shifts.{Shifts, Laws}
use Rattle.places.specs.Places.{legs_at, place, size, opened_legs, place-place}
use Rattle.places.specs.Permutations.{Group}
use Rattle.audits.specs.Audit.{reads, audited}
use Rattle.audits.specs.Demand.{Doubles, SameReadOuts, index_in, own-number}
use Rattle.audits.proofs.DemandLaws.{demanded}
use Rattle.reports.specs.declared.Deviation.TheVariants.{Still, NoNumber}
use Rattle.reports.specs.Report.{is_zero, report_at}
use Rattle.reports.specs.Meaning.{zeros-still, zeros-or-none}
use Rattle.differences.specs.Difference.{difference, difference_at, order_report}

-- ---- a number minus itself

unfoldable pub finite : Float → Bool
finite nan = false
finite (inf s) = false
finite (fin s m e) = true

-- a value of 0 is zero
value-zero : (x : Float) (s : Bool) (den : ℕ) → 0 < den → HasValue x s 0 den → is_zero x ≡ true
unfolding is_zero
value-zero nan s den h v = absurd v
value-zero (inf t) s den h v = absurd v
value-zero (fin t zero e) s den h v = eq-eqb 0 0 refl
value-zero (fin t (suc m) e) s den h v =
    let p = mul-pos (mul-pos (zero-lt-suc m) (up_pos e)) h in
    let z : 0 * down e ≡ 0 = omega arith in
    absurd (omega (arith, p, v.1 ∙ z))

zero_round : (s : Bool) (den : ℕ) → 0 < den → is_zero (round binary64 s 0 den) ≡ true
zero_round s den h =
    value-zero (round binary64 s 0 den) s den h
    (round_exact binary64 s 0 den 0 0 h (pow_pos (prec binary64)) (small (2 ^ 0) (2 ^ (low binary64 + suc (emax binary64))) (pow_pos (low binary64 + suc (emax binary64)))) (zeros (2 ^ low binary64) (2 ^ 0) den))
  where
    small : (a b : ℕ) → 0 < b → 0 * a < b
    small a b p = omega arith

    zeros : (a b d : ℕ) → 0 * a ≡ 0 * b * d
    zeros a b d = omega arith

-- two numbers of one size and of other signs
off-itself : (s t : Bool) (a den : ℕ) → (s ≡ t → ⊥) → 0 < den → is_zero (sum binary64 s a t a den) ≡ true
unfolding sum
off-itself true true a den d h = absurd (d refl)
off-itself false false a den d h = absurd (d refl)
off-itself true false a den d h =
    let z : a - a ≡ 0 = omega arith in
    rw (le-ltb a a (le_refl a), z) (zero_round false den h)
off-itself false true a den d h =
    let z : a - a ≡ 0 = omega arith in
    rw (le-ltb a a (le_refl a), z) (zero_round false den h)

pub finite_zero : (x : Float) → finite x ≡ true → is_zero (sub binary64 x x) ≡ true
unfolding finite sub add neg
finite_zero nan h = absurd (false≢true h)
finite_zero (inf s) h = absurd (false≢true h)
finite_zero (fin true m e) h = off-itself true false (m * up e * down e) (down e * down e) (λ z. false≢true (sym z)) (mul-pos (down_pos e) (down_pos e))
finite_zero (fin false m e) h = off-itself false true (m * up e * down e) (down e * down e) false≢true (mul-pos (down_pos e) (down_pos e))

pub itself : (x : Float) → (is_zero (sub binary64 x x) ≡ true) ⊎ (is_nan (sub binary64 x x) ≡ true)
unfolding sub add neg is_nan
itself nan = inr refl
itself (inf true) = inr refl
itself (inf false) = inr refl
itself (fin s m e) = inl (finite_zero (fin s m e) (unfold finite in refl))

-- ---- a set whose permutations of legs all read out the same number

module _ (S : Shifts) (L : Laws S) (m : ℕ) (os : List (List ℕ)) (G : Group m os) (set : List Float) where
  abbrev p : ℕ
  p = length os

  own : SameReadOuts S m os set → (q i : ℕ) → q < size S m → i < p → difference S m os set q i ≡ sub binary64 (get_or set q nan) (get_or set q nan)
  unfolding difference reads
  own h q i hq hi =
      ap (λ x. sub binary64 x (get_or set q nan))
      (h (get_or os i []) (legs_at S (place S m q)) (index_in [] os i hi) (opened_legs S L m (place S m q) (place-place S m q hq)) ∙ own-number S L m os G set q hq)

  at : SameReadOuts S m os set → (r : ℕ) → r < size S m * p
      → (r / p < size S m) × (difference_at S m os set r ≡ sub binary64 (get_or set (r / p) nan) (get_or set (r / p) nan))
  at h r l =
      let k : 0 < p = pos_of p (size S m) r l in
      let hq : r / p < size S m = (div-lt_iff_lt-mul k).1 l in
      (hq, own h (r / p) (r % p) hq (mod-lt r k))

  pub same-told : SameReadOuts S m os set → (order_report S m os set ≡ report_at Still 0) ⊎ ((order_report S m os set).deviation ≡ NoNumber)
  same-told h =
      zeros-or-none (size S m * p) (difference_at S m os set) (λ r l.
      let (_, e) = at h r l in
      subst (λ (x : Float). (is_zero x ≡ true) ⊎ (is_nan x ≡ true)) (sym e) (itself (get_or set (r / p) nan)))

  pub finite_still : SameReadOuts S m os set → ((q : ℕ) → q < size S m → finite (get_or set q nan) ≡ true) → order_report S m os set ≡ report_at Still 0
  finite_still h f =
      zeros-still (size S m * p) (difference_at S m os set) (λ r l.
      let (hq, e) = at h r l in
      ap is_zero e ∙ finite_zero (get_or set (r / p) nan) (f (r / p) hq))

  -- what an audit calls alike
  pub alike-told : Doubles set → audited S m os set ≡ Ok None → (order_report S m os set ≡ report_at Still 0) ⊎ ((order_report S m os set).deviation ≡ NoNumber)
  alike-told d e = same-told (demanded S L m os G set d e)
