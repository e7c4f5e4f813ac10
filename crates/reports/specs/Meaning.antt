-- What a report says of its family: all numbers are zero; or none exceeds the worst in size, the place that is named has it and no earlier one has; or
-- the first that is no number. Assumes nothing.
use Rattle.std.specs.Prelude.{◌≡◌, Bool, false, ◌⊎◌, ℕ, ◌<◌, Float}
use Rattle.std.proofs.Math.Path.{refl, ap}
use Rattle.std.proofs.Common.{sym, ◌∙◌, subst, inr, arith}
use Rattle.std.proofs.Math.Bool.{true, cond}
use Rattle.std.proofs.lemmas.Bool.{false≢true}
use Rattle.std.proofs.Math.Logic.{inl}
use Rattle.std.specs.Float.{nan, inf, fin}
use Rattle.std.specs.Float.Ieee.{lt, eq, is_nan}
use Rattle.lists.specs.Tab.{times}
use Rattle.lists.specs.Tests.{every, some, every-at, every_of, some_at, some_of, split, refuted, not-both}
use Rattle.reports.specs.declared.Deviation.{Deviation}
use Rattle.reports.specs.declared.Deviation.TheVariants.{Still, Worst, NoNumber}
use Rattle.reports.specs.declared.seen.Seen.{Seen}
use Rattle.reports.specs.Report.{absolute, is_zero, first_of, worst_of, deviation_in, placed_by, report_at, report, deviation_number, value_of}
use Rattle.reports.specs.Loops.{look, nothing_seen}
use Rattle.reports.specs.Seen.{first_passes, first-least, hits, State, all_seen_lem, found_worst, tested}

-- r is the first of c places whose number passes the test
pub record First (c : ℕ) (S : ℕ → Float) (test : Float → Bool) (r : ℕ) : Type 0 where
  pub there : r < c
  pub passes : test (S r) ≡ true
  pub none_before : (k : ℕ) → k < r → test (S k) ≡ false

first-place : (c : ℕ) (S : ℕ → Float) (test : Float → Bool) → some c (λ r. test (S r)) ≡ true → First c S test (first_of c (λ r. test (S r)))
first-place c S test h =
    let (l, p) = first_passes c (λ r. test (S r)) h in
    record { there = l; passes = p; none_before = first-least c (λ r. test (S r)) h }

-- zero is a number
zero_number : (x : Float) → is_zero x ≡ true → is_nan x ≡ true → ⊥
unfolding is_zero is_nan
zero_number nan z n = false≢true z
zero_number (inf s) z n = false≢true z
zero_number (fin s m e) z n = false≢true n

module _ (c : ℕ) (S : ℕ → Float) where
  abbrev none : Bool
  none = some c (λ r. is_nan (S r))

  abbrev still : Bool
  still = every c (λ r. is_zero (S r))

  -- which test a deviation comes from
  record Cause (d : Deviation) : Type 0 where
    pub no_number : d ≡ NoNumber → none ≡ true
    pub all-zero : d ≡ Still → (none ≡ false) × (still ≡ true)
    pub not-zero : (v : Float) → d ≡ Worst v → (none ≡ false) × (still ≡ false) × (worst_of c S ≡ v)

  different : {a b : Deviation} → (deviation_number a ≡ deviation_number b → ⊥) → a ≡ b → ⊥
  different h e = h (ap deviation_number e)

  cause-by : (a b : Bool) → none ≡ a → still ≡ b → Cause (cond a NoNumber (cond b Still (Worst (worst_of c S))))
  cause-by true b h g = record {
    no_number = λ e. h;
    all-zero = λ e. absurd (different (λ z. omega (arith, z)) e);
    not-zero = λ v e. absurd (different (λ z. omega (arith, z)) e);
  }
  cause-by false true h g = record {
    no_number = λ e. absurd (different (λ z. omega (arith, z)) e);
    all-zero = λ e. (h, g);
    not-zero = λ v e. absurd (different (λ z. omega (arith, z)) e);
  }
  cause-by false false h g = record {
    no_number = λ e. absurd (different (λ z. omega (arith, z)) e);
    all-zero = λ e. absurd (different (λ z. omega (arith, z)) e);
    not-zero = λ v e. (h, g, ap value_of e);
  }

  cause : Cause (deviation_in c S)
  unfolding deviation_in
  cause = cause-by none still refl refl

  abbrev seen : Seen
  seen = times c (λ r. look r (S r)) nothing_seen

  looked : State S c seen
  looked = all_seen_lem S c

  placed-deviation : (d : Deviation) → (placed_by (report_at Still 0) report_at c S d).deviation ≡ d
  placed-deviation Still = refl
  placed-deviation (Worst v) = refl
  placed-deviation NoNumber = refl

  deviation_is : (report c S).deviation ≡ deviation_in c S
  unfolding report
  deviation_is = placed-deviation (deviation_in c S)

  place_is : (d : Deviation) → deviation_in c S ≡ d → (report c S).index ≡ (placed_by (report_at Still 0) report_at c S d).index
  unfolding report
  place_is d e = ap (λ d. (placed_by (report_at Still 0) report_at c S d).index) e

  -- ---- the three cases

  pub still-means : (report c S).deviation ≡ Still → (r : ℕ) → r < c → is_zero (S r) ≡ true
  still-means e r h = every-at c (λ r. is_zero (S r)) (cause.all-zero (sym deviation_is ∙ e)).1 r h

  pub none-means : (report c S).deviation ≡ NoNumber → First c S is_nan (report c S).index
  none-means e =
      let d = sym deviation_is ∙ e in
      subst (First c S is_nan) (sym (place_is NoNumber d)) (first-place c S is_nan (cause.no_number d))

  pub worst_means : (v : Float) → (report c S).deviation ≡ Worst v → ((r : ℕ) → r < c → lt v (absolute (S r)) ≡ false) × First c S (λ x. eq (absolute x) v) (report c S).index
  worst_means v e =
      let d = sym deviation_is ∙ e in
      let (a, b, w) = cause.not-zero v d in
      let u = looked.worst_is ∙ w in
      let f = found_worst c S seen looked (tested c S seen looked a ∙ b) in (
        λ r h. ap (λ v. lt v (absolute (S r))) (sym u) ∙ looked.none_above r h,
        subst (First c S (λ x. eq (absolute x) v)) (sym (place_is (Worst v) d))
            (first-place c S (λ x. eq (absolute x) v) (subst (λ (v : Float). some c (hits S v) ≡ true) u f)),
      )

  -- a family of zeros is still
  zeros-none : ((r : ℕ) → r < c → is_zero (S r) ≡ true) → some c (λ r. is_nan (S r)) ≡ false
  zeros-none h = refuted (some c (λ r. is_nan (S r))) (λ t. let (k, l, n) = some_at c (λ r. is_nan (S r)) t in zero_number (S k) (h k l) n)

  pub zeros-still : ((r : ℕ) → r < c → is_zero (S r) ≡ true) → report c S ≡ report_at Still 0
  unfolding report deviation_in
  zeros-still h = rw (zeros-none h, every_of c (λ r. is_zero (S r)) h) refl

  -- and one of zeros and of NaN is still or has no number
  pub zeros-or-none : ((r : ℕ) → r < c → (is_zero (S r) ≡ true) ⊎ (is_nan (S r) ≡ true)) → (report c S ≡ report_at Still 0) ⊎ ((report c S).deviation ≡ NoNumber)
  zeros-or-none h = go (split none)
    where
      go : (none ≡ true) ⊎ (none ≡ false) → (report c S ≡ report_at Still 0) ⊎ ((report c S).deviation ≡ NoNumber)
      go (inl n) = inr (deviation_is ∙ (unfold deviation_in in ap (λ b. cond b NoNumber (cond still Still (Worst (worst_of c S)))) n))
      go (inr n) = inl (zeros-still (λ r l. by r l (h r l)))
        where
          by : (r : ℕ) → r < c → (is_zero (S r) ≡ true) ⊎ (is_nan (S r) ≡ true) → is_zero (S r) ≡ true
          by r l (inl z) = z
          by r l (inr t) = absurd (not-both (some_of c (λ r. is_nan (S r)) r l t) n)
