-- What a report says, place by place: no sum's absolute value exceeds the worst, the place that is named has it, and no earlier place has it; the
-- first sum that is no number; all sums zero. Assumes nothing.
use Rattle.tables.specs.declared.Refusal.{Refusal}
use Rattle.std.specs.Prelude.{Err, Ok, Result, ◌≡◌, Bool, ℕ, ◌+◌, ◌-◌, ◌*◌, ◌/◌, ◌%◌, ◌<◌, ltb, length, Float}
use Rattle.std.proofs.Math.Path.{refl, sym, ap, ap₂}
use Rattle.std.proofs.Common.{◌∙◌, subst, ⊎_elim, arith, lt-ltb, le-ltb, ltb-true, ltb-false}
use Rattle.std.proofs.Math.Bool.{true, false, cond}
use Rattle.std.proofs.lemmas.Bool.{false≢true}
use mathlib.Core.List.{List, []}
use Rattle.std.specs.Float.{nan, inf, fin}
use Rattle.std.specs.Float.Ieee.{lt, eq, is_nan}
use Rattle.lists.specs.Tab.{times}
use Rattle.lists.specs.Tests.{every, some, every-at, every_of, some_at, some_of, refuted, split}
use Rattle.blocks.specs.Block.{block_of_lem, place_of}
use Rattle.tables.specs.Answers.{Answer}
use Rattle.tables.specs.Full.{judged_full}
use Rattle.tables.specs.Limits.{limit2}
use Rattle.reports.specs.declared.Deviation.{Deviation}
use Rattle.reports.specs.declared.Deviation.TheVariants.{Still, Worst, NoNumber}
use Rattle.drift.specs.declared.Along.{Along}
use Rattle.drift.specs.declared.Along.TheVariants.{Rows, Columns}
use Rattle.drift.specs.declared.DriftReport.{DriftReport}
use Rattle.reports.specs.declared.seen.Seen.{Seen}
use Rattle.drift.specs.Drift.{along_number, line_sum, along_of, atom_of, sum_at, sum_count, drift_of, report_at, still_report, placed_report, reported_after, drift_report}
use Rattle.reports.specs.Report.{deviation_number, value_of, absolute, is_zero, first_of, worst_of, deviation_in}
use Rattle.reports.specs.Loops.{look, nothing_seen}
use Rattle.reports.specs.Seen.{first_passes, first-least, hits, State, all_seen_lem, found_worst, tested}

-- ---- the order of places

-- how many places come before a place: rows first, then by atom and directions
abbrev pub rank : ℕ → Along → ℕ → ℕ → ℕ → ℕ
rank n w i k l = (along_number w * n + i) * 9 + (k * 3 + l)

-- a place of a set of n atoms
pub record SumPlace (n i k l : ℕ) : Type 0 where
  pub atom : i < n
  pub first : k < 3
  pub second : l < 3

rank_below : (n : ℕ) (w : Along) (i k l : ℕ) → SumPlace n i k l → rank n w i k l < sum_count n
rank_below n Rows i k l p = omega (arith, p.atom, p.first, p.second)
rank_below n Columns i k l p = omega (arith, p.atom, p.first, p.second)

-- the line of a place, and what stands there
line-along : (n : ℕ) (w : Along) (i : ℕ) → i < n → along_of n (along_number w * n + i) ≡ w
line-along n Rows i h = let e : 0 * n + i ≡ i = omega arith in ap (λ q. cond (ltb q n) Rows Columns) e ∙ ap (λ b. cond b Rows Columns) (lt-ltb i n h)
line-along n Columns i h = ap (λ b. cond b Rows Columns) (le-ltb (1 * n + i) n (omega arith))

line-atom : (n : ℕ) (w : Along) (i : ℕ) → i < n → atom_of n (along_number w * n + i) ≡ i
line-atom n Rows i h =
    let e : 0 * n + i ≡ i = omega arith in
    ap (λ q. cond (ltb q n) q (q - n)) e ∙ ap (λ b. cond b i (i - n)) (lt-ltb i n h)
line-atom n Columns i h =
    let e : 1 * n + i - n ≡ i = omega arith in
    ap (λ b. cond b (1 * n + i) (1 * n + i - n)) (le-ltb (1 * n + i) n (omega arith)) ∙ e

module _ (n : ℕ) (xs : List Float) where
  -- the sum whose number is a place's rank is that place's
  sum-at-rank : (w : Along) (i k l : ℕ) → SumPlace n i k l → sum_at n xs (rank n w i k l) ≡ line_sum n xs w i k l
  unfolding sum_at
  sum-at-rank w i k l p =
      let q = along_number w * n + i in
      let h : k * 3 + l < 9 = omega (arith, p.first, p.second) in
      let a : (k * 3 + l) / 3 ≡ k = block_of_lem 3 k l p.second in
      let b : (k * 3 + l) % 3 ≡ l = place_of 3 k l p.second in
      ap₂ (λ a b. line_sum n xs (along_of n a) (atom_of n a) (b / 3) (b % 3)) (block_of_lem 9 q (k * 3 + l) h) (place_of 9 q (k * 3 + l) h)
      ∙ ap₂ (λ a b. line_sum n xs (along_of n q) (atom_of n q) a b) a b
      ∙ ap₂ (λ w i. line_sum n xs w i k l) (line-along n w i p.atom) (line-atom n w i p.atom)

-- the place of sum r, and its rank
module _ (n r : ℕ) (h : r < sum_count n) where
  pub place_of_sum : SumPlace n (atom_of n (r / 9)) (r % 9 / 3) (r % 9 % 3)
  place_of_sum =
      record {
        atom = ⊎_elim
            (λ (e : ltb (r / 9) n ≡ true). let g = ltb-true (r / 9) n e in subst (λ (i : ℕ). i < n) (sym (ap (λ b. cond b (r / 9) (r / 9 - n)) e)) g)
            (λ (e : ltb (r / 9) n ≡ false).
            let g = ltb-false (r / 9) n e in
            let l : r / 9 - n < n = omega arith in
            subst (λ (i : ℕ). i < n) (sym (ap (λ b. cond b (r / 9) (r / 9 - n)) e)) l)
            (split (ltb (r / 9) n));
        first = omega arith;
        second = omega arith;
      }

  pub rank_of_sum : rank n (along_of n (r / 9)) (atom_of n (r / 9)) (r % 9 / 3) (r % 9 % 3) ≡ r
  rank_of_sum =
      ⊎_elim
      (λ (e : ltb (r / 9) n ≡ true).
      let w : (0 * n + r / 9) * 9 + (r % 9 / 3 * 3 + r % 9 % 3) ≡ r = omega arith in
      ap (λ b. rank n (cond b Rows Columns) (cond b (r / 9) (r / 9 - n)) (r % 9 / 3) (r % 9 % 3)) e ∙ w)
      (λ (e : ltb (r / 9) n ≡ false).
      let g = ltb-false (r / 9) n e in
      let w : (1 * n + (r / 9 - n)) * 9 + (r % 9 / 3 * 3 + r % 9 % 3) ≡ r = omega arith in
      ap (λ b. rank n (cond b Rows Columns) (cond b (r / 9) (r / 9 - n)) (r % 9 / 3) (r % 9 % 3)) e ∙ w)
      (split (ltb (r / 9) n))

-- ---- the first place whose sum passes a test

pub record FirstPlace (n : ℕ) (xs : List Float) (test : Float → Bool) (q : DriftReport) : Type 0 where
  pub there : SumPlace n q.atom q.k q.l
  pub passes : test (line_sum n xs q.along q.atom q.k q.l) ≡ true
  pub none_before : (w : Along) (i k l : ℕ) → SumPlace n i k l → rank n w i k l < rank n q.along q.atom q.k q.l → test (line_sum n xs w i k l) ≡ false

first-place : (n : ℕ) (xs : List Float) (test : Float → Bool) (d : Deviation) → some (sum_count n) (λ r. test (sum_at n xs r)) ≡ true
    → FirstPlace n xs test (report_at n d (first_of (sum_count n) (λ r. test (sum_at n xs r))))
first-place n xs test d h =
    let f : ℕ → Bool = λ r. test (sum_at n xs r) in
    let r = first_of (sum_count n) f in
    let (below, passes) = first_passes (sum_count n) f h in
    let p = place_of_sum n r below in
    let e = rank_of_sum n r below in
    record {
      there = p;
      passes = ap test (sym (sum-at-rank n xs (along_of n (r / 9)) (atom_of n (r / 9)) (r % 9 / 3) (r % 9 % 3) p)) ∙ ap f e ∙ passes;
      none_before = λ w i k l g u.
          ap test (sym (sum-at-rank n xs w i k l g)) ∙ first-least (sum_count n) f h (rank n w i k l) (subst (λ (m : ℕ). rank n w i k l < m) e u);
    }

-- ---- what a report says

zero-or_nan : (x : Float) → is_zero x ≡ true → is_nan x ≡ true → ⊥
unfolding is_zero is_nan
zero-or_nan nan z g = false≢true z
zero-or_nan (inf s) z g = false≢true z
zero-or_nan (fin s m e) z g = false≢true g

module _ (xs : List Float) (n : ℕ) where
  abbrev none : Bool
  none = some (sum_count n) (λ r. is_nan (sum_at n xs r))

  abbrev still : Bool
  still = every (sum_count n) (λ r. is_zero (sum_at n xs r))

  -- which test a drift comes from
  record Cause (d : Deviation) : Type 0 where
    pub no_number : d ≡ NoNumber → none ≡ true
    pub all-zero : d ≡ Still → (none ≡ false) × (still ≡ true)
    pub not-zero : (v : Float) → d ≡ Worst v → (none ≡ false) × (still ≡ false) × (worst_of (sum_count n) (sum_at n xs) ≡ v)

  different : {a b : Deviation} → (deviation_number a ≡ deviation_number b → ⊥) → a ≡ b → ⊥
  different h e = h (ap deviation_number e)

  cause-by : (a b : Bool) → none ≡ a → still ≡ b → Cause (cond a NoNumber (cond b Still (Worst (worst_of (sum_count n) (sum_at n xs)))))
  cause-by true b h g =
      record {
        no_number = λ e. h;
        all-zero = λ e. absurd (different (λ z. omega (arith, z)) e);
        not-zero = λ v e. absurd (different (λ z. omega (arith, z)) e);
      }
  cause-by false true h g =
      record {
        no_number = λ e. absurd (different (λ z. omega (arith, z)) e);
        all-zero = λ e. (h, g);
        not-zero = λ v e. absurd (different (λ z. omega (arith, z)) e);
      }
  cause-by false false h g =
      record {
        no_number = λ e. absurd (different (λ z. omega (arith, z)) e);
        all-zero = λ e. absurd (different (λ z. omega (arith, z)) e);
        not-zero = λ v e. (h, g, ap value_of e);
      }

  cause : Cause (drift_of n xs)
  unfolding deviation_in
  cause = cause-by none still refl refl

  -- all sums, looked at one after another
  abbrev seen : Seen
  seen = times (sum_count n) (λ r. look r (sum_at n xs r)) nothing_seen

  looked : State (sum_at n xs) (sum_count n) seen
  looked = all_seen_lem (sum_at n xs) (sum_count n)

  -- the report of an answer
  after-guard : (a : Answer) (p q : DriftReport) → reported_after a p ≡ Ok q → q ≡ p
  after-guard (Ok u) p q e = sym (ap report_in e)
    where
      report_in : Result DriftReport Refusal → DriftReport
      report_in (Ok r) = r
      report_in (Err a) = still_report
  after-guard (Err a) p q e = absurd (let z = ap is_report e in omega (arith, z))
    where
      is_report : Result DriftReport Refusal → ℕ
      is_report (Ok r) = 1
      is_report (Err a) = 0

  placed_drift : (d : Deviation) → (placed_report n xs d).drift ≡ d
  placed_drift Still = refl
  placed_drift (Worst v) = refl
  placed_drift NoNumber = refl

  module _ (q : DriftReport) (told : drift_report xs n ≡ Ok q) where
    report_is : q ≡ placed_report n xs (drift_of n xs)
    unfolding drift_report
    report_is = after-guard (judged_full limit2 1 (length xs) [] n) (placed_report n xs (drift_of n xs)) q told

    drift_is : drift_of n xs ≡ q.drift
    drift_is = sym (ap (λ r. r.drift) report_is ∙ placed_drift (drift_of n xs))

    placed_as : (d : Deviation) → q.drift ≡ d → placed_report n xs d ≡ q
    placed_as d e = ap (placed_report n xs) (sym (drift_is ∙ e)) ∙ sym report_is

    -- Beside a worst drift no sum's absolute value exceeds it, the place that is named has it, and no earlier one has.
    pub worst_named : (v : Float) → q.drift ≡ Worst v
        → ((w : Along) (i k l : ℕ) → SumPlace n i k l → lt v (absolute (line_sum n xs w i k l)) ≡ false) × FirstPlace n xs (λ x. eq (absolute x) v) q
    worst_named v e =
        let (a, b, c) = cause.not-zero v (drift_is ∙ e) in
        let u = looked.worst_is ∙ c in
        let f = found_worst (sum_count n) (sum_at n xs) seen looked (tested (sum_count n) (sum_at n xs) seen looked a ∙ b) in (
          λ w i k l p. ap₂ (λ v x. lt v (absolute x)) (sym u) (sym (sum-at-rank n xs w i k l p)) ∙ looked.none_above (rank n w i k l) (rank_below n w i k l p),
          subst (FirstPlace n xs (λ x. eq (absolute x) v)) (placed_as (Worst v) e)
              (first-place n xs (λ x. eq (absolute x) v) (Worst v) (subst (λ (v : Float). some (sum_count n) (hits (sum_at n xs) v) ≡ true) u f)),
        )

    -- Of the sums that are no number the first is named.
    pub none_named : q.drift ≡ NoNumber → FirstPlace n xs is_nan q
    none_named e = subst (FirstPlace n xs is_nan) (placed_as NoNumber e) (first-place n xs is_nan NoNumber (cause.no_number (drift_is ∙ e)))

    -- A still report says rows, and every sum is a zero.
    pub still-means : q.drift ≡ Still → (q ≡ still_report) × ((w : Along) (i k l : ℕ) → SumPlace n i k l → is_zero (line_sum n xs w i k l) ≡ true)
    still-means e =
        let (a, b) = cause.all-zero (drift_is ∙ e) in (
          sym (placed_as Still e),
          λ w i k l p. ap is_zero (sym (sum-at-rank n xs w i k l p)) ∙ every-at (sum_count n) (λ r. is_zero (sum_at n xs r)) b (rank n w i k l) (rank_below n w i k l p),
        )

    -- No number goes before worst and before still: a sum that is no number makes the report no number, whatever the others are.
    pub none_due : (w : Along) (i k l : ℕ) → SumPlace n i k l → is_nan (line_sum n xs w i k l) ≡ true → q.drift ≡ NoNumber
    unfolding deviation_in
    none_due w i k l p h =
        let e : none ≡ true = some_of (sum_count n) (λ r. is_nan (sum_at n xs r)) (rank n w i k l) (rank_below n w i k l p) (ap is_nan (sum-at-rank n xs w i k l p) ∙ h) in
        sym drift_is ∙ ap (λ b. cond b NoNumber (cond still Still (Worst (worst_of (sum_count n) (sum_at n xs))))) e

    -- Where every sum is a zero the report is still.
    pub still_due : ((w : Along) (i k l : ℕ) → SumPlace n i k l → is_zero (line_sum n xs w i k l) ≡ true) → q.drift ≡ Still
    unfolding deviation_in
    still_due h =
        let z : (r : ℕ) → r < sum_count n → is_zero (sum_at n xs r) ≡ true = λ r b.
        let w = along_of n (r / 9) in
        let i = atom_of n (r / 9) in
        let p = place_of_sum n r b in
        ap (λ (r : ℕ). is_zero (sum_at n xs r)) (sym (rank_of_sum n r b)) ∙ ap is_zero (sum-at-rank n xs w i (r % 9 / 3) (r % 9 % 3) p) ∙ h w i (r % 9 / 3) (r % 9 % 3) p in
        let a : none ≡ false = refuted none (λ t. let (r, b, g) = some_at (sum_count n) (λ r. is_nan (sum_at n xs r)) t in zero-or_nan (sum_at n xs r) (z r b) g) in
        let b : still ≡ true = every_of (sum_count n) (λ r. is_zero (sum_at n xs r)) z in
        sym drift_is ∙ ap₂ (λ a b. cond a NoNumber (cond b Still (Worst (worst_of (sum_count n) (sum_at n xs))))) a b
