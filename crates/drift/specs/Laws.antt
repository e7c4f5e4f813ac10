-- The sums that the loops make are those of the definition, one after another, and so is the call's answer. Assumes nothing.
use Rattle.std.specs.Prelude.{Err, Ok, ◌≡◌, true, cond, List, [], ℕ, ◌+◌, ◌-◌, ◌*◌, ◌/◌, ◌%◌, ◌<◌, length, get_or, Float}
use Rattle.std.proofs.Math.Path.{sym, ap}
use Rattle.std.proofs.Common.{ap₂, ◌∙◌, subst, div-add-mod', lt-ltb, le-ltb}
use native.Mathlib.Omega.{arith}
use Rattle.std.specs.Float.{nan, binary64}
use Rattle.std.specs.Float.Ieee.{add}
use Rattle.lists.specs.Tests.{every, every-at}
use Rattle.lists.specs.Tab.{times, times-same, times-add, times_nest}
use Rattle.blocks.specs.Block.{block_of_lem, place_of}
use Rattle.tables.specs.declared.Refusal.{Refusal}
use Rattle.tables.specs.Full.{judged_full, done_full}
use Rattle.tables.specs.Lengths.{set_length2}
use Rattle.tables.specs.Limits.{limit2}
use Rattle.lists.specs.Floats.{plus_zero}
use Rattle.lines.specs.Sums3x3.{Sums, zeros, sum_in}
use Rattle.lines.specs.Lines.{line_sums, Sized}
use Rattle.lines.specs.DriftLaws.{line-sum, row-sums, zeros_in}
use Rattle.fc2.specs.Full.{row_sum, column_sum}
use Rattle.fc2.specs.FullPlaceLaws.{entry-at}
use Rattle.fc2.specs.FullDriftLaws.{row-sum}
use Rattle.drift.specs.declared.Along.TheVariants.{Rows, Columns}
use Rattle.reports.specs.declared.seen.Seen.{Seen}
use Rattle.drift.specs.Drift.{line_sum, along_of, atom_of, sum_at, sum_count, drift_of, report_at, still_report, placed_report, reported_after, drift_report}
use Rattle.drift.specs.Loops.{look_line, look_lines, scanned, concluded}
use Rattle.reports.specs.Loops.{look, nothing_seen}
use Rattle.reports.specs.Floats.{at_most, at-most_says}
use Rattle.reports.specs.Seen.{State, all_seen_lem, reported, still-times, look-within}

-- ---- a line that brings nothing new

pub line_calm : (q : ℕ) (s : Sums) (c : Seen) → every 9 (λ p. at_most c.worst (sum_in s p)) ≡ true → c ≡ look_line q s c
unfolding look_line
line_calm q s c h =
    sym (still-times 9 (λ p. look (q * 9 + p) (sum_in s p)) c (λ p l.
    look-within (q * 9 + p) (sum_in s p) c (at-most_says c.worst (sum_in s p) (every-at 9 (λ p. at_most c.worst (sum_in s p)) h p l))))

-- ---- the sums of a line by directions

column-sum : (n : ℕ) (xs : List Float) (j p : ℕ) → p < 9 → sum_in (line_sums j n n xs zeros) p ≡ column_sum n xs j (p / 3) (p % 3)
unfolding column_sum
column-sum n xs j p h =
    line-sum j n n xs zeros p h
    ∙ ap (λ z. times n (λ k t. add binary64 t (get_or xs ((j + k * n) * 9 + p) nan)) z) (zeros_in p h)
    ∙ times-same n _ _ plus_zero (λ k hk t.
    let g = div-add-mod' p 3 in
    let w : (j + k * n) * 9 + p ≡ (k * n + j) * 9 + (p / 3 * 3 + p % 3) = omega arith in
    ap (add binary64 t) (ap (λ r. get_or xs r nan) w ∙ sym (entry-at n xs k j (p / 3) (p % 3))))

-- sum p of line q
at-line : (n : ℕ) (xs : List Float) (q p : ℕ) → p < 9 → sum_at n xs (q * 9 + p) ≡ line_sum n xs (along_of n q) (atom_of n q) (p / 3) (p % 3)
unfolding sum_at
at-line n xs q p h = ap₂ (λ a b. line_sum n xs (along_of n a) (atom_of n a) (b / 3) (b % 3)) (block_of_lem 9 q p h) (place_of 9 q p h)

-- the first n lines are the rows, the next n the columns
pub at_row : (n : ℕ) (xs : List Float) (i p : ℕ) → i < n → p < 9 → sum_at n xs (i * 9 + p) ≡ row_sum n xs i (p / 3) (p % 3)
unfolding line_sum
at_row n xs i p hi hp = at-line n xs i p hp ∙ ap (λ b. line_sum n xs (cond b Rows Columns) (cond b i (i - n)) (p / 3) (p % 3)) (lt-ltb i n hi)

pub at-column : (n : ℕ) (xs : List Float) (j p : ℕ) → p < 9 → sum_at n xs ((n + j) * 9 + p) ≡ column_sum n xs j (p / 3) (p % 3)
unfolding line_sum
at-column n xs j p hp =
    let e : n + j - n ≡ j = omega arith in
    at-line n xs (n + j) p hp
    ∙ ap (λ b. line_sum n xs (cond b Rows Columns) (cond b (n + j) (n + j - n)) (p / 3) (p % 3)) (le-ltb (n + j) n (omega arith))
    ∙ ap (λ a. column_sum n xs a (p / 3) (p % 3)) e

row_at : (n : ℕ) (xs : List Float) (i p : ℕ) → i < n → p < 9 → sum_in (line_sums (i * n) 1 n xs zeros) p ≡ sum_at n xs (i * 9 + p)
row_at n xs i p hi hp = row-sums n xs i p hp ∙ row-sum n xs i p ∙ sym (at_row n xs i p hi hp)

column-at : (n : ℕ) (xs : List Float) (j p : ℕ) → p < 9 → sum_in (line_sums j n n xs zeros) p ≡ sum_at n xs ((n + j) * 9 + p)
column-at n xs j p hp = column-sum n xs j p hp ∙ sym (at-column n xs j p hp)

-- ---- the sums, one after another

-- line q of any sums S, looked at sum by sum
abbrev pub line_of : (ℕ → Float) → ℕ → Seen → Seen
line_of S q c = times 9 (λ p. look (q * 9 + p) (S (q * 9 + p))) c

pub by-sums : (S : ℕ → Float) (q : ℕ) (s : Sums) → ((p : ℕ) → p < 9 → sum_in s p ≡ S (q * 9 + p)) → (c : Seen) → look_line q s c ≡ line_of S q c
unfolding look_line
by-sums S q s h c = times-same 9 _ _ c (λ p hp t. ap (λ x. look (q * 9 + p) x t) (h p hp))

module _ (n : ℕ) (xs : List Float) where
  rows-looked : (c : Seen) → look_lines 0 n 1 n xs c ≡ times n (line_of (sum_at n xs)) c
  unfolding look_lines
  rows-looked c =
      times-same n _ _ c (λ i hi t.
      let e : 0 + i ≡ i = omega arith in
      ap (λ q. look_line q (line_sums (i * n) 1 n xs zeros) t) e ∙ by-sums (sum_at n xs) i (line_sums (i * n) 1 n xs zeros) (λ p hp. row_at n xs i p hi hp) t)

  columns-looked : (c : Seen) → look_lines n 1 n n xs c ≡ times n (λ j. line_of (sum_at n xs) (n + j)) c
  unfolding look_lines
  columns-looked c =
      times-same n _ _ c (λ j hj t.
      let e : j * 1 ≡ j = omega arith in
      ap (λ a. look_line (n + j) (line_sums a n n xs zeros) t) e ∙ by-sums (sum_at n xs) (n + j) (line_sums j n n xs zeros) (λ p hp. column-at n xs j p hp) t)

  scanned-sums : scanned n xs ≡ times (sum_count n) (λ r. look r (sum_at n xs r)) nothing_seen
  unfolding scanned
  scanned-sums =
      let e : n + n ≡ n * 2 = omega arith in
      ap (look_lines n 1 n n xs) (rows-looked nothing_seen)
      ∙ columns-looked (times n (line_of (sum_at n xs)) nothing_seen)
      ∙ sym (times-add n n (line_of (sum_at n xs)) nothing_seen)
      ∙ ap (λ m. times m (line_of (sum_at n xs)) nothing_seen) e
      ∙ sym (times_nest (n * 2) 9 (λ r. look r (sum_at n xs r)) nothing_seen)

-- ---- the answer

module _ (xs : List Float) (n : ℕ) where
  -- what is known of a set that is reported on
  pub sized : judged_full limit2 1 (length xs) [] n ≡ Ok tt → Sized n n (length xs)
  sized e =
      let (few, long, _) = done_full limit2 1 (length xs) [] n e in
      record { few = few; small = few; long = long ∙ set_length2 n n }

  pub report-refused : (a : Refusal) → judged_full limit2 1 (length xs) [] n ≡ Err a → Err a ≡ drift_report xs n
  unfolding drift_report
  report-refused a e = sym (ap (λ g. reported_after g (placed_report n xs (drift_of n xs))) e)

  pub all-looked : (c : Seen) → c ≡ scanned n xs → State (sum_at n xs) (sum_count n) c
  all-looked c g = subst (State (sum_at n xs) (sum_count n)) (sym (g ∙ scanned-sums n xs)) (all_seen_lem (sum_at n xs) (sum_count n))

  pub report-done : judged_full limit2 1 (length xs) [] n ≡ Ok tt → (c : Seen) → c ≡ scanned n xs → Ok (concluded n c) ≡ drift_report xs n
  unfolding drift_report
  report-done e c g =
      ap Ok (reported (sum_count n) (sum_at n xs) c (all-looked c g) still_report (report_at n)) ∙ sym (ap (λ h. reported_after h (placed_report n xs (drift_of n xs))) e)
