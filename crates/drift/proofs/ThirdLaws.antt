-- The sums that the loops make are those over each leg, one after another, and so is the call's answer. Assumes nothing.
use Rattle.std.specs.Prelude.{Err, Ok, ◌≡◌, List, [], ℕ, ◌+◌, ◌*◌, ◌/◌, ◌%◌, ◌≤◌, ◌<◌, length, Float}
use Rattle.std.proofs.Math.Path.{refl, sym, ap, ap₂, subst}
use Rattle.std.proofs.Common.{◌∙◌, div-lt_iff_lt-mul, lit<}
use Rattle.std.proofs.Math.Nat.{div-add-mod', mod-lt, mul-add-mod_self_right}
use native.Mathlib.Omega.{arith}
use Rattle.std.proofs.Math.ListN.{get_or}
use Rattle.std.specs.Float.{nan}
use Rattle.std.specs.Float.Ieee.{add, binary64}
use Rattle.lists.specs.Tab.{times, times-same, times_nest}
use Rattle.lists.specs.Tests.{every, some}
use Rattle.lists.specs.Digits.{horner, quotient, remainder, pos_of}
use Rattle.tables.specs.declared.Refusal.{Refusal}
use Rattle.tables.specs.Lengths.{set_length3}
use Rattle.tables.specs.Full.{judged_full, done_full}
use Rattle.tables.specs.Limits.{limit3}
use Rattle.places.specs.Places.{at}
use Rattle.places.specs.WholeLaws.{full_shifts}
use Rattle.places.specs.Addresses.{address3-block}
use Rattle.lists.specs.Floats.{plus_zero}
use Rattle.lines.specs.Sums3x3.{zeros, sum_in}
use Rattle.lines.specs.Lines.{line_sums}
use Rattle.lines.specs.DriftLaws.{line-sum, zeros_in}
use Rattle.reports.specs.declared.seen.Seen.{Seen}
use Rattle.reports.specs.declared.Deviation.TheVariants.{Still}
use Rattle.reports.specs.Report.{deviation_in, placed_by}
use Rattle.drift.specs.Loops.{look_line}
use Rattle.reports.specs.Loops.{look, nothing_seen, concluded_by}
use Rattle.reports.specs.Seen.{State, all_seen_lem, reported}
use Rattle.drift.specs.Laws.{line_of, by-sums}
use Rattle.drift.specs.declared.third.LegReport.{LegReport}
use Rattle.drift.specs.ThirdReport.{entry3, leg_sum, leg_of, sums3, sum_at3, report_at3, still_report3, reported_after3, drift_report_fc3}
use Rattle.drift.specs.Lines.{first_nine, look_leg, scanned3, Apart}

-- ---- numbers by their places

-- the number at directions d and p of a block of 27: its block of nine d, and position p there
entry-at : (n : ℕ) (xs : List Float) (h i j d p : ℕ) → entry3 n xs h i j d (p / 3) (p % 3) ≡ get_or xs ((((h * n + i) * n + j) * 3 + d) * 9 + p) nan
unfolding entry3 at full_shifts horner
entry-at n xs h i j d p =
    let q = div-add-mod' p 3 in
    let w : ((h * n + i) * n + j) * 27 + (d * 9 + p / 3 * 3 + p % 3) ≡ (((h * n + i) * n + j) * 3 + d) * 9 + p = rest ((h * n + i) * n + j) (p / 3) (p % 3) q in
    ap (λ r. get_or xs r nan) (address3-block (full_shifts n) h i j 0 d (p / 3) (p % 3) 0 ∙ w)
  where
    rest : (b x y : ℕ) → x * 3 + y ≡ p → b * 27 + (d * 9 + x * 3 + y) ≡ (b * 3 + d) * 9 + p
    rest b x y q = omega arith

-- the sum of a line of blocks of nine, at position p
line_is : (n step f : ℕ) (xs : List Float) (p : ℕ) → p < 9 → sum_in (line_sums f (step * 3) n xs zeros) p ≡ times n (λ k t. add binary64 t (get_or xs ((f + k * (step * 3)) * 9 + p) nan)) plus_zero
line_is n step f xs p h =
    line-sum f (step * 3) n xs zeros p h ∙ ap (λ z. times n (λ k t. add binary64 t (get_or xs ((f + k * (step * 3)) * 9 + p) nan)) z) (zeros_in p h)

by_three : (v p : ℕ) → (v * 9 + p) % 3 ≡ p % 3
by_three v p = let w : v * 9 + p ≡ v * 3 * 3 + p = omega arith in ap (λ x. x % 3) w ∙ mul-add-mod_self_right (v * 3) 3 p

by_one : (x : ℕ) → (x / 1 ≡ x) × (x % 1 ≡ 0)
by_one x = (omega arith, omega arith)

-- ---- the sums over one leg: t counts the pairs of the other two atoms, d is the first leg's direction

module _ (n : ℕ) (xs : List Float) (t d p : ℕ) (ht : t < n * n) (hd : d < 3) (hp : p < 9) where
  abbrev e : ℕ
  e = t * 3 + d

  pair : e / 3 ≡ t
  pair = quotient 3 t d hd

  turn : e % 3 ≡ d
  turn = remainder 3 t d hd

  pos : 0 < n
  pos = pos_of n n t ht

  -- t is a × n + b
  atoms : t / n * n + t % n ≡ t
  atoms = div-add-mod' t n

  over-third : sum_in (line_sums (first_nine n 1 e) (1 * 3) n xs zeros) p ≡ leg_sum n xs 2 (t / n) (t % n) d (p / 3) (p % 3)
  unfolding first_nine leg_sum
  over-third =
      line_is n 1 _ xs p hp
      ∙ times-same n _ _ plus_zero (λ k hk s.
      let u : e / 3 / 1 ≡ t = (by_one (e / 3)).0 ∙ pair in
      let v : e / 3 % 1 ≡ 0 = (by_one (e / 3)).1 in
      ap (add binary64 s)
      (ap (λ r. get_or xs (r * 9 + p) nan) (ap₂ (λ x y. (x * (1 * n) + y) * 3 + e % 3 + k * (1 * 3)) u v ∙ ap (λ d. (t * (1 * n) + 0) * 3 + d + k * (1 * 3)) turn ∙ place (t / n) (t % n) k atoms)
      ∙ sym (entry-at n xs (t / n) (t % n) k d p)))
    where
      place : (a b k : ℕ) → a * n + b ≡ t → (t * (1 * n) + 0) * 3 + d + k * (1 * 3) ≡ ((a * n + b) * n + k) * 3 + d
      place a b k q = rw q (omega arith)

  over-second : sum_in (line_sums (first_nine n n e) (n * 3) n xs zeros) p ≡ leg_sum n xs 1 (t / n) (t % n) d (p / 3) (p % 3)
  unfolding first_nine leg_sum
  over-second =
      line_is n n _ xs p hp
      ∙ times-same n _ _ plus_zero (λ k hk s.
      ap (add binary64 s)
      (ap (λ r. get_or xs (r * 9 + p) nan) (ap₂ (λ x d. (x / n * (n * n) + x % n) * 3 + d + k * (n * 3)) pair turn ∙ place (t / n) (t % n) k)
      ∙ sym (entry-at n xs (t / n) k (t % n) d p)))
    where
      place : (a b k : ℕ) → (a * (n * n) + b) * 3 + d + k * (n * 3) ≡ ((a * n + k) * n + b) * 3 + d
      place a b k = omega arith

  over_first : sum_in (line_sums (first_nine n (n * n) e) (n * n * 3) n xs zeros) p ≡ leg_sum n xs 0 (t / n) (t % n) d (p / 3) (p % 3)
  unfolding first_nine leg_sum
  over_first =
      line_is n (n * n) _ xs p hp
      ∙ times-same n _ _ plus_zero (λ k hk s.
      let z : 0 * (n * n) + t ≡ t = omega arith in
      let u : t / (n * n) ≡ 0 = ap (λ x. x / (n * n)) (sym z) ∙ quotient (n * n) 0 t ht in
      let v : t % (n * n) ≡ t = ap (λ x. x % (n * n)) (sym z) ∙ remainder (n * n) 0 t ht in
      ap (add binary64 s)
      (ap (λ r. get_or xs (r * 9 + p) nan)
      (ap₂ (λ x d. (x / (n * n) * (n * n * n) + x % (n * n)) * 3 + d + k * (n * n * 3)) pair turn
      ∙ ap₂ (λ x y. (x * (n * n * n) + y) * 3 + d + k * (n * n * 3)) u v ∙ place (t / n) (t % n) k atoms)
      ∙ sym (entry-at n xs k (t / n) (t % n) d p)))
    where
      place : (a b k : ℕ) → a * n + b ≡ t → (0 * (n * n * n) + t) * 3 + d + k * (n * n * 3) ≡ ((k * n + a) * n + b) * 3 + d
      place a b k q = rw (sym q) (omega arith)

  -- sum p of line q, which is the line e of leg number L
  sum-line : (L : ℕ) → sum_at3 n xs ((L * (n * n * 3) + e) * 9 + p) ≡ leg_sum n xs (leg_of L) (t / n) (t % n) d (p / 3) (p % 3)
  unfolding sum_at3
  sum-line L =
      let r = (L * (n * n * 3) + e) * 9 + p in
      let r27 : r / 27 ≡ L * (n * n) + t = split27 (L * (n * n) + t) r (regroup (n * n) L) in
      let a1 : r / 27 / n ≡ L * n + t / n = ap (λ x. x / n) (r27 ∙ ap (λ t. L * (n * n) + t) (sym atoms) ∙ two L (t / n) (t % n)) ∙ quotient n (L * n + t / n) (t % n) (mod-lt t pos) in
      let b1 : r / 27 % n ≡ t % n = ap (λ x. x % n) (r27 ∙ ap (λ t. L * (n * n) + t) (sym atoms) ∙ two L (t / n) (t % n)) ∙ remainder n (L * n + t / n) (t % n) (mod-lt t pos) in
      let la : t / n < n = (div-lt_iff_lt-mul pos).1 ht in
      let a2 : r / 27 / n / n ≡ L = ap (λ x. x / n) a1 ∙ quotient n L (t / n) la in
      let a3 : r / 27 / n % n ≡ t / n = ap (λ x. x % n) a1 ∙ remainder n L (t / n) la in
      let (k1, l1, m1) = turns (L * (n * n) + t) r (regroup (n * n) L) in
      ap (λ x. leg_sum n xs (leg_of x) (r / 27 / n % n) (r / 27 % n) (r % 27 / 9) (r % 9 / 3) (r % 3)) a2
      ∙ ap₂ (λ a b. leg_sum n xs (leg_of L) a b (r % 27 / 9) (r % 9 / 3) (r % 3)) a3 b1
      ∙ ap (λ k. leg_sum n xs (leg_of L) (t / n) (t % n) k (r % 9 / 3) (r % 3)) k1
      ∙ ap₂ (λ l m. leg_sum n xs (leg_of L) (t / n) (t % n) d l m) l1 m1
    where
      regroup : (s L : ℕ) → (L * (s * 3) + e) * 9 + p ≡ ((L * s + t) * 3 + d) * 9 + p
      regroup s L = omega arith

      two : (L a b : ℕ) → L * (n * n) + (a * n + b) ≡ (L * n + a) * n + b
      two L a b = omega arith

      split27 : (u r : ℕ) → r ≡ (u * 3 + d) * 9 + p → r / 27 ≡ u
      split27 u r q = omega arith

      turns : (u r : ℕ) → r ≡ (u * 3 + d) * 9 + p → (r % 27 / 9 ≡ d) × (r % 9 / 3 ≡ p / 3) × (r % 3 ≡ p % 3)
      turns u r q =
          let w : r % 9 ≡ p = omega arith in
          let v : r % 27 ≡ d * 9 + p = omega arith in
          (ap (λ x. x / 9) v ∙ quotient 9 d p hp, ap (λ x. x / 3) w, ap (λ x. x % 3) q ∙ by_three (u * 3 + d) p)

-- ---- all sums, one after another

module _ (n : ℕ) (xs : List Float) where
  abbrev S : ℕ → Float
  S = sum_at3 n xs

  abbrev c3 : ℕ
  c3 = n * n * 3

  -- the lines of leg number L, whose atoms stand `step` apart
  leg-looked : (L step from : ℕ) → from ≡ L * c3
      → ((t d p : ℕ) → t < n * n → d < 3 → p < 9 → sum_in (line_sums (first_nine n step (t * 3 + d)) (step * 3) n xs zeros) p ≡ leg_sum n xs (leg_of L) (t / n) (t % n) d (p / 3) (p % 3))
      → (c : Seen) → look_leg n step from xs c ≡ times c3 (λ e. line_of S (L * c3 + e)) c
  unfolding look_leg
  leg-looked L step from ef same c =
      times-same c3 _ _ c (λ e he s.
      let g = div-add-mod' e 3 in
      let ht : e / 3 < n * n = (div-lt_iff_lt-mul (lit< tt)).1 he in
      let hd : e % 3 < 3 = mod-lt e (lit< tt) in
      ap (λ f. look_line (f + e) (line_sums (first_nine n step e) (step * 3) n xs zeros) s) ef
      ∙ by-sums S (L * c3 + e) (line_sums (first_nine n step e) (step * 3) n xs zeros)
      (λ p hp.
      ap (λ e. sum_in (line_sums (first_nine n step e) (step * 3) n xs zeros) p) (sym g)
      ∙ same (e / 3) (e % 3) p ht hd hp
      ∙ sym (sum-line n xs (e / 3) (e % 3) p ht hd hp L)
      ∙ ap (λ e. S ((L * c3 + e) * 9 + p)) g) s)

  third : leg_of 0 ≡ 2
  unfolding leg_of
  third = refl

  second : leg_of 1 ≡ 1
  unfolding leg_of
  second = refl

  first : leg_of 2 ≡ 0
  unfolding leg_of
  first = refl

  by-leg : (L leg : ℕ) → leg_of L ≡ leg → (step : ℕ)
      → ((t d p : ℕ) → t < n * n → d < 3 → p < 9 → sum_in (line_sums (first_nine n step (t * 3 + d)) (step * 3) n xs zeros) p ≡ leg_sum n xs leg (t / n) (t % n) d (p / 3) (p % 3))
      → (t d p : ℕ) → t < n * n → d < 3 → p < 9 → sum_in (line_sums (first_nine n step (t * 3 + d)) (step * 3) n xs zeros) p ≡ leg_sum n xs (leg_of L) (t / n) (t % n) d (p / 3) (p % 3)
  by-leg L leg e step same t d p ht hd hp = same t d p ht hd hp ∙ ap (λ x. leg_sum n xs x (t / n) (t % n) d (p / 3) (p % 3)) (sym e)

  pub scanned-sums : scanned3 n xs ≡ times (sums3 n) (λ r. look r (S r)) nothing_seen
  unfolding scanned3
  scanned-sums =
      let F = line_of S in
      let z0 : 0 ≡ 0 * c3 = omega arith in
      let z1 : n * n * 3 ≡ 1 * c3 = omega arith in
      let z2 : n * n * 6 ≡ 2 * c3 = omega arith in
      let a = leg-looked 0 1 0 z0 (by-leg 0 2 third 1 (λ t d p ht hd hp. over-third n xs t d p ht hd hp)) nothing_seen in
      let b = leg-looked 1 n (n * n * 3) z1 (by-leg 1 1 second n (λ t d p ht hd hp. over-second n xs t d p ht hd hp)) (times c3 (λ e. F (0 * c3 + e)) nothing_seen) in
      let c = leg-looked 2 (n * n) (n * n * 6) z2 (by-leg 2 0 first (n * n) (λ t d p ht hd hp. over_first n xs t d p ht hd hp)) (times c3 (λ e. F (1 * c3 + e)) (times c3 (λ e. F (0 * c3 + e)) nothing_seen)) in
      let w : 3 * c3 * 9 ≡ n * n * 81 = nines (n * n) in
      ap (λ y. look_leg n (n * n) (n * n * 6) xs (look_leg n n (n * n * 3) xs y)) a
      ∙ ap (look_leg n (n * n) (n * n * 6) xs) b
      ∙ c
      ∙ sym (times_nest 3 c3 F nothing_seen ∙ three)
      ∙ sym (times_nest (3 * c3) 9 (λ r. look r (S r)) nothing_seen)
      ∙ ap (λ m. times m (λ r. look r (S r)) nothing_seen) w
    where
      nines : (s : ℕ) → 3 * (s * 3) * 9 ≡ s * 81
      nines s = omega arith

      three : times 3 (λ L. times c3 (λ e. line_of S (L * c3 + e))) nothing_seen
          ≡ times c3 (λ e. line_of S (2 * c3 + e)) (times c3 (λ e. line_of S (1 * c3 + e)) (times c3 (λ e. line_of S (0 * c3 + e)) nothing_seen))
      three = unfold times in refl

-- ---- where the legs stand

pub apart-third : {n len : ℕ} → n ≤ 256 → len ≡ n * n * n * 27 → Apart n len 1
apart-third {n} f l = record { outer = n * n; few = f; squares = omega arith; long = l }

pub apart-second : {n len : ℕ} → n ≤ 256 → len ≡ n * n * n * 27 → Apart n len n
apart-second {n} f l = record { outer = n; few = f; squares = refl; long = l }

pub apart-first : {n len : ℕ} → n ≤ 256 → len ≡ n * n * n * 27 → Apart n len (n * n)
apart-first {n} f l = record { outer = 1; few = f; squares = omega arith; long = l }

-- ---- the answer

module _ (xs : List Float) (n : ℕ) where
  abbrev report : LegReport
  report = placed_by still_report3 (report_at3 n) (sums3 n) (sum_at3 n xs) (deviation_in (sums3 n) (sum_at3 n xs))

  pub few-atoms : judged_full limit3 2 (length xs) [] n ≡ Ok tt → n ≤ 256
  few-atoms e = (done_full limit3 2 (length xs) [] n e).0

  pub long-set : judged_full limit3 2 (length xs) [] n ≡ Ok tt → length xs ≡ n * n * n * 27
  long-set e = (done_full limit3 2 (length xs) [] n e).1 ∙ set_length3 n n

  pub report-refused : (a : Refusal) → judged_full limit3 2 (length xs) [] n ≡ Err a → Err a ≡ drift_report_fc3 xs n
  unfolding drift_report_fc3
  report-refused a e = sym (ap (λ g. reported_after3 g report) e)

  pub report-done : judged_full limit3 2 (length xs) [] n ≡ Ok tt → (c : Seen) → c ≡ scanned3 n xs → Ok (concluded_by still_report3 (report_at3 n) c) ≡ drift_report_fc3 xs n
  unfolding drift_report_fc3
  report-done e c g =
      let st : State (sum_at3 n xs) (sums3 n) c = subst (State (sum_at3 n xs) (sums3 n)) (sym (g ∙ scanned-sums n xs)) (all_seen_lem (sum_at3 n xs) (sums3 n)) in
      ap Ok (reported (sums3 n) (sum_at3 n xs) c st still_report3 (report_at3 n)) ∙ sym (ap (λ h. reported_after3 h report) e)

-- no atoms, no sums
none-still : (S : ℕ → Float) → deviation_in 0 S ≡ Still
unfolding deviation_in some every
none-still S = refl

pub report-none : (xs : List Float) (n : ℕ) → n ≡ 0 → judged_full limit3 2 (length xs) [] n ≡ Ok tt → Ok still_report3 ≡ drift_report_fc3 xs n
unfolding drift_report_fc3
report-none xs n z e =
    let c : sums3 n ≡ 0 = ap sums3 z in
    let d : deviation_in (sums3 n) (sum_at3 n xs) ≡ Still = ap (λ m. deviation_in m (sum_at3 n xs)) c ∙ none-still (sum_at3 n xs) in
    ap (λ d. Ok (placed_by still_report3 (report_at3 n) (sums3 n) (sum_at3 n xs) d)) (sym d) ∙ sym (ap (λ h. reported_after3 h (report xs n)) e)
