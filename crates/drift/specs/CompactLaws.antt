-- The sums that the loops make, block by stored block, are those of the full set, and so is the report. Assumes nothing.
use Rattle.std.specs.Prelude.{Err, Ok, ◌≡◌, refl, ℕ, zero, suc, ◌+◌, ◌*◌, ◌/◌, ◌%◌, ◌≤◌, ◌<◌, ℤ, get_or, Float}
use Rattle.std.proofs.Math.Path.{sym, ap, fun_ext}
use Rattle.std.proofs.Common.{◌∙◌, subst, div-add-mod', lit<, lit≤}
use mathlib.Core.List.{List, [], ◌∷◌}
use native.Mathlib.Omega.{arith}
use Rattle.std.proofs.Math.ListN.{length}
use Rattle.std.specs.Float.Ieee.{nan, add, binary64}
use Rattle.lists.specs.Tab.{times, times-same, times-add, times_nest}
use Rattle.lists.specs.Elements.{All}
use Rattle.lists.specs.Digits.{times_power}
use Rattle.blocks.specs.Block.{block}
use Rattle.tables.specs.declared.Refusal.{Refusal}
use Rattle.tables.specs.Shifts.{Shifts}
use Rattle.tables.specs.Lengths.{set_length}
use Rattle.tables.specs.Limits.{limit2}
use Rattle.tables.specs.Full.{full-passes}
use Rattle.tables.specs.Compact.{ShiftTables, shifts_of, judged_set}
use Rattle.places.specs.Places.{Leg, Fit, in_block}
use Rattle.places.specs.WholeLaws.{full_shifts, read_out-whole, size_whole}
use Rattle.places.specs.Addresses.{stored_block}
use Rattle.places.proofs.AddressesLaws.{read_out2}
use Rattle.places.specs.ReadOuts.{Tables, tables as tables_of, stored_in, stored_in_lem}
use Rattle.lists.specs.Floats.{plus_zero}
use Rattle.lines.specs.Sums3x3.{Sums, zeros, sum_in, more, sum_in_lem}
use Rattle.lines.specs.DriftLaws.{zeros_in}
use Rattle.fc2.specs.Full.{full_entry, row_sum, column_sum}
use Rattle.reports.specs.declared.seen.Seen.{Seen}
use Rattle.drift.specs.Drift.{sum_at, sum_count, drift_of, report_at, still_report, placed_report, reported_after, drift_report}
use Rattle.drift.specs.Loops.{look_line, concluded}
use Rattle.reports.specs.Loops.{look, nothing_seen}
use Rattle.reports.specs.Seen.{State, all_seen_lem, reported}
use Rattle.drift.specs.Laws.{line_of, by-sums, at_row, at-column}
use Rattle.audits.specs.Guard.{Ready, ready_compact, block_inside, stored-within}
use Rattle.read_out.specs.FullSet.{full_set, length-full, read-full}
use Rattle.drift.specs.CompactReport.{drift_report_compact_fc2}

-- ---- what the functions compute: f gives the stored block of a first atom and the others

unfoldable pub compact_row_sums : List Float → (ℕ → List ℕ → ℕ) → ℕ → ℕ → Sums
compact_row_sums set f n i = times n (λ j t. more t (block 9 (f i (j ∷ [])) set)) zeros

unfoldable pub column_sums : List Float → (ℕ → List ℕ → ℕ) → ℕ → ℕ → Sums
column_sums set f n j = times n (λ i t. more t (block 9 (f i (j ∷ [])) set)) zeros

unfoldable pub look_rows : List Float → (ℕ → List ℕ → ℕ) → ℕ → Seen → Seen
look_rows set f n c = times n (λ i. look_line i (compact_row_sums set f n i)) c

unfoldable pub look_compact_columns : List Float → (ℕ → List ℕ → ℕ) → ℕ → Seen → Seen
look_compact_columns set f n c = times n (λ j. look_line (n + j) (column_sums set f n j)) c

abbrev pub scanned_compact : List Float → (ℕ → List ℕ → ℕ) → ℕ → Seen
scanned_compact set f n = look_compact_columns set f n (look_rows set f n nothing_seen)

-- ---- what they ask: tables that can be read, and every stored block in the set

pub record Held (len n : ℕ) (s2pp nsym_list perms : List ℤ) : Type 0 where
  pub tables : Tables n s2pp nsym_list perms
  pub inside : (i j : ℕ) → i < n → j < n → stored_in n s2pp nsym_list perms i (j ∷ []) * 9 + 9 ≤ len

nine : in_block 1 ≡ 9
unfolding in_block times_power
nine = refl

pub held : (len : ℕ) (T : ShiftTables) → Ready limit2 1 len T → Held len T.n_satom T.s2pp T.nsym_list T.perms
held len T R =
    record {
      tables = tables_of limit2 T (lit≤ tt) R.fit;
      inside = λ i j hi hj. block_inside limit2 1 len T R 9 nine (stored_in T.n_satom T.s2pp T.nsym_list T.perms i (j ∷ [])) (stored-within limit2 T (lit≤ tt) R.fit i hi (j ∷ []) (hj, tt));
    }

-- ---- the sums, number by number

-- blocks added one after another
sums_in : (c : ℕ) (g : ℕ → List Float) (p : ℕ) → p < 9 → sum_in (times c (λ k t. more t (g k)) zeros) p ≡ times c (λ k t. add binary64 t (get_or (g k) p nan)) plus_zero
unfolding times
sums_in zero g p h = zeros_in p h
sums_in (suc c) g p h =
    sum_in_lem (λ p. add binary64 (sum_in (times c (λ k t. more t (g k)) zeros) p) (get_or (g c) p nan)) p h ∙ ap (λ x. add binary64 x (get_or (g c) p nan)) (sums_in c g p h)

module _ (S : Shifts) (set : List Float) where
  abbrev n : ℕ
  n = S.n_satom

  abbrev full : List Float
  full = full_set nan S 1 set

  entry_read : (i j k l : ℕ) → i < n → j < n → k < 3 → l < 3 → full_entry n full i j k l ≡ get_or (block 9 (stored_block S i (j ∷ [])) set) (k * 3 + l) nan
  unfolding full_entry full_shifts
  entry_read i j k l hi hj hk hl =
      let xs : List Leg = (i, k) ∷ (j, l) ∷ [] in
      let p : All (Fit (full_shifts n)) xs = ((hi, hk), ((hj, hl), tt)) in
      sym (read_out-whole n nan full xs p) ∙ read-full nan S 1 set xs (refl, p) ∙ read_out2 S set i j 0 0 k l 0 0 hk hl (lit< tt) (lit< tt)

  -- number p of the stored block
  number_read : (i j p : ℕ) → i < n → j < n → p < 9 → get_or (block 9 (stored_block S i (j ∷ [])) set) p nan ≡ full_entry n full i j (p / 3) (p % 3)
  number_read i j p hi hj hp =
      ap (λ p. get_or (block 9 (stored_block S i (j ∷ [])) set) p nan) (sym (div-add-mod' p 3)) ∙ sym (entry_read i j (p / 3) (p % 3) hi hj (omega arith) (omega arith))

  row_is : (i p : ℕ) → i < n → p < 9 → sum_in (compact_row_sums set (stored_block S) n i) p ≡ sum_at n full (i * 9 + p)
  unfolding compact_row_sums row_sum
  row_is i p hi hp =
      sums_in n (λ j. block 9 (stored_block S i (j ∷ [])) set) p hp
      ∙ times-same n _ _ plus_zero (λ j hj t. ap (add binary64 t) (number_read i j p hi hj hp))
      ∙ sym (at_row n full i p hi hp)

  column_is : (j p : ℕ) → j < n → p < 9 → sum_in (column_sums set (stored_block S) n j) p ≡ sum_at n full ((n + j) * 9 + p)
  unfolding column_sums column_sum
  column_is j p hj hp =
      sums_in n (λ i. block 9 (stored_block S i (j ∷ [])) set) p hp
      ∙ times-same n _ _ plus_zero (λ i hi t. ap (add binary64 t) (number_read i j p hi hj hp))
      ∙ sym (at-column n full j p hp)

  -- the sums, one after another
  scanned-sums : scanned_compact set (stored_block S) n ≡ times (sum_count n) (λ r. look r (sum_at n full r)) nothing_seen
  unfolding look_rows look_compact_columns
  scanned-sums =
      let F = line_of (sum_at n full) in
      let e : n + n ≡ n * 2 = omega arith in
      times-same n _ _ _ (λ j hj t. by-sums (sum_at n full) (n + j) (column_sums set (stored_block S) n j) (λ p hp. column_is j p hj hp) t)
      ∙ ap (times n (λ j. F (n + j))) (times-same n _ _ nothing_seen (λ i hi t. by-sums (sum_at n full) i (compact_row_sums set (stored_block S) n i) (λ p hp. row_is i p hi hp) t))
      ∙ sym (times-add n n F nothing_seen)
      ∙ ap (λ m. times m F nothing_seen) e
      ∙ sym (times_nest (n * 2) 9 (λ r. look r (sum_at n full r)) nothing_seen)

-- ---- the answer

module _ (set : List Float) (T : ShiftTables) where
  abbrev whole_set : List Float
  whole_set = full_set nan (shifts_of T) 1 set

  pub report-refused : (a : Refusal) → judged_set limit2 1 (length set) [] T ≡ Err a → Err a ≡ drift_report_compact_fc2 set T
  unfolding drift_report_compact_fc2
  report-refused a e = sym (ap (λ g. reported_after g (placed_report T.n_satom whole_set (drift_of T.n_satom whole_set))) e)

  stored_same : stored_in T.n_satom T.s2pp T.nsym_list T.perms ≡ stored_block (shifts_of T)
  stored_same = fun_ext (λ i. fun_ext (λ js. stored_in_lem T i js))

  all-looked : (c : Seen) → c ≡ scanned_compact set (stored_in T.n_satom T.s2pp T.nsym_list T.perms) T.n_satom → State (sum_at T.n_satom whole_set) (sum_count T.n_satom) c
  all-looked c g =
      subst (State (sum_at T.n_satom whole_set) (sum_count T.n_satom))
      (sym (g ∙ ap (λ f. scanned_compact set f T.n_satom) stored_same ∙ scanned-sums (shifts_of T) set)) (all_seen_lem (sum_at T.n_satom whole_set) (sum_count T.n_satom))

  pub report-done : judged_set limit2 1 (length set) [] T ≡ Ok tt → (c : Seen) → c ≡ scanned_compact set (stored_in T.n_satom T.s2pp T.nsym_list T.perms) T.n_satom
      → Ok (concluded T.n_satom c) ≡ drift_report_compact_fc2 set T
  unfolding drift_report_compact_fc2
  report-done e c g =
      let n = T.n_satom in
      ap Ok (reported (sum_count n) (sum_at n whole_set) c (all-looked c g) still_report (report_at n))
      ∙ sym (ap (λ h. reported_after h (placed_report n whole_set (drift_of n whole_set))) e)

  -- a set that is not refused is reported on as its full set is
  pub as_full : judged_set limit2 1 (length set) [] T ≡ Ok tt → drift_report_compact_fc2 set T ≡ drift_report whole_set T.n_satom
  unfolding drift_report_compact_fc2 drift_report
  as_full e =
      let n = T.n_satom in
      let l : length whole_set ≡ set_length n n 1 = length-full nan (shifts_of T) 1 set ∙ size_whole n 1 in
      let d = full-passes limit2 1 (length whole_set) n (ready_compact limit2 1 (length set) T e).fit.satoms l in
      ap (λ g. reported_after g (placed_report n whole_set (drift_of n whole_set))) (e ∙ d)
