-- What the loops of full.rt leave is the symmetrized set, and what the call's answer says. Assumes nothing.
use Rattle.std.specs.Prelude.{Ok, ◌≡◌, true, false, List, [], ◌∷◌, length, Float}
use Rattle.std.proofs.Math.Path.{refl, ap}
use Rattle.std.proofs.Common.{sym, ◌∙◌, le-ltb}
use Prim.Native.Nat.{ℕ, zero, suc, ◌*◌, ◌≤◌}
use Rattle.lists.specs.Tab.{times, length-tab}
use Rattle.tables.specs.Answers.{Answer}
use Rattle.tables.specs.declared.Refusal.TheVariants.{CountAboveLimit}
use Rattle.tables.specs.Answers.{is_refusal, passed, after-done, after_refusal, is_done}
use Rattle.tables.specs.Conditions.{any_above}
use Rattle.tables.specs.Full.{done_full, full-passes}
use Rattle.tables.specs.Lengths.{set_length2}
use Rattle.tables.specs.Limits.{limit2, limit_level}
use Rattle.lines.specs.Sums3x3.{inverse}
use Rattle.lines.specs.Lines.{row_drifts, Sized}
use Rattle.fc2.specs.Full.{fill_full, without_column_drift, without_row_drift, pair_averages, one_level, symmetrized_full, judged_full_levels, perm_trans_symmetrize_fc}
use Rattle.fc2.specs.FullPlaceLaws.{filled}
use Rattle.fc2.specs.FullLoops.{pairs, diagonals, swept, worked}
use Rattle.fc2.specs.FullDriftLaws.{columns_make, row-drifts_make}
use Rattle.fc2.specs.FullPairLaws.{pairs_make, diagonals_make}

-- every stage keeps the length
pub length-fill : (n : ℕ) (f : ℕ → ℕ → ℕ → ℕ → Float) → length (fill_full n f) ≡ n * n * 9
length-fill n f = ap length (filled n f) ∙ length-tab (n * n * 9) _

module _ (n : ℕ) where
  pub length_level : (xs : List Float) → length (one_level n xs) ≡ n * n * 9
  unfolding one_level pair_averages
  length_level xs = length-fill n _

  length-columns : (xs : List Float) → length (without_column_drift n xs) ≡ n * n * 9
  unfolding without_column_drift
  length-columns xs = length-fill n _

  length-rows : (xs : List Float) → length (without_row_drift n xs) ≡ n * n * 9
  unfolding without_row_drift
  length-rows xs = length-fill n _

  level_make : (xs : List Float) → length xs ≡ n * n * 9 → swept n (inverse n) xs ≡ one_level n xs
  unfolding swept one_level
  level_make xs e =
      ap (λ l. pairs n (row_drifts n n (inverse n) l)) (columns_make n xs e)
      ∙ ap (pairs n) (row-drifts_make n (without_column_drift n xs) (length-columns xs))
      ∙ pairs_make n (without_row_drift n (without_column_drift n xs)) (length-rows (without_column_drift n xs))

  length_levels : (level : ℕ) (xs : List Float) → length xs ≡ n * n * 9 → length (times level (λ _. one_level n) xs) ≡ n * n * 9
  unfolding times
  length_levels zero xs e = e
  length_levels (suc level) xs e = length_level (times level (λ _. one_level n) xs)

  levels_make : (level : ℕ) (xs : List Float) → length xs ≡ n * n * 9 → times level (λ _. swept n (inverse n)) xs ≡ times level (λ _. one_level n) xs
  unfolding times
  levels_make zero xs e = refl
  levels_make (suc level) xs e =
      ap (swept n (inverse n)) (levels_make level xs e) ∙ level_make (times level (λ _. one_level n) xs) (length_levels level xs e)

  pub work_makes : (level : ℕ) (xs : List Float) → length xs ≡ n * n * 9 → worked n level (inverse n) xs ≡ symmetrized_full n level xs
  unfolding worked symmetrized_full
  work_makes level xs e =
      ap (diagonals n) (levels_make level xs e) ∙ diagonals_make n (times level (λ _. one_level n) xs) (length_levels level xs e)

-- ---- the answer

module _ (a : Answer) (xs : List Float) (n level : ℕ) (e : a ≡ judged_full_levels (length xs) n level) where
  -- what is known of a set that is worked on
  pub sized : is_refusal a ≡ false → Sized n n (length xs)
  sized h =
      let (_, r) = passed (any_above limit_level (level ∷ [])) CountAboveLimit _ (sym e ∙ is_done a h) in
      let (few, long, _) = done_full limit2 1 (length xs) [] n r in
      record { few = few; small = few; long = long ∙ set_length2 n n }

  pub call_refused : is_refusal a ≡ true → (a, xs) ≡ perm_trans_symmetrize_fc xs n level
  unfolding perm_trans_symmetrize_fc
  call_refused h = rw (sym e) (ap (λ l. (a, l)) (sym (after_refusal a (symmetrized_full n level xs) xs h)))

  pub call_done : is_refusal a ≡ false → (Ok tt, symmetrized_full n level xs) ≡ perm_trans_symmetrize_fc xs n level
  unfolding perm_trans_symmetrize_fc
  call_done h = rw (sym e) (ap (λ b. (b, symmetrized_full n level xs)) (sym (is_done a h)) ∙ ap (λ l. (a, l)) (sym (after-done a (symmetrized_full n level xs) xs h)))

-- a call within the limits, with a set of the stated length, is done
pub call_within : (xs : List Float) (n level : ℕ) → n ≤ 1024 → level ≤ 1000 → length xs ≡ n * n * 9 → perm_trans_symmetrize_fc xs n level ≡ (Ok tt, symmetrized_full n level xs)
call_within xs n level h g e =
    let j : judged_full_levels (length xs) n level ≡ Ok tt = rw (le-ltb 1000 level g) (sym (full-passes limit2 1 (length xs) n h (e ∙ sym (set_length2 n n)))) in
    sym (call_done (Ok tt) xs n level (sym j) refl)
