-- What gf_replace_block_fc2 answers and leaves: the block comes as a slice, which may have another length than nine. Assumes nothing.
use Rattle.std.specs.Prelude.{Err, ◌≡◌, Bool, false, cond, ◌||◌, List, [], ◌∷◌, ℕ, ◌+◌, ◌*◌, ◌≤◌, ◌<◌, eqb, length, get_or, Float}
use Rattle.std.proofs.Common.{sym, ap, ◌∙◌, arith, eq-eqb, ne_eqb, lt-ltb, le-ltb}
use Rattle.std.specs.Float.{nan}
use Rattle.lists.specs.Tab.{is_tab}
use Rattle.tables.specs.Answers.{Answer}
use Rattle.tables.specs.declared.Refusal.TheVariants.{CountAboveLimit, WrongLength}
use Rattle.tables.specs.Answers.{number_of, refuse_if}
use Rattle.tables.specs.Limits.{limit2}
use Rattle.tables.specs.Conditions.{any_above}
use Rattle.blocks.specs.Block.{block}
use Rattle.row_sums.specs.RowSums.{replace_block}
use Rattle.tables.specs.Numbered.{numbered_with}

-- A block that has not nine numbers is refusal 2, which comes after refusal 1.
unfoldable pub replace_call : List Float → List Float → List Float → ℕ → ℕ → ℕ → ℕ × List Float × List Float
replace_call set sums new i j n =
    cond (eqb (length new) 9)
    (numbered_with (replace_block set sums new i j n))
    (number_of (refuse_if (any_above limit2 (n ∷ [])) CountAboveLimit (Err WrongLength)), set, sums)

-- nine numbers, read as a block
pub read_whole_lem : (xs : List Float) → length xs ≡ 9 → block 9 0 xs ≡ xs
unfolding block
read_whole_lem xs e = sym (is_tab nan 9 (λ k. get_or xs (0 * 9 + k) nan) xs e (λ k h. ap (λ q. get_or xs q nan) (from_start k)))
  where
    from_start : (k : ℕ) → k ≡ 0 * 9 + k
    from_start k = omega arith

module _ (set sums new : List Float) (i j n : ℕ) where
  of_nine : length new ≡ 9 → numbered_with (replace_block set sums new i j n) ≡ replace_call set sums new i j n
  unfolding replace_call
  of_nine e = rw (eq-eqb (length new) 9 e)

  of_other : (length new ≡ 9 → ⊥)
      → (number_of (refuse_if (any_above limit2 (n ∷ [])) CountAboveLimit (Err WrongLength)), set, sums) ≡ replace_call set sums new i j n
  unfolding replace_call
  of_other e = rw (ne_eqb (length new) 9 e)

  -- the call, step by step: b is the block read, a the answer, r its number, and the set and the sums as they are left
  pub called : (b : List Float) (a : Answer) (set' sums' : List Float) (r : ℕ) → (a, set', sums') ≡ replace_block set sums b i j n → r ≡ number_of a
      → length new ≡ 9 → b ≡ block 9 0 new → (r, set', sums') ≡ replace_call set sums new i j n
  called b a set' sums' r p q e read =
      ap (λ (k : ℕ). (k, set', sums')) q ∙ ap numbered_with p
      ∙ ap (λ (v : List Float). numbered_with (replace_block set sums v i j n)) (read ∙ read_whole_lem new e)
      ∙ of_nine e

  -- another length: refusal 1 comes before refusal 2
  pub above : (length new ≡ 9 → ⊥) → limit2 < n → (1, set, sums) ≡ replace_call set sums new i j n
  above e h =
      sym (ap (λ (b : Bool). (number_of (refuse_if (b || false) CountAboveLimit (Err WrongLength)), set, sums)) (lt-ltb limit2 n h)) ∙ of_other e

  pub wrong : (length new ≡ 9 → ⊥) → n ≤ limit2 → (2, set, sums) ≡ replace_call set sums new i j n
  wrong e h =
      sym (ap (λ (b : Bool). (number_of (refuse_if (b || false) CountAboveLimit (Err WrongLength)), set, sums)) (le-ltb limit2 n h)) ∙ of_other e
