-- What the guards of row_sums_fc2 and replace_block_fc2 tell, and what the calls leave by their answers. Assumes nothing.
use Rattle.std.specs.Prelude.{Ok, ◌≡◌, refl, true, false, not, ◌&&◌, ◌||◌, List, [], ◌∷◌, ℕ, ◌+◌, ◌*◌, ◌≤◌, ◌<◌, leb, length, Float}
use Rattle.std.proofs.Common.{sym, ◌∙◌, arith, leb-false}
use Rattle.std.proofs.Math.Path.{ap}
use Rattle.std.proofs.lemmas.Bool.{not-false}
use Rattle.lists.specs.Digits.{horner}
use Rattle.lists.specs.Tests.{and_fst, and_snd}
use Rattle.tables.specs.Answers.{Answer}
use Rattle.tables.specs.declared.Refusal.TheVariants.{IndexOutOfRange, OffGrid}
use Rattle.tables.specs.Answers.{is_refusal, after, and_then, first_refuses, first_passes, both-done, is_done, after_refusal, after-done, passed, refused_call, done_call}
use Rattle.tables.specs.Conditions.{or_false}
use Rattle.tables.specs.Full.{done_full}
use Rattle.tables.specs.Lengths.{set_length2}
use Rattle.tables.specs.Limits.{limit2}
use Rattle.blocks.specs.Block.{block, put_block}
use Rattle.lines.specs.Lines.{Sized, block_fits}
use Rattle.grid.specs.Grid.{nine_on_grid}
use Rattle.row_sums.specs.RowSums.{row_sums, corrected, judged_sums, judged_block, judged_replace, row_sums_fc2, replaced, replace_block}

-- a set of n atoms with nine sums for each, and a block of it
pub record Ready (i j n set sums : ℕ) : Type 0 where
  pub sized : Sized n n set
  pub sums-long : sums ≡ n * 9
  pub first : i < n
  pub second : j < n

-- what replace_block_fc2 knows where it is not refused
pub record Accepted (set : List Float) (lenSums : ℕ) (new : List Float) (i j n : ℕ) : Type 0 where
  pub ready : Ready i j n (length set) lenSums
  pub old-on : nine_on_grid (block 9 (i * n + j) set) ≡ true
  pub new-on : nine_on_grid new ≡ true

-- ---- places

-- the number of a block as it is worked out
pub full_is : {b : ℕ} (n i j : ℕ) → b ≡ horner n i (j ∷ []) → b ≡ i * n + j
unfolding horner
full_is n i j e = e

module _ {i j n set sums : ℕ} (r : Ready i j n set sums) where
  pub block_in : (i * n + j) * 9 + 9 ≤ set
  block_in = block_fits r.sized i j r.first r.second

  pub sums_in : i * 9 + 9 ≤ sums
  sums_in = let h = r.first in let e = r.sums-long in omega arith

-- ---- the guards

module _ (lenSet lenSums n : ℕ) (a : Answer) (e : a ≡ judged_sums lenSet lenSums n) where
  pub lengths_refuse : (next : Answer) → is_refusal a ≡ true → a ≡ and_then (judged_sums lenSet lenSums n) next
  lengths_refuse next h = first_refuses a next h ∙ ap (λ b. and_then b next) e

  pub lengths_pass : (next : Answer) → is_refusal a ≡ false → next ≡ and_then (judged_sums lenSet lenSums n) next
  lengths_pass next h = first_passes a next h ∙ ap (λ b. and_then b next) e

  pub lengths_known : is_refusal a ≡ false → Sized n n lenSet × (lenSums ≡ n * 9)
  lengths_known h =
      let (few, long, others) = done_full limit2 1 lenSet ((lenSums, n * 9) ∷ []) n (sym e ∙ is_done a h) in
      (record { few = few; small = few; long = long ∙ set_length2 n n }, others.0)

pub accepted : (set : List Float) (lenSums : ℕ) (new : List Float) (i j n : ℕ) → is_refusal (judged_replace set lenSums new i j n) ≡ false
    → Accepted set lenSums new i j n
unfolding judged_replace judged_block
accepted set lenSums new i j n r =
    let (e1, e2) = both-done (judged_sums (length set) lenSums n) _ (is_done (judged_replace set lenSums new i j n) r) in
    let (q3, e3) = passed (leb n i || leb n j) IndexOutOfRange _ e2 in
    let (q10, e10) = passed (not (nine_on_grid (block 9 (i * n + j) set) && nine_on_grid new)) OffGrid (Ok tt) e3 in
    let (u, v) = or_false (leb n i) (leb n j) q3 in
    let g = not-false (nine_on_grid (block 9 (i * n + j) set) && nine_on_grid new) q10 in
    let (few, long, others) = done_full limit2 1 (length set) ((lenSums, n * 9) ∷ []) n e1 in
    record {
      ready = record { sized = record { few = few; small = few; long = long ∙ set_length2 n n }; sums-long = others.0; first = leb-false n i u; second = leb-false n j v };
      old-on = and_fst (nine_on_grid (block 9 (i * n + j) set)) (nine_on_grid new) g;
      new-on = and_snd (nine_on_grid (block 9 (i * n + j) set)) (nine_on_grid new) g;
    }

-- ---- the calls by their answers

module _ (sums set : List Float) (n : ℕ) (a : Answer) (e : a ≡ judged_sums (length set) (length sums) n) where
  pub sums-refused : is_refusal a ≡ true → (a, sums) ≡ row_sums_fc2 sums set n
  unfolding row_sums_fc2
  sums-refused h = rw (sym e) (ap (λ l. (a, l)) (sym (after_refusal a (row_sums n set) sums h)))

  pub sums-done : is_refusal a ≡ false → (Ok tt, row_sums n set) ≡ row_sums_fc2 sums set n
  unfolding row_sums_fc2
  sums-done h = rw (sym e) (ap (λ b. (b, row_sums n set)) (sym (is_done a h)) ∙ ap (λ l. (a, l)) (sym (after-done a (row_sums n set) sums h)))

module _ (set sums new : List Float) (i j n : ℕ) (a : Answer) (e : a ≡ judged_replace set (length sums) new i j n) where
  abbrev left : List Float × List Float
  left = replaced set sums new i j n

  pub replace_refused : is_refusal a ≡ true → (a, set, sums) ≡ replace_block set sums new i j n
  unfolding replace_block
  replace_refused h = refused_call a left.0 set left.1 sums h ∙ ap (λ (b : Answer). (b, after b left.0 set, after b left.1 sums)) e

  pub replace_done : is_refusal a ≡ false → (Ok tt, left.0, left.1) ≡ replace_block set sums new i j n
  unfolding replace_block
  replace_done h = done_call a left.0 set left.1 sums h ∙ ap (λ (b : Answer). (b, after b left.0 set, after b left.1 sums)) e

  pub ready_of : is_refusal a ≡ false → Ready i j n (length set) (length sums)
  ready_of h = (accepted set (length sums) new i j n (ap is_refusal (sym e) ∙ h)).ready

-- block (i, j) is block number b; old and s are what was read, t what is written to the sums
pub replaced-by : (set sums new : List Float) (i j n b : ℕ) (set' sums' old s t : List Float) → b ≡ i * n + j → old ≡ block 9 b set → s ≡ block 9 i sums
    → t ≡ corrected s old new → set' ≡ put_block 9 b new set → sums' ≡ put_block 9 i t sums → (set', sums') ≡ replaced set sums new i j n
unfolding replaced
replaced-by set sums new i j n b set' sums' old s t eb eo es et ef eg = rw (ef, eg, et, es, eo, eb) refl
