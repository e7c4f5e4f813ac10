-- Row sums that were right stay right over any series of edits on the grid, and each edit leaves all else alone (document 02, A.10).
-- Assumes nothing.
use Rattle.std.specs.Prelude.{◌≡◌, refl, ◌⊎◌, true, false, List, [], ◌∷◌, ℕ, ◌+◌, ◌*◌, ◌/◌, ◌%◌, ◌≤◌, ◌<◌, length, replicate, Float}
use Rattle.std.proofs.Common.{sym, ap₂, ◌∙◌, inl, inr, mod-lt, div-lt_iff_lt-mul, suc-ne-zero, arith, lit<}
use Rattle.std.proofs.Math.Path.{ap}
use Rattle.std.proofs.Math.ListN.{get_or}
use Rattle.std.proofs.lemmas.List.{get_or-replicate}
use Rattle.std.specs.Float.Ieee.{nan, binary64, of_bits, add}
use Rattle.lists.specs.Cases.{eq_or_ne}
use Rattle.lists.specs.Digits.{quotient, remainder}
use Rattle.lists.specs.Tab.{length-tab, get_or-tab, is_tab, times-same}
use Rattle.lists.specs.Tests.{split, every-at}
use Rattle.tables.specs.Answers.{Answer}
use Rattle.tables.specs.Answers.{is_refusal, after, after_refusal, after-done}
use Rattle.blocks.specs.Block.{block, put_block, get_or-block, length-put_block, put-inside, put-outside, block-put, block-put-other, fits}
use Rattle.lines.specs.Sums3x3.{get_or-nine, in_nine, block_at}
use Rattle.lines.specs.Lines.{place_in, block_fits}
use Rattle.grid.specs.Grid.{on_grid, nine_on_grid}
use Rattle.grid.specs.Sums.{pass_over, AllOnGrid}
use Rattle.grid.specs.Edits.{edited, ButAt}
use Rattle.grid.proofs.EditsLaws.{stays-right}
use Rattle.row_sums.specs.RowSums.{block_entry, row_sums, corrected, judged_replace, replaced, replace_block}
use Rattle.row_sums.specs.Calls.{Accepted, accepted, block_in}
use Rattle.row_sums.specs.Right.{OnGrid, Right, Edit, after_all, Alone}

-- ---- places

same_block : (n a j i l : ℕ) → j < n → l < n → a * n + j ≡ i * n + l → (a ≡ i) × (j ≡ l)
same_block n a j i l hj hl e = (sym (quotient n a j hj) ∙ ap (λ q. q / n) e ∙ quotient n i l hl, sym (remainder n a j hj) ∙ ap (λ q. q % n) e ∙ remainder n i l hl)

atom_of_lem : (n q : ℕ) → q < n * 9 → q / 9 < n
atom_of_lem n q h = (div-lt_iff_lt-mul (lit< tt)).1 h

pub length-row_sums : (n : ℕ) (set : List Float) → length (row_sums n set) ≡ n * 9
unfolding row_sums
length-row_sums n set = length-tab (n * 9) _

-- ---- one edit that is not refused

module _ (n : ℕ) (set sums new : List Float) (i j : ℕ) (G : OnGrid n set) (F : sums ≡ row_sums n set) (small : n ≤ 1024) (hi : i < n) (hj : j < n)
    (new-on : nine_on_grid new ≡ true) where
  abbrev b : ℕ
  b = i * n + j

  abbrev set' : List Float
  set' = put_block 9 b new set

  abbrev sums' : List Float
  sums' = put_block 9 i (corrected (block 9 i sums) (block 9 b set) new) sums

  sums-long : length sums ≡ n * 9
  sums-long = ap length F ∙ length-row_sums n set

  -- sum q before
  right-at : (q : ℕ) → q < n * 9 → get_or sums q nan ≡ pass_over n (block_entry n set (q / 9) (q % 9))
  unfolding row_sums
  right-at q h = ap (λ l. get_or l q nan) F ∙ get_or-tab (n * 9) _ q nan h

  -- the numbers of the new set
  here : (k : ℕ) → k < 9 → block_entry n set' i k j ≡ get_or new k nan
  here k hk = put-inside 9 b new set (b * 9 + k) (rw G.long (place_in n n i j k hi hj hk)) (quotient 9 b k hk) ∙ ap (λ k. get_or new k nan) (remainder 9 b k hk)

  elsewhere : (q : ℕ) → q < n * n * 9 → (q / 9 ≡ b → ⊥) → get_or set' q nan ≡ get_or set q nan
  elsewhere q hq d = put-outside 9 b new set q (rw G.long hq) d

  pub stays-on-grid : (q : ℕ) → q < n * n * 9 → on_grid (get_or set' q nan) ≡ true
  stays-on-grid q hq = go (eq_or_ne (q / 9) b)
    where
      go : (q / 9 ≡ b) ⊎ (q / 9 ≡ b → ⊥) → on_grid (get_or set' q nan) ≡ true
      go (inl e) =
          ap on_grid (put-inside 9 b new set q (rw G.long hq) e)
          ∙ (unfold nine_on_grid in every-at 9 (λ k. on_grid (get_or new k nan)) new-on (q % 9) (mod-lt q (lit< tt)))
      go (inr d) = ap on_grid (elsewhere q hq d) ∙ G.entries q hq

  -- another atom's row is as it was, and so is atom i's but for block j
  other_row : (a k l : ℕ) → a < n → l < n → k < 9 → (a ≡ i → ⊥) → block_entry n set' a k l ≡ block_entry n set a k l
  other_row a k l ha hl hk d =
      elsewhere ((a * n + l) * 9 + k) (place_in n n a l k ha hl hk) (λ e. d (same_block n a l i j hl hj (sym (quotient 9 (a * n + l) k hk) ∙ e)).0)

  row_but : (k : ℕ) → k < 9 → ButAt n j (block_entry n set i k) (block_entry n set' i k)
  row_but k hk l hl d =
      elsewhere ((i * n + l) * 9 + k) (place_in n n i l k hi hl hk) (λ e. d (same_block n i l i j hl hj (sym (quotient 9 (i * n + l) k hk) ∙ e)).1)

  row-grid : (k : ℕ) → k < 9 → AllOnGrid n (block_entry n set i k)
  row-grid k hk l hl = G.entries ((i * n + l) * 9 + k) (place_in n n i l k hi hl hk)

  row-grid' : (k : ℕ) → k < 9 → AllOnGrid n (block_entry n set' i k)
  row-grid' k hk l hl = stays-on-grid ((i * n + l) * 9 + k) (place_in n n i l k hi hl hk)

  same-pass : (a k : ℕ) → a < n → k < 9 → (a ≡ i → ⊥) → pass_over n (block_entry n set a k) ≡ pass_over n (block_entry n set' a k)
  unfolding pass_over
  same-pass a k ha hk d = times-same n _ _ _ (λ l hl s. ap (add binary64 s) (sym (other_row a k l ha hl hk d)))

  -- sum q is one of atom i's: less the old number, plus the new
  own-sum : (q : ℕ) → q < n * 9 → q / 9 ≡ i → get_or sums' q nan ≡ pass_over n (block_entry n set' (q / 9) (q % 9))
  own-sum q h e =
      let k = q % 9 in
      let hk : k < 9 = in_nine q in
      put-inside 9 i (corrected (block 9 i sums) (block 9 b set) new) sums q (rw sums-long h) e
      ∙ get_or-nine (λ p. edited (get_or (block 9 i sums) p nan) (get_or (block 9 b set) p nan) (get_or new p nan)) k hk
      ∙ ap₂ (λ s o. edited s o (get_or new k nan)) (block_at i sums q e ∙ right-at q h ∙ ap (λ a. pass_over n (block_entry n set a k)) e) (get_or-block 9 b set k hk)
      ∙ ap (λ v. edited (pass_over n (block_entry n set i k)) (block_entry n set i k j) v) (sym (here k hk))
      ∙ stays-right n j (block_entry n set i k) (block_entry n set' i k) small hj (row-grid k hk) (row-grid' k hk) (row_but k hk)
      ∙ ap (λ a. pass_over n (block_entry n set' a k)) (sym e)

  -- or another atom's
  other-sum : (q : ℕ) → q < n * 9 → (q / 9 ≡ i → ⊥) → get_or sums' q nan ≡ pass_over n (block_entry n set' (q / 9) (q % 9))
  other-sum q h d =
      put-outside 9 i (corrected (block 9 i sums) (block 9 b set) new) sums q (rw sums-long h) d
      ∙ right-at q h ∙ same-pass (q / 9) (q % 9) (atom_of_lem n q h) (in_nine q) d

  pub right-after : Right n set' sums'
  unfolding row_sums
  right-after = record {
    grid = record { long = length-put_block 9 b new set ∙ G.long; entries = stays-on-grid };
    fresh = is_tab nan (n * 9) _ sums' (length-put_block 9 i _ sums ∙ sums-long) (λ q h. at_place q h (eq_or_ne (q / 9) i));
  }
    where
      at_place : (q : ℕ) → q < n * 9 → (q / 9 ≡ i) ⊎ (q / 9 ≡ i → ⊥) → get_or sums' q nan ≡ pass_over n (block_entry n set' (q / 9) (q % 9))
      at_place q h (inl e) = own-sum q h e
      at_place q h (inr d) = other-sum q h d

-- ---- one call, refused or not, with any count

-- the count of a call that is not refused is that of the sums
same_count : (n m l : ℕ) → l ≡ n * 9 → l ≡ m * 9 → m ≡ n
same_count n m l e f = omega arith

module _ (n : ℕ) (set sums new : List Float) (i j m : ℕ) (R : Right n set sums) where
  abbrev answer : Answer
  answer = judged_replace set (length sums) new i j m

  abbrev set_after : List Float
  set_after = put_block 9 (i * m + j) new set

  abbrev sums_after : List Float
  sums_after = put_block 9 i (corrected (block 9 i sums) (block 9 (i * m + j) set) new) sums

  done-right : Accepted set (length sums) new i j m → m ≡ n → Right n set_after sums_after
  done-right A e =
      let r = A.ready in
      let small : n ≤ 1024 = rw e at r.sized.small in
      let hi : i < n = rw e at r.first in
      let hj : j < n = rw e at r.second in
      rw e (right-after n set sums new i j R.grid R.fresh small hi hj A.new-on)

  by_answer : (is_refusal answer ≡ true) ⊎ (is_refusal answer ≡ false) → Right n (after answer set_after set) (after answer sums_after sums)
  by_answer (inl r) = rw (after_refusal answer set_after set r, after_refusal answer sums_after sums r) R
  by_answer (inr r) =
      let A = accepted set (length sums) new i j m r in
      rw (after-done answer set_after set r, after-done answer sums_after sums r)
      (done-right A (same_count n m (length sums) (ap length R.fresh ∙ length-row_sums n set) A.ready.sums-long))

  pub one_edit : Right n (replace_block set sums new i j m).1 (replace_block set sums new i j m).2
  unfolding replace_block replaced
  one_edit = by_answer (split (is_refusal answer))

-- ANY SERIES OF EDITS: the sums stay bit-equal to a fresh pass, and the set stays on the grid
pub series : (n : ℕ) (es : List Edit) (set sums : List Float) → Right n set sums → Right n (after_all es (set, sums)).0 (after_all es (set, sums)).1
unfolding after_all
series n [] set sums R = R
series n (e ∷ es) set sums R =
    series n es (replace_block set sums e.new e.i e.j e.n).1 (replace_block set sums e.new e.i e.j e.n).2
    (one_edit n set sums e.new e.i e.j e.n R)

-- ---- WHAT AN EDIT LEAVES ALONE

module _ (set sums new : List Float) (i j n : ℕ) where
  abbrev judged : Answer
  judged = judged_replace set (length sums) new i j n

  abbrev new_sums : List Float
  new_sums = corrected (block 9 i sums) (block 9 (i * n + j) set) new

  blocks-by : (is_refusal judged ≡ true) ⊎ (is_refusal judged ≡ false) → (a c : ℕ) → a < n → c < n → ((a ≡ i) × (c ≡ j) → ⊥)
      → block 9 (a * n + c) (after judged (put_block 9 (i * n + j) new set) set) ≡ block 9 (a * n + c) set
  blocks-by (inl r) a c ha hc d = ap (block 9 (a * n + c)) (after_refusal judged (put_block 9 (i * n + j) new set) set r)
  blocks-by (inr r) a c ha hc d =
      let R = (accepted set (length sums) new i j n r).ready in
      ap (block 9 (a * n + c)) (after-done judged (put_block 9 (i * n + j) new set) set r)
      ∙ block-put-other 9 (i * n + j) new set (a * n + c) (λ e. d (same_block n a c i j hc R.second e)) (block_fits R.sized a c ha hc)

  sums_by : (is_refusal judged ≡ true) ⊎ (is_refusal judged ≡ false) → (a : ℕ) → a < n → (a ≡ i → ⊥)
      → block 9 a (after judged (put_block 9 i new_sums sums) sums) ≡ block 9 a sums
  sums_by (inl r) a ha d = ap (block 9 a) (after_refusal judged (put_block 9 i new_sums sums) sums r)
  sums_by (inr r) a ha d =
      let l = (accepted set (length sums) new i j n r).ready.sums-long in
      ap (block 9 a) (after-done judged (put_block 9 i new_sums sums) sums r) ∙ block-put-other 9 i new_sums sums a d (rw l (fits 9 a n ha))

  stored-by : is_refusal judged ≡ false → length new ≡ 9 → block 9 (i * n + j) (after judged (put_block 9 (i * n + j) new set) set) ≡ new
  stored-by r e =
      let R = (accepted set (length sums) new i j n r).ready in
      ap (block 9 (i * n + j)) (after-done judged (put_block 9 (i * n + j) new set) set r) ∙ block-put 9 (i * n + j) new set e (block_in R)

  pub alone : Alone set sums new i j n
  unfolding replace_block replaced
  alone = record { blocks = blocks-by (split (is_refusal judged)); sums_of = sums_by (split (is_refusal judged)); stored = stored-by }

-- ---- THE LAWS USED: two atoms, every number 1.0; a call with another count, which is refused, between two that are done

abbrev one : Float
one = of_bits binary64 0x3ff0_0000_0000_0000

abbrev ones : List Float
ones = replicate 36 one

abbrev edits : List Edit
edits =
    record { new = replicate 9 (of_bits binary64 0x4000_0000_0000_0000); i = 0; j = 1; n = 2 }
    ∷ record { new = replicate 9 one; i = 0; j = 1; n = 3 }
    ∷ record { new = replicate 9 (of_bits binary64 0); i = 1; j = 1; n = 2 } ∷ []

ones-right : Right 2 ones (row_sums 2 ones)
unfolding on_grid of_bits
ones-right = record { grid = record { long = refl; entries = λ q h. ap on_grid (get_or-replicate 36 q one nan h) }; fresh = refl }

pub three-edits : let r = after_all edits (ones, row_sums 2 ones) in r.1 ≡ row_sums 2 r.0
three-edits = (series 2 edits ones (row_sums 2 ones) ones-right).fresh

-- the first of them leaves block (1, 0) and the sums of atom 1
pub others-stay : let r = replace_block ones (row_sums 2 ones) (replicate 9 one) 0 1 2 in (block 9 2 r.1 ≡ block 9 2 ones) × (block 9 1 r.2 ≡ block 9 1 (row_sums 2 ones))
others-stay =
    let a = alone ones (row_sums 2 ones) (replicate 9 one) 0 1 2 in
    (a.blocks 1 0 (lit< tt) (lit< tt) (λ (e, _). suc-ne-zero 0 e), a.sums_of 1 (lit< tt) (λ e. suc-ne-zero 0 e))
