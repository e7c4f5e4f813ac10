-- A set of numbers in blocks of w: the set's number at place q stands in block q / w, at place q % w of it.
-- The laws hold for every width. Assumes nothing.
use Rattle.std.specs.Prelude.{◌≡◌, cond, List, ◌++◌, ◌⊎◌, ℕ, ◌+◌, ◌*◌, ◌-◌, ◌/◌, ◌%◌, ◌<◌, ◌≤◌, eqb, length, get_or, take, drop, Float}
use Rattle.std.proofs.Common.{sym, ap, ◌∙◌, subst, inl, inr, ⊎_elim, div-add-mod', mod-lt, mul-le-mul_right, arith, eq-eqb, ne_eqb, length-append, length-drop, ext_get_or, get_or-append-add, get_or-take, get_or-drop, length-take-le, drop-drop}
use Rattle.std.proofs.Math.ListN.{get_or-append}
use Rattle.std.specs.Float.Ieee.{nan}
use Rattle.lists.specs.Tab.{tab, length-tab, get_or-tab, is_tab, part-tab}
use Rattle.lists.specs.Cases.{lt_or_le, eq_or_ne}
use Rattle.lists.specs.Digits.{quotient, remainder}

-- block b of xs
unfoldable pub block : ℕ → ℕ → List Float → List Float
block w b xs = tab w (λ k. get_or xs (b * w + k) nan)

-- xs with v in the place of block b
unfoldable pub put_block : ℕ → ℕ → List Float → List Float → List Float
put_block w b v xs = tab (length xs) (λ q. cond (eqb (q / w) b) (get_or v (q % w) nan) (get_or xs q nan))

-- ---- lengths

pub length-block : (w b : ℕ) (xs : List Float) → length (block w b xs) ≡ w
unfolding block
length-block w b xs = length-tab w _

pub length-put_block : (w b : ℕ) (v xs : List Float) → length (put_block w b v xs) ≡ length xs
unfolding put_block
length-put_block w b v xs = length-tab (length xs) _

-- ---- what stands where

pub get_or-block : (w b : ℕ) (xs : List Float) (k : ℕ) → k < w → get_or (block w b xs) k nan ≡ get_or xs (b * w + k) nan
unfolding block
get_or-block w b xs k h = get_or-tab w _ k nan h

module _ (w b : ℕ) (v xs : List Float) (q : ℕ) (h : q < length xs) where
  -- a place of block b
  pub put-inside : q / w ≡ b → get_or (put_block w b v xs) q nan ≡ get_or v (q % w) nan
  unfolding put_block
  put-inside e = get_or-tab (length xs) _ q nan h ∙ rw (eq-eqb (q / w) b e)

  -- a place of another block
  pub put-outside : (q / w ≡ b → ⊥) → get_or (put_block w b v xs) q nan ≡ get_or xs q nan
  unfolding put_block
  put-outside n = get_or-tab (length xs) _ q nan h ∙ rw (ne_eqb (q / w) b n)

-- ---- places of a block

module _ (w b k : ℕ) (h : k < w) where
  pub block_of_lem : (b * w + k) / w ≡ b
  block_of_lem = quotient w b k h

  pub place_of : (b * w + k) % w ≡ k
  place_of = remainder w b k h

-- block b lies inside the list
pub inside : (w b k n : ℕ) → k < w → b * w + w ≤ n → b * w + k < n
inside w b k n h l = omega arith

-- the blocks of a list of n * w numbers
pub fits : (w b n : ℕ) → b < n → b * w + w ≤ n * w
fits w b n h = omega (arith, mul-le-mul_right w h)

-- ---- reading after writing

module _ (w b : ℕ) (v xs : List Float) where
  -- the block that was written
  pub block-put : length v ≡ w → b * w + w ≤ length xs → block w b (put_block w b v xs) ≡ v
  block-put e l =
      ext_get_or nan (block w b (put_block w b v xs)) v (length-block w b (put_block w b v xs) ∙ sym e)
      (λ k g.
      let h : k < w = subst (λ (n : ℕ). k < n) (length-block w b (put_block w b v xs)) g in
      get_or-block w b (put_block w b v xs) k h
      ∙ put-inside w b v xs (b * w + k) (inside w b k (length xs) h l) (block_of_lem w b k h)
      ∙ ap (λ n. get_or v n nan) (place_of w b k h))

  -- another block
  pub block-put-other : (c : ℕ) → (c ≡ b → ⊥) → c * w + w ≤ length xs → block w c (put_block w b v xs) ≡ block w c xs
  block-put-other c n l =
      ext_get_or nan (block w c (put_block w b v xs)) (block w c xs) (length-block w c (put_block w b v xs) ∙ sym (length-block w c xs))
      (λ k g.
      let h : k < w = subst (λ (n : ℕ). k < n) (length-block w c (put_block w b v xs)) g in
      get_or-block w c (put_block w b v xs) k h
      ∙ put-outside w b v xs (c * w + k) (inside w c k (length xs) h l) (λ e. n (sym (block_of_lem w c k h) ∙ e))
      ∙ sym (get_or-block w c xs k h))

-- ---- two writes

module _ (w : ℕ) (u v xs : List Float) where
  -- to different blocks: the order does not matter
  pub put-put-other : (b c : ℕ) → (b ≡ c → ⊥) → put_block w b u (put_block w c v xs) ≡ put_block w c v (put_block w b u xs)
  put-put-other b c n =
      let s = put_block w c v xs in
      let t = put_block w b u xs in
      let ls : length s ≡ length xs = length-put_block w c v xs in
      let lt : length t ≡ length xs = length-put_block w b u xs in
      let le : length (put_block w b u s) ≡ length xs = length-put_block w b u s ∙ ls in
      ext_get_or nan (put_block w b u s) (put_block w c v t) (le ∙ sym (length-put_block w c v t ∙ lt))
      (λ q g.
      let h : q < length xs = subst (λ (n : ℕ). q < n) le g in
      let hs : q < length s = subst (λ (n : ℕ). q < n) (sym ls) h in
      let ht : q < length t = subst (λ (n : ℕ). q < n) (sym lt) h in
      ⊎_elim
      (λ (e : q / w ≡ b).
      put-inside w b u s q hs e ∙ sym (put-outside w c v t q ht (λ d. n (sym e ∙ d)) ∙ put-inside w b u xs q h e))
      (λ (e : q / w ≡ b → ⊥).
      put-outside w b u s q hs e
      ∙ ⊎_elim
      (λ (d : q / w ≡ c). put-inside w c v xs q h d ∙ sym (put-inside w c v t q ht d))
      (λ (d : q / w ≡ c → ⊥). put-outside w c v xs q h d ∙ sym (put-outside w c v t q ht d ∙ put-outside w b u xs q h e))
      (eq_or_ne (q / w) c))
      (eq_or_ne (q / w) b))

  -- to the same block: the last one holds
  pub put-put : (b : ℕ) → put_block w b u (put_block w b v xs) ≡ put_block w b u xs
  put-put b =
      let s = put_block w b v xs in
      let ls : length s ≡ length xs = length-put_block w b v xs in
      let le : length (put_block w b u s) ≡ length xs = length-put_block w b u s ∙ ls in
      ext_get_or nan (put_block w b u s) (put_block w b u xs) (le ∙ sym (length-put_block w b u xs))
      (λ q g.
      let h : q < length xs = subst (λ (n : ℕ). q < n) le g in
      let hs : q < length s = subst (λ (n : ℕ). q < n) (sym ls) h in
      ⊎_elim
      (λ (e : q / w ≡ b). put-inside w b u s q hs e ∙ sym (put-inside w b u xs q h e))
      (λ (e : q / w ≡ b → ⊥). put-outside w b u s q hs e ∙ put-outside w b v xs q h e ∙ sym (put-outside w b u xs q h e))
      (eq_or_ne (q / w) b))

-- ---- what the rule for `&xs[at..at + w]` gives is the block, and a changed part that comes back is the block written

width : (at w : ℕ) → at + w - at ≡ w
width at w = omega arith

pub part-block : (w b : ℕ) (xs : List Float) → b * w + w ≤ length xs → take (b * w + w - b * w) (drop (b * w) xs) ≡ block w b xs
unfolding block
part-block w b xs h = rw width (part-tab nan (b * w) w xs h)

-- by the part in front, the block and the part behind
module _ (w b : ℕ) (v xs : List Float) (e : length v ≡ w) (l : b * w + w ≤ length xs) where
  abbrev joined : List Float
  joined = take (b * w) xs ++ (v ++ drop (b * w + w) xs)

  in_front : length (take (b * w) xs) ≡ b * w
  in_front = length-take-le (b * w) xs (omega arith)

  at_front : (q : ℕ) → q < b * w → get_or joined q nan ≡ get_or xs q nan
  at_front q h = get_or-append (take (b * w) xs) (v ++ drop (b * w + w) xs) nan q (rw in_front h) ∙ get_or-take (b * w) xs q nan h

  past-front : (k : ℕ) → get_or joined (b * w + k) nan ≡ get_or (v ++ drop (b * w + w) xs) k nan
  past-front k =
      ap (λ n. get_or joined (n + k) nan) (sym in_front) ∙ get_or-append-add (take (b * w) xs) (v ++ drop (b * w + w) xs) k nan

  at_block : (k : ℕ) → k < w → get_or joined (b * w + k) nan ≡ get_or v k nan
  at_block k h = past-front k ∙ get_or-append v (drop (b * w + w) xs) nan k (rw e h)

  at_back : (k : ℕ) → get_or joined (b * w + (w + k)) nan ≡ get_or xs (b * w + (w + k)) nan
  at_back k =
      past-front (w + k) ∙ ap (λ n. get_or (v ++ drop (b * w + w) xs) (n + k) nan) (sym e)
      ∙ get_or-append-add v (drop (b * w + w) xs) k nan ∙ get_or-drop (b * w + w) xs k nan
      ∙ ap (λ n. get_or xs n nan) (omega arith)

  at_place : (q : ℕ) → 0 < w → get_or joined q nan ≡ cond (eqb (q / w) b) (get_or v (q % w) nan) (get_or xs q nan)
  at_place q hw =
      ⊎_elim
      (λ (h : q / w ≡ b).
      let s : q ≡ b * w + q % w = sym (div-add-mod' q w) ∙ ap (λ n. n * w + q % w) h in
      rw (eq-eqb (q / w) b h) (ap (λ n. get_or joined n nan) s ∙ at_block (q % w) (mod-lt q hw)))
      (λ (h : q / w ≡ b → ⊥).
      rw (ne_eqb (q / w) b h)
      (⊎_elim (at_front q) (λ (g : b * w ≤ q). behind h g (lt_or_le q (b * w + w))) (lt_or_le q (b * w))))
      (eq_or_ne (q / w) b)
    where
      behind : (q / w ≡ b → ⊥) → b * w ≤ q → (q < b * w + w) ⊎ (b * w + w ≤ q) → get_or joined q nan ≡ get_or xs q nan
      behind h g (inl i) = let s : q ≡ b * w + (q - b * w) = omega arith in absurd (h (ap (λ n. n / w) s ∙ block_of_lem w b (q - b * w) (omega arith)))
      behind h g (inr i) = let s : q ≡ b * w + (w + (q - (b * w + w))) = omega arith in ap (λ n. get_or joined n nan) s ∙ at_back (q - (b * w + w)) ∙ ap (λ n. get_or xs n nan) (sym s)

pub back_put : {ys v : List Float} (w b : ℕ) (xs : List Float) → 0 < w → b * w + w ≤ length xs → ys ≡ v → length v ≡ w
    → take (b * w) xs ++ (ys ++ drop (b * w + w - b * w) (drop (b * w) xs)) ≡ put_block w b v xs
unfolding put_block
back_put {ys} {v} w b xs hw l e eb =
    rw (e, width, drop-drop)
    (is_tab nan (length xs) _ (joined w b v xs eb l)
    (simp (length-append, length-drop, in_front w b v xs eb l, eb) (omega arith))
    (λ q h. at_place w b v xs eb l q hw))
