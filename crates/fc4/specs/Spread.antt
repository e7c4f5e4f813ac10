-- The means of a group written to its blocks as whole values: where permutations lead to the same block, each of its places gets the mean of
-- the greatest position that is written there. That is what the stores position after position leave. Assumes nothing.
use Rattle.std.specs.Prelude.{◌≡◌, ◌⊎◌, true, false, cond, List, [], ◌∷◌, replicate, Float}
use Rattle.std.proofs.Math.Path.{refl, sym, ap}
use Rattle.std.proofs.Common.{ap₂, ◌∙◌, le_of_suc-le-suc, not-suc-le-zero, div-add-mod', mod-lt, lit<, eqb-true, eq-eqb, ne_eqb}
use Rattle.std.proofs.Math.Logic.{inl, inr}
use Prim.Native.Nat.{ℕ, zero, suc, ◌+◌, ◌*◌, ◌/◌, ◌%◌, ◌≤◌, ◌<◌, max}
use Rattle.std.proofs.Math.Decide.{ℕ_discrete, dec_le}
use native.Mathlib.Omega.{arith}
use Rattle.std.proofs.Math.Dec.{eqb}
use Rattle.std.proofs.Math.ListN.{length, get_or, get_or-replicate}
use Rattle.std.proofs.Math.Seq.{ext_get_or}
use Rattle.std.specs.Float.Ieee.{nan}
use Rattle.lists.specs.Tests.{some, some_at, some_of, split, not-both}
use Rattle.lists.specs.Tab.{tab, get_or-tab, is_tab, times}
use Rattle.lists.specs.Digits.{quotient, remainder}
use Rattle.lists.specs.Members.{In}
use Rattle.blocks.specs.Block.{put_block, length-put_block, put-inside, put-outside}
use Rattle.blocks.specs.Permuted.{permuted, permuted_block}
use Rattle.places.specs.Permutations.{perms4}
use Rattle.orbits.specs.Blockwise.{in_block}
use Rattle.orbits.specs.Spread.{set_all}
use Rattle.orbits.specs.Groups.{spots, spread_block}
use Rattle.orbits.proofs.Scatter.{length_stores, stores_at, stores_out}
use Rattle.positions.specs.Positions.{permutation_at, in81, permuted_in}
use Rattle.positions.specs.Inverses.{inverse_of, inverse-below, there, back}
use Rattle.fc4.specs.Mean.{spots-count, spot_is}

-- place by place the later of the position in m and the one that permutation s gives
unfoldable pub later_of : ℕ → List ℕ → List ℕ
later_of s m = tab 81 (λ k. max (get_or m k 0) (permuted 3 (permutation_at s) k))

-- the same if permutation s leads to block b: its inverse tells which position a place of the block is written from
unfoldable pub later_if_shared : List ℕ → ℕ → ℕ → List ℕ → List ℕ
later_if_shared bs b s m = cond (eqb (get_or bs s 0) b) (later_of (inverse_of s) m) m

-- the last position that is written to each place of block b
unfoldable pub sources_of : List ℕ → ℕ → List ℕ
unfolding later_if_shared
sources_of bs b = times 24 (later_if_shared bs b) (replicate 81 0)

-- a list of positions, as a rule
abbrev pub written_at : List ℕ → ℕ → ℕ
written_at m k = get_or m k 0

-- block b made of the means v, and 24 blocks written so
unfoldable pub made_of : List ℕ → List Float → ℕ → List Float
unfolding sources_of
made_of bs v b = permuted_block 81 (written_at (sources_of bs b)) v

unfoldable pub put_blocks : List ℕ → List Float → List Float → List Float
unfolding made_of
put_blocks bs v xs = times 24 (λ s. put_block 81 (get_or bs s 0) (made_of bs v (get_or bs s 0))) xs

-- the next permutation, from permutation s on, whose block no earlier one leads to: an earlier one leads to each block that is passed over
pub record NextBlock (bs : List ℕ) (s r : ℕ) : Type 0 where
  pub from : s ≤ r
  pub to : r ≤ 24
  pub passed : (j : ℕ) → s ≤ j → j < r → (i : ℕ) × (i < j) × (get_or bs i 0 ≡ get_or bs j 0)

-- ---- members by their places

in_at : (l : List ℕ) (k : ℕ) → k < length l → In (get_or l k 0) l
in_at [] k h = absurd (not-suc-le-zero h)
in_at (x ∷ xs) zero h = inl refl
in_at (x ∷ xs) (suc k) h = inr (in_at xs k (le_of_suc-le-suc h))

at_in : (l : List ℕ) (a : ℕ) → In a l → (k : ℕ) × (k < length l) × (get_or l k 0 ≡ a)
at_in [] a i = absurd i
at_in (x ∷ xs) a (inl e) = (0, omega arith, sym e)
at_in (x ∷ xs) a (inr i) = let (k, h, e) = at_in xs a i in (suc k, omega arith, e)

-- ---- the sources of a block

module _ (bs : List ℕ) (b : ℕ) where
  -- after the first n permutations
  abbrev up_to : ℕ → List ℕ
  up_to n = times n (later_if_shared bs b) (replicate 81 0)

  abbrev from : ℕ → ℕ → ℕ
  from s p = permuted 3 (permutation_at (inverse_of s)) p

  -- one permutation more
  more-shared : (n p : ℕ) → p < 81 → get_or bs n 0 ≡ b → get_or (up_to (suc n)) p 0 ≡ max (get_or (up_to n) p 0) (from n p)
  unfolding times later_if_shared later_of
  more-shared n p hp e = rw (eq-eqb (get_or bs n 0) b e) (get_or-tab 81 (λ k. max (get_or (up_to n) k 0) (permuted 3 (permutation_at (inverse_of n)) k)) p 0 hp)

  more-other : (n p : ℕ) → (get_or bs n 0 ≡ b → ⊥) → get_or (up_to (suc n)) p 0 ≡ get_or (up_to n) p 0
  unfolding times later_if_shared
  more-other n p e = rw (ne_eqb (get_or bs n 0) b e) refl

  -- none that leads to the block is later
  source-last : (n s p : ℕ) → s < n → p < 81 → get_or bs s 0 ≡ b → from s p ≤ get_or (up_to n) p 0
  source-last zero s p h hp e = absurd (not-suc-le-zero h)
  source-last (suc n) s p h hp e = go (ℕ_discrete (get_or bs n 0) b) (ℕ_discrete s n) (λ l. source-last n s p l hp e)
    where
      go : Dec (get_or bs n 0 ≡ b) → Dec (s ≡ n) → (s < n → from s p ≤ get_or (up_to n) p 0) → from s p ≤ get_or (up_to (suc n)) p 0
      go (yes f) (yes g) r = let m = more-shared n p hp f in let q : from s p ≡ from n p = ap (λ s. from s p) g in omega arith
      go (yes f) (no g) r = let m = more-shared n p hp f in let i = r (omega arith) in omega arith
      go (no f) (yes g) r = absurd (f (ap (λ s. get_or bs s 0) (sym g) ∙ e))
      go (no f) (no g) r = let m = more-other n p f in let i = r (omega arith) in omega arith

  -- it is the position of a permutation that leads to the block, if one does
  abbrev Source : ℕ → ℕ → Type 0
  Source n p = (s : ℕ) × (s < n) × (get_or bs s 0 ≡ b) × (get_or (up_to n) p 0 ≡ from s p)

  either : (n p s : ℕ) → Dec (from n p ≤ get_or (up_to n) p 0) → get_or (up_to (suc n)) p 0 ≡ max (get_or (up_to n) p 0) (from n p)
      → s < n → get_or bs s 0 ≡ b → get_or bs n 0 ≡ b → get_or (up_to n) p 0 ≡ from s p → Source (suc n) p
  either n p s (yes l) t h e f m = (s, omega arith, e, omega arith)
  either n p s (no l) t h e f m = (n, omega arith, f, omega arith)

  source_one : (n p : ℕ) → p < 81 → (get_or (up_to n) p 0 ≡ 0) ⊎ Source n p
  source_one zero p hp = inl (unfold times in get_or-replicate 81 p 0 0 hp)
  source_one (suc n) p hp = go (ℕ_discrete (get_or bs n 0) b) (source_one n p hp)
    where
      go : Dec (get_or bs n 0 ≡ b) → (get_or (up_to n) p 0 ≡ 0) ⊎ Source n p → (get_or (up_to (suc n)) p 0 ≡ 0) ⊎ Source (suc n) p
      go (no f) (inl z) = inl (more-other n p f ∙ z)
      go (no f) (inr (s, h, e, m)) = inr (s, omega arith, e, more-other n p f ∙ m)
      go (yes f) (inl z) = let m = more-shared n p hp f in inr (n, omega arith, f, omega arith)
      go (yes f) (inr (s, h, e, m)) = inr (either n p s (dec_le (from n p) (get_or (up_to n) p 0)) (more-shared n p hp f) h e f m)

  pub source_of : (s p : ℕ) → s < 24 → p < 81 → get_or bs s 0 ≡ b → (r : ℕ) × (r < 24) × (get_or bs r 0 ≡ b) × (get_or (sources_of bs b) p 0 ≡ from r p)
  unfolding sources_of
  source_of s p hs hp e = go (source_one 24 p hp)
    where
      go : (get_or (up_to 24) p 0 ≡ 0) ⊎ Source 24 p → (r : ℕ) × (r < 24) × (get_or bs r 0 ≡ b) × (get_or (up_to 24) p 0 ≡ from r p)
      go (inr r) = r
      go (inl z) = let l = source-last 24 s p hs hp e in (s, hs, e, omega arith)

  pub source-greatest : (s p : ℕ) → s < 24 → p < 81 → get_or bs s 0 ≡ b → from s p ≤ get_or (sources_of bs b) p 0
  unfolding sources_of
  source-greatest s p hs hp e = source-last 24 s p hs hp e

  pub sources_below : (p : ℕ) → p < 81 → get_or (sources_of bs b) p 0 < 81
  unfolding sources_of
  sources_below p hp = go (source_one 24 p hp)
    where
      go : (get_or (up_to 24) p 0 ≡ 0) ⊎ Source 24 p → get_or (up_to 24) p 0 < 81
      go (inl z) = omega arith
      go (inr (s, h, e, m)) = let l = permuted_in (inverse_of s) p (inverse-below s h) hp in omega arith

-- ---- whole blocks, one after the other

module _ (bs : List ℕ) (v xs : List Float) where
  abbrev put_to : ℕ → List Float
  put_to n = times n (λ s. put_block 81 (get_or bs s 0) (made_of bs v (get_or bs s 0))) xs

  length-put : (n : ℕ) → length (put_to n) ≡ length xs
  unfolding times
  length-put zero = refl
  length-put (suc n) = length-put_block 81 (get_or bs n 0) (made_of bs v (get_or bs n 0)) (put_to n) ∙ length-put n

  -- a place of one of the blocks, and of none
  put_in : (n q s : ℕ) → q < length xs → s < n → get_or bs s 0 ≡ q / 81 → get_or (put_to n) q nan ≡ get_or (made_of bs v (q / 81)) (q % 81) nan
  unfolding times
  put_in zero q s h hs e = absurd (not-suc-le-zero hs)
  put_in (suc n) q s h hs e = go (ℕ_discrete (get_or bs n 0) (q / 81)) (ℕ_discrete s n) (λ l. put_in n q s h l e)
    where
      go : Dec (get_or bs n 0 ≡ q / 81) → Dec (s ≡ n) → (s < n → get_or (put_to n) q nan ≡ get_or (made_of bs v (q / 81)) (q % 81) nan) → get_or (put_to (suc n)) q nan ≡ get_or (made_of bs v (q / 81)) (q % 81) nan
      go (yes f) d r = put-inside 81 (get_or bs n 0) (made_of bs v (get_or bs n 0)) (put_to n) q (rw (length-put n) h) (sym f) ∙ ap (λ b. get_or (made_of bs v b) (q % 81) nan) f
      go (no f) (yes g) r = absurd (f (ap (λ s. get_or bs s 0) (sym g) ∙ e))
      go (no f) (no g) r = put-outside 81 (get_or bs n 0) (made_of bs v (get_or bs n 0)) (put_to n) q (rw (length-put n) h) (λ t. f (sym t)) ∙ r (omega arith)

  put-out : (n q : ℕ) → q < length xs → ((s : ℕ) → s < n → get_or bs s 0 ≡ q / 81 → ⊥) → get_or (put_to n) q nan ≡ get_or xs q nan
  unfolding times
  put-out zero q h o = refl
  put-out (suc n) q h o =
      put-outside 81 (get_or bs n 0) (made_of bs v (get_or bs n 0)) (put_to n) q (rw (length-put n) h) (λ t. o n (omega arith) (sym t))
      ∙ put-out n q h (λ s l. o s (omega arith))

  -- a block that was written holds what would be written to it again
  again : (n i : ℕ) → i < n → get_or bs i 0 ≡ get_or bs n 0 → put_to (suc n) ≡ put_to n
  unfolding times
  again n i h e = ext_get_or nan (put_to (suc n)) (put_to n) (length-put (suc n) ∙ sym (length-put n)) (λ q l. go q (rw (length-put (suc n)) at l) (ℕ_discrete (get_or bs n 0) (q / 81)))
    where
      go : (q : ℕ) → q < length xs → Dec (get_or bs n 0 ≡ q / 81) → get_or (put_to (suc n)) q nan ≡ get_or (put_to n) q nan
      go q hq (yes f) = put_in (suc n) q n hq (omega arith) f ∙ sym (put_in n q i hq h (e ∙ f))
      go q hq (no f) = put-outside 81 (get_or bs n 0) (made_of bs v (get_or bs n 0)) (put_to n) q (rw (length-put n) hq) (λ t. f (sym t))

  pub passed_over : (n m : ℕ) → n ≤ m → ((j : ℕ) → n ≤ j → j < m → (i : ℕ) × (i < j) × (get_or bs i 0 ≡ get_or bs j 0)) → put_to m ≡ put_to n
  passed_over n zero h o = let e : 0 ≡ n = omega arith in ap put_to e
  passed_over n (suc m) h o = go (ℕ_discrete n (suc m)) (λ l. passed_over n m l (λ j a b. o j a (omega arith)))
    where
      go : Dec (n ≡ suc m) → (n ≤ m → put_to m ≡ put_to n) → put_to (suc m) ≡ put_to n
      go (yes e) r = ap put_to (sym e)
      go (no e) r = let (i, l, f) = o m (omega arith) (omega arith) in again m i l f ∙ r (omega arith)

  -- ---- the spots of a position

  module _ (e : length bs ≡ 24) where
    -- a spot stands in one of the blocks, and its place there tells the position
    spot-from : (q k : ℕ) → k < 81 → In q (spots 3 perms4 bs k) → (r : ℕ) × (r < 24) × (get_or bs r 0 ≡ q / 81) × (permuted 3 (permutation_at (inverse_of r)) (q % 81) ≡ k)
    spot-from q k hk i =
        let (r, h, f) = at_in (spots 3 perms4 bs k) q i in
        let hr : r < 24 = rw (spots-count bs e k) at h in
        let g : get_or bs r 0 * 81 + permuted 3 (permutation_at r) k ≡ q = sym (spot_is bs e k r hr) ∙ f in
        let l = permuted_in r k hr hk in (
          r,
          hr,
          sym (ap (λ x. x / 81) (sym g) ∙ quotient 81 (get_or bs r 0) (permuted 3 (permutation_at r) k) l),
          ap (permuted 3 (permutation_at (inverse_of r))) (ap (λ x. x % 81) (sym g) ∙ remainder 81 (get_or bs r 0) (permuted 3 (permutation_at r) k) l) ∙ back r k hr hk,
        )

    -- a place of a block that permutation r leads to is a spot
    to-spot : (q r k : ℕ) → r < 24 → get_or bs r 0 ≡ q / 81 → k ≡ permuted 3 (permutation_at (inverse_of r)) (q % 81) → In q (spots 3 perms4 bs k)
    to-spot q r k hr f g =
        let hp : q % 81 < 81 = mod-lt q (lit< tt) in
        let s : get_or (spots 3 perms4 bs k) r 0 ≡ q =
        spot_is bs e k r hr ∙ ap₂ (λ b p. b * 81 + p) f (ap (permuted 3 (permutation_at r)) g ∙ there r (q % 81) hr hp) ∙ div-add-mod' q 81 in
        rw s at (in_at (spots 3 perms4 bs k) r (rw (spots-count bs e k) hr))

    -- what the two leave at a place
    at_place : (q : ℕ) → q < length xs → get_or (put_blocks bs v xs) q nan ≡ get_or (spread_block 3 perms4 bs v xs) q nan
    unfolding put_blocks spread_block
    at_place q hq = go (split (some 24 (λ s. eqb (get_or bs s 0) (q / 81))))
      where
        p : ℕ
        p = q % 81

        hp : p < 81
        hp = mod-lt q (lit< tt)

        f : ℕ → List ℕ
        f = spots 3 perms4 bs

        g : ℕ → Float
        g k = get_or v k nan

        d : ℕ
        d = get_or (sources_of bs (q / 81)) p 0

        made : get_or (made_of bs v (q / 81)) p nan ≡ get_or v d nan
        made = unfold made_of permuted_block in get_or-tab 81 (λ k. get_or v (get_or (sources_of bs (q / 81)) k 0) nan) p nan hp

        go : (some 24 (λ s. eqb (get_or bs s 0) (q / 81)) ≡ true) ⊎ (some 24 (λ s. eqb (get_or bs s 0) (q / 81)) ≡ false)
            → get_or (put_to 24) q nan ≡ get_or (times (in_block 3) (λ k. set_all (f k) (g k)) xs) q nan
        go (inl t) =
            let (s, hs, es) = some_at 24 (λ s. eqb (get_or bs s 0) (q / 81)) t in
            let eb : get_or bs s 0 ≡ q / 81 = eqb-true (get_or bs s 0) (q / 81) es in
            let (r, hr, er, dr) = source_of bs (q / 81) s p hs hp eb in
            put_in 24 q s hq hs eb ∙ made
            ∙ sym (stores_at f g xs (in_block 3) d q hq (rw in81 (sources_below bs (q / 81) p hp)) (to-spot q r d hr er dr)
            (λ k a b i.
            let hk : k < 81 = rw in81 at b in
            let (u, hu, eu, ku) = spot-from q k hk i in
            let l = source-greatest bs (q / 81) u p hu hp eu in
            omega arith))
        go (inr t) =
            let none : (s : ℕ) → s < 24 → get_or bs s 0 ≡ q / 81 → ⊥ = λ s hs es. not-both (some_of 24 (λ s. eqb (get_or bs s 0) (q / 81)) s hs (eq-eqb (get_or bs s 0) (q / 81) es)) t in
            put-out 24 q hq none
            ∙ sym (stores_out f g xs (in_block 3) q hq (λ k b i. let (u, hu, eu, ku) = spot-from q k (rw in81 at b) i in none u hu eu))

    -- THE POINT: whole blocks are what the stores position after position leave
    pub blocks_are : put_blocks bs v xs ≡ spread_block 3 perms4 bs v xs
    blocks_are =
        let l : length (put_blocks bs v xs) ≡ length xs = unfold put_blocks in length-put 24 in
        let m : length (spread_block 3 perms4 bs v xs) ≡ length xs = unfold spread_block in length_stores (spots 3 perms4 bs) (λ k. get_or v k nan) xs (in_block 3) in
        ext_get_or nan (put_blocks bs v xs) (spread_block 3 perms4 bs v xs) (l ∙ sym m) (λ q h. at_place q (rw l at h))

-- ---- what the program's steps make

module _ (bs : List ℕ) (b s : ℕ) (m : List ℕ) where
  pub not-shared : (get_or bs s 0 ≡ b → ⊥) → m ≡ later_if_shared bs b s m
  unfolding later_if_shared
  not-shared n = sym (rw (ne_eqb (get_or bs s 0) b n) refl)

  pub is_shared : {r : List ℕ} {i : ℕ} → get_or bs s 0 ≡ b → r ≡ later_of i m → i ≡ inverse_of s → r ≡ later_if_shared bs b s m
  unfolding later_if_shared
  is_shared e f g = f ∙ ap (λ i. later_of i m) g ∙ sym (rw (eq-eqb (get_or bs s 0) b e) refl)

-- a list is block b made of the means, if each of its places has the mean of its source
pub is_made : (bs : List ℕ) (v : List Float) (b : ℕ) (m : List ℕ) (y : List Float) → m ≡ sources_of bs b → length y ≡ 81
    → ((j : ℕ) → j < 81 → get_or y j nan ≡ get_or v (get_or m j 0) nan) → y ≡ made_of bs v b
unfolding made_of permuted_block
is_made bs v b m y e l h = is_tab nan 81 (λ j. get_or v (get_or m j 0) nan) y l h ∙ ap (λ m. permuted_block 81 (written_at m) v) e

-- none passed over yet; permutation n passed over too, because permutation i leads to the same block
pub none_passed : (bs : List ℕ) (s : ℕ) → s ≤ 24 → NextBlock bs s s
none_passed bs s h = record { from = omega arith; to = h; passed = λ j a b. absurd (omega arith) }

pub one-more-passed : (bs : List ℕ) (s n i : ℕ) → NextBlock bs s n → n < 24 → i ≤ n → get_or bs i 0 ≡ get_or bs n 0 → (i ≡ n → ⊥) → NextBlock bs s (n + 1)
one-more-passed bs s n i p h l e d = record {
  from = let f = p.from in omega arith;
  to = omega arith;
  passed = λ j a b. go j a b (ℕ_discrete j n);
}
  where
    go : (j : ℕ) → s ≤ j → j < n + 1 → Dec (j ≡ n) → (i : ℕ) × (i < j) × (get_or bs i 0 ≡ get_or bs j 0)
    go j a b (yes f) = (i, omega arith, e ∙ ap (λ n. get_or bs n 0) (sym f))
    go j a b (no f) = p.passed j a (omega arith)
