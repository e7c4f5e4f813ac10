-- Numbers written to their spots in several blocks. Where the blocks all differ, each block is written once, as a whole, with the numbers permuted
-- back: so a program need not go position by position. Assumes nothing.
use mathlib.Core.Path.{◌≡◌, refl, sym, ap, ap₂, ◌∙◌, subst}
use mathlib.Core.Logic.{◌⊎◌, inl, inr}
use mathlib.Core.Bool.{cond}
use Prim.Native.Nat.{ℕ, zero, suc, ◌+◌, ◌*◌, ◌/◌, ◌%◌, ◌<◌}
use native.Mathlib.Nat.{mod-lt, div-add-mod', not-suc-le-zero}
use native.Mathlib.Decide.{ℕ_discrete}
use native.Mathlib.Omega.{arith}
use mathlib.Core.List.{List, [], ◌∷◌}
use lib.ListN.{length, get_or}
use lib.Seq.{ext_get_or}
use lib.Ieee.{Float, nan}
use Rattle.lists.specs.Tests.{refuted}
use Rattle.lists.specs.Tab.{tab, get_or-tab, times}
use Rattle.lists.specs.Elements.{Below, pick, pick-pick, length-pick, all-pick, straight, pick-straight}
use Rattle.lists.specs.Digits.{horner, rest, digits, digits-horner, horner-digits, length_digits, digits-below, rest_below, quotient, remainder}
use Rattle.lists.specs.Members.{In}
use Rattle.places.specs.Permutations.{Permutation}
use Rattle.blocks.specs.Block.{put_block, length-put_block, put-inside, put-outside}
use Rattle.orbits.specs.Blockwise.{in_block}
use Rattle.orbits.specs.Transposed.{permuted_is_below, in_block_pos}
use Rattle.blocks.specs.Permuted.{permuted}
use Rattle.orbits.specs.Spread.{set_all, has, has_in, in_has, length-set_all, get_or-set_all}
use Rattle.orbits.specs.Groups.{Apart, Distinct, spots, spread_block}

-- ---- a position permuted twice

-- a position below c is its directions
dirs_of : (m k : ℕ) → k < in_block m → horner 3 0 (digits 3 (suc m) k) ≡ k
unfolding in_block
dirs_of m k h =
    let z : rest 3 (suc m) k ≡ 0 = let t = rest_below 3 (suc m) 1 k h in omega arith in
    ap (λ n. horner 3 n (digits 3 (suc m) k)) (sym z) ∙ horner-digits 3 (suc m) k

pub permuted-straight : (m k : ℕ) → k < in_block m → permuted m (straight (suc m)) k ≡ k
unfolding permuted
permuted-straight m k h = ap (horner 3 0) (pick-straight 0 (suc m) (digits 3 (suc m) k) (length_digits 3 (suc m) k)) ∙ dirs_of m k h

pub permuted-permuted : (m : ℕ) (σ τ : List ℕ) (k : ℕ) → Permutation m σ → Permutation m τ → k < in_block m → permuted m σ (permuted m τ k) ≡ permuted m (pick 0 σ τ) k
unfolding permuted in_block
permuted-permuted m σ τ k o p h =
    let ds = digits 3 (suc m) k in
    let l : length ds ≡ suc m = length_digits 3 (suc m) k in
    let b : Below 3 (pick 0 τ ds) = all-pick 0 (λ d. d < 3) τ ds (rw l p.1) (digits-below 3 (suc m) 1 k h) in
    let e : digits 3 (suc m) (horner 3 0 (pick 0 τ ds)) ≡ pick 0 τ ds = rw (length-pick 0 τ ds ∙ p.0) at (digits-horner 3 0 (pick 0 τ ds) b) in
    ap (λ x. horner 3 0 (pick 0 σ x)) e ∙ ap (horner 3 0) (pick-pick 0 σ τ ds (rw p.0 o.1))

-- ---- stores to the spots of one position after another

module _ (f : ℕ → List ℕ) (v : ℕ → Float) (xs : List Float) where
  pub length_stores : (n : ℕ) → length (times n (λ k. set_all (f k) (v k)) xs) ≡ length xs
  unfolding times
  length_stores zero = refl
  length_stores (suc n) = length-set_all (f n) (v n) (times n (λ k. set_all (f k) (v k)) xs) ∙ length_stores n

  -- a place that is no spot keeps its number
  pub stores_out : (n q : ℕ) → q < length xs → ((k : ℕ) → k < n → In q (f k) → ⊥) → get_or (times n (λ k. set_all (f k) (v k)) xs) q nan ≡ get_or xs q nan
  unfolding times
  stores_out zero q h o = refl
  stores_out (suc n) q h o =
      get_or-set_all (f n) (v n) (times n (λ k. set_all (f k) (v k)) xs) q nan (rw (length_stores n) h)
      ∙ ap (λ b. cond b (v n) (get_or (times n (λ k. set_all (f k) (v k)) xs) q nan)) (refuted (has q (f n)) (λ e. o n (omega arith) (has_in q (f n) e)))
      ∙ stores_out n q h (λ k l. o k (omega arith))

  -- a place that is a spot of d, and of no later position, holds d's number
  pub stores_at : (n d q : ℕ) → q < length xs → d < n → In q (f d) → ((k : ℕ) → d < k → k < n → In q (f k) → ⊥) → get_or (times n (λ k. set_all (f k) (v k)) xs) q nan ≡ v d
  unfolding times
  stores_at zero d q h hd i o = absurd (not-suc-le-zero hd)
  stores_at (suc n) d q h hd i o =
      get_or-set_all (f n) (v n) (times n (λ k. set_all (f k) (v k)) xs) q nan (rw (length_stores n) h) ∙ go (ℕ_discrete d n) (stores_at n d q h)
    where
      go : Dec (d ≡ n)
          → (d < n → In q (f d) → ((k : ℕ) → d < k → k < n → In q (f k) → ⊥) → get_or (times n (λ k. set_all (f k) (v k)) xs) q nan ≡ v d)
          → cond (has q (f n)) (v n) (get_or (times n (λ k. set_all (f k) (v k)) xs) q nan) ≡ v d
      go (yes e) r = rw (← e, in_has q (f d) i)
      go (no e) r = rw (refuted (has q (f n)) (λ t. o n (omega arith) (omega arith) (has_in q (f n) t))) (r (omega arith) i (λ k a b. o k a (omega arith)))

-- ---- distinct blocks

-- a permutation with its inverse
pub record Undoes (m : ℕ) (σ τ : List ℕ) : Type 0 where
  pub order : Permutation m σ
  pub inverse : Permutation m τ
  pub there : pick 0 σ τ ≡ straight (suc m)
  pub back : pick 0 τ σ ≡ straight (suc m)

-- as many permutations, inverses and blocks
abbrev pub Inverses : ℕ → List (List ℕ) → List (List ℕ) → List ℕ → Type 0
Inverses m [] [] [] = Unit {0}
Inverses m [] [] (b ∷ bs) = ⊥
Inverses m [] (τ ∷ ts) bs = ⊥
Inverses m (σ ∷ os) [] bs = ⊥
Inverses m (σ ∷ os) (τ ∷ ts) [] = ⊥
Inverses m (σ ∷ os) (τ ∷ ts) (b ∷ bs) = Undoes m σ τ × Inverses m os ts bs

-- each block written as a whole: v permuted back by the inverse of its permutation
unfoldable pub put_all : ℕ → List (List ℕ) → List ℕ → List Float → List Float → List Float
put_all m [] bs v xs = xs
put_all m (τ ∷ ts) [] v xs = xs
put_all m (τ ∷ ts) (b ∷ bs) v xs = put_all m ts bs v (put_block (in_block m) b (tab (in_block m) (λ k. get_or v (permuted m τ k) nan)) xs)

module _ (m : ℕ) where
  abbrev c : ℕ
  c = in_block m

  turn-there : (σ τ : List ℕ) (k : ℕ) → Undoes m σ τ → k < c → permuted m σ (permuted m τ k) ≡ k
  turn-there σ τ k u h = permuted-permuted m σ τ k u.order u.inverse h ∙ ap (λ ρ. permuted m ρ k) u.there ∙ permuted-straight m k h

  turn_back : (σ τ : List ℕ) (k : ℕ) → Undoes m σ τ → k < c → permuted m τ (permuted m σ k) ≡ k
  turn_back σ τ k u h = permuted-permuted m τ σ k u.inverse u.order h ∙ ap (λ ρ. permuted m ρ k) u.back ∙ permuted-straight m k h

  length-put_all : (ts : List (List ℕ)) (bs : List ℕ) (v xs : List Float) → length (put_all m ts bs v xs) ≡ length xs
  unfolding put_all
  length-put_all [] bs v xs = refl
  length-put_all (τ ∷ ts) [] v xs = refl
  length-put_all (τ ∷ ts) (b ∷ bs) v xs = length-put_all ts bs v _ ∙ length-put_block c b (tab c (λ k. get_or v (permuted m τ k) nan)) xs

  -- a place in none of the blocks
  put-none : (ts : List (List ℕ)) (bs : List ℕ) (v xs : List Float) (q : ℕ) → q < length xs → Apart (q / c) bs → get_or (put_all m ts bs v xs) q nan ≡ get_or xs q nan
  unfolding put_all
  put-none [] bs v xs q h a = refl
  put-none (τ ∷ ts) [] v xs q h a = refl
  put-none (τ ∷ ts) (b ∷ bs) v xs q h a =
      let w = tab c (λ k. get_or v (permuted m τ k) nan) in
      put-none ts bs v (put_block c b w xs) q (rw (length-put_block c b w xs) h) a.1 ∙ put-outside c b w xs q h (λ e. a.0 (sym e))

  put-more : (τ : List ℕ) (ts : List (List ℕ)) (b : ℕ) (bs : List ℕ) (v xs : List Float)
      → put_all m (τ ∷ ts) (b ∷ bs) v xs ≡ put_all m ts bs v (put_block c b (tab c (λ k. get_or v (permuted m τ k) nan)) xs)
  unfolding put_all
  put-more τ ts b bs v xs = refl

  -- a spot stands in one of the blocks
  spot-block : (os ts : List (List ℕ)) (bs : List ℕ) (k q : ℕ) → Inverses m os ts bs → k < c → In q (spots m os bs k) → Apart (q / c) bs → ⊥
  unfolding spots
  spot-block [] ts bs k q u h i a = i
  spot-block (σ ∷ os) ts [] k q u h i a = i
  spot-block (σ ∷ os) [] (b ∷ bs) k q u h i a = u
  spot-block (σ ∷ os) (τ ∷ ts) (b ∷ bs) k q u h (inl e) a =
      a.0 (sym (ap (λ x. x / c) e ∙ quotient c b (permuted m σ k) (permuted_is_below m σ k u.0.order h)))
  spot-block (σ ∷ os) (τ ∷ ts) (b ∷ bs) k q u h (inr i) a = spot-block os ts bs k q u.1 h i a.1

-- Of a place q in one of the blocks: the position d whose spot it is, that it is no other's, and what the whole blocks hold there.
pub record Spot (m : ℕ) (os ts : List (List ℕ)) (bs : List ℕ) (v xs : List Float) (q : ℕ) : Type 0 where
  pub d : ℕ
  pub below : d < in_block m
  pub is_spot : In q (spots m os bs d)
  pub only : (k : ℕ) → k < in_block m → In q (spots m os bs k) → k ≡ d
  pub wholes : get_or (put_all m ts bs v xs) q nan ≡ get_or v d nan

module _ (m : ℕ) (v : List Float) (q : ℕ) where
  module _ (σ τ : List ℕ) (u : Undoes m σ τ) (os ts : List (List ℕ)) (b : ℕ) (bs : List ℕ) (rest : Inverses m os ts bs) (xs : List Float) (h : q < length xs) where
    abbrev w : List Float
    w = tab (in_block m) (λ k. get_or v (permuted m τ k) nan)

    -- the place stands in the first block
    here_only : b ≡ q / in_block m → Apart (q / in_block m) bs → (k : ℕ) → k < in_block m → In q (spots m (σ ∷ os) (b ∷ bs) k) → k ≡ permuted m τ (q % in_block m)
    unfolding spots
    here_only e a k hk (inl f) =
        let r : q % in_block m ≡ permuted m σ k = ap (λ x. x % in_block m) f ∙ remainder (in_block m) b (permuted m σ k) (permuted_is_below m σ k u.order hk) in
        sym (ap (permuted m τ) r ∙ turn_back m σ τ k u hk)
    here_only e a k hk (inr i) = absurd (spot-block m os ts bs k q rest hk i a)

    here-spot : b ≡ q / in_block m → In q (spots m (σ ∷ os) (b ∷ bs) (permuted m τ (q % in_block m)))
    unfolding spots
    here-spot e = inl (sym (ap₂ (λ a r. a * in_block m + r) e (turn-there m σ τ (q % in_block m) u (mod-lt q (in_block_pos m))) ∙ div-add-mod' q (in_block m)))

    here : b ≡ q / in_block m → Apart (q / in_block m) bs → Spot m (σ ∷ os) (τ ∷ ts) (b ∷ bs) v xs q
    here e a =
        let hr = mod-lt q (in_block_pos m) in
        record {
          d = permuted m τ (q % in_block m);
          below = permuted_is_below m τ (q % in_block m) u.inverse hr;
          is_spot = here-spot e;
          only = here_only e a;
          wholes = ap (λ l. get_or l q nan) (put-more m τ ts b bs v xs)
              ∙ put-none m ts bs v (put_block (in_block m) b w xs) q (rw (length-put_block (in_block m) b w xs) h) a
              ∙ put-inside (in_block m) b w xs q h (sym e) ∙ get_or-tab (in_block m) (λ k. get_or v (permuted m τ k) nan) (q % in_block m) nan hr;
        }

    -- or in a later one
    there_only : (b ≡ q / in_block m → ⊥) → (d : ℕ) → ((k : ℕ) → k < in_block m → In q (spots m os bs k) → k ≡ d)
        → (k : ℕ) → k < in_block m → In q (spots m (σ ∷ os) (b ∷ bs) k) → k ≡ d
    unfolding spots
    there_only n d o k hk (inl f) = absurd (n (sym (ap (λ x. x / in_block m) f ∙ quotient (in_block m) b (permuted m σ k) (permuted_is_below m σ k u.order hk))))
    there_only n d o k hk (inr i) = o k hk i

    there-spot : (d : ℕ) → In q (spots m os bs d) → In q (spots m (σ ∷ os) (b ∷ bs) d)
    unfolding spots
    there-spot d i = inr i

    there : (b ≡ q / in_block m → ⊥) → Spot m os ts bs v (put_block (in_block m) b w xs) q → Spot m (σ ∷ os) (τ ∷ ts) (b ∷ bs) v xs q
    there n s = record {
      d = s.d;
      below = s.below;
      is_spot = there-spot s.d s.is_spot;
      only = there_only n s.d s.only;
      wholes = ap (λ l. get_or l q nan) (put-more m τ ts b bs v xs) ∙ s.wholes;
    }

  find : (os ts : List (List ℕ)) (bs : List ℕ) (xs : List Float) → Inverses m os ts bs → Distinct bs → q < length xs → Spot m os ts bs v xs q ⊎ Apart (q / in_block m) bs
  find [] [] [] xs u d h = inr tt
  find [] [] (b ∷ bs) xs u d h = absurd u
  find [] (τ ∷ ts) bs xs u d h = absurd u
  find (σ ∷ os) [] bs xs u d h = absurd u
  find (σ ∷ os) (τ ∷ ts) [] xs u d h = absurd u
  find (σ ∷ os) (τ ∷ ts) (b ∷ bs) xs u d h =
      let w = tab (in_block m) (λ k. get_or v (permuted m τ k) nan) in
      go (ℕ_discrete b (q / in_block m)) (find os ts bs (put_block (in_block m) b w xs) u.1 d.1 (rw (length-put_block (in_block m) b w xs) h))
    where
      go : Dec (b ≡ q / in_block m)
          → Spot m os ts bs v (put_block (in_block m) b (tab (in_block m) (λ k. get_or v (permuted m τ k) nan)) xs) q ⊎ Apart (q / in_block m) bs
          → Spot m (σ ∷ os) (τ ∷ ts) (b ∷ bs) v xs q ⊎ Apart (q / in_block m) (b ∷ bs)
      go (yes e) r = inl (here σ τ u.0 os ts b bs u.1 xs h e (subst (λ x. Apart x bs) e d.0))
      go (no n) (inl s) = inl (there σ τ u.0 os ts b bs u.1 xs h n s)
      go (no n) (inr a) = inr (n, a)

-- THE POINT: whole blocks are written with the numbers permuted back
pub wholes_are : (m : ℕ) (os ts : List (List ℕ)) (bs : List ℕ) (v xs : List Float) → Inverses m os ts bs → Distinct bs → put_all m ts bs v xs ≡ spread_block m os bs v xs
unfolding spread_block
wholes_are m os ts bs v xs u d =
    let f : ℕ → List ℕ = spots m os bs in
    let g : ℕ → Float = λ k. get_or v k nan in
    ext_get_or nan (put_all m ts bs v xs) (times (in_block m) (λ k. set_all (f k) (g k)) xs) (length-put_all m ts bs v xs ∙ sym (length_stores f g xs (in_block m))) (λ q h.
    let hq : q < length xs = rw (length-put_all m ts bs v xs) at h in
    elim (find m v q os ts bs xs u d hq) [
      | inl s ↦ s.wholes ∙ sym (stores_at f g xs (in_block m) s.d q hq s.below s.is_spot (λ k a b i. let e = s.only k b i in omega arith))
      | inr a ↦ put-none m ts bs v xs q hq a ∙ sym (stores_out f g xs (in_block m) q hq (λ k l i. spot-block m os ts bs k q u l i a))
    ])
