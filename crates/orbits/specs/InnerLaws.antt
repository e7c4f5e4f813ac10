-- Blocks of nine numbers inside a block of c * 9 numbers, by their numbers in the set and by their numbers inside the block; and blocks that change places
-- whole and are permuted where they stand. Assumes nothing.
use Rattle.std.specs.Prelude.{◌≡◌, ℕ, ◌+◌, ◌*◌, ◌/◌, ◌%◌, ◌≤◌, ◌<◌, List, length, Float}
use Rattle.std.proofs.Math.Path.{sym, ap}
use Rattle.std.proofs.Common.{◌∙◌, ⊎_elim, mod-lt, div-add-mod', lit<, ext_get_or}
use native.Mathlib.Omega.{arith}
use Rattle.std.proofs.Math.ListN.{get_or}
use Rattle.std.specs.Float.Ieee.{nan}
use Rattle.lists.specs.Cases.{eq_or_ne}
use Rattle.lists.specs.Tab.{tab_ext}
use Rattle.lists.specs.Digits.{quotient, remainder}
use Rattle.blocks.specs.Block.{block, put_block, length-block, length-put_block, get_or-block, put-inside, put-outside, block-put, block-put-other, put-put, put-put-other}
use Rattle.blocks.specs.Permuted.{permuted_block}
use Rattle.orbits.specs.BlockPairs.{joined_pair, joined_block}
use Rattle.orbits.specs.Trading.{the_other}

-- ---- a block inside a block

module _ (c b : ℕ) where
  -- number k of block b is a number of its block k / 9 of nine
  parts : (q d k i j : ℕ) → d ≡ b → d * (c * 9) + k ≡ q → i * 9 + j ≡ k → q ≡ (b * c + i) * 9 + j
  parts q d k i j e s t = sym s ∙ ap (λ d. d * (c * 9) + k) e ∙ ap (λ k. b * (c * 9) + k) (sym t) ∙ same
    where
      same : b * (c * 9) + (i * 9 + j) ≡ (b * c + i) * 9 + j
      same = omega arith

  module _ (q : ℕ) (e : q / (c * 9) ≡ b) where
    abbrev k : ℕ
    k = q % (c * 9)

    part : q ≡ (b * c + k / 9) * 9 + k % 9
    part = parts q (q / (c * 9)) k (k / 9) (k % 9) e (div-add-mod' q (c * 9)) (div-add-mod' k 9)

    nine_of : q / 9 ≡ b * c + k / 9
    nine_of = ap (λ x. x / 9) part ∙ quotient 9 (b * c + k / 9) (k % 9) (mod-lt k (lit< tt))

    place_in : q % 9 ≡ k % 9
    place_in = ap (λ x. x % 9) part ∙ remainder 9 (b * c + k / 9) (k % 9) (mod-lt k (lit< tt))

  -- and no other block has numbers there
  outer : (q i : ℕ) → i < c → q / 9 ≡ b * c + i → q / (c * 9) ≡ b
  outer q i hi e =
      let m : q % 9 < 9 = mod-lt q (lit< tt) in
      let s : q ≡ b * (c * 9) + (i * 9 + q % 9) = sym (div-add-mod' q 9) ∙ ap (λ d. d * 9 + q % 9) e ∙ same (q % 9) in
      ap (λ x. x / (c * 9)) s ∙ quotient (c * 9) b (i * 9 + q % 9) (omega arith)
    where
      same : (j : ℕ) → (b * c + i) * 9 + j ≡ b * (c * 9) + (i * 9 + j)
      same j = omega arith

  -- block i of nine, read
  pub inner_block : (i : ℕ) (xs : List Float) → i < c → block 9 (b * c + i) xs ≡ block 9 i (block (c * 9) b xs)
  unfolding block
  inner_block i xs hi = tab_ext nan 9 _ _ (λ k h. ap (λ q. get_or xs q nan) (same k) ∙ sym (get_or-block (c * 9) b xs (i * 9 + k) (omega arith)))
    where
      same : (k : ℕ) → (b * c + i) * 9 + k ≡ b * (c * 9) + (i * 9 + k)
      same k = omega arith

  -- and written
  pub inner_put : (i : ℕ) (u xs : List Float) → i < c → put_block 9 (b * c + i) u xs ≡ put_block (c * 9) b (put_block 9 i u (block (c * 9) b xs)) xs
  inner_put i u xs hi =
      ext_get_or nan (put_block 9 (b * c + i) u xs) (put_block (c * 9) b made xs) (length-put_block 9 (b * c + i) u xs ∙ sym (length-put_block (c * 9) b made xs)) (λ q h.
      let hq : q < length xs = rw (length-put_block 9 (b * c + i) u xs) at h in
      ⊎_elim (inside q hq) (outside q hq) (eq_or_ne (q / (c * 9)) b))
    where
      own : List Float
      own = block (c * 9) b xs

      made : List Float
      made = put_block 9 i u own

      outside : (q : ℕ) → q < length xs → (q / (c * 9) ≡ b → ⊥) → get_or (put_block 9 (b * c + i) u xs) q nan ≡ get_or (put_block (c * 9) b made xs) q nan
      outside q h n = put-outside 9 (b * c + i) u xs q h (λ e. n (outer q i hi e)) ∙ sym (put-outside (c * 9) b made xs q h n)

      inside : (q : ℕ) → q < length xs → q / (c * 9) ≡ b → get_or (put_block 9 (b * c + i) u xs) q nan ≡ get_or (put_block (c * 9) b made xs) q nan
      inside q h e = ⊎_elim here there (eq_or_ne (q % (c * 9) / 9) i) ∙ sym (put-inside (c * 9) b made xs q h e)
        where
          below : q % (c * 9) < c * 9
          below = mod-lt q (omega arith)

          in_own : q % (c * 9) < length own
          in_own = rw (length-block (c * 9) b xs) below

          here : q % (c * 9) / 9 ≡ i → get_or (put_block 9 (b * c + i) u xs) q nan ≡ get_or made (q % (c * 9)) nan
          here f =
              put-inside 9 (b * c + i) u xs q h (nine_of q e ∙ ap (λ x. b * c + x) f) ∙ ap (λ p. get_or u p nan) (place_in q e)
              ∙ sym (put-inside 9 i u own (q % (c * 9)) in_own f)

          there : (q % (c * 9) / 9 ≡ i → ⊥) → get_or (put_block 9 (b * c + i) u xs) q nan ≡ get_or made (q % (c * 9)) nan
          there n =
              put-outside 9 (b * c + i) u xs q h (λ g. n (let s = sym (nine_of q e) ∙ g in omega arith))
              ∙ ap (λ p. get_or xs p nan) (sym (div-add-mod' q (c * 9)) ∙ ap (λ d. d * (c * 9) + q % (c * 9)) e) ∙ sym (get_or-block (c * 9) b xs (q % (c * 9)) below)
              ∙ sym (put-outside 9 i u own (q % (c * 9)) in_own n)

-- ---- a set with another block b: what is done inside the block, said of the block alone

-- x is the set xs with v for block b
pub record With (c b : ℕ) (xs v x : List Float) : Type 0 where
  pub long : length v ≡ c * 9
  pub is : x ≡ put_block (c * 9) b v xs

module _ (c b : ℕ) (xs : List Float) (hc : 0 < c) (l : b * (c * 9) + c * 9 ≤ length xs) where
  -- the set itself
  pub with-own : With c b xs (block (c * 9) b xs) xs
  with-own = record {
    long = length-block (c * 9) b xs;
    is = ext_get_or nan xs (put_block (c * 9) b (block (c * 9) b xs) xs) (sym (length-put_block (c * 9) b (block (c * 9) b xs) xs)) (λ q h. ⊎_elim (own q h) (λ (n : q / (c * 9) ≡ b → ⊥). sym (put-outside (c * 9) b (block (c * 9) b xs) xs q h n)) (eq_or_ne (q / (c * 9)) b));
  }
    where
      own : (q : ℕ) → q < length xs → q / (c * 9) ≡ b → get_or xs q nan ≡ get_or (put_block (c * 9) b (block (c * 9) b xs) xs) q nan
      own q h e =
          ap (λ p. get_or xs p nan) (sym (div-add-mod' q (c * 9)) ∙ ap (λ d. d * (c * 9) + q % (c * 9)) e)
          ∙ sym (put-inside (c * 9) b (block (c * 9) b xs) xs q h e ∙ get_or-block (c * 9) b xs (q % (c * 9)) (mod-lt q (omega arith)))

  module _ {v x : List Float} (I : With c b xs v x) (i : ℕ) (hi : i < c) where
    pub with-block : block 9 (b * c + i) x ≡ block 9 i v
    with-block = inner_block c b i x hi ∙ ap (block 9 i) (ap (block (c * 9) b) I.is ∙ block-put (c * 9) b v xs I.long l)

    pub with-put : (u : List Float) {y : List Float} → y ≡ put_block 9 (b * c + i) u x → With c b xs (put_block 9 i u v) y
    with-put u {y} e = record {
      long = length-put_block 9 i u v ∙ I.long;
      is =
          e ∙ ap (put_block 9 (b * c + i) u) I.is ∙ inner_put c b i u (put_block (c * 9) b v xs) hi
          ∙ ap (λ w. put_block (c * 9) b (put_block 9 i u w) (put_block (c * 9) b v xs)) (block-put (c * 9) b v xs I.long l)
          ∙ put-put (c * 9) (put_block 9 i u v) v xs b;
    }

-- ---- blocks that change places whole, and are then permuted where they stand

module _ (w : ℕ) (τ : ℕ → ℕ) (a b : ℕ) (xs : List Float) where
  abbrev A : List Float
  A = block w a xs

  abbrev B : List Float
  B = block w b xs

  -- a block that is its own counterpart is permuted only
  pub flipped : {x : List Float} → a ≡ b → x ≡ put_block w a (permuted_block w τ A) xs → x ≡ joined_pair the_other w τ a b xs
  unfolding joined_pair joined_block permuted_block
  flipped e p = p ∙ sym (put-put w (permuted_block w τ A) (permuted_block w τ A) xs a) ∙ ap (λ b. put_block w b (permuted_block w τ A) (put_block w a (permuted_block w τ (block w b xs)) xs)) e

  module _ (n : a ≡ b → ⊥) (ha : a * w + w ≤ length xs) (hb : b * w + w ≤ length xs) where
    swapped-set : List Float
    swapped-set = put_block w b A (put_block w a B xs)

    first_is : block w a swapped-set ≡ B
    unfolding swapped-set
    first_is = block-put-other w b A (put_block w a B xs) a n (rw (length-put_block w a B xs) ha) ∙ block-put w a B xs (length-block w b xs) ha

    half-flipped : put_block w a (permuted_block w τ B) swapped-set ≡ put_block w b A (put_block w a (permuted_block w τ B) xs)
    unfolding swapped-set
    half-flipped = put-put-other w (permuted_block w τ B) A (put_block w a B xs) a b n ∙ ap (put_block w b A) (put-put w (permuted_block w τ B) B xs a)

    second_is : block w b (put_block w b A (put_block w a (permuted_block w τ B) xs)) ≡ A
    second_is = block-put w b A (put_block w a (permuted_block w τ B) xs) (length-block w a xs) (rw (length-put_block w a (permuted_block w τ B) xs) hb)

    pub swapped-flipped : {x y z : List Float} → x ≡ put_block w b A (put_block w a B xs) → y ≡ put_block w a (permuted_block w τ (block w a x)) x → z ≡ put_block w b (permuted_block w τ (block w b y)) y
        → z ≡ joined_pair the_other w τ a b xs
    unfolding swapped-set joined_pair joined_block permuted_block
    swapped-flipped {x} {y} p q r =
        let f : y ≡ put_block w b A (put_block w a (permuted_block w τ B) xs) =
        q ∙ ap (λ x. put_block w a (permuted_block w τ (block w a x)) x) p ∙ ap (λ v. put_block w a (permuted_block w τ v) swapped-set) first_is ∙ half-flipped in
        r ∙ ap (λ y. put_block w b (permuted_block w τ (block w b y)) y) f
        ∙ ap (λ v. put_block w b (permuted_block w τ v) (put_block w b A (put_block w a (permuted_block w τ B) xs))) second_is
        ∙ put-put w (permuted_block w τ A) A (put_block w a (permuted_block w τ B) xs) b
