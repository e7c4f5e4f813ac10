-- What the functions that fill the slots ask of what they are lent, and laws of the slots. Assumes nothing.
use Rattle.std.specs.Prelude.{◌≡◌, refl, Bool, true, false, ◌⊎◌, List, [], ◌∷◌, ℤ, pos, length, get_or, set}
use Rattle.std.proofs.Common.{ap, ◌∙◌, inl, inr, not-suc-le-zero, arith, get_or-set_same, get_or-set_other}
use Prim.Native.Nat.{ℕ, zero, suc, ◌*◌, ◌≤◌, ◌<◌}
use Rattle.std.proofs.Math.ListN.{length-set}
use Rattle.lists.specs.Cases.{eq_or_ne}
use Rattle.lists.specs.Tests.{split, and_fst, and_snd, both, not-both}
use Rattle.lists.specs.Members.{all_of}
use Rattle.lists.specs.Lowest.{lowest}
use Rattle.matching.specs.Matching.{is_filled, takes, match_one, all_filled}

abbrev pub slot_at : List ℤ → ℕ → ℤ
slot_at slots j = get_or slots j (pos 0)

-- the first n slots are there, and filled
pub record FilledBelow (slots : List ℤ) (n : ℕ) : Type 0 where
  pub there : n ≤ length slots
  pub filled : (k : ℕ) → k < n → is_filled (slot_at slots k) ≡ true

-- slot n, if there is one, is free
abbrev pub FreeAt : List ℤ → ℕ → Type 0
FreeAt slots n = n < length slots → is_filled (slot_at slots n) ≡ false

-- three coordinates for each of n positions, and for each of as many rotated positions
pub record Triples (n lenPos lenRot : ℕ) : Type 0 where
  pub pos_len : lenPos ≡ 3 * n
  pub rot_len : lenRot ≡ 3 * n

-- position i is one of them
pub record Row (n i lenPos lenRot : ℕ) : Type 0 where
  pub triples : Triples n lenPos lenRot
  pub below : i < n

-- ---- filled slots

all_of_get_or : (slots : List ℤ) → ((k : ℕ) → k < length slots → is_filled (slot_at slots k) ≡ true) → all_filled slots ≡ true
unfolding all_filled all_of
all_of_get_or [] h = refl
all_of_get_or (x ∷ xs) h = both (is_filled x) (all_filled xs) (h 0 (omega arith)) (all_of_get_or xs (λ k l. h (suc k) (omega arith)))

pub filled_at : (slots : List ℤ) → all_filled slots ≡ true → (k : ℕ) → k < length slots → is_filled (slot_at slots k) ≡ true
unfolding all_filled all_of
filled_at [] e k h = absurd (not-suc-le-zero h)
filled_at (x ∷ xs) e zero h = and_fst (is_filled x) (all_filled xs) e
filled_at (x ∷ xs) e (suc k) h = filled_at xs (and_snd (is_filled x) (all_filled xs) e) k (omega arith)

-- all are filled if the first free slot is past the end, and not all are if it is one of them
pub all-filled : (slots : List ℤ) (n : ℕ) → FilledBelow slots n → n ≡ length slots → all_filled slots ≡ true
all-filled slots n b e = all_of_get_or slots (λ k h. b.filled k (omega arith))

pub not-all-filled : (slots : List ℤ) (n : ℕ) → n < length slots → is_filled (slot_at slots n) ≡ false → all_filled slots ≡ false
not-all-filled slots n h e = go (split (all_filled slots))
  where
    go : (all_filled slots ≡ true) ⊎ (all_filled slots ≡ false) → all_filled slots ≡ false
    go (inl t) = absurd (not-both (filled_at slots t n h) e)
    go (inr f) = f

module _ (is_near : ℕ → ℕ → Bool) where
  pub length-place : (i : ℕ) (slots : List ℤ) → length (match_one is_near i slots) ≡ length slots
  unfolding match_one
  length-place i slots = length-set slots _ (pos i)

  -- a filled slot does not take a position
  pub filled-stays-out : (slots : List ℤ) (i k : ℕ) → is_filled (slot_at slots k) ≡ true → takes is_near slots i k ≡ false
  filled-stays-out slots i k e = rw e

  -- a slot that was filled is filled after the next position is placed
  pub still-filled : (i : ℕ) (slots : List ℤ) (n : ℕ) → FilledBelow slots n → FilledBelow (match_one is_near i slots) n
  unfolding match_one
  still-filled i slots n b = record { there = rw (length-place i slots) b.there; filled = λ k h. go k h (eq_or_ne k j) }
    where
      j : ℕ
      j = lowest (length slots) (takes is_near slots i)

      go : (k : ℕ) → k < n → (k ≡ j) ⊎ (k ≡ j → ⊥) → is_filled (slot_at (set slots j (pos i)) k) ≡ true
      go k h (inl e) = ap (λ x. is_filled (slot_at (set slots j (pos i)) x)) e ∙ ap is_filled (get_or-set_same slots j (pos i) (pos 0) (omega (arith, b.there)))
      go k h (inr e) = ap is_filled (get_or-set_other slots j k (pos i) (pos 0) e) ∙ b.filled k h
