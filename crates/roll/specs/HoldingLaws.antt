-- What is known of a roll that passed the check, and what the check's tests say. Assumes nothing.
use Rattle.std.specs.Prelude.{◌≡◌, Bool, true, false, ◌&&◌, ◌⊎◌, List, [], ◌∷◌, ◌++◌, ℕ, suc, ◌+◌, ◌*◌, ◌-◌, ◌≤◌, ◌<◌, leb, length, get_or, take}
use Rattle.std.proofs.Math.Path.{refl, sym, ap, ap₂}
use Rattle.std.proofs.Common.{◌∙◌, subst, inl, inr, arith, length-append, length-take, length-take-le, get_or-take}
use Rattle.std.proofs.Math.Dec.{eqb}
use Rattle.std.proofs.Math.ListN.{get_or-eq_default}
use borrow.Author.Tests.{leb-true, eqb-true, le-leb, lt-leb}
use Rattle.lists.specs.Tests.{every, every-at, and_fst, and_snd, refuted}
use Rattle.lists.specs.Cases.{lt_or_le}
use Rattle.roll.specs.Format.{Entry, size_of, in_four, in_fours, joined, starts_from, rendered}
use Rattle.roll.specs.Reading.{four_at, trailer_at, count_of, listed, record_start, follow, listed_once, sized, framed, in_order, is_roll, each_once, is_former_roll, roll_bytes, holds_roll, holds_former_roll}
use Rattle.roll.specs.Roll.{Sized}
use Rattle.roll.specs.StartLaws.{follow-ends}
use Rattle.roll.specs.NumberLaws.{Bytes, four_same, length_fours}

-- ---- what the two rules have in common

pub sized_says : (b : List ℕ) → sized b ≡ true → (8 ≤ length b) × (length b ≤ 65536) × (count_of b ≤ 1000) × (trailer_at b + 4 * count_of b + 8 ≡ length b)
sized_says b e =
    let e₁ = and_snd (leb 8 (length b)) _ e in
    let e₂ = and_snd (leb (length b) 65536) _ e₁ in (
      leb-true 8 (length b) (and_fst (leb 8 (length b)) _ e),
      leb-true (length b) 65536 (and_fst (leb (length b) 65536) _ e₁),
      leb-true (count_of b) 1000 (and_fst (leb (count_of b) 1000) _ e₂),
      eqb-true (trailer_at b + 4 * count_of b + 8) (length b) (and_snd (leb (count_of b) 1000) _ e₂),
    )

module _ (b : List ℕ) (F : framed b ≡ true) where
  pub framed-following : follow b (count_of b) (trailer_at b) ≡ true
  unfolding framed
  framed-following = and_snd (sized b) (follow b (count_of b) (trailer_at b)) F

  pub framed-sized : Sized b (count_of b) (trailer_at b)
  unfolding framed
  framed-sized =
      let says = sized_says b (and_fst (sized b) (follow b (count_of b) (trailer_at b)) F) in
      record { few = says.2; small = says.1; whole = says.3; ends = follow-ends b (count_of b) (trailer_at b) framed-following }

-- ---- a roll that passed the check

module _ (b : List ℕ) (R : is_roll b ≡ true) where
  pub is_framed : framed b ≡ true
  unfolding is_roll
  is_framed = and_fst (framed b) _ R

  pub is_following : follow b (count_of b) (trailer_at b) ≡ true
  is_following = framed-following b is_framed

  pub is_sized : Sized b (count_of b) (trailer_at b)
  is_sized = framed-sized b is_framed

  pub is_listing : (i : ℕ) → i < count_of b → listed b i ≡ record_start b i
  unfolding is_roll
  is_listing i h = eqb-true (listed b i) (record_start b i) (every-at (count_of b) (λ i. eqb (listed b i) (record_start b i)) (and_snd (framed b) (in_order b) R) i h)

-- by the former rule
module _ (b : List ℕ) (R : is_former_roll b ≡ true) where
  pub former-framed : framed b ≡ true
  unfolding is_former_roll
  former-framed = and_fst (framed b) _ R

  pub former_listing : (i : ℕ) → i < count_of b → listed_once b i ≡ true
  unfolding is_former_roll each_once
  former_listing = every-at (count_of b) (λ i. listed_once b i) (and_snd (framed b) (each_once b) R)

-- ---- a roll in the first bytes of a slice

module _ (s : List ℕ) (count : ℕ) (H : holds_roll s count ≡ true) where
  pub is_there : count ≤ length s
  unfolding holds_roll
  is_there = leb-true count (length s) (and_fst (leb count (length s)) (is_roll (take count s)) H)

  pub is_roll_lem : is_roll (take count s) ≡ true
  unfolding holds_roll
  is_roll_lem = and_snd (leb count (length s)) (is_roll (take count s)) H

  pub has-count : length (take count s) ≡ count
  has-count = length-take-le count s is_there

  pub at_least : 8 ≤ count
  at_least = omega (arith, (is_sized (take count s) is_roll_lem).whole, has-count)

  pub within-limits : (count_of (take count s) ≤ 1000) × (count ≤ 65536) × (trailer_at (take count s) + 4 * count_of (take count s) + 8 ≡ count)
  within-limits =
      let S = is_sized (take count s) is_roll_lem in
      (S.few, subst (λ n. n ≤ 65536) has-count S.small, S.whole ∙ has-count)

  -- the count and the trailer's place, read from the slice
  pub count-read : four_at s (count - 8) ≡ count_of (take count s)
  unfolding count_of
  count-read =
      let h = at_least in
      four_same s (take count s) (count - 8) (λ k l. sym (get_or-take count s k 0 (omega arith))) ∙ ap (λ n. four_at (take count s) (n - 8)) (sym has-count)

  pub trailer_read : four_at s (count - 4) ≡ trailer_at (take count s)
  unfolding trailer_at
  trailer_read =
      let h = at_least in
      four_same s (take count s) (count - 4) (λ k l. sym (get_or-take count s k 0 (omega arith))) ∙ ap (λ n. four_at (take count s) (n - 4)) (sym has-count)

pub bytes_take : (s : List ℕ) (count : ℕ) → Bytes s → Bytes (take count s)
bytes_take s count B k = go (lt_or_le k count)
  where
    go : (k < count) ⊎ (count ≤ k) → get_or (take count s) k 0 < 256
    go (inl h) = rw (get_or-take count s k 0 h) (B k)
    go (inr h) = by_length (lt_or_le k (length (take count s)))
      where
        by_length : (k < length (take count s)) ⊎ (length (take count s) ≤ k) → get_or (take count s) k 0 < 256
        by_length (inl l) = absurd (omega (arith, length-take count s))
        by_length (inr l) = rw (get_or-eq_default (take count s) 0 {n = k} l) (omega arith)

-- ---- lengths

pub length-starts-from : (p : ℕ) (rs : List Entry) → length (starts_from p rs) ≡ length rs
unfolding starts_from
length-starts-from p [] = refl
length-starts-from p (r ∷ rs) = ap suc (length-starts-from (p + size_of r) rs)

pub length-rendered : (rs : List Entry) (order : List ℕ) → length (rendered rs order) ≡ length (joined rs) + 4 * length order + 8
unfolding rendered
length-rendered rs order =
    let e = length-append (joined rs) (in_fours order ++ (in_four (length rs) ++ in_four (length (joined rs)))) in
    let f = length-append (in_fours order) (in_four (length rs) ++ in_four (length (joined rs))) in
    omega (arith, e, f, length_fours order)

-- ---- what the code's tests say of the check and of the answers

pub no-and : (x y : Bool) → x ≡ false → false ≡ (x && y)
no-and x y e = rw e refl

pub yes_and : {r : Bool} (x y : Bool) → x ≡ true → r ≡ y → r ≡ (x && y)
yes_and x y e h = rw e h

pub and_no : (x y : Bool) → false ≡ y → false ≡ (x && y)
and_no true y e = e
and_no false y e = refl

pub and_yes : {r : Bool} (x y : Bool) → r ≡ x → y ≡ true → r ≡ (x && y)
and_yes true y h e = h ∙ sym e
and_yes false y h e = h

module _ (b : List ℕ) where
  pub at-least-eight : is_roll b ≡ true → 8 ≤ length b
  at-least-eight R = omega (arith, (is_sized b R).whole)

  pub framed-eight : framed b ≡ true → 8 ≤ length b
  framed-eight F = omega (arith, (framed-sized b F).whole)

  pub count_is : {n : ℕ} → n ≡ four_at b (length b - 8) → n ≡ count_of b
  unfolding count_of
  count_is e = e

  pub trailer_is : {t : ℕ} → t ≡ four_at b (length b - 4) → t ≡ trailer_at b
  unfolding trailer_at
  trailer_is e = e

  pub not-sized : (sized b ≡ true → ⊥) → false ≡ sized b
  not-sized f = sym (refuted (sized b) f)

  pub sized-by : (n t p : ℕ) → 8 ≤ length b → length b ≤ 65536 → n ≤ 1000 → n ≡ count_of b → t ≡ trailer_at b → p ≡ t + 4 * n → eqb (p + 8) (length b) ≡ sized b
  sized-by n t p h g f e q r =
      rw (le-leb 8 (length b) h, le-leb (length b) 65536 g, le-leb (count_of b) 1000 (omega arith))
      (ap (λ x. eqb (x + 8) (length b)) r ∙ ap₂ (λ m u. eqb (u + 4 * m + 8) (length b)) e q)

  -- what the records and the list ask for
  pub sized_for : (n t : ℕ) → sized b ≡ true → n ≡ count_of b → t ≡ trailer_at b
      → (n ≡ count_of b) × (t ≡ trailer_at b) × (n ≤ 1000) × (length b ≤ 65536) × (t + 4 * n + 8 ≡ length b)
  sized_for n t S e q = let says = sized_says b S in (e, q, omega (arith, says.2, e), says.1, omega (arith, says.3, e, q))

  pub not-roll : sized b ≡ false → false ≡ is_roll b
  unfolding is_roll framed
  not-roll e = rw e refl

  pub not-former : sized b ≡ false → false ≡ is_former_roll b
  unfolding is_former_roll framed
  not-former e = rw e refl

  module _ (n t : ℕ) (r : Bool) (S : sized b ≡ true) (e : n ≡ count_of b) (q : t ≡ trailer_at b) where
    pub roll-by : r ≡ (follow b n t && every n (λ i. eqb (listed b i) (record_start b i))) → r ≡ is_roll b
    unfolding is_roll framed
    roll-by p = rw S (p ∙ ap₂ (λ m u. follow b m u && every m (λ i. eqb (listed b i) (record_start b i))) e q)

    pub former-by : r ≡ (follow b n t && every n (λ i. listed_once b i)) → r ≡ is_former_roll b
    unfolding is_former_roll framed each_once
    former-by p = rw S (p ∙ ap₂ (λ m u. follow b m u && every m (λ i. listed_once b i)) e q)

-- a roll in the first bytes of a slice s
module _ (s : List ℕ) (count : ℕ) where
  pub held-past : length s < count → false ≡ holds_roll s count
  unfolding holds_roll
  held-past h = rw (lt-leb count (length s) h) refl

  pub held_by : {r : Bool} → count ≤ length s → r ≡ is_roll (take count s) → r ≡ holds_roll s count
  unfolding holds_roll
  held_by h e = rw (le-leb count (length s) h) e

  pub former-past : length s < count → false ≡ holds_former_roll s count
  unfolding holds_former_roll
  former-past h = rw (lt-leb count (length s) h) refl

  pub former-held : {r : Bool} → count ≤ length s → r ≡ is_former_roll (take count s) → r ≡ holds_former_roll s count
  unfolding holds_former_roll
  former-held h e = rw (le-leb count (length s) h) e

-- the part of a slice that a roll is looked for in
pub bytes_past : (s : List ℕ) (count : ℕ) → length s < count → [] ≡ roll_bytes s count
unfolding roll_bytes
bytes_past s count h = rw (lt-leb count (length s) h) refl

pub bytes-there : (s : List ℕ) (count : ℕ) → count ≤ length s → take count s ≡ roll_bytes s count
unfolding roll_bytes
bytes-there s count h = rw (le-leb count (length s) h) refl
