-- The second matcher (document 02, A.6): the slots while positions are being placed, and a group of positions with fewer near slots than there are
-- positions in it. Where there is such a group there is no bijection of near pairs. Assumes nothing.
use Rattle.std.specs.Prelude.{◌≡◌, refl, ◌⊎◌, Bool, true, ◌&&◌, List, ℕ, ◌≤◌, ◌<◌, eqb, ℤ, pos, negsuc, length, get_or}
use Rattle.std.proofs.Common.{sym, ap, ◌∙◌, inl, inr, arith}
use Rattle.lists.specs.Tests.{some}
use Rattle.matching.specs.Slots.{slot_at}
use Rattle.matching.specs.Bijection.{Taken, Bijection}
use Rattle.matching.specs.Counts.{count, without, count_injected, count-without, count-all, without_other}

-- ---- slots and marks

-- position p is in a slot
abbrev pub Held : ℕ → List ℤ → ℕ → Type 0
Held n slots p = (j : ℕ) × (j < n) × (slot_at slots j ≡ pos p)

-- each slot is free or holds a position that is near it, and no two hold the same
pub record Partial (is_near : ℕ → ℕ → Bool) (n : ℕ) (slots : List ℤ) : Type 0 where
  pub len : length slots ≡ n
  pub each : (j : ℕ) → j < n → (slot_at slots j ≡ negsuc 0) ⊎ Taken is_near n slots j
  pub apart : (j k i : ℕ) → j < n → k < n → slot_at slots j ≡ pos i → slot_at slots k ≡ pos i → j ≡ k

-- position i is marked with 1
abbrev pub marked : List ℕ → ℕ → Bool
marked marks i = eqb (get_or marks i 0) 1

-- a mark for each of n positions, 0 or 1
pub record Marks (n : ℕ) (marks : List ℕ) : Type 0 where
  pub len : length marks ≡ n
  pub bits : (k : ℕ) → get_or marks k 0 ≤ 1

-- slot j holds a marked position
abbrev pub HeldMarked : List ℤ → List ℕ → ℕ → Type 0
HeldMarked slots marks j = (k : ℕ) × (slot_at slots j ≡ pos k) × (marked marks k ≡ true)

-- every slot near position p holds a marked one
abbrev pub Closed : (ℕ → ℕ → Bool) → ℕ → List ℤ → List ℕ → ℕ → Type 0
Closed is_near n slots marks p = (j : ℕ) → j < n → is_near p j ≡ true → HeldMarked slots marks j

-- ---- a group with fewer near slots than members

-- slot j is near a marked position
unfoldable pub reached : (ℕ → ℕ → Bool) → ℕ → List ℕ → ℕ → Bool
reached is_near n marks j = some n (λ i. marked marks i && is_near i j)

-- the marks are 0 and 1, and fewer slots are near a marked position than positions are marked
pub record TooFewSlots (is_near : ℕ → ℕ → Bool) (n : ℕ) (marks : List ℕ) : Type 0 where
  pub marks_are : Marks n marks
  pub fewer : count n (reached is_near n marks) < count n (marked marks)

pub same-position : {i k : ℕ} → pos i ≡ pos k → i ≡ k
same-position e = cc

module _ (is_near : ℕ → ℕ → Bool) (n : ℕ) where
  -- the number of a position in a slot is below n
  pub held_below : (slots : List ℤ) → Partial is_near n slots → (j k : ℕ) → j < n → slot_at slots j ≡ pos k → (k < n) × (is_near k j ≡ true)
  held_below slots P j k h e = go (P.each j h)
    where
      go : (slot_at slots j ≡ negsuc 0) ⊎ Taken is_near n slots j → (k < n) × (is_near k j ≡ true)
      go (inl f) = let z : ◌≡◌ {A = ℕ} 0 1 = cc in absurd (omega arith)
      go (inr (i, l, f, c)) = let q : i ≡ k = same-position (sym f ∙ e) in (rw q at l, rw q at c)

  -- ---- and where every position is in a slot the slots are a bijection

  pub all_held : (slots : List ℤ) → Partial is_near n slots → ((p : ℕ) → p < n → Held n slots p) → Bijection is_near n slots
  all_held slots P held = record {
    taken = λ j h. filled j h (P.each j h);
    distinct = λ j k h g e. let (i, l, f, c) = filled j h (P.each j h) in P.apart j k i h g f (sym e ∙ f);
    onto = held;
  }
    where
      any : ℕ → Bool
      any k = true

      at : (p : ℕ) → p < n → any p ≡ true → ℕ
      at p h e = (held p h).0

      alone : (p q : ℕ) (h : p < n) (e : any p ≡ true) (g : q < n) (d : any q ≡ true) → at p h e ≡ at q g d → p ≡ q
      alone p q h e g d r = same-position (sym (held p h).2 ∙ ap (slot_at slots) r ∙ (held q g).2)

      -- if slot j were free, n positions would be in n - 1 slots
      none_free : (j : ℕ) → j < n → slot_at slots j ≡ negsuc 0 → ⊥
      none_free j h e =
          let r : count n any ≤ count n (without j any) =
          count_injected n n any (without j any) at
          (λ p g t. ((held p g).1, without_other j any (at p g t) (λ q. let z : ◌≡◌ {A = ℕ} 0 1 = clash p g t q in omega arith)))
          alone in
          omega (arith, count-without n j any h refl, count-all n any (λ k l. refl))
        where
          clash : (p : ℕ) (g : p < n) (t : any p ≡ true) → at p g t ≡ j → ◌≡◌ {A = ℕ} 0 1
          clash p g t q = let s : pos p ≡ negsuc 0 = sym (held p g).2 ∙ ap (slot_at slots) q ∙ e in cc

      filled : (j : ℕ) → j < n → (slot_at slots j ≡ negsuc 0) ⊎ Taken is_near n slots j → Taken is_near n slots j
      filled j h (inl e) = absurd (none_free j h e)
      filled j h (inr t) = t
