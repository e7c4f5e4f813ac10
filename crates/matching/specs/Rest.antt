-- What the loop over the positions leaves: each has a slot, or the marks are a group. Assumes nothing.
use Rattle.std.specs.Prelude.{◌≡◌, refl, ◌⊎◌, Bool, true, false, not, List, ℕ, zero, suc, ◌+◌, ◌≤◌, ◌<◌, eqb, ℤ, pos, length, get_or, replicate}
use Rattle.std.proofs.Common.{sym, ap, ◌∙◌, subst, inl, inr, true≢false, arith, eqb-true, eq-eqb}
use Rattle.std.proofs.lemmas.Bool.{false≢true}
use Rattle.std.proofs.lemmas.List.{length-replicate, get_or-replicate}
use Rattle.lists.specs.Cases.{lt_or_le}
use Rattle.lists.specs.Tests.{not-both}
use Rattle.matching.specs.Matching.{is_filled}
use Rattle.matching.specs.Slots.{slot_at}
use Rattle.matching.specs.Bijection.{Bijection}
use Rattle.matching.specs.Counts.{count_le}
use Rattle.matching.specs.Groups.{Held, Partial, marked, TooFewSlots, all_held}
use Rattle.matching.specs.Chains.{Ready}

-- whether slot j holds position i
pub record HoldsAt (slots : List ℤ) (j i : ℕ) (r : Bool) : Type 0 where
  pub is_there : r ≡ true → slot_at slots j ≡ pos i
  pub is_not : r ≡ false → slot_at slots j ≡ pos i → ⊥

-- whether position i is in a slot
pub record Holding (n : ℕ) (slots : List ℤ) (i : ℕ) (r : Bool) : Type 0 where
  pub is_held : r ≡ true → Held n slots i
  pub is_out : r ≡ false → Held n slots i → ⊥

-- no slot below j holds position i
abbrev pub NotBelow : List ℤ → ℕ → ℕ → Type 0
NotBelow slots i j = (k : ℕ) → k < j → slot_at slots k ≡ pos i → ⊥

pub not_none : (slots : List ℤ) (i : ℕ) → NotBelow slots i 0
not_none slots i k h = absurd (omega arith)

pub not_more : (slots : List ℤ) (i j : ℕ) → NotBelow slots i j → (slot_at slots j ≡ pos i → ⊥) → NotBelow slots i (j + 1)
not_more slots i j b h k l e = go (lt_or_le k j)
  where
    go : (k < j) ⊎ (j ≤ k) → ⊥
    go (inl g) = b k g e
    go (inr g) = let q : k ≡ j = omega arith in h (ap (slot_at slots) (sym q) ∙ e)

pub held_at : (slots : List ℤ) (i j : ℕ) → j < length slots → slot_at slots j ≡ pos i → Holding (length slots) slots i true
held_at slots i j h e = record { is_held = λ _. (j, h, e); is_out = λ f. absurd (true≢false f) }

pub held_nowhere : (slots : List ℤ) (i j : ℕ) → length slots ≤ j → NotBelow slots i j → Holding (length slots) slots i false
held_nowhere slots i j h b = record { is_held = λ f. absurd (false≢true f); is_out = λ _ w. b w.0 (let l = w.1 in omega arith) w.2 }

-- what a slot's entry tells
pub there-told : (slots : List ℤ) (j i k : ℕ) → slot_at slots j ≡ pos k → HoldsAt slots j i (eqb k i)
there-told slots j i k e = record {
  is_there = λ t. e ∙ ap pos (eqb-true k i t);
  is_not = λ f g. let q : k ≡ i = same_number (sym e ∙ g) in not-both (eq-eqb k i q) f;
}
  where
    same_number : {k i : ℕ} → pos k ≡ pos i → k ≡ i
    same_number e = cc

pub free-told : (slots : List ℤ) (j i : ℕ) → is_filled (slot_at slots j) ≡ false → HoldsAt slots j i false
free-told slots j i f = record { is_there = λ t. absurd (false≢true t); is_not = λ _ g. not-both (ap is_filled g) f }

-- position i has a slot, or the marks are a group; a position that had one leaves the slots as they were
pub record PlacedOne (is_near : ℕ → ℕ → Bool) (n : ℕ) (slots : List ℤ) (i : ℕ) (r : Bool) (new : List ℤ) (marks : List ℕ) : Type 0 where
  pub partial : r ≡ true → Partial is_near n new
  pub placed_it : r ≡ true → Held n new i
  pub kept : r ≡ true → (p : ℕ) → Held n slots p → Held n new p
  pub at_home : Held n slots i → (r ≡ true) × (new ≡ slots)
  pub group : r ≡ false → TooFewSlots is_near n marks

-- all have, or the marks are a group; where all had one the slots are as they were
pub record PlacedAll (is_near : ℕ → ℕ → Bool) (n : ℕ) (slots : List ℤ) (r : Bool) (new : List ℤ) (marks : List ℕ) : Type 0 where
  pub bijection : r ≡ true → Bijection is_near n new
  pub at_home : ((p : ℕ) → p < n → Held n slots p) → (r ≡ true) × (new ≡ slots)
  pub group : r ≡ false → TooFewSlots is_near n marks

-- the positions below i have slots
pub record PlacedBelow (is_near : ℕ → ℕ → Bool) (n : ℕ) (slots : List ℤ) (i : ℕ) (new : List ℤ) : Type 0 where
  pub partial : Partial is_near n new
  pub held : (p : ℕ) → p < i → Held n new p
  pub at_home : ((p : ℕ) → p < n → Held n slots p) → new ≡ slots

-- ---- one position

past_end : (n k : ℕ) → n ≤ k → ◌≡◌ {A = ℕ} (get_or (replicate n 0) k 0) 0
past_end zero k h = refl
past_end (suc n) zero h = absurd (omega arith)
past_end (suc n) (suc k) h = past_end n k (omega arith)

no-marks : (n k : ℕ) → ◌≡◌ {A = ℕ} (get_or (replicate n 0) k 0) 0
no-marks n k = go (lt_or_le k n)
  where
    go : (k < n) ⊎ (n ≤ k) → ◌≡◌ {A = ℕ} (get_or (replicate n 0) k 0) 0
    go (inl h) = get_or-replicate n k 0 0 h
    go (inr h) = past_end n k h

module _ (is_near : ℕ → ℕ → Bool) (n : ℕ) (slots : List ℤ) (P : Partial is_near n slots) (i : ℕ) (h : i < n) where
  pub placed_already : (marks : List ℕ) → Held n slots i → PlacedOne is_near n slots i true slots marks
  placed_already marks e = record { partial = λ _. P; placed_it = λ _. e; kept = λ _ p q. q; at_home = λ _. (refl, refl); group = λ e. absurd (true≢false e) }

  module _ (small : n ≤ 1024) (out : Held n slots i → ⊥) where
    pub none : (k : ℕ) → marked (replicate n 0) k ≡ false
    none k = ap (λ x. eqb x 1) (no-marks n k)

    pub starts : Ready is_near n slots (replicate n 0) i n
    starts = record {
      homeless = record {
        small = small;
        partial = P;
        marks_are = record { len = length-replicate n 0; bits = λ k. let e = no-marks n k in omega arith };
        inside = h;
        out = out;
      };
      fresh = none i;
      deep = count_le n (λ k. not (marked (replicate n 0) k));
    }

-- ---- all positions

module _ (is_near : ℕ → ℕ → Bool) (n : ℕ) (slots : List ℤ) where
  pub placed-none : Partial is_near n slots → PlacedBelow is_near n slots 0 slots
  placed-none P = record { partial = P; held = λ p h. absurd (omega arith); at_home = λ _. refl }

  pub placed-more : (i : ℕ) (now' new : List ℤ) (marks : List ℕ) → i < n → PlacedBelow is_near n slots i now' → PlacedOne is_near n now' i true new marks → PlacedBelow is_near n slots (i + 1) new
  placed-more i now' new marks hi B H = record {
    partial = H.partial refl;
    held = λ p h. held p h (lt_or_le p i);
    at_home = λ all. let e = B.at_home all in (H.at_home (subst (λ s. Held n s i) (sym e) (all i hi))).1 ∙ e;
  }
    where
      held : (p : ℕ) → p < i + 1 → (p < i) ⊎ (i ≤ p) → Held n new p
      held p h (inl l) = H.kept refl p (B.held p l)
      held p h (inr l) = let q : i ≡ p = omega arith in subst (λ p. Held n new p) q (H.placed_it refl)

  pub placed-all : (now' : List ℤ) (marks : List ℕ) → PlacedBelow is_near n slots n now' → PlacedAll is_near n slots true now' marks
  placed-all now' marks B = record {
    bijection = λ _. all_held is_near n now' B.partial B.held;
    at_home = λ all. (refl, B.at_home all);
    group = λ e. absurd (true≢false e);
  }

  pub placed-stuck : (i : ℕ) (now' new : List ℤ) (marks : List ℕ) → i < n → PlacedBelow is_near n slots i now' → PlacedOne is_near n now' i false new marks → PlacedAll is_near n slots false new marks
  placed-stuck i now' new marks hi B H = record {
    bijection = λ e. absurd (false≢true e);
    at_home = λ all. absurd (false≢true (H.at_home (subst (λ s. Held n s i) (sym (B.at_home all)) (all i hi))).0);
    group = λ _. H.group refl;
  }
