-- Sheet 9 of document 01 for the second matcher (document 02, A.6): x = 0.25 and 0, rotated x = 0.125 and 0.375, tolerance 0.1875. Position 1 is near
-- slot 0 alone, so one bijection exists, and the call gives slots 1, 0, whatever the slots and marks held. Assumes nothing.
use Rattle.std.specs.Prelude.{Result, Ok, ◌≡◌, refl, Bool, true, false, List, [], ◌∷◌, ℕ, zero, suc, ◌<◌, ℤ, pos, length, Float}
use Rattle.std.proofs.Common.{sym, ap, ap₂, ◌∙◌, arith}
use Rattle.std.specs.Float.{binary64}
use Rattle.std.specs.Float.Ieee.{of_bits, add, sub, mul, lt, is_nan, round}
use Rattle.common.specs.Whole.{nearest_whole}
use Rattle.common.specs.Root.{sqrt}
use Rattle.lists.specs.Tests.{not-both}
use Rattle.tables.specs.declared.Refusal.{Refusal}
use Rattle.distances.specs.declared.Cell.{Cell}
use Rattle.distances.specs.Near.{squares, distance2, distance, near}
use Rattle.matching.specs.Slots.{slot_at}
use Rattle.matching.specs.Matching.{judged_matching}
use Rattle.matching.specs.Sheets.{unit_cell, at_x}
use Rattle.matching.specs.Bijection.{Bijection, Taken}
use Rattle.matching.specs.declared.finding.Finding.{Finding}
use Rattle.matching.specs.declared.finding.Finding.TheVariants.{Found}
use Rattle.matching.specs.FindPermutation.{judged_finding, ended, Outcome, Promise}
use Rattle.matching.proofs.Laws.{found_if_any}

abbrev cell9 : Cell
cell9 = unit_cell (of_bits binary64 0x3fc8_0000_0000_0000)

abbrev zero64 : Float
zero64 = of_bits binary64 0

abbrev positions : List Float
positions = at_x (of_bits binary64 0x3fd0_0000_0000_0000) (at_x zero64 [])

abbrev rotated : List Float
rotated = at_x (of_bits binary64 0x3fc0_0000_0000_0000) (at_x (of_bits binary64 0x3fd8_0000_0000_0000) [])

abbrev is_near : ℕ → ℕ → Bool
is_near = near cell9 positions rotated

near_01 : is_near 0 1 ≡ true
unfolding distance distance2 squares of_bits add sub mul lt is_nan nearest_whole sqrt round
near_01 = refl

near_10 : is_near 1 0 ≡ true
unfolding distance distance2 squares of_bits add sub mul lt is_nan nearest_whole sqrt round
near_10 = refl

far_11 : is_near 1 1 ≡ false
unfolding distance distance2 squares of_bits add sub mul lt is_nan nearest_whole sqrt round
far_11 = refl

-- position 1 in slot 0, and position 0 in slot 1
exchanged : Bijection is_near 2 (pos 1 ∷ pos 0 ∷ [])
exchanged = record { taken = taken; distinct = distinct; onto = onto }
  where
    taken : (j : ℕ) → j < 2 → Taken is_near 2 (pos 1 ∷ pos 0 ∷ []) j
    taken zero h = (1, omega arith, refl, near_10)
    taken (suc zero) h = (0, omega arith, refl, near_01)
    taken (suc (suc j)) h = absurd (omega arith)

    same_number : {k i : ℕ} → pos k ≡ pos i → k ≡ i
    same_number e = cc

    distinct : (j k : ℕ) → j < 2 → k < 2 → slot_at (pos 1 ∷ pos 0 ∷ []) j ≡ slot_at (pos 1 ∷ pos 0 ∷ []) k → j ≡ k
    distinct zero zero h g e = refl
    distinct zero (suc zero) h g e = let q : ◌≡◌ {A = ℕ} 1 0 = same_number e in absurd (omega arith)
    distinct (suc zero) zero h g e = let q : ◌≡◌ {A = ℕ} 0 1 = same_number e in absurd (omega arith)
    distinct (suc zero) (suc zero) h g e = refl
    distinct zero (suc (suc k)) h g e = absurd (omega arith)
    distinct (suc zero) (suc (suc k)) h g e = absurd (omega arith)
    distinct (suc (suc j)) k h g e = absurd (omega arith)

    onto : (i : ℕ) → i < 2 → (j : ℕ) × (j < 2) × (slot_at (pos 1 ∷ pos 0 ∷ []) j ≡ pos i)
    onto zero h = (1, omega arith, refl)
    onto (suc zero) h = (0, omega arith, refl)
    onto (suc (suc i)) h = absurd (omega arith)

-- and no other slots are a bijection of near pairs
only : (s : List ℤ) → length s ≡ 2 → Bijection is_near 2 s → s ≡ (pos 1 ∷ pos 0 ∷ [])
only [] e B = absurd (omega (arith, e))
only (x ∷ []) e B = absurd (omega (arith, e))
only (x ∷ (y ∷ (z ∷ s))) e B = absurd (omega (arith, e))
only (x ∷ (y ∷ [])) e B = ap₂ (λ (a b : ℤ). a ∷ b ∷ []) (first (B.taken 0 (omega arith))) second
  where
    by-slot_1 : Taken is_near 2 (x ∷ y ∷ []) 1 → y ≡ pos 0
    by-slot_1 (zero, h, q, c) = q
    by-slot_1 (suc zero, h, q, c) = absurd (not-both c far_11)
    by-slot_1 (suc (suc i), h, q, c) = absurd (omega arith)

    second : y ≡ pos 0
    second = by-slot_1 (B.taken 1 (omega arith))

    first : Taken is_near 2 (x ∷ y ∷ []) 0 → x ≡ pos 1
    first (zero, h, q, c) = let z : ◌≡◌ {A = ℕ} 0 1 = B.distinct 0 1 (omega arith) (omega arith) (q ∙ sym second) in absurd (omega arith)
    first (suc zero, h, q, c) = q
    first (suc (suc i), h, q, c) = absurd (omega arith)

is_it : (chosen : List ℤ) (group : List ℕ) → chosen ≡ (pos 1 ∷ pos 0 ∷ []) → ended 2 true chosen group ≡ (Ok Found, pos 1 ∷ pos 0 ∷ [], 0 ∷ 0 ∷ [])
unfolding ended
is_it chosen group e = rw e refl

-- the result that a call that is not refused promises, at sheet 9
of_result : (r : Result Finding Refusal × List ℤ × List ℕ) → Outcome is_near 2 r → r ≡ (Ok Found, pos 1 ∷ pos 0 ∷ [], 0 ∷ 0 ∷ [])
of_result r R =
    let t = found_if_any is_near 2 R.found R.chosen R.group R.ends (pos 1 ∷ pos 0 ∷ []) exchanged in
    R.answer ∙ ap (λ (b : Bool). ended 2 b R.chosen R.group) t ∙ is_it R.chosen R.group (only R.chosen (R.ends.slots_len t) (R.ends.bijection t))

pub sheet_9 : (old old' : ℤ) (mark mark' : ℕ) (r : Result Finding Refusal × List ℤ × List ℕ) → Promise (old ∷ old' ∷ []) (mark ∷ mark' ∷ []) cell9 positions rotated 2 r
    → r ≡ (Ok Found, pos 1 ∷ pos 0 ∷ [], 0 ∷ 0 ∷ [])
unfolding judged_finding judged_matching
sheet_9 old old' mark mark' r P = of_result r P
