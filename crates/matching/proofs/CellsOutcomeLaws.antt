-- What `compute_permutation` is where the call is refused, and where it is not. Assumes nothing.
use Rattle.std.specs.Prelude.{Err, Ok, ◌≡◌, true, false, cond, ℕ, ◌*◌, ◌≤◌, ℤ, negsuc, replicate, Float}
use Rattle.std.proofs.Math.Path.{refl, ap}
use Rattle.std.proofs.Common.{sym, ap₂, ◌∙◌}
use mathlib.Core.List.{List, [], ◌∷◌}
use Rattle.std.proofs.Math.ListN.{length, length-replicate}
use Rattle.lists.specs.Tab.{times}
use Rattle.tables.specs.Answers.{Answer}
use Rattle.tables.specs.declared.Refusal.{Refusal}
use Rattle.tables.specs.declared.Refusal.TheVariants.{CountAboveLimit, WrongLength}
use Rattle.tables.specs.Answers.{refuse_if, passed}
use Rattle.tables.specs.Limits.{limit2}
use Rattle.tables.specs.Conditions.{any_above, any_wrong, not_above, not-wrong}
use Rattle.distances.specs.declared.Cell.{Cell}
use Rattle.distances.specs.declared.Distance.{Distance}
use Rattle.distances.specs.Near.{near_by, near, distance}
use Rattle.matching.specs.declared.cells.Pair.{Pair}
use Rattle.matching.specs.declared.cells.Matching.{Matching}
use Rattle.matching.specs.declared.cells.Matching.TheVariants.{Matched}
use Rattle.matching.specs.Matching.{match_one, placed_to, matched_up_to, all_filled, judged_matching, first_none, failed_by, searched, answered, compute_permutation}
use Rattle.matching.specs.Slots.{Triples}
use Rattle.matching.specs.Search.{pair_after}
use Rattle.matching.proofs.SearchLaws.{length_slots, pair-answers}

-- what is known of the counts and lengths of a call that is not refused
pub record Accepted (lenSlots lenPos lenRot n : ℕ) : Type 0 where
  pub small : n ≤ limit2
  pub slots_len : lenSlots ≡ n
  pub triples : Triples n lenPos lenRot

pub accepted : (lenSlots lenPos lenRot n : ℕ) → judged_matching lenSlots lenPos lenRot n ≡ Ok tt → Accepted lenSlots lenPos lenRot n
unfolding judged_matching
accepted s p r n e =
    let ls : List (ℕ × ℕ) = (s, n) ∷ (p, 3 * n) ∷ (r, 3 * n) ∷ [] in
    let (a, next) = passed (any_above limit2 (n ∷ [])) CountAboveLimit (refuse_if (any_wrong ls) WrongLength (Ok tt)) e in
    let small = not_above limit2 (n ∷ []) a in
    let lens = not-wrong ls (passed (any_wrong ls) WrongLength (Ok tt) next).0 in
    record { small = small.0; slots_len = lens.0; triples = record { pos_len = lens.1.0; rot_len = lens.1.1.0 } }

length-placed : (dist : ℕ → ℕ → Distance) (n : ℕ) → length (matched_up_to (near_by dist) n) ≡ n
unfolding matched_up_to
length-placed dist n = length_slots dist n n

-- ---- the search, step by step: the slots are cleared, then placed, and p is the pair that was noted

module _ (dist : ℕ → ℕ → Distance) (n : ℕ) (cleared : List ℤ) (clear : cleared ≡ replicate n (negsuc 0)) where
  pub cleared_placed : (left : List ℤ) → left ≡ times (length cleared) (match_one (near_by dist)) cleared → left ≡ matched_up_to (near_by dist) n
  unfolding matched_up_to placed_to
  cleared_placed left t = t ∙ rw (clear, length-replicate n (negsuc 0)) refl

  pub cleared_named : (p : Pair) → p ≡ pair_after dist cleared (length cleared) → failed_by n p ≡ failed_by n (first_none dist n)
  cleared_named p q =
      ap (failed_by n) (q ∙ ap (λ c. pair_after dist c (length c)) clear ∙ ap (pair_after dist (replicate n (negsuc 0))) (length-replicate n (negsuc 0))) ∙ pair-answers dist n

  module _ (left : List ℤ) (p : Pair) (placing : left ≡ times (length cleared) (match_one (near_by dist)) cleared) (noting : p ≡ pair_after dist cleared (length cleared)) where
    -- all slots are filled, or not; m is the answer then
    pub all_found : all_filled left ≡ true → (Matched, left) ≡ searched dist n
    unfolding searched
    all_found f = let l = cleared_placed left placing in rw (sym (ap all_filled l) ∙ f) (ap (λ s. (Matched, s)) l)

    pub not_found : (m : Matching) → all_filled left ≡ false → m ≡ failed_by (length left) p → (m, left) ≡ searched dist n
    unfolding searched
    not_found m f e =
        let l = cleared_placed left placing in
        let k : length left ≡ n = ap length l ∙ length-placed dist n in
        let q : m ≡ failed_by n (first_none dist n) = e ∙ ap (λ k. failed_by k p) k ∙ cleared_named p noting in
        rw (sym (ap all_filled l) ∙ f) (ap₂ (λ (m : Matching) (s : List ℤ). (m, s)) q l)

module _ (slots : List ℤ) (cell : Cell) (positions rotated : List Float) (n : ℕ) where
  -- what the guard answers
  abbrev guard : Answer
  guard = judged_matching (length slots) (length positions) (length rotated) n

  -- a refused call leaves the slots
  pub refused : (r : Refusal) → guard ≡ Err r → (Err r, slots) ≡ compute_permutation slots cell positions rotated n
  unfolding compute_permutation answered
  refused r e = rw e

  pub done : (m : Matching) (left : List ℤ) → guard ≡ Ok tt → (m, left) ≡ searched (distance cell positions rotated) n → (Ok m, left) ≡ compute_permutation slots cell positions rotated n
  unfolding compute_permutation answered
  done m left e f = ap (λ (x : Matching × List ℤ). answered (Ok tt) slots x) f ∙ rw e

  -- the same, with what the search leaves
  pub ended : guard ≡ Ok tt
      → (Ok (cond (all_filled (matched_up_to (near cell positions rotated) n)) Matched (failed_by n (first_none (distance cell positions rotated) n))), matched_up_to (near cell positions rotated) n)
      ≡ compute_permutation slots cell positions rotated n
  unfolding searched
  ended e = done _ _ e refl
