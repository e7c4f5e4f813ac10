-- Matching atoms (document 01, "Matched atoms"; document 02, A.3): which position each rotated position comes from. Definitions only.
use Rattle.std.specs.Prelude.{Result, Err, Ok, Bool, true, false, cond, not, ◌&&◌, List, [], ◌∷◌, ℕ, ◌*◌, ltb, ℤ, pos, negsuc, length, get_or, set, replicate, Float}
use Rattle.lists.specs.Tab.{times}
use Rattle.lists.specs.Members.{all_of}
use Rattle.lists.specs.Lowest.{lowest}
use Rattle.tables.specs.Answers.{Answer}
use Rattle.tables.specs.declared.Refusal.{Refusal}
use Rattle.tables.specs.declared.Refusal.TheVariants.{CountAboveLimit, WrongLength}
use Rattle.tables.specs.Answers.{refusal_number, refuse_if}
use Rattle.tables.specs.Limits.{limit2}
use Rattle.tables.specs.Conditions.{any_above, any_wrong}
use Rattle.distances.specs.declared.Cell.{Cell}
use Rattle.distances.specs.declared.Distance.{Distance}
use Rattle.distances.specs.Near.{is_none, near_by, distance}
use Rattle.matching.specs.declared.cells.Pair.{Pair}
use Rattle.matching.specs.declared.cells.Matching.{Matching}
use Rattle.matching.specs.declared.cells.Matching.TheVariants.{Matched, NotMatched, NoNumber}

-- The number of an answer: 0 for true, 64 for a plain false, 69 for a false that names a pair, and document 01's number of a refusal. 64 and more are far from
-- the refusals, 1 to 6, and from the further answers of document 02, 7 to 11; 0 says of every call that its work is done whole.
abbrev pub matching_number : Result Matching Refusal → ℕ
matching_number (Ok Matched) = 0
matching_number (Ok NotMatched) = 64
matching_number (Ok (NoNumber p)) = 69
matching_number (Err r) = refusal_number r

-- what the search says: true for a match, false for everything else
abbrev pub is_matched : Matching → Bool
is_matched Matched = true
is_matched NotMatched = false
is_matched (NoNumber p) = false

-- document 01's answer of the whole call: true for a match, false for everything else
abbrev pub answers_true : Result Matching Refusal → Bool
answers_true (Ok m) = is_matched m
answers_true (Err r) = false

-- a slot is filled if it holds a position's number, and free while it holds -1
abbrev pub is_filled : ℤ → Bool
is_filled (pos i) = true
is_filled (negsuc k) = false

-- slot j is free and near position i
abbrev pub takes : (ℕ → ℕ → Bool) → List ℤ → ℕ → ℕ → Bool
takes is_near slots i j = not (is_filled (get_or slots j (pos 0))) && is_near i j

-- The lowest free slot that is near position i takes i. If there is none, the place is past the end, and `set` leaves the slots.
unfoldable pub match_one : (ℕ → ℕ → Bool) → ℕ → List ℤ → List ℤ
match_one is_near i slots = set slots (lowest (length slots) (takes is_near slots i)) (pos i)

-- the slots when the search comes to position i: set to -1, and then placed for the positions before i, rising
unfoldable pub placed_to : (ℕ → ℕ → Bool) → ℕ → ℕ → List ℤ
placed_to is_near n i = times i (match_one is_near) (replicate n (negsuc 0))

-- the slots when all positions are placed
unfoldable pub matched_up_to : (ℕ → ℕ → Bool) → ℕ → List ℤ
matched_up_to is_near n = placed_to is_near n n

-- ---- pairs whose distance is no number (document 02, A.3)

-- The slot that takes position i; the number of slots if none does. The search tries the free slots up to it, rising.
unfoldable pub slot_for : (ℕ → ℕ → Distance) → List ℤ → ℕ → ℕ
slot_for dist slots i = lowest (length slots) (takes (near_by dist) slots i)

-- slot j is free, and its distance to position i is no number
abbrev pub no_number_at : (ℕ → ℕ → Distance) → List ℤ → ℕ → ℕ → Bool
no_number_at dist slots i j = not (is_filled (get_or slots j (pos 0))) && is_none (dist i j)

-- the first slot tried for position i whose distance is no number, and whether there is one; the slot that takes i is near
unfoldable pub none_at : (ℕ → ℕ → Distance) → List ℤ → ℕ → ℕ
none_at dist slots i = lowest (slot_for dist slots i) (no_number_at dist slots i)

unfoldable pub has_none : (ℕ → ℕ → Distance) → List ℤ → ℕ → Bool
has_none dist slots i = ltb (none_at dist slots i) (slot_for dist slots i)

-- the first pair that the search tried and whose distance is no number; its position is n if there is none
unfoldable pub first_none : (ℕ → ℕ → Distance) → ℕ → Pair
first_none dist n =
    let slots : ℕ → List ℤ = placed_to (near_by dist) n in
    let i = lowest n (λ i. has_none dist (slots i) i) in
    record { position = i; slot = none_at dist (slots i) i }

-- what a match that fails answers, by its first such pair
abbrev pub failed_by : ℕ → Pair → Matching
failed_by n p = cond (ltb p.position n) (NoNumber p) NotMatched

-- ---- the call

unfoldable pub all_filled : List ℤ → Bool
all_filled slots = all_of is_filled slots

-- Refusals 1 and 2. The slots are only written, so refusal 3 does not look at them.
unfoldable pub judged_matching : ℕ → ℕ → ℕ → ℕ → Answer
judged_matching lenSlots lenPos lenRot n =
    refuse_if (any_above limit2 (n ∷ [])) CountAboveLimit
    (refuse_if (any_wrong ((lenSlots, n) ∷ (lenPos, 3 * n) ∷ (lenRot, 3 * n) ∷ [])) WrongLength (Ok tt))

-- what the search answers and leaves: true exactly if all slots are filled
unfoldable pub searched : (ℕ → ℕ → Distance) → ℕ → Matching × List ℤ
searched dist n =
    let s = matched_up_to (near_by dist) n in
    (cond (all_filled s) Matched (failed_by n (first_none dist n)), s)

-- what the call answers and leaves, by its guard: a refused call leaves the slots
unfoldable pub answered : Answer → List ℤ → Matching × List ℤ → Result Matching Refusal × List ℤ
answered (Ok u) slots found = (Ok found.0, found.1)
answered (Err r) slots found = (Err r, slots)

-- the answer, and the slots that the call leaves
unfoldable pub compute_permutation : List ℤ → Cell → List Float → List Float → ℕ → Result Matching Refusal × List ℤ
compute_permutation slots cell positions rotated n =
    answered (judged_matching (length slots) (length positions) (length rotated) n) slots (searched (distance cell positions rotated) n)
