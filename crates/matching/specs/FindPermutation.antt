-- The second matcher (document 02, A.6): what the call answers and what it leaves. Definitions only.
-- It finds a bijection of near pairs if there is one, greedy's where greedy succeeds. Otherwise it marks positions that have fewer near slots between them
-- than they are. Which bijection and which group it returns is left free: the promise says that it is one.
use Rattle.std.specs.Prelude.{Result, Err, Ok, ◌≡◌, Bool, true, false, cond, List, [], ◌∷◌, ℕ, ℤ, negsuc, length, replicate, Float}
use Rattle.tables.specs.Answers.{Answer}
use Rattle.tables.specs.declared.Refusal.{Refusal}
use Rattle.tables.specs.declared.Refusal.TheVariants.{WrongLength}
use Rattle.tables.specs.Answers.{refusal_number, refuse_if, and_then}
use Rattle.tables.specs.Conditions.{any_wrong}
use Rattle.distances.specs.declared.Cell.{Cell}
use Rattle.distances.specs.Near.{near}
use Rattle.matching.specs.Matching.{matched_up_to, all_filled, judged_matching}
use Rattle.matching.specs.Bijection.{Bijection}
use Rattle.matching.specs.declared.finding.Finding.{Finding}
use Rattle.matching.specs.declared.finding.Finding.TheVariants.{Found, NoMatch}
use Rattle.matching.specs.Groups.{TooFewSlots}

-- the number of each case: 0 found, 72 no match exists, and a refusal's own
abbrev pub finding_number : Result Finding Refusal → ℕ
finding_number (Ok Found) = 0
finding_number (Ok NoMatch) = 72
finding_number (Err r) = refusal_number r

-- refusals 1 and 2: those of `compute_permutation`, and num_pos marks
unfoldable pub judged_finding : ℕ → ℕ → ℕ → ℕ → ℕ → Answer
judged_finding lenSlots lenMarks lenPos lenRot n =
    and_then (judged_matching lenSlots lenPos lenRot n) (refuse_if (any_wrong ((lenMarks, n) ∷ [])) WrongLength (Ok tt))

-- What the search answers and leaves, by whether a match was found, and by the bijection or the group that was: the slots are all -1 where there is no match, and
-- the marks are zeros where there is one.
unfoldable pub ended : ℕ → Bool → List ℤ → List ℕ → Result Finding Refusal × List ℤ × List ℕ
ended n found chosen group = (Ok (cond found Found NoMatch), cond found chosen (replicate n (negsuc 0)), cond found (replicate n 0) group)

-- What is promised of the three: a bijection of near pairs, greedy's where greedy succeeds, or a group that has fewer near slots than members.
pub record Ends (is_near : ℕ → ℕ → Bool) (n : ℕ) (found : Bool) (chosen : List ℤ) (group : List ℕ) : Type 0 where
  pub slots_len : found ≡ true → length chosen ≡ n
  pub bijection : found ≡ true → Bijection is_near n chosen
  pub ruled_out : found ≡ false → TooFewSlots is_near n group
  pub greedy : all_filled (matched_up_to is_near n) ≡ true → (found ≡ true) × (chosen ≡ matched_up_to is_near n)

-- r is what the search answers and leaves
pub record Outcome (is_near : ℕ → ℕ → Bool) (n : ℕ) (r : Result Finding Refusal × List ℤ × List ℕ) : Type 0 where
  pub found : Bool
  pub chosen : List ℤ
  pub group : List ℕ
  pub answer : r ≡ ended n found chosen group
  pub ends : Ends is_near n found chosen group

-- what the call answers and leaves, by its guard: a refused call leaves the slots and the marks
abbrev pub Answered : Answer → List ℤ → List ℕ → (ℕ → ℕ → Bool) → ℕ → Result Finding Refusal × List ℤ × List ℕ → Type 0
Answered (Ok u) slots marks is_near n r = Outcome is_near n r
Answered (Err a) slots marks is_near n r = r ≡ (Err a, slots, marks)

-- the promise of the call
abbrev pub Promise : List ℤ → List ℕ → Cell → List Float → List Float → ℕ → Result Finding Refusal × List ℤ × List ℕ → Type 0
Promise slots marks cell positions rotated n r =
    Answered (judged_finding (length slots) (length marks) (length positions) (length rotated) n) slots marks (near cell positions rotated) n r
