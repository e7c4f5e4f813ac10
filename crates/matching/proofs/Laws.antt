-- What the answer of a call tells (document 02, A.6): a match is found exactly if one exists, the group that is marked rules every match out, and where
-- greedy succeeds its match is returned. Assumes nothing.
use Rattle.std.specs.Prelude.{Result, Err, Ok, ◌≡◌, refl, ◌⊎◌, Bool, cond, ℕ, ◌≤◌, ℤ, negsuc, length, get_or, Float}
use Rattle.std.proofs.Math.Path.{sym, ap}
use Rattle.std.proofs.Common.{◌∙◌, subst, inl, inr}
use Rattle.std.proofs.Math.Bool.{true, false}
use mathlib.Core.List.{List}
use Rattle.std.proofs.Math.ListN.{replicate}
use Rattle.lists.specs.Tests.{split, not-both}
use Rattle.tables.specs.Answers.{Answer}
use Rattle.tables.specs.declared.Refusal.{Refusal}
use Rattle.distances.specs.declared.Cell.{Cell}
use Rattle.distances.specs.Near.{near}
use Rattle.matching.specs.Matching.{answers_true, judged_matching, compute_permutation}
use Rattle.matching.specs.Bijection.{Bijection}
use Rattle.matching.proofs.BijectionLaws.{matched-placed}
use Rattle.matching.specs.Groups.{TooFewSlots}
use Rattle.matching.proofs.GroupsLaws.{no-bijection}
use Rattle.matching.specs.declared.finding.Finding.{Finding}
use Rattle.matching.specs.declared.finding.Finding.TheVariants.{Found, NoMatch}
use Rattle.matching.specs.FindPermutation.{judged_finding, ended, Ends, Outcome, Answered, Promise}

abbrev Left : Type 0
Left = Result Finding Refusal × List ℤ × List ℕ

-- a group and a bijection exclude each other
pub found_if_any : (is_near : ℕ → ℕ → Bool) (n : ℕ) (found : Bool) (chosen : List ℤ) (group : List ℕ) → Ends is_near n found chosen group → (slots : List ℤ) → Bijection is_near n slots → found ≡ true
found_if_any is_near n found chosen group E slots B = go (split found)
  where
    go : (found ≡ true) ⊎ (found ≡ false) → found ≡ true
    go (inl e) = e
    go (inr e) = absurd (no-bijection is_near n group (E.ruled_out e) slots B)

-- ---- the search's end, by whether a match was found

abbrev is_found : Result Finding Refusal → Bool
is_found (Ok Found) = true
is_found (Ok NoMatch) = false
is_found (Err r) = false

abbrev is_none : Result Finding Refusal → Bool
is_none (Ok Found) = false
is_none (Ok NoMatch) = true
is_none (Err r) = false

found-told : (b : Bool) → is_found (Ok (cond b Found NoMatch)) ≡ b
found-told true = refl
found-told false = refl

none_told : (b : Bool) → is_none (Ok (cond b Found NoMatch)) ≡ true → b ≡ false
none_told true e = sym e
none_told false e = refl

module _ (is_near : ℕ → ℕ → Bool) (n : ℕ) (r : Left) (R : Outcome is_near n r) where
  with-found : (b : Bool) → R.found ≡ b → r ≡ ended n b R.chosen R.group
  with-found b e = R.answer ∙ ap (λ (b : Bool). ended n b R.chosen R.group) e

  of_found : is_found r.0 ≡ true → R.found ≡ true
  unfolding ended
  of_found e = sym (found-told R.found) ∙ sym (ap (λ (x : Left). is_found x.0) R.answer) ∙ e

  of_none : is_none r.0 ≡ true → R.found ≡ false
  unfolding ended
  of_none e = none_told R.found (sym (ap (λ (x : Left). is_none x.0) R.answer) ∙ e)

  answer-found : R.found ≡ true → r.0 ≡ Ok Found
  unfolding ended
  answer-found e = ap (λ (x : Left). x.0) (with-found true e)

  slots_found : R.found ≡ true → r.1 ≡ R.chosen
  unfolding ended
  slots_found e = ap (λ (x : Left). x.1) (with-found true e)

  marks-found : R.found ≡ true → r.2 ≡ replicate n 0
  unfolding ended
  marks-found e = ap (λ (x : Left). x.2) (with-found true e)

  slots_none : R.found ≡ false → r.1 ≡ replicate n (negsuc 0)
  unfolding ended
  slots_none e = ap (λ (x : Left). x.1) (with-found false e)

  marks-none : R.found ≡ false → r.2 ≡ R.group
  unfolding ended
  marks-none e = ap (λ (x : Left). x.2) (with-found false e)

  whole-found : R.found ≡ true → (left : List ℤ) → R.chosen ≡ left → r ≡ (Ok Found, left, replicate n 0)
  unfolding ended
  whole-found e left q = with-found true e ∙ ap (λ (s : List ℤ). (Ok Found, s, replicate n 0)) q

-- ---- THE CALL

module _ (slots : List ℤ) (marks : List ℕ) (cell : Cell) (positions rotated : List Float) (n : ℕ) (r : Left) (P : Promise slots marks cell positions rotated n r) where
  abbrev is_near : ℕ → ℕ → Bool
  is_near = near cell positions rotated

  abbrev guard : Answer
  guard = judged_finding (length slots) (length marks) (length positions) (length rotated) n

  -- a call that answers Found or NoMatch was not refused
  if_found : (a : Answer) → Answered a slots marks is_near n r → is_found r.0 ≡ true → Outcome is_near n r
  if_found (Ok u) A e = A
  if_found (Err q) A e = absurd (not-both e (ap (λ (x : Left). is_found x.0) A))

  if_none : (a : Answer) → Answered a slots marks is_near n r → is_none r.0 ≡ true → Outcome is_near n r
  if_none (Ok u) A e = A
  if_none (Err q) A e = absurd (not-both e (ap (λ (x : Left). is_none x.0) A))

  if_done : (a : Answer) → Answered a slots marks is_near n r → a ≡ Ok tt → Outcome is_near n r
  if_done a A e = rw e at A

  said_found : r.0 ≡ Ok Found → is_found r.0 ≡ true
  said_found e = ap is_found e

  said_none : r.0 ≡ Ok NoMatch → is_none r.0 ≡ true
  said_none e = ap is_none e

  -- FOUND: the slots are a bijection of near pairs, and the marks zeros
  pub found-bijection : r.0 ≡ Ok Found → Bijection is_near n r.1
  found-bijection e =
      let R = if_found guard P (said_found e) in
      let t = of_found is_near n r R (said_found e) in
      subst (Bijection is_near n) (sym (slots_found is_near n r R t)) (R.ends.bijection t)

  pub found-marks : r.0 ≡ Ok Found → r.2 ≡ replicate n 0
  found-marks e = let R = if_found guard P (said_found e) in marks-found is_near n r R (of_found is_near n r R (said_found e))

  -- NO MATCH: the marks are a group with fewer near slots than members, the slots are all -1, and no bijection of near pairs exists
  pub none-group : r.0 ≡ Ok NoMatch → TooFewSlots is_near n r.2
  none-group e =
      let R = if_none guard P (said_none e) in
      let t = of_none is_near n r R (said_none e) in
      subst (TooFewSlots is_near n) (sym (marks-none is_near n r R t)) (R.ends.ruled_out t)

  -- one mark for each position, 0 or 1
  pub none-marks : r.0 ≡ Ok NoMatch → (length r.2 ≡ n) × ((k : ℕ) → get_or r.2 k 0 ≤ 1)
  none-marks e = let m = (none-group e).marks_are in (m.len, m.bits)

  pub none_slots : r.0 ≡ Ok NoMatch → r.1 ≡ replicate n (negsuc 0)
  none_slots e = let R = if_none guard P (said_none e) in slots_none is_near n r R (of_none is_near n r R (said_none e))

  pub none_exists : r.0 ≡ Ok NoMatch → (s : List ℤ) → Bijection is_near n s → ⊥
  none_exists e s B = no-bijection is_near n r.2 (none-group e) s B

  -- FOUND WHENEVER ONE EXISTS, by every call that is not refused
  pub found_whenever : guard ≡ Ok tt → (s : List ℤ) → Bijection is_near n s → r.0 ≡ Ok Found
  found_whenever d s B =
      let R = if_done guard P d in
      answer-found is_near n r R (found_if_any is_near n R.found R.chosen R.group R.ends s B)

  -- where compute_permutation gives true, the same slots are returned
  pub greedy-kept : guard ≡ Ok tt → (old : List ℤ) → judged_matching (length old) (length positions) (length rotated) n ≡ Ok tt → answers_true (compute_permutation old cell positions rotated n).0 ≡ true
      → r ≡ (Ok Found, (compute_permutation old cell positions rotated n).1, replicate n 0)
  greedy-kept d old g e =
      let R = if_done guard P d in
      let (all, left) = matched-placed old cell positions rotated n g e in
      let (t, same) = R.ends.greedy all in
      whole-found is_near n r R t (compute_permutation old cell positions rotated n).1 (same ∙ sym left)
