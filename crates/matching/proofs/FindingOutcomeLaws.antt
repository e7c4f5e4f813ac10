-- What greedy leaves is where the search starts, and the ways in which the call ends. Assumes nothing.
use Rattle.std.specs.Prelude.{Result, Err, Ok, ◌≡◌, Bool, true, false, ℕ, ◌≤◌, ◌<◌, ltb, ℤ, negsuc, length, replicate, Float}
use Rattle.std.proofs.Math.Path.{refl, ap}
use Rattle.std.proofs.Common.{sym, ◌∙◌, subst, true≢false, eq-eqb, ne_eqb}
use Rattle.std.proofs.lemmas.Bool.{false≢true}
use mathlib.Core.List.{List, [], ◌∷◌}
use Rattle.lists.specs.Tests.{not-both}
use Rattle.tables.specs.Answers.{Answer}
use Rattle.tables.specs.declared.Refusal.{Refusal}
use Rattle.tables.specs.declared.Refusal.TheVariants.{WrongLength}
use Rattle.tables.specs.Answers.{is_refusal, refuse_if, and_then, first_refuses, first_passes, both-done, passed}
use Rattle.tables.specs.Limits.{limit2}
use Rattle.tables.specs.Conditions.{any_wrong, not-wrong}
use Rattle.distances.specs.declared.Cell.{Cell}
use Rattle.distances.specs.declared.Distance.{Distance}
use Rattle.distances.specs.Near.{near, near_by}
use Rattle.matching.specs.declared.cells.Matching.{Matching}
use Rattle.matching.specs.Matching.{is_matched, matched_up_to, all_filled, first_none, judged_matching, searched}
use Rattle.matching.proofs.CellsOutcomeLaws as cells
use Rattle.matching.specs.Slots.{Triples}
use Rattle.matching.specs.Bijection.{Bijection}
use Rattle.matching.proofs.BijectionLaws.{matched_is, placed-length, placed-each, placed-apart, placed-bijection}
use Rattle.matching.specs.Groups.{Held, Partial}
use Rattle.matching.specs.declared.finding.Finding.{Finding}
use Rattle.matching.specs.declared.finding.Finding.TheVariants.{Found, NoMatch}
use Rattle.matching.specs.FindPermutation.{judged_finding, ended, Outcome, Promise}
use Rattle.matching.specs.Rest.{PlacedAll}

-- ---- what greedy leaves is where the search starts

module _ (is_near : ℕ → ℕ → Bool) (n : ℕ) where
  greedy-partial : Partial is_near n (matched_up_to is_near n)
  greedy-partial = record { len = placed-length is_near n; each = placed-each is_near n; apart = placed-apart is_near n }

  greedy-held : all_filled (matched_up_to is_near n) ≡ true → (p : ℕ) → p < n → Held n (matched_up_to is_near n) p
  greedy-held e = (placed-bijection is_near n e).onto

  module _ (left : List ℤ) (e : left ≡ matched_up_to is_near n) where
    pub greedy-length : length left ≡ n
    greedy-length = ap length e ∙ placed-length is_near n

    -- so many slots, and some positions in them
    pub greedy-ready : Partial is_near (length left) left
    greedy-ready = subst (λ (k : ℕ). Partial is_near k left) (sym greedy-length) (subst (Partial is_near n) (sym e) greedy-partial)

    pub from-greedy : (r : Bool) (new : List ℤ) (marks : List ℕ) → PlacedAll is_near (length left) left r new marks → PlacedAll is_near n (matched_up_to is_near n) r new marks
    from-greedy r new marks H =
        subst (λ (s : List ℤ). PlacedAll is_near n s r new marks) e (subst (λ (k : ℕ). PlacedAll is_near k left r new marks) greedy-length H)

-- ---- what greedy answers

module _ (dist : ℕ → ℕ → Distance) (n : ℕ) (m : Matching) (left : List ℤ) (e : (m, left) ≡ searched dist n) where
  pub greedy-left : left ≡ matched_up_to (near_by dist) n
  unfolding searched
  greedy-left = ap (λ (x : Matching × List ℤ). x.1) e

  pub greedy-told : is_matched m ≡ all_filled (matched_up_to (near_by dist) n)
  unfolding searched
  greedy-told =
      ap (λ (x : Matching × List ℤ). is_matched x.0) e
      ∙ matched_is (all_filled (matched_up_to (near_by dist) n)) (ltb (first_none dist n).position n) (first_none dist n)

-- ---- the ways in which the search ends

module _ (is_near : ℕ → ℕ → Bool) (n : ℕ) where
  is_found_lem : (new : List ℤ) → ◌≡◌ {A = Result Finding Refusal × List ℤ × List ℕ} (Ok Found, new, replicate n 0) (ended n true new [])
  unfolding ended
  is_found_lem new = refl

  is_none_lem : (group : List ℕ) → ◌≡◌ {A = Result Finding Refusal × List ℤ × List ℕ} (Ok NoMatch, replicate n (negsuc 0), group) (ended n false [] group)
  unfolding ended
  is_none_lem group = refl

  -- greedy's bijection, where it has one
  pub found-greedy : (new : List ℤ) (marks : List ℕ) → all_filled (matched_up_to is_near n) ≡ true → new ≡ matched_up_to is_near n → marks ≡ replicate n 0 → Outcome is_near n (Ok Found, new, marks)
  found-greedy new marks f e z = record {
    found = true;
    chosen = new;
    group = [];
    answer = ap (λ (m : List ℕ). (Ok Found, new, m)) z ∙ is_found_lem new;
    ends = record {
      slots_len = λ _. ap length e ∙ placed-length is_near n;
      bijection = λ _. subst (Bijection is_near n) (sym e) (placed-bijection is_near n f);
      ruled_out = λ t. absurd (true≢false t);
      greedy = λ _. (refl, e);
    };
  }

  -- one by chains of exchanges
  pub found-one : (r : Bool) (new : List ℤ) (old marks : List ℕ) → PlacedAll is_near n (matched_up_to is_near n) r new old → r ≡ true → length new ≡ n → marks ≡ replicate n 0 → Outcome is_near n (Ok Found, new, marks)
  found-one r new old marks H t l z = record {
    found = true;
    chosen = new;
    group = [];
    answer = ap (λ (m : List ℕ). (Ok Found, new, m)) z ∙ is_found_lem new;
    ends = record {
      slots_len = λ _. l;
      bijection = λ _. H.bijection t;
      ruled_out = λ e. absurd (true≢false e);
      greedy = λ e. (refl, (H.at_home (greedy-held is_near n e)).1);
    };
  }

  -- none
  pub found_none : (r : Bool) (new slots : List ℤ) (marks : List ℕ) (f : Finding) → PlacedAll is_near n (matched_up_to is_near n) r new marks → r ≡ false → f ≡ NoMatch → slots ≡ replicate n (negsuc 0)
      → Outcome is_near n (Ok f, slots, marks)
  found_none r new slots marks f H t a z = record {
    found = false;
    chosen = [];
    group = marks;
    answer = ap (λ (x : Finding). (Ok x, slots, marks)) a ∙ ap (λ (s : List ℤ). (Ok NoMatch, s, marks)) z ∙ is_none_lem marks;
    ends = record {
      slots_len = λ e. absurd (false≢true e);
      bijection = λ e. absurd (false≢true e);
      ruled_out = λ _. H.group t;
      greedy = λ e. absurd (not-both (H.at_home (greedy-held is_near n e)).0 t);
    };
  }

-- ---- the call

pub record Accepted (lenSlots lenMarks lenPos lenRot n : ℕ) : Type 0 where
  pub small : n ≤ limit2
  pub slots_len : lenSlots ≡ n
  pub marks-len : lenMarks ≡ n
  pub triples : Triples n lenPos lenRot

pub accepted : (s m p r n : ℕ) → judged_finding s m p r n ≡ Ok tt → Accepted s m p r n
unfolding judged_finding
accepted s m p r n e =
    let (d, next) = both-done (judged_matching s p r n) _ e in
    let A = cells.accepted s p r n d in
    let lens = not-wrong ((m, n) ∷ []) (passed (any_wrong ((m, n) ∷ [])) WrongLength (Ok tt) next).0 in
    record { small = A.small; slots_len = A.slots_len; marks-len = lens.0; triples = A.triples }

-- the guard by that of the positions: a is what it answers
module _ (s m p r n : ℕ) (a : Answer) (e : a ≡ judged_matching s p r n) where
  abbrev next : Answer
  next = refuse_if (any_wrong ((m, n) ∷ [])) WrongLength (Ok tt)

  pub positions-refused : is_refusal a ≡ true → a ≡ judged_finding s m p r n
  unfolding judged_finding
  positions-refused h = first_refuses a next h ∙ ap (λ b. and_then b next) e

  marks-next : is_refusal a ≡ false → next ≡ judged_finding s m p r n
  unfolding judged_finding
  marks-next h = first_passes a next h ∙ ap (λ b. and_then b next) e

  pub marks-wrong : is_refusal a ≡ false → (m ≡ n → ⊥) → Err WrongLength ≡ judged_finding s m p r n
  marks-wrong h d = let w : Err WrongLength ≡ next = rw (ne_eqb m n d) refl in w ∙ marks-next h

  pub marks-right : is_refusal a ≡ false → m ≡ n → Ok tt ≡ judged_finding s m p r n
  marks-right h q = let w : Ok tt ≡ next = rw (eq-eqb m n q) refl in w ∙ marks-next h

module _ (slots : List ℤ) (marks : List ℕ) (cell : Cell) (positions rotated : List Float) (n : ℕ) where
  abbrev guard : Answer
  guard = judged_finding (length slots) (length marks) (length positions) (length rotated) n

  -- a refused call leaves what it was lent
  pub refused : (r : Refusal) → guard ≡ Err r → Promise slots marks cell positions rotated n (Err r, slots, marks)
  refused r e = rw e refl

  pub finished : (k : ℕ) (r : Result Finding Refusal × List ℤ × List ℕ) → guard ≡ Ok tt → k ≡ n → Outcome (near cell positions rotated) k r → Promise slots marks cell positions rotated n r
  finished k r e q R = rw e (subst (λ (k : ℕ). Outcome (near cell positions rotated) k r) q R)
