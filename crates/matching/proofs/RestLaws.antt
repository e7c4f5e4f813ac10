-- What the search for one position leaves: it has a slot, or the marks are a group. Assumes nothing.
use Rattle.std.specs.Prelude.{Bool, List, ℕ, ◌≤◌, ◌<◌, ℤ, replicate}
use Rattle.matching.specs.Groups.{Held, Partial}
use Rattle.matching.specs.Chains.{Searched}
use Rattle.matching.specs.Rest.{PlacedOne, none}
use Rattle.matching.proofs.GroupsLaws.{stuck-group}

module _ (is_near : ℕ → ℕ → Bool) (n : ℕ) (slots : List ℤ) (P : Partial is_near n slots) (i : ℕ) (h : i < n) where
  module _ (small : n ≤ 1024) (out : Held n slots i → ⊥) where
    pub placed-now : (r : Bool) (new : List ℤ) (marks : List ℕ) → Searched is_near n slots (replicate n 0) i r new marks → PlacedOne is_near n slots i r new marks
    placed-now r new marks S = record {
      partial = λ e. (S.found e).partial;
      placed_it = λ e. (S.found e).placed;
      kept = λ e. (S.found e).kept;
      at_home = λ e. absurd (out e);
      group = λ e. stuck-group is_near n slots marks i P S.marks_are h S.met out (λ p hp m. (S.stuck e).settled p hp m (none is_near n slots P i h small out p));
    }
