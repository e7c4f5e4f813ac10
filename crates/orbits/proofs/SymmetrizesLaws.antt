-- The symmetrizer's loop leaves the symmetrized set. Assumes nothing.
use Rattle.std.specs.Prelude.{◌≡◌, ℕ, ◌<◌, List}
use Rattle.std.proofs.Math.Path.{sym}
use Rattle.std.proofs.Common.{◌∙◌}
use Rattle.std.proofs.Math.Seq.{ext_get_or}
use Rattle.tables.specs.Shifts.{Shifts, Laws}
use Rattle.lists.specs.Tab.{length-tab, get_or-tab}
use Rattle.lists.specs.Digits.{times_power}
use Rattle.places.specs.Places.{legs_at, place, fill, size}
use Rattle.places.specs.Permutations.{Group}
use Rattle.orbits.specs.Blockwise.{in_block}
use Rattle.orbits.specs.Symmetric.{images, leader, mean_at, symmetrized}
use Rattle.orbits.specs.Spread.{Written, mean_of}
use Rattle.orbits.proofs.SpreadLaws.{finish}
use Rattle.orbits.specs.SymmetrizerLaws.{groups, orbits}

-- ---- the loop: after all blocks the set is the symmetrized one

module _ (S : Shifts) (L : Laws S) (m : ℕ) (os : List (List ℕ)) (G : Group m os) where
  module _ {A : Type 0} (z : A) (mean : List A → A) (old : List A) where
    pub symmetrizes : (l : List A) → Written (groups S L m os G) z mean old (times_power S.n_satom m S.n_patom) l
        → l ≡ symmetrized z mean S m os old
    unfolding symmetrized fill mean_of mean_at
    symmetrizes l I =
        ext_get_or z l (symmetrized z mean S m os old) (I.size_set ∙ sym (length-tab (size S m) _)) (λ q h.
        let hq : q < size S m = rw I.size_set at h in
        finish (groups S L m os G) (orbits S L m os G) z mean old l I q hq
        ∙ sym (get_or-tab (size S m) (λ q. mean_at z mean S m os old (leader (in_block m) (images S os (legs_at S (place S m q))))) q z hq))
