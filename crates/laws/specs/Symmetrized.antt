-- Demand 3 of the symmetrizers: after one call of a compact form that is not refused, whatever the set held, all permutations of any legs read
-- out identical bits, repeated atoms and half shifts included, and the value is the mean of document 01 (`IsMean`, crate `orbits`, specs/Mean).
-- The model of IEEE 754 has one NaN, so "identical bits" is proved up to NaN: where one read-out is a NaN so is the other, with whatever payload.
-- Assumes nothing.
use Rattle.std.specs.Prelude.{Ok, ◌≡◌, ℕ, List, length, Float}
use Rattle.std.proofs.Common.{ap}
use Rattle.std.specs.Float.Ieee.{nan}
use Rattle.lists.specs.Members.{In}
use Rattle.tables.specs.Answers.{is_refusal, after-done}
use Rattle.tables.specs.Shifts.{Shifts, Laws}
use Rattle.tables.specs.Limits.{limit3, limit4}
use Rattle.tables.specs.Compact.{ShiftTables, shifts_of, judged_compact}
use Rattle.tables.proofs.CompactLaws.{done_compact}
use Rattle.places.specs.Places.{Leg, Legs, read_out, size, length-fill}
use Rattle.places.proofs.PlacesLaws.{same-read_out}
use Rattle.places.specs.Permutations.{permute_legs, Group, perms3, perms4, six-group, twenty_four_group}
use Rattle.orbits.specs.Symmetric.{symmetrized, symmetric}
use Rattle.orbits.specs.Mean.{IsMean, mean_unique}
use Rattle.orbits.proofs.MeanLaws.{symmetrized_is_mean}
use Rattle.fc3.specs.Mean.{mean6}
use Rattle.fc3.specs.Symmetrize.{set_permutation_symmetry_compact_fc3}
use Rattle.fc4.specs.Mean24.{mean24}
use Rattle.fc4.specs.Symmetrize.{set_permutation_symmetry_compact_fc4}

-- a set that was old and is new, over the tables S, read by any m + 1 legs in any of the permutations os
pub record Symmetric (mean : List Float → Float) (S : Shifts) (m : ℕ) (os : List (List ℕ)) (old new : List Float) : Type 0 where
  -- all permutations of any legs hold identical bits
  pub alike : (σ : List ℕ) (xs : List Leg) → In σ os → Legs S m xs → read_out nan S new (permute_legs σ xs) ≡ read_out nan S new xs
  -- and the value is the mean of what the old set read out
  pub is_mean : (xs : List Leg) → Legs S m xs → IsMean nan mean S m os old new xs
  -- and no other set of its length holds that mean at all legs
  pub only : (other : List Float) → length other ≡ size S m → ((xs : List Leg) → Legs S m xs → IsMean nan mean S m os old other xs) → other ≡ new

holds : (mean : List Float → Float) (S : Shifts) (m : ℕ) (os : List (List ℕ)) → Laws S → Group m os → (old : List Float) → Symmetric mean S m os old (symmetrized nan mean S m os old)
holds mean S m os L G old = record {
  alike = λ σ xs h p. symmetric S L m os G nan mean old σ xs h p;
  is_mean = λ xs p. symmetrized_is_mean nan mean S L m os G old xs p;
  only = λ other l h.
      same-read_out S L nan m other (symmetrized nan mean S m os old) l (unfold symmetrized in length-fill S m _)
      (λ xs p. mean_unique nan mean S L m os G old xs p other (symmetrized nan mean S m os old) (h xs p) (symmetrized_is_mean nan mean S L m os G old xs p));
}

-- third order: all 6 permutations of any three legs
pub third : (set : List Float) (T : ShiftTables) (work : List ℕ) → (set_permutation_symmetry_compact_fc3 set T work).0 ≡ Ok tt
    → Symmetric mean6 (shifts_of T) 2 perms3 set (set_permutation_symmetry_compact_fc3 set T work).1
unfolding set_permutation_symmetry_compact_fc3
third set T work e =
    let a = judged_compact limit3 2 (length set) 2 (length work) T in
    rw (after-done a (symmetrized nan mean6 (shifts_of T) 2 perms3 set) set (ap is_refusal e))
    (holds mean6 (shifts_of T) 2 perms3 (done_compact limit3 2 (length set) 2 (length work) T e).rules six-group set)

-- fourth order: all 24 permutations of any four legs
pub fourth : (set : List Float) (T : ShiftTables) (work : List ℕ) → (set_permutation_symmetry_compact_fc4 set T work).0 ≡ Ok tt
    → Symmetric mean24 (shifts_of T) 3 perms4 set (set_permutation_symmetry_compact_fc4 set T work).1
unfolding set_permutation_symmetry_compact_fc4
fourth set T work e =
    let a = judged_compact limit4 3 (length set) 3 (length work) T in
    rw (after-done a (symmetrized nan mean24 (shifts_of T) 3 perms4 set) set (ap is_refusal e))
    (holds mean24 (shifts_of T) 3 perms4 (done_compact limit4 3 (length set) 3 (length work) T e).rules twenty_four_group set)
