-- The counterpart of a block that is given by its atoms: the stored block of the atoms permuted. This is how a program finds it from the
-- tables. Assumes nothing.
use Rattle.std.specs.Prelude.{◌≡◌, refl, ℕ, ◌<◌, length}
use Rattle.std.proofs.Common.{sym, ◌∙◌}
use Rattle.std.proofs.Math.Path.{ap, ap₂}
use mathlib.Core.List.{List, ◌∷◌}
use Rattle.lists.specs.Tab.{get_or-tab}
use Rattle.lists.specs.Elements.{Below, pick, straight, map_id}
use Rattle.lists.specs.Digits.{horner, rest_horner, digits-horner}
use Rattle.tables.specs.Shifts.{Shifts, Laws, row, p2s_at, nsym_at, nsym_p2s}
use Rattle.places.specs.WholeLaws.{full_shifts, whole-laws}
use Rattle.places.specs.Addresses.{stored_block}
use Rattle.orbits.specs.Blockwise.{block_atoms, stored_atoms, opened_atoms, atoms_at}
use Rattle.orbits.specs.Transposed.{counterpart}

stored_of : (S : Shifts) (i : ℕ) (js : List ℕ) → block_atoms S (stored_atoms S (i ∷ js)) ≡ stored_block S i js
unfolding block_atoms stored_atoms stored_block
stored_of S i js = refl

module _ (S : Shifts) (p : ℕ) (js : List ℕ) (b : Below S.n_satom js) where
  -- the atoms of the block are read off its number
  pub atoms_are : atoms_at S (length js) (horner S.n_satom p js) ≡ p ∷ js
  unfolding atoms_at
  atoms_are = ap₂ ◌∷◌ (rest_horner S.n_satom p js b) (digits-horner S.n_satom p js b)

  pub counterpart-at : (σ : List ℕ) (i : ℕ) (ks : List ℕ) → pick 0 σ (p2s_at S p ∷ js) ≡ i ∷ ks
      → counterpart S (length js) σ (horner S.n_satom p js) ≡ stored_block S i ks
  unfolding counterpart opened_atoms
  counterpart-at σ i ks e =
      ap (λ ks. block_atoms S (stored_atoms S (pick 0 σ (opened_atoms S ks)))) atoms_are ∙ ap (λ ks. block_atoms S (stored_atoms S ks)) e ∙ stored_of S i ks

  -- a representative's stored block is the block itself
  pub stored-own : Laws S → p < S.n_patom → stored_block S (p2s_at S p) js ≡ horner S.n_satom p js
  unfolding stored_block
  stored-own L h =
      ap₂ (horner S.n_satom) (L.s2pp-p2s p h) (map_id (λ k. k < S.n_satom) (row S (nsym_at S (p2s_at S p))) js (λ k hk. nsym_p2s S L p k h hk) b)

-- a full set, in which each atom is its own representative: the stored block of atoms is the block of these atoms
pub whole-p2s : (n i : ℕ) → i < n → p2s_at (full_shifts n) i ≡ i
unfolding p2s_at full_shifts straight
whole-p2s n i h = get_or-tab n (λ k. k) i 0 h

module _ (n i : ℕ) (js : List ℕ) (h : i < n) (b : Below n js) where
  pub whole-block : stored_block (full_shifts n) i js ≡ horner n i js
  unfolding full_shifts
  whole-block = ap (λ a. stored_block (full_shifts n) a js) (sym (whole-p2s n i h)) ∙ stored-own (full_shifts n) i js b (whole-laws n) h

  pub whole-counterpart : (σ : List ℕ) (k : ℕ) (ks : List ℕ) → pick 0 σ (i ∷ js) ≡ k ∷ ks → counterpart (full_shifts n) (length js) σ (horner n i js) ≡ stored_block (full_shifts n) k ks
  unfolding full_shifts
  whole-counterpart σ k ks e = counterpart-at (full_shifts n) i js b σ k ks (ap (λ a. pick 0 σ (a ∷ js)) (whole-p2s n i h) ∙ e)
