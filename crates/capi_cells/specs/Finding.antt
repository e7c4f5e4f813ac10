-- What gf_find_permutation answers and leaves: the lattice comes as a slice, which may have another length than nine, and the flags of the axes as one that may have
-- another than three. Assumes nothing.
use Rattle.std.specs.Prelude.{Result, Err, ◌≡◌, refl, Bool, true, false, List, [], ◌∷◌, ℕ, ◌≤◌, ◌<◌, ℤ, length, Float}
use Rattle.std.proofs.Common.{subst, lt-ltb, le-ltb}
use Rattle.tables.specs.declared.Refusal.{Refusal}
use Rattle.tables.specs.declared.Refusal.TheVariants.{CountAboveLimit, WrongLength}
use Rattle.tables.specs.Answers.{number_of, refuse_if}
use Rattle.tables.specs.Limits.{limit2}
use Rattle.tables.specs.Conditions.{any_above}
use Rattle.distances.specs.declared.Cell.{Cell}
use Rattle.capi_cells.specs.Cells.{cell_of, cell_fits}
use Rattle.matching.specs.declared.finding.Finding.{Finding}
use Rattle.matching.specs.FindPermutation.{finding_number, Promise}

-- r is the number of an answer that is as promised, with the slots and the marks
pub record Numbered (promised : Result Finding Refusal × List ℤ × List ℕ → Type 0) (r : ℕ × List ℤ × List ℕ) : Type 0 where
  pub answer : Result Finding Refusal
  pub number : r.0 ≡ finding_number answer
  pub kept : promised (answer, r.1, r.2)

-- by whether the lattice has nine numbers and the flags are three: if not, refusal 2, which comes after refusal 1
abbrev pub FindsBy : Bool → List ℤ → List ℕ → Cell → List Float → List Float → ℕ → ℕ × List ℤ × List ℕ → Type 0
FindsBy true slots marks cell positions rotated n r = Numbered (Promise slots marks cell positions rotated n) r
FindsBy false slots marks cell positions rotated n r = r ≡ (number_of (refuse_if (any_above limit2 (n ∷ [])) CountAboveLimit (Err WrongLength)), slots, marks)

abbrev pub Finds : List ℤ → List ℕ → List Float → Float → List ℕ → List Float → List Float → ℕ → ℕ × List ℤ × List ℕ → Type 0
Finds slots marks lattice symprec periodic positions rotated n r =
    FindsBy (cell_fits (length lattice) (length periodic)) slots marks (cell_of lattice symprec periodic) positions rotated n r

module _ (slots : List ℤ) (marks : List ℕ) (lattice : List Float) (symprec : Float) (periodic : List ℕ) (positions rotated : List Float) (n : ℕ) where
  -- the call, step by step: cell is the cell that was made, f the answer, left and group what it leaves, r the answer's number
  pub found : (cell : Cell) (f : Result Finding Refusal) (left : List ℤ) (group : List ℕ) (r : ℕ) → Promise slots marks cell positions rotated n (f, left, group) → r ≡ finding_number f
      → cell_fits (length lattice) (length periodic) ≡ true → cell ≡ cell_of lattice symprec periodic → Finds slots marks lattice symprec periodic positions rotated n (r, left, group)
  found cell f left group r p q fit made =
      rw fit (record { answer = f; number = q; kept = subst (λ (x : Cell). Promise slots marks x positions rotated n (f, left, group)) made p })

  -- other lengths: refusal 1 comes before refusal 2
  pub above : cell_fits (length lattice) (length periodic) ≡ false → limit2 < n → Finds slots marks lattice symprec periodic positions rotated n (1, slots, marks)
  above fit h = rw (fit, lt-ltb limit2 n h) refl

  pub wrong : cell_fits (length lattice) (length periodic) ≡ false → n ≤ limit2 → Finds slots marks lattice symprec periodic positions rotated n (2, slots, marks)
  wrong fit h = rw (fit, le-ltb limit2 n h) refl
