-- What gf_compute_permutation answers and leaves: the lattice comes as a slice, which may have another length than nine, the flags of the axes as one that may have
-- another than three, and the pair that a failed match names goes into two lent slots. Assumes nothing.
use Rattle.std.specs.Prelude.{Result, Ok, Err, ◌≡◌, Bool, true, false, cond, not, ◌&&◌, ℕ, ◌≤◌, ◌<◌, eqb, ℤ, length, get_or, set, Float}
use Rattle.std.proofs.Math.Path.{refl, ap}
use Rattle.std.proofs.Common.{◌∙◌, arith}
use mathlib.Core.List.{List, [], ◌∷◌}
use borrow.Author.Tests.{eqb-true, lt-ltb, le-ltb}
use Rattle.lists.specs.Tests.{and_fst, and_snd}
use Rattle.tables.specs.declared.Refusal.{Refusal}
use Rattle.tables.specs.declared.Refusal.TheVariants.{CountAboveLimit, WrongLength}
use Rattle.tables.specs.Answers.{number_of, refuse_if}
use Rattle.tables.specs.Limits.{limit2}
use Rattle.tables.specs.Conditions.{any_above}
use Rattle.distances.specs.declared.Cell.{Cell}
use Rattle.matching.specs.declared.cells.Pair.{Pair}
use Rattle.matching.specs.declared.cells.Matching.{Matching}
use Rattle.matching.specs.declared.cells.Matching.TheVariants.{Matched, NotMatched, NoNumber}
use Rattle.matching.specs.Matching.{matching_number, compute_permutation}

-- what the two slots are left at: the pair that a failed match names, or what they held
unfoldable pub pair_left : Result Matching Refusal → List ℕ → List ℕ
pair_left (Ok Matched) pair = pair
pair_left (Ok NotMatched) pair = pair
pair_left (Ok (NoNumber p)) pair = p.position ∷ p.slot ∷ []
pair_left (Err r) pair = pair

-- the number of the answer, the slots that the call leaves, and the pair
abbrev pub matching_slots : Result Matching Refusal × List ℤ → List ℕ → ℕ × List ℤ × List ℕ
matching_slots (m, slots) pair = (matching_number m, slots, pair_left m pair)

-- a byte for each axis: 0 where the cell does not repeat along it
abbrev pub flags_of : List ℕ → List Bool
flags_of periodic = not (eqb (get_or periodic 0 0) 0) ∷ not (eqb (get_or periodic 1 0) 0) ∷ not (eqb (get_or periodic 2 0) 0) ∷ []

abbrev pub cell_of : List Float → Float → List ℕ → Cell
cell_of lattice symprec periodic = record { lattice = lattice; symprec = symprec; periodic = flags_of periodic }

-- nine numbers for the lattice, three flags
abbrev pub cell_fits : ℕ → ℕ → Bool
cell_fits lenLattice lenPeriodic = eqb lenLattice 9 && eqb lenPeriodic 3

-- and two slots for the pair
abbrev pub call_fits : ℕ → ℕ → ℕ → Bool
call_fits lenLattice lenPeriodic lenPair = cell_fits lenLattice lenPeriodic && eqb lenPair 2

-- A lattice that has not nine numbers, flags that are not three, or a pair that has not two slots, is refusal 2, which comes after refusal 1.
unfoldable pub permutation : List ℤ → List Float → Float → List ℕ → List Float → List Float → List ℕ → ℕ → ℕ × List ℤ × List ℕ
permutation slots lattice symprec periodic positions rotated pair n =
    cond (call_fits (length lattice) (length periodic) (length pair))
    (matching_slots (compute_permutation slots (cell_of lattice symprec periodic) positions rotated n) pair)
    (number_of (refuse_if (any_above limit2 (n ∷ [])) CountAboveLimit (Err WrongLength)), slots, pair)

-- ---- laws

pub nine-and-three : (l f : ℕ) → cell_fits l f ≡ true → (l ≡ 9) × (f ≡ 3)
nine-and-three l f e = (eqb-true l 9 (and_fst (eqb l 9) (eqb f 3) e), eqb-true f 3 (and_snd (eqb l 9) (eqb f 3) e))

pub cell_and-two : (l f p : ℕ) → call_fits l f p ≡ true → ((l ≡ 9) × (f ≡ 3)) × (p ≡ 2)
cell_and-two l f p e = (nine-and-three l f (and_fst (cell_fits l f) (eqb p 2) e), eqb-true p 2 (and_snd (cell_fits l f) (eqb p 2) e))

-- the slots after their writes
pub two_slots : (pair : List ℕ) (i j : ℕ) → length pair ≡ 2 → set (set pair 0 i) 1 j ≡ (i ∷ j ∷ [])
two_slots [] i j e = absurd (omega (arith, e))
two_slots (_ ∷ []) i j e = absurd (omega (arith, e))
two_slots (_ ∷ (_ ∷ [])) i j e = refl
two_slots (_ ∷ (_ ∷ (_ ∷ _))) i j e = absurd (omega (arith, e))

module _ (pair : List ℕ) (m : Result Matching Refusal) where
  -- each answer, as it is told
  pub of_matched : m ≡ Ok Matched → pair ≡ pair_left m pair
  unfolding pair_left
  of_matched e = rw e refl

  pub of_not : m ≡ Ok NotMatched → pair ≡ pair_left m pair
  unfolding pair_left
  of_not e = rw e refl

  pub of_none : (p : Pair) (left : List ℕ) → m ≡ Ok (NoNumber p) → left ≡ (p.position ∷ p.slot ∷ []) → left ≡ pair_left m pair
  unfolding pair_left
  of_none p left e l = rw (l, e) refl

  pub of_refused : (r : Refusal) → m ≡ Err r → pair ≡ pair_left m pair
  unfolding pair_left
  of_refused r e = rw e refl

module _ (slots : List ℤ) (lattice : List Float) (symprec : Float) (periodic : List ℕ) (positions rotated : List Float) (pair : List ℕ) (n : ℕ) where
  -- the call, step by step: cell is the cell that was made, m the answer, left the slots after the call, q what the pair is left at, r the answer's number
  pub matched : (cell : Cell) (m : Result Matching Refusal) (left : List ℤ) (q : List ℕ) (r : ℕ) → (m, left) ≡ compute_permutation slots cell positions rotated n → q ≡ pair_left m pair → r ≡ matching_number m
      → call_fits (length lattice) (length periodic) (length pair) ≡ true → cell ≡ cell_of lattice symprec periodic → (r, left, q) ≡ permutation slots lattice symprec periodic positions rotated pair n
  unfolding permutation
  matched cell m left q r p t k fit made =
      ap (λ (x : ℕ). (x, left, q)) k ∙ ap (λ (x : List ℕ). (matching_number m, left, x)) t ∙ ap (λ (x : Result Matching Refusal × List ℤ). matching_slots x pair) p
      ∙ ap (λ (x : Cell). matching_slots (compute_permutation slots x positions rotated n) pair) made
      ∙ rw fit refl

  -- other lengths: refusal 1 comes before refusal 2
  pub above : call_fits (length lattice) (length periodic) (length pair) ≡ false → limit2 < n → (1, slots, pair) ≡ permutation slots lattice symprec periodic positions rotated pair n
  unfolding permutation
  above fit h = rw (fit, lt-ltb limit2 n h) refl

  pub wrong : call_fits (length lattice) (length periodic) (length pair) ≡ false → n ≤ limit2 → (2, slots, pair) ≡ permutation slots lattice symprec periodic positions rotated pair n
  unfolding permutation
  wrong fit h = rw (fit, le-ltb limit2 n h) refl
