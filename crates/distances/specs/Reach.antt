-- What the matcher works out once from the tolerance and the lattice, and what it may be used for. Assumes nothing.
use Rattle.std.specs.Prelude.{◌≡◌, Bool, true, false, not, ◌&&◌, cond, List, ◌*◌, ◌≤◌, T, get_or, Float}
use Rattle.std.specs.Float.{nan, inf, fin, binary64}
use Rattle.std.specs.Float.Ieee.{of_bits, add, mul, lt, le, eq, fits, up, down}
use Rattle.std.specs.Float.Ieee.Scale.{finite}
use Rattle.lists.specs.Floats.{plus_zero}
use Rattle.common.specs.Root.{sqrt}
use Rattle.distances.specs.declared.Cell.{Cell}
use Rattle.distances.specs.declared.Reach.{Reach}

-- no minus sign; a NaN counts
abbrev pub is_positive : Float → Bool
is_positive nan = true
is_positive (inf s) = not s
is_positive (fin s m e) = not s

-- `square` is the tolerance's square, and every x up to `sure` has a root below the tolerance
pub record Reaches (symprec square sure : Float) : Type 0 where
  pub squared : square ≡ mul binary64 symprec symprec
  pub near : (x : Float) → T (is_positive x) → le x sure ≡ true → lt (sqrt binary64 x) symprec ≡ true

-- the rest of an axis difference: NaN, or at most 1 in size
abbrev pub Rest : Float → Type 0
Rest nan = T true
Rest (inf s) = ⊥
Rest (fin s m e) = m * up e ≤ down e

-- a finite f64
abbrev pub Finite : Float → Type 0
Finite x = T (fits binary64 x) × T (finite x)

-- where `early` is below something, it is the tolerance's square, and the numbers of the second and of the third row are finite
pub record Early (square early p q r s t u : Float) : Type 0 where
  pub decides : (x : Float) → lt early x ≡ true → (early ≡ square) × (Finite p × Finite q × Finite r) × (Finite s × Finite t × Finite u)

abbrev pub EarlyOf : List Float → Float → Float → Type 0
EarlyOf l square early = Early square early (get_or l 3 nan) (get_or l 4 nan) (get_or l 5 nan) (get_or l 6 nan) (get_or l 7 nan) (get_or l 8 nan)

-- a cell repeats along all three axes
abbrev pub everywhere : List Bool → Bool
everywhere periodic = get_or periodic 0 false && (get_or periodic 1 false && get_or periodic 2 false)

-- where `early` is below something, the cell repeats along all axes
abbrev pub OnlyIf : Bool → Float → Type 0
OnlyIf repeats early = (x : Float) → lt early x ≡ true → repeats ≡ true

-- and then the differences are rests
abbrev pub Rests : Float → Float → Float → Float → Type 0
Rests early x y z = (w : Float) → lt early w ≡ true → Rest x × Rest y × Rest z

-- all of a cell
pub record ReachFits (cell : Cell) (reach : Reach) : Type 0 where
  pub reaches : Reaches cell.symprec reach.square reach.sure
  pub early_is : EarlyOf cell.lattice reach.square reach.early
  pub only_if : OnlyIf (everywhere cell.periodic) reach.early

-- ---- what is worked out, as it is worked out

-- the tolerance's square where the six numbers are finite, which an infinity or a NaN times 0.0 shows; otherwise NaN
abbrev pub early_of : Float → Float → Float → Float → Float → Float → Float → Float
early_of square p q r s t u =
    let z : Float → Float = λ x. mul binary64 x plus_zero in
    cond (eq (add binary64 (add binary64 (add binary64 (add binary64 (add binary64 (z p) (z q)) (z r)) (z s)) (z t)) (z u)) plus_zero) square nan

-- in a cell that repeats along all axes; NaN in any other
abbrev pub early_in : Bool → Float → List Float → Float
early_in repeats square l = cond repeats (early_of square (get_or l 3 nan) (get_or l 4 nan) (get_or l 5 nan) (get_or l 6 nan) (get_or l 7 nan) (get_or l 8 nan)) nan

-- a little less than the tolerance's square (times 1 - 2^-50), where its root is below the tolerance; otherwise NaN
abbrev pub sure_of : Float → Float → Float
sure_of symprec square = let x = mul binary64 square (of_bits binary64 0x3fef_ffff_ffff_fff8) in cond (lt (sqrt binary64 x) symprec) x nan

abbrev pub reach_of : Cell → Reach
reach_of cell =
    let square = mul binary64 cell.symprec cell.symprec in
    record { square = square; sure = sure_of cell.symprec square; early = early_in (everywhere cell.periodic) square cell.lattice }
