-- Sheets 8, 9 and 10 of document 01, and values of document 02, A.3 and A.9, by computation, whatever the slots held. Assumes nothing.
use Rattle.std.specs.Prelude.{Ok, ◌≡◌, refl, Bool, true, false, List, [], ◌∷◌, ℤ, pos, negsuc, Float}
use Rattle.std.specs.Float.{nan, inf, binary64}
use Rattle.std.specs.Float.Ieee.{of_bits, add, sub, mul, lt, is_nan, round}
use Rattle.lists.specs.Tab.{times}
use Rattle.lists.specs.Members.{all_of}
use Rattle.common.specs.Whole.{nearest_whole}
use Rattle.common.specs.Root.{sqrt}
use Rattle.distances.specs.declared.Cell.{Cell}
use Rattle.distances.specs.Near.{squares, distance2, distance}
use Rattle.matching.specs.declared.cells.Matching.TheVariants.{Matched, NotMatched, NoNumber}
use Rattle.lists.specs.Lowest.{lowest}
use Rattle.matching.specs.Matching.{match_one, placed_to, matched_up_to, slot_for, none_at, has_none, first_none, all_filled, judged_matching, searched, answered, compute_permutation}

abbrev pub zero64 : Float
zero64 = of_bits binary64 0

abbrev one64 : Float
one64 = of_bits binary64 0x3ff0_0000_0000_0000

abbrev half64 : Float
half64 = of_bits binary64 0x3fe0_0000_0000_0000

abbrev pub eighth : Float
eighth = of_bits binary64 0x3fc0_0000_0000_0000

-- along all three axes
abbrev everywhere : List Bool
everywhere = true ∷ true ∷ true ∷ []

-- the unit lattice, with a tolerance; the cell repeats along all axes, or along those that are named
abbrev unit_slab : Float → List Bool → Cell
unit_slab symprec periodic =
    record { lattice = one64 ∷ zero64 ∷ zero64 ∷ zero64 ∷ one64 ∷ zero64 ∷ zero64 ∷ zero64 ∷ one64 ∷ []; symprec = symprec; periodic = periodic }

abbrev pub unit_cell : Float → Cell
unit_cell symprec = unit_slab symprec everywhere

-- a position with the first coordinate x, the rest 0, before more positions
abbrev pub at_x : Float → List Float → List Float
at_x x more = x ∷ zero64 ∷ zero64 ∷ more

-- 8: num_pos 0
pub no-positions : (cell : Cell) → compute_permutation [] cell [] [] 0 ≡ (Ok Matched, [])
unfolding compute_permutation judged_matching answered searched matched_up_to placed_to times first_none lowest all_filled all_of
no-positions cell = refl

-- 8: a position at the origin and the same rotated, at 2 ^ -600 and at 0
pub on-itself : (old : ℤ) → compute_permutation (old ∷ []) (unit_cell (of_bits binary64 0x1a70_0000_0000_0000)) (at_x zero64 []) (at_x zero64 []) 1 ≡ (Ok Matched, pos 0 ∷ [])
unfolding compute_permutation judged_matching answered searched matched_up_to placed_to times match_one lowest slot_for none_at has_none first_none all_filled all_of distance distance2 squares of_bits add sub mul lt is_nan nearest_whole sqrt round
on-itself old = refl

pub at_zero : (old : ℤ) → compute_permutation (old ∷ []) (unit_cell zero64) (at_x zero64 []) (at_x zero64 []) 1 ≡ (Ok NotMatched, negsuc 0 ∷ [])
unfolding compute_permutation judged_matching answered searched matched_up_to placed_to times match_one lowest slot_for none_at has_none first_none all_filled all_of distance distance2 squares of_bits add sub mul lt is_nan nearest_whole sqrt round
at_zero old = refl

-- 9: x = 0.25 and 0, rotated x = 0.125 and 0.375, at 0.1875
pub two-positions : (old old' : ℤ)
    → compute_permutation (old ∷ old' ∷ []) (unit_cell (of_bits binary64 0x3fc8_0000_0000_0000))
    (at_x (of_bits binary64 0x3fd0_0000_0000_0000) (at_x zero64 [])) (at_x eighth (at_x (of_bits binary64 0x3fd8_0000_0000_0000) [])) 2
    ≡ (Ok NotMatched, pos 0 ∷ negsuc 0 ∷ [])
unfolding compute_permutation judged_matching answered searched matched_up_to placed_to times match_one lowest slot_for none_at has_none first_none all_filled all_of distance distance2 squares of_bits add sub mul lt is_nan nearest_whole sqrt round
two-positions old old' = refl

-- 10: the distance is the tolerance, 0.125
pub at_tolerance : (old : ℤ) → compute_permutation (old ∷ []) (unit_cell eighth) (at_x zero64 []) (at_x eighth []) 1 ≡ (Ok NotMatched, negsuc 0 ∷ [])
unfolding compute_permutation judged_matching answered searched matched_up_to placed_to times match_one lowest slot_for none_at has_none first_none all_filled all_of distance distance2 squares of_bits add sub mul lt is_nan nearest_whole sqrt round
at_tolerance old = refl

-- ---- document 02, A.3

-- Slot 0 is NaN, and so is position 1. Position 0 tries slot 0, whose distance is no number, and takes slot 1; position 1 tries slot 0 again.
pub first-named : (old old' : ℤ)
    → compute_permutation (old ∷ old' ∷ []) (unit_cell eighth) (at_x zero64 (at_x nan [])) (at_x nan (at_x zero64 [])) 2
    ≡ (Ok (NoNumber (record { position = 0; slot = 0 })), negsuc 0 ∷ pos 0 ∷ [])
unfolding compute_permutation judged_matching answered searched matched_up_to placed_to times match_one lowest slot_for none_at has_none first_none all_filled all_of distance distance2 squares of_bits add sub mul lt is_nan nearest_whole sqrt round
first-named old old' = refl

-- Position 0 takes slot 0, and slot 1, which is NaN, is not tried for it; position 1 tries slot 1 only.
pub untried_not-named : (old old' : ℤ)
    → compute_permutation (old ∷ old' ∷ []) (unit_cell eighth) (at_x zero64 (at_x zero64 [])) (at_x zero64 (at_x nan [])) 2
    ≡ (Ok (NoNumber (record { position = 1; slot = 1 })), pos 0 ∷ negsuc 0 ∷ [])
unfolding compute_permutation judged_matching answered searched matched_up_to placed_to times match_one lowest slot_for none_at has_none first_none all_filled all_of distance distance2 squares of_bits add sub mul lt is_nan nearest_whole sqrt round
untried_not-named old old' = refl

-- A true answer names no pair. At 2 ^ 1023 and -2 ^ 1023 the difference is infinite and less its rounding NaN: position 0 tries slot 0, and takes slot 1.
pub true_stays : (old old' : ℤ)
    → compute_permutation (old ∷ old' ∷ []) (unit_cell eighth)
    (at_x (of_bits binary64 0x7fe0_0000_0000_0000) (at_x (of_bits binary64 0xffe0_0000_0000_0000) [])) (at_x (of_bits binary64 0xffe0_0000_0000_0000) (at_x (of_bits binary64 0x7fe0_0000_0000_0000) [])) 2
    ≡ (Ok Matched, pos 1 ∷ pos 0 ∷ [])
unfolding compute_permutation judged_matching answered searched matched_up_to placed_to times match_one lowest slot_for none_at has_none first_none all_filled all_of distance distance2 squares of_bits add sub mul lt is_nan nearest_whole sqrt round
true_stays old old' = refl

-- a NaN tolerance: every distance that is a number is far, and the false is a plain one
pub no_tolerance : (old : ℤ) → compute_permutation (old ∷ []) (unit_cell nan) (at_x zero64 []) (at_x zero64 []) 1 ≡ (Ok NotMatched, negsuc 0 ∷ [])
unfolding compute_permutation judged_matching answered searched matched_up_to placed_to times match_one lowest slot_for none_at has_none first_none all_filled all_of distance distance2 squares of_bits add sub mul lt is_nan nearest_whole sqrt round
no_tolerance old = refl

-- a lattice with the diagonal a, b, 1
abbrev diagonal : Float → Float → Float → Cell
diagonal a b symprec =
    record { lattice = a ∷ zero64 ∷ zero64 ∷ zero64 ∷ b ∷ zero64 ∷ zero64 ∷ zero64 ∷ one64 ∷ []; symprec = symprec; periodic = everywhere }

-- NaN in the second row: no number, although the first component alone is longer than the tolerance
pub nan_lattice : (old : ℤ)
    → compute_permutation (old ∷ []) (diagonal one64 nan eighth) (at_x half64 []) (at_x zero64 []) 1 ≡ (Ok (NoNumber (record { position = 0; slot = 0 })), negsuc 0 ∷ [])
unfolding compute_permutation judged_matching answered searched matched_up_to placed_to times match_one lowest slot_for none_at has_none first_none all_filled all_of distance distance2 squares of_bits add sub mul lt is_nan nearest_whole sqrt round
nan_lattice old = refl

-- an infinite distance is far
pub infinite_lattice : (old : ℤ)
    → compute_permutation (old ∷ []) (diagonal (inf false) one64 eighth) (at_x half64 []) (at_x zero64 []) 1 ≡ (Ok NotMatched, negsuc 0 ∷ [])
unfolding compute_permutation judged_matching answered searched matched_up_to placed_to times match_one lowest slot_for none_at has_none first_none all_filled all_of distance distance2 squares of_bits add sub mul lt is_nan nearest_whole sqrt round
infinite_lattice old = refl

-- ---- slabs (document 02, A.9): first coordinates 0.9375 against 0.0625, tolerance 0.25

abbrev quarter : Float
quarter = of_bits binary64 0x3fd0_0000_0000_0000

abbrev high : List Float
high = at_x (of_bits binary64 0x3fee_0000_0000_0000) []

abbrev low : List Float
low = at_x (of_bits binary64 0x3fb0_0000_0000_0000) []

-- near where the first axis repeats, though the others do not
pub across_the_edge : (old : ℤ) → compute_permutation (old ∷ []) (unit_slab quarter (true ∷ false ∷ false ∷ [])) high low 1 ≡ (Ok Matched, pos 0 ∷ [])
unfolding compute_permutation judged_matching answered searched matched_up_to placed_to times match_one lowest slot_for none_at has_none first_none all_filled all_of distance distance2 squares of_bits add sub mul lt is_nan nearest_whole sqrt round
across_the_edge old = refl

-- far where it does not, though the others do
pub at_the_edge : (old : ℤ) → compute_permutation (old ∷ []) (unit_slab quarter (false ∷ true ∷ true ∷ [])) high low 1 ≡ (Ok NotMatched, negsuc 0 ∷ [])
unfolding compute_permutation judged_matching answered searched matched_up_to placed_to times match_one lowest slot_for none_at has_none first_none all_filled all_of distance distance2 squares of_bits add sub mul lt is_nan nearest_whole sqrt round
at_the_edge old = refl
