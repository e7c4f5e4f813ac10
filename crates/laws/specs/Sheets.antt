-- The starred sheets of document 01 ("Sheets to reproduce"), 1 to 9, together: `Sheets` says them, about the definitions that the calls' promises
-- cite, and `sheets` of proofs/SheetsLaws.antt proves them. What a sheet leaves open, such as the other numbers of a set, old slots and work slices, holds for any. Assumes nothing.
use Rattle.std.specs.Prelude.{Ok, ◌≡◌, refl, true, false, List, [], ◌∷◌, map, ℕ, ◌+◌, ◌*◌, ◌/◌, ◌%◌, ◌^◌, ◌≤◌, ℤ, pos, negsuc, length, get_or, replicate, Float}
use Rattle.std.proofs.Common.{ap, ◌∙◌}
use Rattle.std.specs.Float.{nan, binary64}
use Rattle.std.specs.Float.Ieee.{round, of_bits, to_bits, neg, add, div}
use Rattle.lists.specs.Tab.{tab, tab_from}
use Rattle.lists.specs.Tests.{every, some}
use Rattle.lists.specs.Elements.{pick, straight}
use Rattle.lists.specs.Members.{least_or, least, greatest, keep}
use Rattle.lists.specs.Digits.{horner, times_power, rest, digits}
use Rattle.common.specs.Whole.{nint}
use Rattle.common.specs.Root.{sqrt}
use Rattle.tables.specs.Answers.{after}
use Rattle.tables.specs.Conditions.{out_of_range}
use Rattle.tables.specs.Shifts.{row, p2s_at, s2pp_at, nsym_at, distinct, is_null, is_after, follows, counts_agree, rows_injective, has_null, rows_closed, rows_free, p2s_back, s2pp_kept, nsym_lands, ruled}
use Rattle.tables.specs.Compact.{ShiftTables, shift_tables, shifts_of, judged_entries, judged_tables, judged_compact}
use Rattle.tables.specs.Lengths.{set_length, set_blocks}
use Rattle.blocks.specs.Block.{block}
use Rattle.places.specs.Places.{shift, stored, legs_at, address, size, legs_of, place, at, fill}
use Rattle.places.specs.Permutations.{perms3}
use Rattle.places.specs.WholeLaws.{full_shifts}
use Rattle.places.specs.Moves.{source, stays, order, traded, transposed}
use Rattle.orbits.specs.Blockwise.{in_block}
use Rattle.orbits.specs.Symmetric.{images, first_block, leader, mean_at, symmetrized}
use Rattle.distances.specs.declared.Cell.{Cell}
use Rattle.matching.specs.declared.cells.Matching.TheVariants.{Matched, NotMatched}
use Rattle.matching.specs.Matching.{compute_permutation}
use Rattle.fc2.specs.Full.{perm_trans_symmetrize_fc}
use Rattle.fc3.specs.Mean.{mean6}
use Rattle.tables.specs.Limits.{limit3}
use Rattle.tables.specs.Full.{judged_full}
use Rattle.fc3.specs.Symmetrize.{set_permutation_symmetry_fc3}
use Rattle.transposes_fc3.specs.Fc3.{transposed_by, judged_transpose, transpose_compact_fc3}
use Rattle.fc4.specs.Mean24.{mean24}

-- ---- how the sheets' data are written

-- the f64 nearest to n / d, and the whole number n as an f64: 2.5 is `25 over 10`, -0.5 is `neg (5 over 10)`, -0.0 is `neg (f64 0)`.
-- Of the integers 3 is `pos 3`, and -1 is `negsuc 0`.
infixl 70 ◌over◌
abbrev pub ◌over◌ : ℕ → ℕ → Float
n over d = round binary64 false n d

abbrev pub f64 : ℕ → Float
f64 n = n over 1

-- block (i, j) of a full set of second order with n atoms
abbrev pub block_at2 : ℕ → ℕ → ℕ → List Float → List Float
block_at2 n i j set = block 9 (i * n + j) set

-- block (i, j, k) of a set of third order with n atoms in the supercell, and a block whose number at directions a, b, c is v's at b, a, c
abbrev pub block_at : ℕ → ℕ → ℕ → ℕ → List Float → List Float
block_at n i j k set = block 27 ((i * n + j) * n + k) set

abbrev pub first_two_swapped : List Float → List Float
first_two_swapped v = tab 27 (λ q. get_or v (q / 3 % 3 * 9 + q / 9 * 3 + q % 3) nan)

-- positions 5, 7, 11, 15, 19, 21 of a set
abbrev pub six_positions : List Float → List Float
six_positions set = pick nan (5 ∷ 7 ∷ 11 ∷ 15 ∷ 19 ∷ 21 ∷ []) set

-- a table's entries
abbrev pub ints : List ℕ → List ℤ
ints l = map pos l

-- p2s, s2pp, nsym_list, the rows, and n_satom, n_patom, num_trans: three atoms that shifts turn in a ring; two atoms that a shift exchanges
abbrev pub three_atoms : ShiftTables
three_atoms = shift_tables (ints (0 ∷ [])) (ints (0 ∷ 0 ∷ 0 ∷ [])) (ints (0 ∷ 2 ∷ 1 ∷ [])) (ints (0 ∷ 1 ∷ 2 ∷ 1 ∷ 2 ∷ 0 ∷ 2 ∷ 0 ∷ 1 ∷ [])) 3 1 3

abbrev pub two_atoms : ShiftTables
two_atoms = shift_tables (ints (0 ∷ [])) (ints (0 ∷ 0 ∷ [])) (ints (0 ∷ 1 ∷ [])) (ints (0 ∷ 1 ∷ 1 ∷ 0 ∷ [])) 2 1 2

-- the unit lattice with a tolerance; positions by their first coordinates, the rest 0
abbrev pub unit_lattice : Float → Cell
unit_lattice symprec = record {
  lattice = f64 1 ∷ f64 0 ∷ f64 0 ∷ f64 0 ∷ f64 1 ∷ f64 0 ∷ f64 0 ∷ f64 0 ∷ f64 1 ∷ [];
  symprec = symprec;
  periodic = true ∷ true ∷ true ∷ [];
}

abbrev pub positions : List Float → List Float
positions [] = []
positions (x ∷ xs) = x ∷ f64 0 ∷ f64 0 ∷ positions xs

-- ---- the sheets

pub record Sheets : Type 0 where
  -- 1. `nint` of 2.5, -0.5 and 0.49999999999999994: 3, -1 and 0.
  pub sheet1 : (nint (25 over 10) ≡ pos 3) × (nint (neg (5 over 10)) ≡ negsuc 0) × (nint (49999999999999994 over (10 ^ 17)) ≡ pos 0)
  -- 2. `sqrt` of 2 has the bits 3FF6A09E667F3BCD.
  pub sheet2 : to_bits binary64 (sqrt binary64 (f64 2)) ≡ 0x3FF6_A09E_667F_3BCD
  -- 3. Second order, one atom, any level (a level above 1,000 is refused): nine times -0.0.
  pub sheet3 : (set : List Float) (level : ℕ) → length set ≡ 9 → level ≤ 1000 → perm_trans_symmetrize_fc set 1 level ≡ (Ok tt, replicate 9 (neg (f64 0)))
  -- 4. Level 0 on two atoms, where block (0, 1) has 2 at [0][1], 4 at [1][0] and else zeros: block (0, 0) is -3 at these two places, else -0.0.
  pub sheet4 : (set : List Float) → length set ≡ 36
      → block_at2 2 0 1 set ≡ f64 0 ∷ f64 2 ∷ f64 0 ∷ f64 4 ∷ f64 0 ∷ f64 0 ∷ f64 0 ∷ f64 0 ∷ f64 0 ∷ []
      → ((perm_trans_symmetrize_fc set 2 0).0 ≡ Ok tt)
      × (block_at2 2 0 0 (perm_trans_symmetrize_fc set 2 0).1
      ≡ neg (f64 0) ∷ neg (f64 3) ∷ neg (f64 0) ∷ neg (f64 3) ∷ neg (f64 0) ∷ neg (f64 0) ∷ neg (f64 0) ∷ neg (f64 0) ∷ neg (f64 0) ∷ [])
  -- 5. Third order, one atom with 1 to 6 at places 5, 7, 11, 15, 19 and 21: 3.5 at all of them.
  pub sheet5 : (set : List Float) → length set ≡ 27 → six_positions set ≡ f64 1 ∷ f64 2 ∷ f64 3 ∷ f64 4 ∷ f64 5 ∷ f64 6 ∷ []
      → ((set_permutation_symmetry_fc3 set 1).0 ≡ Ok tt) × (six_positions (set_permutation_symmetry_fc3 set 1).1 ≡ replicate 6 (35 over 10))
  -- 6. Three atoms in a ring, type 0: block (0, 1, 2) becomes the former block (0, 2, 1) with its first two directions exchanged.
  pub sheet6 : (set : List Float) (work : List ℕ) → length set ≡ 243 → length work ≡ 3
      → ((transpose_compact_fc3 set three_atoms work (pos 0)).0 ≡ Ok tt)
      × (block_at 3 0 1 2 (transpose_compact_fc3 set three_atoms work (pos 0)).1 ≡ first_two_swapped (block_at 3 0 2 1 set))
  -- 7. Two atoms that a shift exchanges, type 0: blocks (0, 1, 0) and (0, 1, 1) do not change.
  pub sheet7 : (set : List Float) (work : List ℕ) → length set ≡ 108 → length work ≡ 2
      → ((transpose_compact_fc3 set two_atoms work (pos 0)).0 ≡ Ok tt)
      × (block_at 2 0 1 0 (transpose_compact_fc3 set two_atoms work (pos 0)).1 ≡ block_at 2 0 1 0 set)
      × (block_at 2 0 1 1 (transpose_compact_fc3 set two_atoms work (pos 0)).1 ≡ block_at 2 0 1 1 set)
  -- 8. No positions: true. One position at the origin, and the same rotated, unit lattice: true at 2^-600; false at 0, the slot -1.
  pub sheet8 : ((cell : Cell) → compute_permutation [] cell [] [] 0 ≡ (Ok Matched, []))
      × ((old : ℤ) → compute_permutation (old ∷ []) (unit_lattice (1 over (2 ^ 600))) (positions (f64 0 ∷ [])) (positions (f64 0 ∷ [])) 1 ≡ (Ok Matched, pos 0 ∷ []))
      × ((old : ℤ) → compute_permutation (old ∷ []) (unit_lattice (f64 0)) (positions (f64 0 ∷ [])) (positions (f64 0 ∷ [])) 1 ≡ (Ok NotMatched, negsuc 0 ∷ []))
  -- 9. Unit lattice, tolerance 0.1875, x = 0.25 and 0, rotated x = 0.125 and 0.375, else 0: false, slots 0 and -1.
  pub sheet9 : (old old' : ℤ)
      → compute_permutation (old ∷ old' ∷ []) (unit_lattice (1875 over 10000)) (positions (25 over 100 ∷ f64 0 ∷ [])) (positions (125 over 1000 ∷ 375 over 1000 ∷ [])) 2
      ≡ (Ok NotMatched, pos 0 ∷ negsuc 0 ∷ [])

-- ---- sheet 5

-- the six positions are one group; its mean is worked out from the last of them, 21, whose permutations are they from last to first
abbrev pub mean_backwards : List Float → Float
mean_backwards l = mean6 (pick nan (5 ∷ 4 ∷ 3 ∷ 2 ∷ 1 ∷ 0 ∷ []) l)

pub one-group : (set : List Float) → six_positions (symmetrized nan mean6 (full_shifts 1) 2 perms3 set) ≡ replicate 6 (mean_backwards (six_positions set))
unfolding symmetrized mean_at leader first_block images in_block fill size set_length times_power place legs_of rest digits legs_at stored shift address horner row p2s_at s2pp_at nsym_at full_shifts perms3 pick straight tab tab_from least_or least greatest keep
one-group set = refl

pub one-to-six : replicate 6 (mean_backwards (f64 1 ∷ f64 2 ∷ f64 3 ∷ f64 4 ∷ f64 5 ∷ f64 6 ∷ [])) ≡ replicate 6 (35 over 10)
unfolding pick add div of_bits round
one-to-six = refl

pub one-atom : (set : List Float) → length set ≡ 27 → set_permutation_symmetry_fc3 set 1 ≡ (Ok tt, symmetrized nan mean6 (full_shifts 1) 2 perms3 set)
unfolding set_permutation_symmetry_fc3 judged_full set_length after
one-atom set e =
    let j : judged_full limit3 2 (length set) [] 1 ≡ Ok tt = ap (λ n. judged_full limit3 2 n [] 1) e in
    ap (λ a. (a, after a (symmetrized nan mean6 (full_shifts 1) 2 perms3 set) set)) j

-- ---- sheets 6 and 7

-- the tables pass, with sets of 1 × 3² × 27 and 1 × 2² × 27 numbers and work slices of 1 × 3 and 1 × 2 bytes
pub pass : (judged_transpose 243 3 three_atoms ≡ Ok tt) × (judged_transpose 108 2 two_atoms ≡ Ok tt)
unfolding judged_compact set_length set_blocks judged_tables judged_entries out_of_range ruled counts_agree rows_injective has_null rows_closed rows_free p2s_back s2pp_kept nsym_lands distinct is_null is_after follows row p2s_at s2pp_at nsym_at every some
pass = (refl, refl)

-- a call of type 0 that is not refused
pub type_0 : (T : ShiftTables) (n m : ℕ) (set : List Float) (work : List ℕ) → judged_transpose n m T ≡ Ok tt → length set ≡ n → length work ≡ m
    → transpose_compact_fc3 set T work (pos 0) ≡ (Ok tt, transposed nan (shifts_of T) 0 set, replicate (length work) 0)
unfolding transpose_compact_fc3 transposed_by after
type_0 T n m set work j e f =
    let i : judged_transpose (length set) (length work) T ≡ Ok tt = rw (e, f) j in
    ap (λ a. (a, after a (transposed nan (shifts_of T) 0 set) set, after a (replicate (length work) 0) work)) i

-- the three blocks that the sheets name
pub type_0_blocks : (set : List Float)
    → (block_at 3 0 1 2 (transposed nan (shifts_of three_atoms) 0 set) ≡ first_two_swapped (block_at 3 0 2 1 set))
    × (block_at 2 0 1 0 (transposed nan (shifts_of two_atoms) 0 set) ≡ block_at 2 0 1 0 set)
    × (block_at 2 0 1 1 (transposed nan (shifts_of two_atoms) 0 set) ≡ block_at 2 0 1 1 set)
unfolding block transposed traded fill size set_length times_power place legs_of rest digits at source order pick legs_at stored shift address horner stays is_null row p2s_at s2pp_at nsym_at every tab tab_from
type_0_blocks set = (refl, refl, refl)

-- ---- the stated exact case ("Traps for the porter"): six times -0.0 gives -0.0; the 24-term sum starts at 0.0, and so gives 0.0

pub six-minus-zeros : mean6 (replicate 6 (neg (f64 0))) ≡ neg (f64 0)
unfolding neg add div of_bits round
six-minus-zeros = refl

-- so a set of -0.0 stays
pub minus-zeros-stay : set_permutation_symmetry_fc3 (replicate 27 (neg (f64 0))) 1 ≡ (Ok tt, replicate 27 (neg (f64 0)))
unfolding symmetrized mean_at leader first_block images in_block fill size set_length times_power place legs_of rest digits legs_at stored shift address horner row p2s_at s2pp_at nsym_at full_shifts perms3 pick straight tab tab_from least_or least greatest keep neg add div of_bits round
minus-zeros-stay = one-atom (replicate 27 (neg (f64 0))) refl ∙ refl

pub twenty_four_minus-zeros : mean24 (replicate 24 (neg (f64 0))) ≡ f64 0
unfolding neg add div of_bits round
twenty_four_minus-zeros = refl
