-- The law of the calls used at tables and a set that exist: two atoms in the primitive cell and a half shift, any slices of the stated lengths, any set on
-- the grid, and one that is named. And why the law asks for the grid: off it the mean of six turns on the order of its terms. Assumes nothing.
use Rattle.std.specs.Prelude.{Ok, ◌≡◌, List, [], ◌∷◌, ℕ, replicate, Float}
use Rattle.std.proofs.Math.Path.{refl, ap}
use Rattle.std.proofs.Common.{◌∙◌}
use Rattle.std.proofs.Math.ListN.{length}
use Rattle.std.proofs.lemmas.List.{length-replicate, get_or-replicate}
use Rattle.std.specs.Float.Ieee.{nan, of_bits, add, div, sum, round}
use Rattle.std.specs.Float.{binary64}
use Rattle.lists.specs.Tests.{every, some}
use Rattle.tables.specs.Conditions.{out_of_range}
use Rattle.tables.specs.Shifts.{row, p2s_at, s2pp_at, nsym_at, distinct, is_null, is_after, follows, counts_agree, rows_injective, has_null, rows_closed, rows_free, p2s_back, s2pp_kept, nsym_lands, ruled}
use Rattle.tables.specs.Limits.{limit3, limit4}
use Rattle.tables.specs.Lengths.{set_blocks, set_length}
use Rattle.tables.specs.Compact.{shifts_of, judged_entries, judged_tables, judged_compact}
use Rattle.places.specs.Places.{size}
use Rattle.places.specs.WholeLaws.{full_shifts}
use Rattle.orbits.specs.Symmetric.{mean6}
use Rattle.tables.specs.Full.{judged_full}
use Rattle.fc3.specs.Symmetrize.{set_permutation_symmetry_compact_fc3, set_permutation_symmetry_fc3}
use Rattle.fc4.specs.Symmetrize.{set_permutation_symmetry_compact_fc4, set_permutation_symmetry_fc4}
use Rattle.read_out.specs.FullSet.{length-full}
use Rattle.read_out.specs.ReadOut.{judged_read_out, compact_to_full, compact_to_full_fc3, compact_to_full_fc4}
use Rattle.laws.specs.Agree.{GridSet}
use Rattle.grid.specs.Grid.{on_grid}
use Rattle.laws.proofs.Instances.{four_atoms}
use Rattle.laws.proofs.Calls.{read-out-left, third, fourth}

pass-read : (judged_read_out limit3 2 1728 864 four_atoms ≡ Ok tt) × (judged_read_out limit4 3 20736 10368 four_atoms ≡ Ok tt)
unfolding judged_read_out set_length judged_tables judged_entries out_of_range ruled counts_agree rows_injective has_null rows_closed rows_free p2s_back s2pp_kept nsym_lands distinct is_null is_after follows row p2s_at s2pp_at nsym_at every some
pass-read = (refl, refl)

pass_compact : (judged_compact limit3 2 864 2 32 four_atoms ≡ Ok tt) × (judged_compact limit4 3 10368 3 128 four_atoms ≡ Ok tt)
unfolding judged_compact set_length set_blocks judged_tables judged_entries out_of_range ruled counts_agree rows_injective has_null rows_closed rows_free p2s_back s2pp_kept nsym_lands distinct is_null is_after follows row p2s_at s2pp_at nsym_at every some
pass_compact = (refl, refl)

-- third order
module _ (full set : List Float) (work : List ℕ) (l : length full ≡ 1728) (e : length set ≡ 864) (f : length work ≡ 32) where
  read3 : (compact_to_full_fc3 full set four_atoms).0 ≡ Ok tt
  unfolding compact_to_full
  read3 = rw (l, e) pass-read.0

  compact3 : (set_permutation_symmetry_compact_fc3 set four_atoms work).0 ≡ Ok tt
  unfolding set_permutation_symmetry_compact_fc3
  compact3 = rw (e, f) pass_compact.0

  long3 : length (compact_to_full_fc3 full set four_atoms).1 ≡ 1728
  unfolding size full_shifts set_length
  long3 = ap length (read-out-left limit3 2 full set four_atoms read3) ∙ length-full nan (shifts_of four_atoms) 2 set

  full3 : (set_permutation_symmetry_fc3 (compact_to_full_fc3 full set four_atoms).1 4).0 ≡ Ok tt
  unfolding set_permutation_symmetry_fc3 judged_full set_length
  full3 = rw long3 refl

  pub third-met : GridSet set
      → (set_permutation_symmetry_fc3 (compact_to_full_fc3 full set four_atoms).1 4).1 ≡ (compact_to_full_fc3 full (set_permutation_symmetry_compact_fc3 set four_atoms work).1 four_atoms).1
  third-met g = third four_atoms full set work read3 compact3 full3 g

-- a set that is on the grid: every number 1.0
abbrev one : Float
one = of_bits binary64 0x3ff0_0000_0000_0000

on-grid : (n : ℕ) → GridSet (replicate n one)
unfolding on_grid of_bits
on-grid n k h = ap on_grid (get_or-replicate n k one nan (rw (length-replicate n one) at h))

pub third_of_ones : (full : List Float) (work : List ℕ) → length full ≡ 1728 → length work ≡ 32
    → (set_permutation_symmetry_fc3 (compact_to_full_fc3 full (replicate 864 one) four_atoms).1 4).1
    ≡ (compact_to_full_fc3 full (set_permutation_symmetry_compact_fc3 (replicate 864 one) four_atoms work).1 four_atoms).1
third_of_ones full work l f = third-met full (replicate 864 one) work l (length-replicate 864 one) f (on-grid 864)

-- fourth order
module _ (full set : List Float) (work fullWork : List ℕ) (l : length full ≡ 20736) (e : length set ≡ 10368) (f : length work ≡ 128) (h : length fullWork ≡ 256) where
  read4 : (compact_to_full_fc4 full set four_atoms).0 ≡ Ok tt
  unfolding compact_to_full
  read4 = rw (l, e) pass-read.1

  compact4 : (set_permutation_symmetry_compact_fc4 set four_atoms work).0 ≡ Ok tt
  unfolding set_permutation_symmetry_compact_fc4
  compact4 = rw (e, f) pass_compact.1

  long4 : length (compact_to_full_fc4 full set four_atoms).1 ≡ 20736
  unfolding size full_shifts set_length
  long4 = ap length (read-out-left limit4 3 full set four_atoms read4) ∙ length-full nan (shifts_of four_atoms) 3 set

  full4 : (set_permutation_symmetry_fc4 (compact_to_full_fc4 full set four_atoms).1 fullWork 4).0 ≡ Ok tt
  unfolding set_permutation_symmetry_fc4 judged_full set_length set_blocks
  full4 = rw (long4, h) refl

  pub fourth-met : GridSet set
      → (set_permutation_symmetry_fc4 (compact_to_full_fc4 full set four_atoms).1 fullWork 4).1 ≡ (compact_to_full_fc4 full (set_permutation_symmetry_compact_fc4 set four_atoms work).1 four_atoms).1
  fourth-met g = fourth four_atoms full set work fullWork read4 compact4 full4 g

pub fourth_of_ones : (full : List Float) (work fullWork : List ℕ) → length full ≡ 20736 → length work ≡ 128 → length fullWork ≡ 256
    → (set_permutation_symmetry_fc4 (compact_to_full_fc4 full (replicate 10368 one) four_atoms).1 fullWork 4).1
    ≡ (compact_to_full_fc4 full (set_permutation_symmetry_compact_fc4 (replicate 10368 one) four_atoms work).1 four_atoms).1
fourth_of_ones full work fullWork l f h = fourth-met full (replicate 10368 one) work fullWork l (length-replicate 10368 one) f h (on-grid 10368)

-- ---- off the grid: 10^16, its negative, 1.0, and three times 0.0

abbrev large : Float
large = of_bits binary64 0x4341_c379_37e0_8000

abbrev minus : Float
minus = of_bits binary64 0xc341_c379_37e0_8000

abbrev none : Float
none = of_bits binary64 0

-- the 1.0 is lost where it is added to 10^16: the mean is 0.0 or a sixth
pub one_is_lost : mean6 (large ∷ one ∷ minus ∷ none ∷ none ∷ none ∷ []) ≡ none
unfolding add div sum round of_bits
one_is_lost = refl

pub one_is_kept : mean6 (large ∷ minus ∷ one ∷ none ∷ none ∷ none ∷ []) ≡ of_bits binary64 0x3fc5_5555_5555_5555
unfolding add div sum round of_bits
one_is_kept = refl
