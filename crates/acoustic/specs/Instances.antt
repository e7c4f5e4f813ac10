-- The calls and the theorems at tables that exist, with a half shift; and a drift by its value, where the blocks that are stored do not have the sum that
-- the read-out has. Assumes nothing.
use Rattle.std.specs.Prelude.{Ok, ◌≡◌, refl, List, [], ◌∷◌, ◌++◌, ℕ, pos, length, replicate, Float}
use Rattle.std.proofs.Common.{ap, ◌∙◌}
use Rattle.std.specs.Float.{nan, binary64}
use Rattle.std.specs.Float.Ieee.{add, mul, div, round, of_int, of_bits}
use Rattle.lists.specs.Tab.{times}
use Rattle.lists.specs.Tests.{every, some}
use Rattle.lists.specs.Digits.{horner, rest, digits}
use Rattle.tables.specs.Conditions.{out_of_range}
use Rattle.tables.specs.Shifts.{row, p2s_at, s2pp_at, nsym_at, distinct, is_null, is_after, follows, counts_agree, rows_injective, has_null, rows_closed, rows_free, p2s_back, s2pp_kept, nsym_lands, ruled}
use Rattle.tables.specs.Limits.{limit3}
use Rattle.tables.specs.Lengths.{set_length, set_blocks}
use Rattle.tables.specs.Compact.{ShiftTables, shift_tables, shifts_of, judged_entries, judged_tables}
use Rattle.places.specs.Places.{perms3, legs_of, read_out, at, stored, shift, address}
use Rattle.places.specs.Values.{pair}
use Rattle.orbits.specs.Symmetric.{mean6}
use Rattle.lines.specs.Sums3x3.{inverse}
use Rattle.legs.specs.Legs.{leg_sum, insert_at}
use Rattle.acoustic.specs.Acoustic.{drift_at, drift_length, judged_levels, perm_trans_symmetrize_compact}
use Rattle.acoustic.specs.Meaning.{Alike, third-alike}

-- four atoms, two of them in the primitive cell; row 1 is a half shift
abbrev four_atoms : ShiftTables
four_atoms = shift_tables (pos 0 ∷ pos 1 ∷ []) (pos 0 ∷ pos 1 ∷ pos 0 ∷ pos 1 ∷ []) (pos 0 ∷ pos 0 ∷ pos 1 ∷ pos 1 ∷ []) (pos 0 ∷ pos 1 ∷ pos 2 ∷ pos 3 ∷ pos 2 ∷ pos 3 ∷ pos 0 ∷ pos 1 ∷ []) 4 2 2

-- a set of 2 × 4² × 27 numbers, 32 bytes and 2 × 4 × 27 numbers of work, two levels
passes : judged_levels limit3 2 864 32 216 four_atoms 2 ≡ Ok tt
unfolding drift_length set_length set_blocks judged_tables judged_entries out_of_range ruled counts_agree rows_injective has_null rows_closed rows_free p2s_back s2pp_kept nsym_lands distinct is_null is_after follows row p2s_at s2pp_at nsym_at every some
passes = refl

module _ (set : List Float) (done : List ℕ) (drift : List Float) (e : length set ≡ 864) (f : length done ≡ 32) (g : length drift ≡ 216) where
  is_done : (perm_trans_symmetrize_compact limit3 2 mean6 perms3 set four_atoms done drift 2).0 ≡ Ok tt
  unfolding perm_trans_symmetrize_compact
  is_done = rw (e, f, g) passes

  -- whatever they hold, the set is left alike
  pub left-alike : Alike (shifts_of four_atoms) 2 perms3 (perm_trans_symmetrize_compact limit3 2 mean6 perms3 set four_atoms done drift 2).1
  left-alike = third-alike set four_atoms done drift 2 is_done

-- Two atoms that a half shift exchanges, one stored, blocks of the numbers 1, 2, 4 and 8. Where the other legs have atoms 0 and 1, the sum over the first
-- leg has block (0, 1), which is 2, and the read-out of (1, 0, 1), which is block (1, 0) and 4: the drift is (2 + 4) / 2.
pub half-shift_drift : drift_at pair 2 0
    (replicate 27 (of_int binary64 (pos 1)) ++ (replicate 27 (of_int binary64 (pos 2)) ++ (replicate 27 (of_int binary64 (pos 4)) ++ replicate 27 (of_int binary64 (pos 8))))) 1 0 ≡ of_int binary64 (pos 3)
unfolding leg_sum insert_at times read_out at stored shift address legs_of horner rest digits row p2s_at s2pp_at nsym_at inverse add mul div round of_int of_bits
half-shift_drift = refl
