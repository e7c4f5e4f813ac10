-- The loops of the program make the full set. Assumes nothing.
use Rattle.std.specs.Prelude.{◌≡◌, ℤ, Float}
use Rattle.std.proofs.Math.Path.{sym, ap, ap₂, subst}
use Rattle.std.proofs.Common.{◌∙◌, mod-lt, div-add-mod'}
use mathlib.Core.List.{List, [], ◌∷◌, map}
use Prim.Native.Nat.{ℕ, zero, suc, ◌+◌, ◌*◌, ◌/◌, ◌%◌, ◌<◌}
use Rattle.std.proofs.Math.Nat.{mod-eq_of_lt}
use native.Mathlib.Omega.{arith}
use Rattle.std.proofs.Math.ListN.{length, get_or}
use Rattle.std.specs.Float.Ieee.{nan}
use Rattle.lists.specs.Tab.{times, is_tab, times_nest, times-same}
use Rattle.lists.specs.Stages.{Stage, next, stages}
use Rattle.lists.specs.Digits.{horner, times_power, rest, digits, quotient, remainder, rest_div, digits_mod, room-mul, length_digits, horner-digits, horner-split}
use Rattle.blocks.specs.Block.{block, put_block, length-put_block, get_or-block, put-inside, put-outside}
use Rattle.tables.specs.Conditions.{index_at, Readable}
use Rattle.tables.specs.Shifts.{Shifts, Laws}
use Rattle.tables.specs.Compact.{ShiftTables, shifts_of}
use Rattle.places.specs.Places.{Leg, atom, Legs, Place, stored, place, at, read_out, fill, size, place-place, stored-place}
use Rattle.places.specs.Addresses.{stored_block}
use Rattle.places.specs.ReadOuts.{stored_in_lem, stored-read}
use Rattle.places.specs.WholeLaws.{full_shifts}
use Rattle.orbits.specs.Blockwise.{in_block, block_atoms, stored_atoms, atoms-stored, dirs_stored, atoms_of_lem, dirs_of, address_is, block-below}
use Rattle.orbits.specs.Transposed.{size_blocks, in_block_pos}
use Rattle.read_out.specs.FullSet.{full_set}
use Rattle.read_out.specs.Copies.{copy_rows, rows-flat, copies_make}

pub rows_make : (T : ShiftTables) → Laws (shifts_of T) → (w m : ℕ) → in_block m ≡ w → (set full : List Float) → length full ≡ times_power T.n_satom m T.n_satom * w
    → copy_rows T.s2pp T.nsym_list T.perms T.n_satom w m set full ≡ full_set nan (shifts_of T) m set
unfolding full_shifts
rows_make T L w m e set full l =
    let N = times_power T.n_satom m T.n_satom in
    rows-flat T w m set full ∙ copies_make (shifts_of T) L m set w e full (l ∙ ap (λ c. N * c) (sym e) ∙ sym (size_blocks (full_shifts T.n_satom) m))
