-- What the call says of a few tables, worked out. Assumes nothing.
use Rattle.std.specs.Prelude.{Ok, ◌≡◌, refl, List, [], ◌∷◌, ℤ, pos, negsuc}
use Rattle.lists.specs.Tests.{every, some}
use Rattle.lists.specs.Lowest.{lowest}
use Rattle.tables.specs.declared.Refusal.TheVariants.{IndexOutOfRange, BadShiftTables}
use Rattle.tables.specs.Conditions.{out_of_range}
use Rattle.tables.specs.Shifts.{row, p2s_at, s2pp_at, nsym_at, distinct, is_null, is_after, follows, counts_agree, rows_injective, has_null, rows_closed, rows_free, p2s_back, s2pp_kept, nsym_lands, ruled}
use Rattle.tables.specs.Compact.{ShiftTables, shift_tables}
use Rattle.explain.specs.Explain.{first_beyond, rules, broken, first_of, second_of, third_of, first_broken, because, bad_entry, broken_rule, explain_shift_tables}

-- three atoms with the given nsym_list and rows
abbrev three : List ℤ → List ℤ → ShiftTables
three nsym_list perms = shift_tables (pos 0 ∷ []) (pos 0 ∷ pos 0 ∷ pos 0 ∷ []) nsym_list perms 3 1 3

abbrev ring : List ℤ
ring = pos 0 ∷ pos 1 ∷ pos 2 ∷ pos 1 ∷ pos 2 ∷ pos 0 ∷ pos 2 ∷ pos 0 ∷ pos 1 ∷ []

-- the exchanges of atom 0 with the two others: one after the other is no row
abbrev exchanges : List ℤ
exchanges = pos 0 ∷ pos 1 ∷ pos 2 ∷ pos 1 ∷ pos 0 ∷ pos 2 ∷ pos 2 ∷ pos 1 ∷ pos 0 ∷ []

-- tables that are good; an entry that is negative; row 1 of nsym_list, which sends atom 1 to 2; rows 1 and 2, one after the other
pub explained : (explain_shift_tables (three (pos 0 ∷ pos 2 ∷ pos 1 ∷ []) ring) ≡ record { answer = Ok tt; which = 0; first = 0; second = 0; third = 0 })
    × ((explain_shift_tables (three (pos 0 ∷ negsuc 0 ∷ pos 1 ∷ []) ring) ≡ because IndexOutOfRange 3 1 0 0)
    × ((explain_shift_tables (three (pos 0 ∷ pos 1 ∷ pos 2 ∷ []) ring) ≡ because BadShiftTables 7 1 0 0)
    × (explain_shift_tables (three (pos 0 ∷ pos 1 ∷ pos 2 ∷ []) exchanges) ≡ because BadShiftTables 3 1 2 0)))
unfolding explain_shift_tables bad_entry broken_rule first_beyond first_broken first_of second_of third_of broken rules lowest out_of_range ruled counts_agree rows_injective has_null rows_closed rows_free p2s_back s2pp_kept nsym_lands distinct is_null is_after follows row p2s_at s2pp_at nsym_at every some
explained = (refl, (refl, (refl, refl)))
