-- What the guard answers of a few tables, worked out: so it neither takes nor refuses everything, and each rule tells.
-- Assumes nothing.
use Rattle.std.specs.Prelude.{Err, Ok, ◌≡◌, refl, Bool, true, false, List, [], ◌∷◌, ℕ, zero, suc, ◌<◌, ℤ, pos, negsuc}
use Rattle.std.proofs.Common.{suc-ne-zero, arith, lit<}
use Rattle.lists.specs.Tests.{every, some}
use Rattle.tables.specs.Answers.{Answer}
use Rattle.tables.specs.declared.Refusal.TheVariants.{CountAboveLimit, WrongLength, IndexOutOfRange, BadShiftTables}
use Rattle.tables.specs.Conditions.{out_of_range}
use Rattle.tables.specs.Shifts.{Shifts, row, p2s_at, s2pp_at, nsym_at, distinct, is_null, is_after, follows, counts_agree, rows_injective, has_null, rows_closed, rows_free, p2s_back, s2pp_kept, nsym_lands, ruled, NoHalfShift}
use Rattle.tables.specs.Compact.{ShiftTables, shift_tables, shifts_of, judged_entries, judged_tables}

-- three atoms in a ring (the tables of sheet 6)
abbrev ring : List ℤ → ShiftTables
ring nsym_list = shift_tables (pos 0 ∷ []) (pos 0 ∷ pos 0 ∷ pos 0 ∷ []) nsym_list (pos 0 ∷ pos 1 ∷ pos 2 ∷ pos 1 ∷ pos 2 ∷ pos 0 ∷ pos 2 ∷ pos 0 ∷ pos 1 ∷ []) 3 1 3

-- two atoms that a shift exchanges (those of sheet 7)
abbrev pair : ShiftTables
pair = shift_tables (pos 0 ∷ []) (pos 0 ∷ pos 0 ∷ []) (pos 0 ∷ pos 1 ∷ []) (pos 0 ∷ pos 1 ∷ pos 1 ∷ pos 0 ∷ []) 2 1 2

-- tables that are done, and refusals 1, 2 and 3 in their order
pub samples : (judged_tables 1024 [] (ring (pos 0 ∷ pos 2 ∷ pos 1 ∷ [])) ≡ Ok tt)
    × ((judged_tables 1024 [] pair ≡ Ok tt)
    × ((judged_tables 1024 [] (ring (pos 0 ∷ negsuc 0 ∷ pos 1 ∷ [])) ≡ Err IndexOutOfRange)
    × ((judged_tables 1024 [] (ring (pos 0 ∷ pos 9 ∷ [])) ≡ Err WrongLength)
    × (judged_tables 2 [] (ring (pos 0 ∷ [])) ≡ Err CountAboveLimit))))
unfolding judged_tables judged_entries out_of_range ruled counts_agree rows_injective has_null rows_closed rows_free p2s_back s2pp_kept nsym_lands distinct is_null is_after follows row p2s_at s2pp_at nsym_at every some
samples = (refl, (refl, (refl, (refl, refl))))

-- ---- the rules one by one

-- what each rule says of the tables, in the order of document 01's list
abbrev verdicts : ShiftTables → List Bool
verdicts T = (let S : Shifts = shifts_of T in counts_agree S ∷ rows_injective S ∷ has_null S ∷ rows_closed S ∷ rows_free S ∷ p2s_back S ∷ s2pp_kept S ∷ nsym_lands S ∷ [])

-- the rules that hold, and the answer
abbrev told : ShiftTables → List Bool × Answer
told T = (verdicts T, judged_tables 1024 [] T)

-- Each rule is broken once, by tables of the stated lengths whose entries are indices. Three are broken alone. The other five follow
-- from the rest, so that with each of them one more is broken.

-- one atom and two rows: the counts do not agree, and both rows send the atom to one place
abbrev no_counts : ShiftTables
no_counts = shift_tables (pos 0 ∷ []) (pos 0 ∷ []) (pos 0 ∷ []) (pos 0 ∷ pos 0 ∷ []) 1 1 2

-- each row sends both atoms to one: the rows are not injective, and none is the null shift
abbrev no_injective : ShiftTables
no_injective = shift_tables (pos 0 ∷ []) (pos 0 ∷ pos 0 ∷ []) (pos 0 ∷ pos 0 ∷ []) (pos 0 ∷ pos 0 ∷ pos 1 ∷ pos 1 ∷ []) 2 1 2

-- no row at all, so none is the null shift
abbrev no_null : ShiftTables
no_null = shift_tables [] [] [] [] 0 0 0

-- five atoms whose rows are a Latin square that belongs to no group: one row after another is none of them
abbrev no_closed : ShiftTables
no_closed = shift_tables (pos 0 ∷ []) (pos 0 ∷ pos 0 ∷ pos 0 ∷ pos 0 ∷ pos 0 ∷ []) (pos 0 ∷ pos 1 ∷ pos 4 ∷ pos 2 ∷ pos 3 ∷ []) (pos 0 ∷ pos 1 ∷ pos 2 ∷ pos 3 ∷ pos 4 ∷ pos 1 ∷ pos 0 ∷ pos 3 ∷ pos 4 ∷ pos 2 ∷ pos 2 ∷ pos 3 ∷ pos 4 ∷ pos 0 ∷ pos 1 ∷ pos 3 ∷ pos 4 ∷ pos 1 ∷ pos 2 ∷ pos 0 ∷ pos 4 ∷ pos 2 ∷ pos 0 ∷ pos 1 ∷ pos 3 ∷ []) 5 1 5

-- the null shift twice: two rows send an atom to one place, and no row sends atom 1 to its representative
abbrev no_free : ShiftTables
no_free = shift_tables (pos 0 ∷ []) (pos 0 ∷ pos 0 ∷ []) (pos 0 ∷ pos 0 ∷ []) (pos 0 ∷ pos 1 ∷ pos 0 ∷ pos 1 ∷ []) 2 1 2

-- two primitive atoms with one representative: s2pp of it is only one of them, and the counts do not agree
abbrev no_back : ShiftTables
no_back = shift_tables (pos 0 ∷ pos 0 ∷ []) (pos 0 ∷ []) (pos 0 ∷ []) (pos 0 ∷ []) 1 2 1

-- a shift that exchanges two primitive atoms: s2pp changes along it, and the counts do not agree
abbrev no_kept : ShiftTables
no_kept = shift_tables (pos 0 ∷ pos 1 ∷ []) (pos 0 ∷ pos 1 ∷ []) (pos 0 ∷ pos 0 ∷ []) (pos 0 ∷ pos 1 ∷ pos 1 ∷ pos 0 ∷ []) 2 2 2

-- the ring with the rows of atoms 1 and 2 exchanged: they do not send them to their representative
abbrev no_lands : ShiftTables
no_lands = shift_tables (pos 0 ∷ []) (pos 0 ∷ pos 0 ∷ pos 0 ∷ []) (pos 0 ∷ pos 1 ∷ pos 2 ∷ []) (pos 0 ∷ pos 1 ∷ pos 2 ∷ pos 1 ∷ pos 2 ∷ pos 0 ∷ pos 2 ∷ pos 0 ∷ pos 1 ∷ []) 3 1 3

-- all rules hold of the ring
pub kept : told (ring (pos 0 ∷ pos 2 ∷ pos 1 ∷ [])) ≡ (true ∷ true ∷ true ∷ true ∷ true ∷ true ∷ true ∷ true ∷ [], Ok tt)
unfolding judged_tables judged_entries out_of_range ruled counts_agree rows_injective has_null rows_closed rows_free p2s_back s2pp_kept nsym_lands distinct is_null is_after follows row p2s_at s2pp_at nsym_at every some
kept = refl

pub broken :
    (told no_counts ≡ (false ∷ true ∷ true ∷ true ∷ false ∷ true ∷ true ∷ true ∷ [], Err BadShiftTables))
    × ((told no_injective ≡ (true ∷ false ∷ false ∷ true ∷ true ∷ true ∷ true ∷ true ∷ [], Err BadShiftTables))
    × ((told no_null ≡ (true ∷ true ∷ false ∷ true ∷ true ∷ true ∷ true ∷ true ∷ [], Err BadShiftTables))
    × ((told no_closed ≡ (true ∷ true ∷ true ∷ false ∷ true ∷ true ∷ true ∷ true ∷ [], Err BadShiftTables))
    × ((told no_free ≡ (true ∷ true ∷ true ∷ true ∷ false ∷ true ∷ true ∷ false ∷ [], Err BadShiftTables))
    × ((told no_back ≡ (false ∷ true ∷ true ∷ true ∷ true ∷ false ∷ true ∷ true ∷ [], Err BadShiftTables))
    × ((told no_kept ≡ (false ∷ true ∷ true ∷ true ∷ true ∷ true ∷ false ∷ true ∷ [], Err BadShiftTables))
    × ((told no_lands ≡ (true ∷ true ∷ true ∷ true ∷ true ∷ true ∷ true ∷ false ∷ [], Err BadShiftTables)))))))))
unfolding judged_tables judged_entries out_of_range ruled counts_agree rows_injective has_null rows_closed rows_free p2s_back s2pp_kept nsym_lands distinct is_null is_after follows row p2s_at s2pp_at nsym_at every some
broken = (refl, (refl, (refl, (refl, (refl, (refl, (refl, refl)))))))

-- The half-shift condition can be met, and does not hold of all tables: the ring meets it (row 1 twice sends atom 0 to 2, row 2 twice sends it to 1),
-- the pair does not.
pub ring-met : NoHalfShift (shifts_of (ring (pos 0 ∷ pos 2 ∷ pos 1 ∷ [])))
unfolding NoHalfShift row
ring-met zero ht h zero ha = refl
ring-met zero ht h (suc zero) ha = refl
ring-met zero ht h (suc (suc zero)) ha = refl
ring-met zero ht h (suc (suc (suc a))) ha = omega arith
ring-met (suc zero) ht h a ha = absurd (suc-ne-zero 1 (h 0 (lit< tt)))
ring-met (suc (suc zero)) ht h a ha = absurd (suc-ne-zero 0 (h 0 (lit< tt)))
ring-met (suc (suc (suc t))) ht h a ha = omega arith

twice_back : (a : ℕ) → a < 2 → row (shifts_of pair) 1 (row (shifts_of pair) 1 a) ≡ a
unfolding row
twice_back zero ha = refl
twice_back (suc zero) ha = refl
twice_back (suc (suc a)) ha = omega arith

pub pair-not : NoHalfShift (shifts_of pair) → ⊥
unfolding NoHalfShift row
pair-not nh = suc-ne-zero 0 (nh 1 (lit< tt) twice_back 0 (lit< tt))
