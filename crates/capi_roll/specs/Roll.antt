-- What the C names of a delivery roll answer and leave (document 02, A.7, A.8, A.12 and A.13), on every input. A slot of a wrong length is
-- refusal 2, which comes after 7 and before all others. Assumes nothing.
use Rattle.std.specs.Prelude.{cond, List, [], ◌∷◌, ℕ, ◌+◌, eqb, length, Result, Ok, Err}
use Rattle.roll.specs.Format.{Entry}
use Rattle.roll.specs.Reading.{entry_at, size_at, roll_bytes, holds_roll}
use Rattle.roll.specs.ReadCalls.{item_number, read_at, read_at_former}
use Rattle.roll.specs.declared.read.Item.{Item}
use Rattle.roll.specs.declared.read.Item.TheVariants.{Record, End}
use Rattle.roll.specs.AppendCalls.{number_of_appended, judged_append, appended}
use Rattle.standing.specs.Register.{standing_number, stands_now}
use Rattle.standing.specs.RetireAll.{retire_all}
use Rattle.standing.specs.declared.Standing.{Standing}
use Rattle.standing.specs.declared.Standing.TheVariants.{Unknown, Retired, Current}
use Rattle.tables.specs.declared.Refusal.{Refusal}

-- the answer where a slot has a wrong length, from the number that the call would give
unfoldable pub seven_or_two : ℕ → ℕ
seven_or_two n = cond (eqb n 7) 7 2

-- A record as C gets it: kind, set number, earlier set number, where its label begins, the label's length, where the record ends.
-- The end and a refusal leave the slots.
unfoldable pub slots_of : List ℕ → ℕ → Result Item Refusal → List ℕ → List ℕ
slots_of b at (Ok (Record kind set earlier)) slots = kind ∷ set ∷ earlier ∷ (at + 10) ∷ length (entry_at b at).label ∷ (at + size_at b at) ∷ []
slots_of b at (Ok End) slots = slots
slots_of b at (Err r) slots = slots

-- the number of what the reader said, and the slots
unfoldable pub item_slots : List ℕ → ℕ → Result Item Refusal → List ℕ → ℕ × List ℕ
item_slots b at a slots = (item_number a, slots_of b at a slots)

-- the same where there may be another number of slots
unfoldable pub told_in : List ℕ → ℕ → Result Item Refusal → List ℕ → ℕ × List ℕ
told_in b at a slots = cond (eqb (length slots) 6) (item_slots b at a slots) (seven_or_two (item_number a), slots)

-- the number of what stands at a position, 0 for a record, 68 for the end, 7; and the slots
unfoldable pub read_roll : List ℕ → ℕ → ℕ → List ℕ → ℕ × List ℕ
read_roll s count at slots = let b = roll_bytes s count in told_in b at (read_at b at) slots

-- the same of an older roll, by the former rule
unfoldable pub read_roll_former : List ℕ → ℕ → ℕ → List ℕ → ℕ × List ℕ
read_roll_former s count at slots = let b = roll_bytes s count in told_in b at (read_at_former b at) slots

-- the appender's answer as C gets it: 0 with the new count in the slot; or the number of a refusal, which leaves the slot
unfoldable pub appended_slots : Result ℕ Refusal → List ℕ → ℕ × List ℕ
appended_slots (Ok n) slot = (number_of_appended (Ok n), n ∷ [])
appended_slots (Err r) slot = (number_of_appended (Err r), slot)

-- the number of the answer, the lent slice and the slot
unfoldable pub append_roll : List ℕ → ℕ → Entry → List ℕ → ℕ × List ℕ × List ℕ
append_roll s count r slot =
    let (a, left) = appended s count r in
    let (number, new) = appended_slots a slot in
    cond (eqb (length slot) 1) (number, left, new) (seven_or_two (number_of_appended (judged_append s count r)), s, slot)

-- the answer for a set as C gets it: its number; the set to use goes to the slot, every other answer leaves it
unfoldable pub standing_slots : Result Standing Refusal → List ℕ → ℕ × List ℕ
standing_slots (Ok (Current n)) slot = (standing_number (Ok (Current n)), n ∷ [])
standing_slots (Ok Unknown) slot = (standing_number (Ok Unknown), slot)
standing_slots (Ok Retired) slot = (standing_number (Ok Retired), slot)
standing_slots (Err r) slot = (standing_number (Err r), slot)

unfoldable pub set_now : List ℕ → ℕ → ℕ → List ℕ → ℕ × List ℕ
set_now s count x slot =
    let a = stands_now (roll_bytes s count) x in
    cond (eqb (length slot) 1) (standing_slots a slot) (seven_or_two (standing_number a), slot)

unfoldable pub retire_all_slots : List ℕ → ℕ → ℕ → List ℕ → ℕ × List ℕ × List ℕ
retire_all_slots s count x slot =
    let (a, left) = retire_all s count x in
    let (number, new) = appended_slots a slot in
    cond (eqb (length slot) 1) (number, left, new) (cond (holds_roll s count) 2 7, s, slot)
