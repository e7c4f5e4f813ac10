-- What the reader says of the roll b at a position (document 02, A.7), on every input, by the rule of A.13 and by the former one of A.7.
-- Assumes nothing.
use Rattle.std.specs.Prelude.{Bool, ◌&&◌, cond, List, [], ℕ, ◌+◌, eqb, Result, Ok, Err}
use Rattle.tables.specs.declared.Refusal.TheVariants.{NotARoll}
use Rattle.tables.specs.Answers.{refusal_number}
use Rattle.roll.specs.Format.{Entry}
use Rattle.roll.specs.Reading.{is_roll, is_former_roll, is_start, trailer_at, entry_at, size_at}
use Rattle.roll.specs.declared.read.Item.{Item}
use Rattle.roll.specs.declared.read.Item.TheVariants.{Record, End}
use Rattle.tables.specs.declared.Refusal.{Refusal}

-- the number of what it says: 0 for a record, 68 for the end (64 to 67 are numbers of other answers that are no refusals)
abbrev pub item_number : Result Item Refusal → ℕ
item_number (Ok (Record kind set earlier)) = 0
item_number (Ok End) = 68
item_number (Err r) = refusal_number r

-- a record's kind and numbers
abbrev pub read_entry : Entry → Item
read_entry r = Record r.kind r.number r.earlier

-- ---- whichever rule says whether the bytes are a roll: ok is its answer

-- a record of the roll starts at the position
unfoldable pub holds_record : Bool → List ℕ → ℕ → Bool
holds_record ok b at = ok && is_start b at

-- the record that starts there, the end at the trailer, 7 otherwise
unfoldable pub read_by : Bool → List ℕ → ℕ → Result Item Refusal
read_by ok b at =
    cond (holds_record ok b at) (Ok (read_entry (entry_at b at)))
    (cond (ok && eqb at (trailer_at b)) (Ok End) (Err NotARoll))

-- the label of the record that starts there; none where no record does
unfoldable pub label_by : Bool → List ℕ → ℕ → List ℕ
label_by ok b at = cond (holds_record ok b at) (entry_at b at).label []

-- where that record ends; the position itself where no record starts
unfoldable pub past_by : Bool → List ℕ → ℕ → ℕ
past_by ok b at = cond (holds_record ok b at) (at + size_at b at) at

-- ---- the two rules

abbrev pub read_at : List ℕ → ℕ → Result Item Refusal
read_at b at = read_by (is_roll b) b at

abbrev pub label_at : List ℕ → ℕ → List ℕ
label_at b at = label_by (is_roll b) b at

abbrev pub past_at : List ℕ → ℕ → ℕ
past_at b at = past_by (is_roll b) b at

abbrev pub read_at_former : List ℕ → ℕ → Result Item Refusal
read_at_former b at = read_by (is_former_roll b) b at

abbrev pub label_at_former : List ℕ → ℕ → List ℕ
label_at_former b at = label_by (is_former_roll b) b at

abbrev pub past_at_former : List ℕ → ℕ → ℕ
past_at_former b at = past_by (is_former_roll b) b at
