-- A small roll read (document 02, A.7 and A.13). Assumes nothing.
use Rattle.std.specs.Prelude.{◌≡◌, refl, [], ◌∷◌, Ok, Err}
use Rattle.lists.specs.Tests.{every, some}
use Rattle.roll.specs.Format.{record_ruled, joined, in_fours, rendered}
use Rattle.roll.specs.Reading.{four_at, trailer_at, count_of, listed, entry_at, size_at, record_start, is_start, ruled_at, listed_once, follow, framed, is_roll, each_once, is_former_roll}
use Rattle.tables.specs.declared.Refusal.TheVariants.{NotARoll}
use Rattle.roll.specs.Samples.{first, second, two, older}
use Rattle.roll.specs.ReadCalls.{holds_record, read_by, label_by, past_by, read_at, label_at, past_at, read_at_former, label_at_former, past_at_former}
use Rattle.roll.specs.declared.read.Item.TheVariants.{Record, End}

-- the records of a roll of two, its end, and a position inside a record
pub reads :
    (read_at two 0 ≡ Ok (Record 1 7 0)) × (read_at two 12 ≡ Ok (Record 2 300 7)) × (read_at two 22 ≡ Ok End) × (read_at two 1 ≡ Err NotARoll)
    × (past_at two 0 ≡ 12) × (past_at two 12 ≡ 22) × (past_at two 22 ≡ 22) × (label_at two 0 ≡ 65 ∷ 66 ∷ []) × (label_at two 22 ≡ [])
unfolding two first second rendered joined in_fours is_roll framed follow count_of trailer_at four_at record_start size_at every some is_start listed ruled_at record_ruled entry_at holds_record read_by label_by past_by
reads = (refl, refl, refl, refl, refl, refl, refl, refl, refl)

-- the older roll of the same records: 7 at every position, and read by the former rule
pub reads-older :
    (read_at older 0 ≡ Err NotARoll) × (read_at older 22 ≡ Err NotARoll) × (read_at_former older 12 ≡ Ok (Record 2 300 7)) × (read_at_former older 22 ≡ Ok End)
    × (past_at_former older 0 ≡ 12) × (label_at_former older 0 ≡ 65 ∷ 66 ∷ []) × (read_at_former two 12 ≡ Ok (Record 2 300 7))
unfolding two older first second rendered joined in_fours is_roll is_former_roll framed each_once listed_once follow count_of trailer_at four_at record_start size_at every some is_start listed ruled_at record_ruled entry_at holds_record read_by label_by past_by
reads-older = (refl, refl, refl, refl, refl, refl, refl)
