-- Small rolls and what they are not (document 02, A.7 and A.13). Assumes nothing.
use Rattle.std.specs.Prelude.{◌≡◌, refl, true, false, List, [], ◌∷◌, ◌++◌, ℕ, set, take}
use Rattle.lists.specs.Tests.{every, some}
use Rattle.lists.specs.Tab.{tab, tab_from}
use Rattle.roll.specs.Format.{Entry, record_ruled, joined, in_fours, rendered}
use Rattle.roll.specs.Reading.{four_at, trailer_at, count_of, listed, entry_at, size_at, record_start, is_start, ruled_at, listed_once, follow, framed, is_roll, each_once, is_former_roll, entries_of}

-- set 7 is delivered with a label of two bytes, and set 300 replaces it
unfoldable pub first : Entry
first = record { kind = 1; number = 7; earlier = 0; label = 65 ∷ 66 ∷ [] }

unfoldable pub second : Entry
second = record { kind = 2; number = 300; earlier = 7; label = [] }

-- an empty roll is eight zero bytes
unfoldable pub empty : List ℕ
empty = 0 ∷ 0 ∷ 0 ∷ 0 ∷ 0 ∷ 0 ∷ 0 ∷ 0 ∷ []

unfoldable pub one : List ℕ
one = 1 ∷ 7 ∷ 0 ∷ 0 ∷ 0 ∷ 0 ∷ 0 ∷ 0 ∷ 0 ∷ 2 ∷ 65 ∷ 66 ∷ 0 ∷ 0 ∷ 0 ∷ 0 ∷ 1 ∷ 0 ∷ 0 ∷ 0 ∷ 12 ∷ 0 ∷ 0 ∷ 0 ∷ []

-- the starts in rising order
unfoldable pub two : List ℕ
unfolding rendered joined in_fours
two = rendered (first ∷ second ∷ []) (0 ∷ 12 ∷ [])

-- the same records with the two starts exchanged: a roll by the former rule alone
unfoldable pub older : List ℕ
unfolding rendered joined in_fours
older = rendered (first ∷ second ∷ []) (12 ∷ 0 ∷ [])

-- the rolls are rolls, and hold their records
samples_are :
    (is_roll empty ≡ true) × (is_roll one ≡ true) × (is_roll two ≡ true) × (rendered [] [] ≡ empty) × (rendered (first ∷ []) (0 ∷ []) ≡ one)
    × (entries_of one ≡ first ∷ []) × (entries_of two ≡ first ∷ second ∷ [])
unfolding empty one two first second rendered joined in_fours is_roll framed follow count_of trailer_at four_at record_start size_at every listed ruled_at record_ruled entries_of tab tab_from entry_at
samples_are = (refl, refl, refl, refl, refl, refl, refl)

-- the older one is refused, and the former rule reads it
pub older_is : (is_roll older ≡ false) × (is_former_roll older ≡ true) × (is_former_roll two ≡ true) × (entries_of older ≡ first ∷ second ∷ [])
unfolding two older first second rendered joined in_fours is_roll is_former_roll framed each_once follow count_of trailer_at four_at record_start size_at every some listed_once is_start listed ruled_at record_ruled entries_of tab tab_from entry_at
older_is = (refl, refl, refl, refl)

-- a kind above 3, set number 0, an earlier number in a delivery, another place of the trailer, another count, a number that is no start
broken_are :
    (is_roll (set one 0 4) ≡ false) × (is_roll (set one 1 0) ≡ false) × (is_roll (set one 5 1) ≡ false)
    × (is_roll (set one 20 11) ≡ false) × (is_roll (set one 16 0) ≡ false) × (is_roll (set one 12 1) ≡ false)
unfolding one is_roll framed follow count_of trailer_at four_at record_start size_at every listed ruled_at record_ruled
broken_are = (refl, refl, refl, refl, refl, refl)

-- no earlier number in a replacement, a start listed twice, a byte too few, a byte too many
broken_too :
    (is_roll (rendered (first ∷ record { kind = 2; number = 300; earlier = 0; label = [] } ∷ []) (0 ∷ 12 ∷ [])) ≡ false)
    × (is_former_roll (rendered (first ∷ second ∷ []) (0 ∷ 0 ∷ [])) ≡ false) × (is_roll (take 7 empty) ≡ false) × (is_roll (one ++ (0 ∷ [])) ≡ false)
unfolding empty one first second rendered joined in_fours is_roll is_former_roll framed each_once follow count_of trailer_at four_at record_start size_at every some listed_once is_start listed ruled_at record_ruled
broken_too = (refl, refl, refl, refl)

-- a byte between the records and the trailer: no roll by either rule
unfoldable pub slack : List ℕ
unfolding in_fours joined
slack = joined (first ∷ []) ++ (0 ∷ in_fours (0 ∷ 1 ∷ 13 ∷ []))

slack_is : (is_roll slack ≡ false) × (is_former_roll slack ≡ false)
unfolding slack first joined in_fours is_roll is_former_roll framed each_once follow count_of trailer_at four_at record_start size_at every some listed_once is_start listed ruled_at record_ruled
slack_is = (refl, refl)
