-- Records added to small rolls (document 02, A.7). Assumes nothing.
use Rattle.std.specs.Prelude.{◌≡◌, refl, true, List, [], ◌∷◌, ◌++◌, ℕ, replicate, take, Ok, Err}
use Rattle.std.proofs.Common.{lit<}
use Rattle.lists.specs.Tests.{every}
use Rattle.lists.specs.Tab.{tab, tab_from}
use Rattle.lists.specs.Elements.{All}
use Rattle.lists.specs.Members.{all_of}
use Rattle.roll.specs.Format.{record_ruled, joined, starts_from, starts_of, in_fours, rendered}
use Rattle.roll.specs.Reading.{four_at, trailer_at, count_of, listed, entry_at, size_at, record_start, ruled_at, follow, framed, is_roll, entries_of, holds_roll}
use Rattle.tables.specs.declared.Refusal.TheVariants.{NotARoll, NoRoom}
use Rattle.roll.specs.NumberLaws.{Bytes, bytes_of}
use Rattle.roll.proofs.Laws.{comes_over}
use Rattle.roll.proofs.Walked.{walked, walk}
use Rattle.roll.proofs.Desks.{Given, Desk, Appends, two-desks}
use Rattle.roll.specs.Samples.{first, second, empty, one, older, older_is}
use Rattle.roll.specs.AppendCalls.{with_entry, passes, judged_append, appended}
use Rattle.roll.specs.declared.read.Item.TheVariants.{Record, End}

-- set 7 added to an empty roll in a slice of 25 bytes: 24 of them are the new roll, and the last stays; in a slice of 23 it does not fit
pub appends :
    (appended (empty ++ replicate 17 9) 8 first ≡ (Ok 24, one ++ (9 ∷ []))) × (appended (empty ++ replicate 15 9) 8 first ≡ (Err NoRoom, empty ++ replicate 15 9))
    × (appended empty 7 first ≡ (Err NotARoll, empty)) × (appended empty 9 first ≡ (Err NotARoll, empty)) × (appended one 24 (record { kind = 1; number = 8; earlier = 7; label = [] }) ≡ (Err NotARoll, one))
unfolding empty one first second rendered joined in_fours is_roll framed follow count_of trailer_at four_at record_start size_at every listed ruled_at record_ruled entries_of tab tab_from entry_at starts_from holds_roll with_entry passes judged_append appended
appends = (refl, refl, refl, refl, refl)

-- ---- two desks, whose slices differ after their empty rolls, append the same two records: by the law their rolls are identical

abbrev slice : ℕ → ℕ → List ℕ
slice n x = empty ++ replicate n x

abbrev after_two : List ℕ → List ℕ
after_two s = (appended (appended s 8 first).1 24 second).1

slice-bytes : Bytes (slice 30 0) × Bytes (slice 40 9)
unfolding empty all_of
slice-bytes = (bytes_of (slice 30 0) refl, bytes_of (slice 40 9) refl)

desks : Desk (slice 30 0) 8 [] × Desk (slice 40 9) 8 []
unfolding empty is_roll framed follow count_of trailer_at four_at record_start every entries_of tab tab_from holds_roll
desks = (record { bytes = slice-bytes.0; holds = refl; reads = refl }, record { bytes = slice-bytes.1; holds = refl; reads = refl })

append-two : Appends (slice 30 0) 8 (first ∷ second ∷ []) (after_two (slice 30 0)) 38 × Appends (slice 40 9) 8 (first ∷ second ∷ []) (after_two (slice 40 9)) 38
unfolding empty first second rendered joined in_fours is_roll framed follow count_of trailer_at four_at record_start size_at every listed ruled_at record_ruled entries_of tab tab_from entry_at starts_from holds_roll with_entry passes judged_append appended
append-two = ((24, refl, (38, refl, (refl, refl))), (24, refl, (38, refl, (refl, refl))))

given-two : All Given (first ∷ second ∷ [])
unfolding first second all_of
given-two = (((lit< tt, lit< tt), bytes_of (65 ∷ 66 ∷ []) refl), (((lit< tt, lit< tt), bytes_of [] refl), tt))

pub two_records : take 38 (after_two (slice 30 0)) ≡ take 38 (after_two (slice 40 9))
two_records =
    two-desks [] (first ∷ second ∷ []) given-two (slice 30 0) (slice 40 9) (after_two (slice 30 0)) (after_two (slice 40 9)) 8 8 38 38
    desks.0 desks.1 append-two.0 append-two.1

-- ---- reading the first of these rolls from byte 0: by the law the two records with their labels, and then the end

pub walks_two : walked (take 38 (after_two (slice 30 0))) ≡ (Ok (Record 1 7 0), 65 ∷ 66 ∷ []) ∷ (Ok (Record 2 300 7), []) ∷ (Ok End, []) ∷ []
unfolding empty first second rendered joined in_fours is_roll framed follow count_of trailer_at four_at record_start size_at every listed ruled_at record_ruled entries_of tab tab_from entry_at starts_from holds_roll with_entry passes judged_append appended
walks_two = walk (take 38 (after_two (slice 30 0))) refl

-- ---- the older roll, whose starts stand falling: by the law its records, rendered anew, are a roll that holds the same

older-bytes : Bytes older
unfolding older first second rendered joined in_fours all_of
older-bytes = bytes_of older refl

pub older_comes_over : let u = rendered (entries_of older) (starts_of (entries_of older)) in (is_roll u ≡ true) × (entries_of u ≡ entries_of older)
older_comes_over = let c = comes_over older older-bytes older_is.1 in (c.0, c.1)
