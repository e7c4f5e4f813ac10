-- Small rolls and what they answer (document 02, A.8, A.12 and A.14), by values; and the laws used on them. Assumes nothing.
use Rattle.std.specs.Prelude.{◌≡◌, refl, List, [], ◌∷◌, ◌++◌, ℕ, replicate, take, Ok, Err}
use Rattle.std.proofs.Common.{inl, arith}
use Rattle.lists.specs.Tests.{every}
use Rattle.lists.specs.Tab.{tab, tab_from}
use Rattle.lists.specs.Members.{In, all_of}
use Rattle.tables.specs.declared.Refusal.TheVariants.{NotARoll, NotLawful, UnknownSet, NoRoom}
use Rattle.roll.specs.Format.{Entry, entry, record_ruled, joined, starts_from, starts_of, in_fours, rendered}
use Rattle.roll.specs.Reading.{four_at, trailer_at, count_of, listed, entry_at, size_at, record_start, ruled_at, follow, framed, is_roll, entries_of, roll_bytes, holds_roll}
use Rattle.roll.specs.NumberLaws.{Bytes, bytes_of}
use Rattle.roll.specs.AppendCalls.{with_entry, passes, judged_append, appended}
use Rattle.standing.specs.Register.{blank, noted, noted_all, allowed, all_allowed, rule, answer, register_of, stands_now}
use Rattle.standing.specs.Chains.{chain_end}
use Rattle.standing.specs.Former.{former_stands_now, held_back}
use Rattle.standing.proofs.FormerLaws.{changes_just, was-retired}
use Rattle.standing.specs.RetireAll.{waits, inserted, numbers_passing, to_retire, add_all, judged_retire, retire_all}
use Rattle.standing.specs.MemberLaws.{Rising}
use Rattle.standing.specs.Linked.{Linked, itself, earlier}
use Rattle.standing.proofs.RetireLaws.{just_linked, by-rising-number, answers-after}
use Rattle.standing.specs.declared.Standing.TheVariants.{Unknown, Retired, Current}

abbrev delivery : ℕ → Entry
delivery x = entry 1 x 0 []

abbrev replacement : ℕ → ℕ → Entry
replacement x old = entry 2 x old []

abbrev retirement : ℕ → Entry
retirement x = entry 3 x 0 []

abbrev roll : List Entry → List ℕ
roll rs = rendered rs (starts_of rs)

-- ---- A.8: what a set answers, and each clause of 9

-- 5 was replaced by 2 and 2 by 7; 4 was delivered, and then retired
abbrev chain : List Entry
chain = delivery 5 ∷ replacement 2 5 ∷ replacement 7 2 ∷ delivery 4 ∷ retirement 4 ∷ []

pub answers : (stands_now (roll chain) 5 ≡ Ok (Current 7)) × (stands_now (roll chain) 7 ≡ Ok (Current 7)) × (stands_now (roll chain) 4 ≡ Ok Retired) × (stands_now (roll chain) 1 ≡ Ok Unknown)
unfolding stands_now rendered joined in_fours starts_from is_roll framed follow count_of trailer_at four_at record_start size_at every listed ruled_at record_ruled entries_of tab tab_from entry_at all_allowed allowed noted_all noted blank answer rule
answers = (refl, refl, refl, refl)

-- a number delivered twice, by a delivery and by a replacement; a set replaced, or retired, that no earlier record delivered, although a later one does;
-- a set replaced twice
pub nines :
    (stands_now (roll (delivery 1 ∷ delivery 1 ∷ [])) 1 ≡ Err NotLawful) × (stands_now (roll (delivery 1 ∷ delivery 2 ∷ replacement 2 1 ∷ [])) 1 ≡ Err NotLawful)
    × (stands_now (roll (replacement 2 1 ∷ delivery 1 ∷ [])) 1 ≡ Err NotLawful) × (stands_now (roll (retirement 1 ∷ delivery 1 ∷ [])) 1 ≡ Err NotLawful)
    × (stands_now (roll (delivery 1 ∷ replacement 2 1 ∷ replacement 3 1 ∷ [])) 1 ≡ Err NotLawful)
unfolding stands_now rendered joined in_fours starts_from is_roll framed follow count_of trailer_at four_at record_start size_at every listed ruled_at record_ruled entries_of tab tab_from entry_at all_allowed allowed noted_all noted blank answer rule
nines = (refl, refl, refl, refl, refl)

-- a set may be retired twice, and replaced after it was retired
pub lawful-ones :
    (stands_now (roll (delivery 1 ∷ retirement 1 ∷ retirement 1 ∷ [])) 1 ≡ Ok Retired) × (stands_now (roll (delivery 1 ∷ retirement 1 ∷ replacement 2 1 ∷ [])) 1 ≡ Ok (Current 2))
unfolding stands_now rendered joined in_fours starts_from is_roll framed follow count_of trailer_at four_at record_start size_at every listed ruled_at record_ruled entries_of tab tab_from entry_at all_allowed allowed noted_all noted blank answer rule
lawful-ones = (refl, refl)

-- ---- A.14: set 1 was replaced and retired

abbrev turned : List ℕ
turned = roll (delivery 1 ∷ replacement 2 1 ∷ retirement 1 ∷ delivery 3 ∷ retirement 3 ∷ [])

-- by the law: set 1 now answers current with set 2, where A.8 answered retired; set 3, retired and not replaced, answers as under A.8
pub turned-by-law : (stands_now turned 1 ≡ Ok (Current 2)) × (former_stands_now turned 1 ≡ Ok Retired) × (stands_now turned 3 ≡ former_stands_now turned 3)
unfolding rendered joined in_fours starts_from is_roll framed follow count_of trailer_at four_at record_start size_at every listed ruled_at record_ruled entries_of tab tab_from entry_at all_allowed allowed noted_all noted blank held_back chain_end
turned-by-law = (changes_just turned 1, was-retired turned 1 refl, changes_just turned 3)

-- ---- A.12: set 2, the earlier 5 and the later 7 are linked, and 7 has a retirement; 4 is not linked

abbrev linked : List Entry
linked = delivery 5 ∷ replacement 2 5 ∷ delivery 4 ∷ replacement 7 2 ∷ retirement 7 ∷ []

abbrev slice : List ℕ
slice = roll linked ++ replicate 30 9

-- two retirements are added, by rising number, and the two bytes after them stay; they do not fit where there is a byte less; 11 for a set that was not
-- delivered, 9 before it
pub retires :
    (retire_all slice 78 2 ≡ (Ok 106, roll (linked ++ (retirement 2 ∷ retirement 5 ∷ [])) ++ (9 ∷ 9 ∷ [])))
    × (retire_all (take 105 slice) 78 2 ≡ (Err NoRoom, take 105 slice)) × (retire_all slice 78 3 ≡ (Err UnknownSet, slice))
    × (retire_all (roll (retirement 1 ∷ [])) 22 3 ≡ (Err NotLawful, roll (retirement 1 ∷ []))) × (retire_all slice 77 3 ≡ (Err NotARoll, slice))
unfolding retire_all judged_retire roll_bytes holds_roll numbers_passing inserted waits chain_end passes add_all appended judged_append with_entry rendered joined in_fours starts_from is_roll framed follow count_of trailer_at four_at record_start size_at every listed ruled_at record_ruled entries_of tab tab_from entry_at all_allowed allowed noted_all noted blank
retires = (refl, refl, refl, refl, refl)

slice-bytes : Bytes slice
slice-bytes = bytes_of slice (unfold all_of rendered joined in_fours starts_from in refl)

adds-two : judged_retire slice 78 2 ≡ Ok 2
unfolding judged_retire roll_bytes numbers_passing inserted waits chain_end passes rendered joined in_fours starts_from is_roll framed follow count_of trailer_at four_at record_start size_at every listed ruled_at record_ruled entries_of tab tab_from entry_at all_allowed allowed noted_all noted blank
adds-two = refl

-- both directions of the law: 5 is retired because it is linked, and 2 is linked because it is retired
pub five_is_retired : In 5 (to_retire (entries_of (roll_bytes slice 78)) 2)
unfolding roll_bytes rendered joined in_fours starts_from count_of trailer_at four_at record_start size_at entries_of tab tab_from entry_at noted_all noted blank
five_is_retired = (just_linked slice 78 2 2 slice-bytes adds-two 5).1 (refl, earlier (itself refl) refl (λ e. omega (arith, e)), refl)

pub two_is_linked : Linked (register_of (entries_of (roll_bytes slice 78))) 2 2
unfolding roll_bytes numbers_passing inserted waits chain_end rendered joined in_fours starts_from count_of trailer_at four_at record_start size_at entries_of tab tab_from entry_at noted_all noted blank
two_is_linked = ((just_linked slice 78 2 2 slice-bytes adds-two 2).0 (inl refl)).1

pub two_then_five : Rising (2 ∷ 5 ∷ [])
unfolding roll_bytes numbers_passing inserted waits chain_end rendered joined in_fours starts_from count_of trailer_at four_at record_start size_at entries_of tab tab_from entry_at noted_all noted blank
two_then_five = by-rising-number slice 78 2 2 slice-bytes adds-two

-- after it: each linked set answers retired, set 4 as before
pub after_it : (stands_now (take 106 (add_all slice 78 (2 ∷ 5 ∷ []))) 7 ≡ Ok Retired) × (stands_now (take 106 (add_all slice 78 (2 ∷ 5 ∷ []))) 4 ≡ stands_now (roll linked) 4)
unfolding roll_bytes numbers_passing inserted waits chain_end rendered joined in_fours starts_from count_of trailer_at four_at record_start size_at entries_of tab tab_from entry_at noted_all noted blank
after_it = (answers-after slice 78 2 2 slice-bytes adds-two 7, answers-after slice 78 2 2 slice-bytes adds-two 4)
