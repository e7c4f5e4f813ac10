-- What it means that bytes are a roll (document 02, A.7 and A.13), and which records they hold. Assumes nothing.
use Rattle.std.specs.Prelude.{Bool, not, ◌&&◌, cond, List, [], ℕ, zero, suc, ◌+◌, ◌*◌, ◌-◌, eqb, leb, length, get_or, take, drop}
use Rattle.lists.specs.Tests.{every, some}
use Rattle.lists.specs.Tab.{tab}
use Rattle.roll.specs.Format.{Entry, record_ruled}

-- the integer in the 4 bytes at `at`
unfoldable pub four_at : List ℕ → ℕ → ℕ
four_at b at = get_or b at 0 + 256 * get_or b (at + 1) 0 + 65536 * get_or b (at + 2) 0 + 16777216 * get_or b (at + 3) 0

-- last, where the trailer begins, and before it the record count
unfoldable pub trailer_at : List ℕ → ℕ
trailer_at b = four_at b (length b - 4)

unfoldable pub count_of : List ℕ → ℕ
count_of b = four_at b (length b - 8)

-- number i of the trailer's list
unfoldable pub listed : List ℕ → ℕ → ℕ
listed b i = four_at b (trailer_at b + 4 * i)

-- the record that starts at `at`, and how many bytes it has
unfoldable pub entry_at : List ℕ → ℕ → Entry
entry_at b at = record { kind = get_or b at 0; number = four_at b (at + 1); earlier = four_at b (at + 5); label = take (get_or b (at + 9) 0) (drop (at + 10) b) }

unfoldable pub size_at : List ℕ → ℕ → ℕ
size_at b at = 10 + get_or b (at + 9) 0

-- where record i starts: the first at byte 0, each other where the one before it ends
unfoldable pub record_start : List ℕ → ℕ → ℕ
record_start b zero = 0
record_start b (suc i) = record_start b i + size_at b (record_start b i)

-- a record starts at `at`
unfoldable pub is_start : List ℕ → ℕ → Bool
is_start b at = some (count_of b) (λ i. eqb (record_start b i) at)

-- the kind and the numbers of the record at `at` keep the rules
unfoldable pub ruled_at : List ℕ → ℕ → Bool
ruled_at b at = record_ruled (get_or b at 0) (four_at b (at + 1)) (four_at b (at + 5))

-- number i of the list is where a record starts, and is none of those before it
unfoldable pub listed_once : List ℕ → ℕ → Bool
listed_once b i = is_start b (listed b i) && not (some i (λ k. eqb (listed b k) (listed b i)))

-- n records that keep the rules follow each other from byte 0 up to t
unfoldable pub follow : List ℕ → ℕ → ℕ → Bool
follow b n t = eqb (record_start b n) t && every n (λ i. ruled_at b (record_start b i))

-- no more than 1,000 records or 65,536 bytes; the trailer has one number for each record, and the two last numbers
abbrev pub sized : List ℕ → Bool
sized b = leb 8 (length b) && (leb (length b) 65536 && (leb (count_of b) 1000 && eqb (trailer_at b + 4 * count_of b + 8) (length b)))

-- all but the trailer's list: records that keep the rules follow each other from byte 0 up to the trailer
unfoldable pub framed : List ℕ → Bool
framed b = sized b && follow b (count_of b) (trailer_at b)

-- the rule for the list: number i is where record i starts, so the starts stand in rising order
abbrev pub in_order : List ℕ → Bool
in_order b = every (count_of b) (λ i. eqb (listed b i) (record_start b i))

-- the bytes are a roll
unfoldable pub is_roll : List ℕ → Bool
is_roll b = framed b && in_order b

-- the former rule for the list (A.7): each number is the start of a record, none stands there twice; their order is free
unfoldable pub each_once : List ℕ → Bool
each_once b = every (count_of b) (λ i. listed_once b i)

-- the bytes are a roll by the former rule
unfoldable pub is_former_roll : List ℕ → Bool
is_former_roll b = framed b && each_once b

-- the records of a roll, in the order in which they stand
unfoldable pub entries_of : List ℕ → List Entry
entries_of b = tab (count_of b) (λ i. entry_at b (record_start b i))

-- the roll at the beginning of a slice s, as long as the count says: those bytes, and none where the count passes the slice
unfoldable pub roll_bytes : List ℕ → ℕ → List ℕ
roll_bytes s count = cond (leb count (length s)) (take count s) []

-- the first count bytes of s are there, and are a roll
unfoldable pub holds_roll : List ℕ → ℕ → Bool
holds_roll s count = leb count (length s) && is_roll (take count s)

-- the same by the former rule
unfoldable pub holds_former_roll : List ℕ → ℕ → Bool
holds_former_roll s count = leb count (length s) && is_former_roll (take count s)
