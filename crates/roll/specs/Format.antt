-- A delivery roll (document 02, A.7): records one after the other, and a trailer that lists where each of them starts.
-- Assumes nothing.
use Rattle.std.specs.Prelude.{Bool, not, ◌&&◌, cond, List, [], ◌∷◌, ◌++◌, ℕ, ◌+◌, ◌/◌, ◌%◌, eqb, leb, length}

-- what is recorded of a delivered set: the kind (1 delivery, 2 replacement, 3 retirement), the set's number, the earlier set's number, a label
pub record Entry : Type 0 where
  pub kind : ℕ
  pub number : ℕ
  pub earlier : ℕ
  pub label : List ℕ

abbrev pub entry : ℕ → ℕ → ℕ → List ℕ → Entry
entry kind number earlier label = record { kind = kind; number = number; earlier = earlier; label = label }

-- an integer in 4 bytes, the lowest first
abbrev pub in_four : ℕ → List ℕ
in_four n = n % 256 ∷ n / 256 % 256 ∷ n / 65536 % 256 ∷ n / 16777216 % 256 ∷ []

-- kind in 1 byte, set number in 4, earlier set number in 4, label length in 1, label
abbrev pub bytes_of : Entry → List ℕ
bytes_of r = r.kind ∷ (in_four r.number ++ (in_four r.earlier ++ (length r.label ∷ r.label)))

abbrev pub size_of : Entry → ℕ
size_of r = 10 + length r.label

-- the kind is 1, 2 or 3, the set number is not 0, and the earlier number is 0 exactly if the kind is not 2
unfoldable pub record_ruled : ℕ → ℕ → ℕ → Bool
record_ruled kind number earlier = leb 1 kind && (leb kind 3 && (leb 1 number && cond (eqb kind 2) (not (eqb earlier 0)) (eqb earlier 0)))

-- the rules of a record; the label's length is one byte
abbrev pub keeps_rules : Entry → Bool
keeps_rules r = record_ruled r.kind r.number r.earlier && leb (length r.label) 255

-- ---- a roll from its records

-- the records one after the other
unfoldable pub joined : List Entry → List ℕ
joined [] = []
joined (r ∷ rs) = bytes_of r ++ joined rs

-- where each record starts, the first at the given byte
unfoldable pub starts_from : ℕ → List Entry → List ℕ
starts_from at [] = []
starts_from at (r ∷ rs) = at ∷ starts_from (at + size_of r) rs

abbrev pub starts_of : List Entry → List ℕ
starts_of rs = starts_from 0 rs

-- numbers in 4 bytes each
unfoldable pub in_fours : List ℕ → List ℕ
in_fours [] = []
in_fours (n ∷ ns) = in_four n ++ in_fours ns

-- the roll of these records that lists their starts in the given order: the records; the starts, the record count, where the trailer begins
unfoldable pub rendered : List Entry → List ℕ → List ℕ
rendered rs order = joined rs ++ (in_fours order ++ (in_four (length rs) ++ in_four (length (joined rs))))
