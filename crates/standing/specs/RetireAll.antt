-- Retire a set everywhere (document 02, A.12): the given set and all that replacements link with it, before and after it, get a
-- retirement with an empty label if they have none, lowest number first. Assumes nothing.
use Rattle.std.specs.Prelude.{Bool, not, ◌&&◌, cond, List, [], ◌∷◌, ℕ, ◌+◌, ◌*◌, min, max, eqb, length, Result, Ok, Err}
use Rattle.tables.specs.declared.Refusal.TheVariants.{NotARoll, NotLawful, UnknownSet, NoRoom}
use Rattle.roll.specs.Format.{Entry, entry}
use Rattle.roll.specs.Reading.{is_roll, entries_of, roll_bytes}
use Rattle.roll.specs.AppendCalls.{passes, appended}
use Rattle.standing.specs.Register.{register_of, lawful}
use Rattle.standing.specs.Chains.{chain_end}
use Rattle.tables.specs.declared.Refusal.{Refusal}

-- where the chain of replacements from x ends
abbrev pub chain_end_of : List Entry → ℕ → ℕ
chain_end_of rs x = chain_end (length rs) (register_of rs) x

-- a record that delivers a set linked to x (their chains end in one set: specs/Linked `linked_is`) which has no retirement of its own
unfoldable pub waits : List Entry → ℕ → Entry → Bool
waits rs x r =
    not (eqb r.kind 3)
    && (eqb (chain_end_of rs r.number) (chain_end_of rs x)
    && not ((register_of rs).retired r.number))

-- a number put into a rising list: the lesser stays, the greater goes on
unfoldable pub inserted : ℕ → List ℕ → List ℕ
inserted y [] = y ∷ []
inserted y (z ∷ zs) = min y z ∷ inserted (max y z) zs

-- the set numbers of the records that pass, put into a list one by one
unfoldable pub numbers_passing : (Entry → Bool) → List ℕ → List Entry → List ℕ
numbers_passing passing ys [] = ys
numbers_passing passing ys (r ∷ rs) = numbers_passing passing (cond (passing r) (inserted r.number ys) ys) rs

-- the sets that are to be retired with x, by rising number
abbrev pub to_retire : List Entry → ℕ → List ℕ
to_retire rs x = numbers_passing (waits rs x) [] rs

-- a retirement with an empty label
abbrev pub retirement : ℕ → Entry
retirement y = entry 3 y 0 []

-- the retirements appended one after the other, 14 bytes each, as A.7's appender does it
unfoldable pub add_all : List ℕ → ℕ → List ℕ → List ℕ
add_all s count [] = s
add_all s count (y ∷ ys) = add_all (appended s count (retirement y)).1 (count + 14) ys

-- the answer before anything is written: 7, 9, 11, 8 in this order, otherwise how many retirements are to be added
unfoldable pub judged_retire : List ℕ → ℕ → ℕ → Result ℕ Refusal
judged_retire s count x =
    let b = roll_bytes s count in
    let rs = entries_of b in
    let many = length (to_retire rs x) in
    cond (not (is_roll b)) (Err NotARoll)
    (cond (not (lawful rs)) (Err NotLawful)
    (cond (not ((register_of rs).delivered x)) (Err UnknownSet)
    (cond (passes s (length rs + many) (count + 14 * many)) (Err NoRoom)
    (Ok many))))

-- the answer, and what is left in the slice
abbrev pub retire_after : Result ℕ Refusal → List ℕ → ℕ → List ℕ → Result ℕ Refusal × List ℕ
retire_after (Ok many) s count ys = (Ok (count + 14 * many), add_all s count ys)
retire_after (Err r) s count ys = (Err r, s)

unfoldable pub retire_all : List ℕ → ℕ → ℕ → Result ℕ Refusal × List ℕ
retire_all s count x = retire_after (judged_retire s count x) s count (to_retire (entries_of (roll_bytes s count)) x)
