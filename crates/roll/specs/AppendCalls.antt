-- What the appender answers and leaves (document 02, A.7), on every input: 7 is looked at first of all, 8 last.
-- A roll is the first bytes of a slice s, as many as the count says.
-- Assumes nothing.
use Rattle.std.specs.Prelude.{Bool, not, ◌&&◌, ◌||◌, cond, List, [], ◌∷◌, ◌++◌, ℕ, ◌+◌, ltb, length, take, drop, Result, Ok, Err}
use Rattle.tables.specs.declared.Refusal.TheVariants.{NotARoll, NoRoom}
use Rattle.tables.specs.Answers.{refusal_number}
use Rattle.roll.specs.Format.{Entry, keeps_rules, starts_of, rendered}
use Rattle.roll.specs.Reading.{entries_of, holds_roll}
use Rattle.tables.specs.declared.Refusal.{Refusal}

-- the number of an answer: 0 for a call that is done
abbrev pub number_of_appended : Result ℕ Refusal → ℕ
number_of_appended (Ok n) = 0
number_of_appended (Err r) = refusal_number r

-- the roll of the former records and then this one, its starts in rising order
unfoldable pub with_entry : List ℕ → Entry → List ℕ
with_entry b r = let rs = entries_of b ++ (r ∷ []) in rendered rs (starts_of rs)

-- so many records and bytes are more than a roll may have, or than the slice has
unfoldable pub passes : List ℕ → ℕ → ℕ → Bool
passes s records bytes = ltb 1000 records || (ltb 65536 bytes || ltb (length s) bytes)

-- the appender's answer: 7 first of all, 8 last, otherwise how many bytes the new roll has
unfoldable pub judged_append : List ℕ → ℕ → Entry → Result ℕ Refusal
judged_append s count r =
    let b = take count s in
    cond (not (holds_roll s count && keeps_rules r)) (Err NotARoll)
    (cond (passes s (length (entries_of b) + 1) (length (with_entry b r))) (Err NoRoom)
    (Ok (length (with_entry b r))))

-- what is left in the slice: the new roll and the bytes after it, or everything as it was
abbrev pub leaves : Result ℕ Refusal → List ℕ → List ℕ → List ℕ
leaves (Ok n) new s = new ++ drop n s
leaves (Err r) new s = s

unfoldable pub appended : List ℕ → ℕ → Entry → Result ℕ Refusal × List ℕ
appended s count r = let a = judged_append s count r in (a, leaves a (with_entry (take count s) r) s)
