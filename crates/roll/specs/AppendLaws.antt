-- What an append does to a roll (document 02, A.7); proofs/AppendLaws has the law. Assumes nothing.
use Rattle.std.specs.Prelude.{◌≡◌, true, List, [], ◌∷◌, ◌++◌, ℕ, take, drop}
use Rattle.roll.specs.Format.{Entry}
use Rattle.roll.specs.Reading.{entries_of, holds_roll}
use Rattle.roll.specs.AppendCalls.{appended}

-- the new roll has the records of the old one and then the new record; no byte behind it changes
pub record Grown (s : List ℕ) (count : ℕ) (e : Entry) (m : ℕ) : Type 0 where
  pub holds : holds_roll (appended s count e).1 m ≡ true
  pub reads : entries_of (take m (appended s count e).1) ≡ entries_of (take count s) ++ (e ∷ [])
  pub rest : drop m (appended s count e).1 ≡ drop m s
