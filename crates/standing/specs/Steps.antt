-- What the code of A.12 gathers, record by record, and what an answer other than a refusal says; proofs/StepsLaws: it is what specs/RetireAll names.
-- Assumes nothing.
use Rattle.std.specs.Prelude.{◌≡◌, Bool, true, false, ◌&&◌, List, [], ℕ, zero, suc, ◌+◌, ◌*◌, length, Result, Ok, Err}
use Rattle.std.proofs.Math.Bool.{not, cond}
use Rattle.std.proofs.Math.Dec.{eqb}
use Rattle.roll.specs.Format.{Entry}
use Rattle.roll.specs.Reading.{is_roll, entries_of, roll_bytes}
use Rattle.roll.specs.AppendCalls.{passes}
use Rattle.standing.specs.Register.{register_of, lawful}
use Rattle.standing.specs.Walk.{register_after}
use Rattle.standing.specs.Chains.{carried}
use Rattle.standing.specs.RetireAll.{inserted, to_retire}
use Rattle.tables.specs.declared.Refusal.{Refusal}

-- the test of specs/RetireAll as the code makes it: f k is record k of n, `last` the end of the chain asked for
unfoldable pub waits_at : (ℕ → Entry) → ℕ → ℕ → Entry → Bool
waits_at f n last r = not (eqb r.kind 3) && (eqb (carried f n r.number) last && not ((register_after f n).retired r.number))

-- what was gathered from the first k records
unfoldable pub gathered_to : (Entry → Bool) → (ℕ → Entry) → ℕ → List ℕ
gathered_to w f zero = []
gathered_to w f (suc k) = cond (w (f k)) (inserted (f k).number (gathered_to w f k)) (gathered_to w f k)

-- ---- what the answer says

abbrev pub many : Result ℕ Refusal → ℕ
many (Ok k) = k
many (Err r) = 0

-- what an answer other than a refusal says
pub record Retirable (s : List ℕ) (count x m : ℕ) : Type 0 where
  pub roll : is_roll (roll_bytes s count) ≡ true
  pub law : lawful (entries_of (roll_bytes s count)) ≡ true
  pub known : (register_of (entries_of (roll_bytes s count))).delivered x ≡ true
  pub room : passes s (length (entries_of (roll_bytes s count)) + m) (count + 14 * m) ≡ false
  pub many : length (to_retire (entries_of (roll_bytes s count)) x) ≡ m
