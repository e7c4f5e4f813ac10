-- What document 02, A.14, changes: the rules of A.8, which looked at retirement first, and where their answers differ from those of today;
-- proofs/FormerLaws has the laws.
-- Assumes nothing.
use Rattle.std.specs.Prelude.{Bool, false, ◌&&◌, ◌||◌, cond, List, ℕ, zero, suc, ◌+◌, eqb, length, Result, Ok, Err}
use Rattle.std.proofs.Math.Bool.{not}
use Rattle.tables.specs.declared.Refusal.TheVariants.{NotARoll, NotLawful}
use Rattle.roll.specs.Format.{Entry}
use Rattle.roll.specs.Reading.{is_roll, entries_of}
use Rattle.standing.specs.Register.{Register, register_of, lawful}
use Rattle.standing.specs.Chains.{chain_end}
use Rattle.standing.specs.declared.Standing.{Standing}
use Rattle.standing.specs.declared.Standing.TheVariants.{Unknown, Retired, Current}
use Rattle.tables.specs.declared.Refusal.{Refusal}

-- the rules of A.8: retirement is looked at first, at every set of the chain
unfoldable pub former_rule : Register → (ℕ → Result Standing Refusal) → ℕ → Result Standing Refusal
former_rule g answers x =
    cond (not (g.delivered x)) (Ok Unknown)
    (cond (g.retired x) (Ok Retired)
    (cond (eqb (g.replaced_by x) 0) (Ok (Current x))
    (answers (g.replaced_by x))))

unfoldable pub former_answer : ℕ → Register → ℕ → Result Standing Refusal
former_answer zero g x = Ok Unknown
former_answer (suc n) g x = former_rule g (former_answer n g) x

unfoldable pub former_stands_now : List ℕ → ℕ → Result Standing Refusal
former_stands_now b x =
    let rs = entries_of b in
    cond (not (is_roll b)) (Err NotARoll)
    (cond (not (lawful rs)) (Err NotLawful)
    (former_answer (length rs + 1) (register_of rs) x))

-- from x onward, n steps at most, stands a retired set that was also replaced
unfoldable pub held_back : ℕ → Register → ℕ → Bool
held_back zero g x = false
held_back (suc n) g x = not (eqb (g.replaced_by x) 0) && (g.retired x || held_back n g (g.replaced_by x))

-- ---- any bytes

module _ (b : List ℕ) (x : ℕ) where
  abbrev rs : List Entry
  rs = entries_of b

  abbrev pub last : ℕ
  last = chain_end (length rs) (register_of rs) x

  -- the bytes are a roll to which 9 does not apply, the set was delivered, a retired set that was also replaced stands in its chain from it
  -- onward, and the end is not retired
  abbrev pub Turned : Bool
  Turned =
      is_roll b && (lawful rs && ((register_of rs).delivered x
      && (held_back (length rs) (register_of rs) x && not ((register_of rs).retired last))))
