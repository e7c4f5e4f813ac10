-- Which set stands now (document 02, A.8 and A.14): a plain register with three notes for each set, delivered, retired and replaced by;
-- and the rules over it. Assumes nothing.
use Rattle.std.specs.Prelude.{Bool, true, false, not, ◌&&◌, ◌||◌, cond, List, [], ◌∷◌, ℕ, zero, suc, ◌+◌, eqb, length, Result, Ok, Err}
use Rattle.tables.specs.declared.Refusal.TheVariants.{NotARoll, NotLawful}
use Rattle.tables.specs.Answers.{refusal_number}
use Rattle.roll.specs.Format.{Entry}
use Rattle.roll.specs.Reading.{is_roll, entries_of}
use Rattle.standing.specs.declared.Standing.{Standing}
use Rattle.standing.specs.declared.Standing.TheVariants.{Unknown, Retired, Current}
use Rattle.tables.specs.declared.Refusal.{Refusal}

-- the number of an answer: 0 for a set to use, whose number goes with it
abbrev pub standing_number : Result Standing Refusal → ℕ
standing_number (Ok (Current n)) = 0
standing_number (Ok Unknown) = 70
standing_number (Ok Retired) = 71
standing_number (Err r) = refusal_number r

pub record Register : Type 0 where
  pub delivered : ℕ → Bool
  pub retired : ℕ → Bool
  -- 0 where nothing replaced it: set numbers start at 1
  pub replaced_by : ℕ → ℕ

unfoldable pub blank : Register
blank = record { delivered = λ x. false; retired = λ x. false; replaced_by = λ x. 0 }

-- a record delivers a set (a replacement its own number), retires it, or replaces it
abbrev pub delivers : Entry → ℕ → Bool
delivers r x = not (eqb r.kind 3) && eqb r.number x

abbrev pub retires : Entry → ℕ → Bool
retires r x = eqb r.kind 3 && eqb r.number x

abbrev pub replaces : Entry → ℕ → Bool
replaces r x = eqb r.kind 2 && eqb r.earlier x

-- what a record notes
unfoldable pub noted : Entry → Register → Register
noted r g =
    record {
      delivered = λ x. g.delivered x || delivers r x;
      retired = λ x. g.retired x || retires r x;
      replaced_by = λ x. cond (replaces r x) r.number (g.replaced_by x);
    }

-- the records of a list, noted one by one
unfoldable pub noted_all : Register → List Entry → Register
noted_all g [] = g
noted_all g (r ∷ rs) = noted_all (noted r g) rs

abbrev pub register_of : List Entry → Register
register_of rs = noted_all blank rs

-- 9 does not apply to a record, by the register of those before it: a retirement names a delivered set; any other record delivers a set that
-- was not delivered, and a replacement names one that was delivered and not replaced yet
unfoldable pub allowed : Register → Entry → Bool
allowed g r =
    cond (eqb r.kind 3) (g.delivered r.number)
    (not (g.delivered r.number) && cond (eqb r.kind 2) (g.delivered r.earlier && eqb (g.replaced_by r.earlier) 0) true)

-- it applies to none of the records
unfoldable pub all_allowed : Register → List Entry → Bool
all_allowed g [] = true
all_allowed g (r ∷ rs) = allowed g r && all_allowed (noted r g) rs

abbrev pub lawful : List Entry → Bool
lawful rs = all_allowed blank rs

-- the rules (document 02, A.14): unknown where it was not delivered; a replaced set gets the answer of its successor; retirement is
-- looked at where the chain ends. specs/Former has those of A.8, and what has changed.
unfoldable pub rule : Register → (ℕ → Result Standing Refusal) → ℕ → Result Standing Refusal
rule g answers x =
    cond (not (g.delivered x)) (Ok Unknown)
    (cond (eqb (g.replaced_by x) 0) (cond (g.retired x) (Ok Retired) (Ok (Current x)))
    (answers (g.replaced_by x)))

-- the rules, followed from set to set, n sets at most; specs/Laws: in a lawful roll a chain of replacements has ended before that
unfoldable pub answer : ℕ → Register → ℕ → Result Standing Refusal
answer zero g x = Ok Unknown
answer (suc n) g x = rule g (answer n g) x

-- what the roll b answers for a set: 7 first, then 9, then by the rules over the register of its records
unfoldable pub stands_now : List ℕ → ℕ → Result Standing Refusal
stands_now b x =
    let rs = entries_of b in
    cond (not (is_roll b)) (Err NotARoll)
    (cond (not (lawful rs)) (Err NotLawful)
    (answer (length rs + 1) (register_of rs) x))
