-- How a program judges the legs: by what the guard of the transposes answers for the tables. A leg above 3 is refusal 3, after 1 and 2 and before 6.
-- Assumes nothing.
use Rattle.std.specs.Prelude.{Err, Ok, ◌≡◌, refl, Bool, true, false, not, ◌||◌, cond, List, [], ◌∷◌, ℕ, ◌≤◌, ◌<◌, eqb, Float}
use Rattle.std.proofs.Common.{sym, ◌∙◌, true≢false, arith, lt-ltb, le-ltb, eq-eqb, ne_eqb}
use Rattle.std.proofs.Math.Path.{ap}
use Rattle.tables.specs.Answers.{Answer}
use Rattle.tables.specs.declared.Refusal.TheVariants.{CountAboveLimit, WrongLength, IndexOutOfRange, BadShiftTables}
use Rattle.tables.specs.Answers.{number_of, is_refusal, refuse_if}
use Rattle.tables.specs.Conditions.{any_above, any_wrong, not_above}
use Rattle.tables.specs.Shifts.{Shifts, ruled}
use Rattle.tables.specs.Compact.{ShiftTables, shifts_of, table_lengths, tables_out_of_range, judged_entries, judged_tables, judged_compact}
use Rattle.tables.specs.Lengths.{set_blocks, set_length}
use Rattle.tables.specs.Limits.{limit4}
use Rattle.orbits.specs.TrueTransposes.{swapped}
use Rattle.transposes_fc4.specs.Swaps.{judged_swap}

-- what the tables answer, with a leg above 3: refusals 1 and 2 come before it
abbrev pub with_bad_leg : Answer → Answer
with_bad_leg t = cond (eqb (number_of t) 1 || eqb (number_of t) 2) t (Err IndexOutOfRange)

-- what the tables answer, with two legs
unfoldable pub with_legs : Answer → ℕ → ℕ → Answer
with_legs t a b = cond (any_above 3 (a ∷ b ∷ [])) (with_bad_leg t) t

-- ---- that is the order of the refusals

in_order_lem : (bad q1 q2 q3 q6 : Bool)
    → cond bad (with_bad_leg (refuse_if q1 CountAboveLimit (refuse_if q2 WrongLength (refuse_if q3 IndexOutOfRange (refuse_if q6 BadShiftTables (Ok tt))))))
    (refuse_if q1 CountAboveLimit (refuse_if q2 WrongLength (refuse_if q3 IndexOutOfRange (refuse_if q6 BadShiftTables (Ok tt)))))
    ≡ refuse_if q1 CountAboveLimit (refuse_if q2 WrongLength (refuse_if (bad || q3) IndexOutOfRange (refuse_if q6 BadShiftTables (Ok tt))))
in_order_lem false q1 q2 q3 q6 = refl
in_order_lem true true q2 q3 q6 = refl
in_order_lem true false true q3 q6 = refl
in_order_lem true false false true q6 = refl
in_order_lem true false false false true = refl
in_order_lem true false false false false = refl

pub judged_legs : (lenSet lenWork : ℕ) (T : ShiftTables) (a b : ℕ) → with_legs (judged_compact limit4 3 lenSet 1 lenWork T) a b ≡ judged_swap lenSet lenWork T a b
unfolding with_legs judged_swap judged_compact judged_tables judged_entries
judged_legs lenSet lenWork T a b =
    in_order_lem (any_above 3 (a ∷ b ∷ []))
    (any_above limit4 (T.n_satom ∷ T.n_patom ∷ T.num_trans ∷ []))
    (any_wrong ((lenSet, set_length T.n_patom T.n_satom 3) ∷ (lenWork, set_blocks T.n_patom T.n_satom 1) ∷ []) || any_wrong (table_lengths T))
    (tables_out_of_range T) (not (ruled (shifts_of T)))

-- ---- the tests of the program

pub above_first : (a b : ℕ) → 3 < a → true ≡ any_above 3 (a ∷ b ∷ [])
above_first a b h = sym (rw (lt-ltb 3 a h) refl)

pub above_second : (a b : ℕ) → a ≤ 3 → 3 < b → true ≡ any_above 3 (a ∷ b ∷ [])
above_second a b g h = sym (rw (le-ltb 3 a g, lt-ltb 3 b h) refl)

pub above_none : (a b : ℕ) → a ≤ 3 → b ≤ 3 → false ≡ any_above 3 (a ∷ b ∷ [])
above_none a b g h = sym (rw (le-ltb 3 a g, le-ltb 3 b h) refl)

module _ (t : Answer) {n : ℕ} (e : n ≡ number_of t) where
  pub is_one_lem : n ≡ 1 → t ≡ with_bad_leg t
  is_one_lem h = sym (rw (eq-eqb (number_of t) 1 (sym e ∙ h)) refl)

  pub is_two : (n ≡ 1 → ⊥) → n ≡ 2 → t ≡ with_bad_leg t
  is_two g h = sym (rw (ne_eqb (number_of t) 1 (λ q. g (e ∙ q)), eq-eqb (number_of t) 2 (sym e ∙ h)) refl)

  pub is_later : (n ≡ 1 → ⊥) → (n ≡ 2 → ⊥) → Err IndexOutOfRange ≡ with_bad_leg t
  is_later g h = sym (rw (ne_eqb (number_of t) 1 (λ q. g (e ∙ q)), ne_eqb (number_of t) 2 (λ q. h (e ∙ q))) refl)

pub legs_bad : (t : Answer) (a b : ℕ) → any_above 3 (a ∷ b ∷ []) ≡ true → with_bad_leg t ≡ with_legs t a b
unfolding with_legs
legs_bad t a b h = sym (rw h refl)

pub legs_fine : (t : Answer) (a b : ℕ) → any_above 3 (a ∷ b ∷ []) ≡ false → t ≡ with_legs t a b
unfolding with_legs
legs_fine t a b h = sym (rw h refl)

-- ---- a call that is done: the tables passed, and the legs are below 4

none_done : (t : Answer) → with_bad_leg t ≡ Ok tt → ⊥
none_done (Ok u) e = true≢false (ap is_refusal e)
none_done (Err q) e = go (eqb (number_of (Err q)) 1 || eqb (number_of (Err q)) 2) e
  where
    go : (b : Bool) → cond b (Err q) (Err IndexOutOfRange) ≡ Ok (tt {0}) → ⊥
    go true e = true≢false (ap is_refusal e)
    go false e = true≢false (ap is_refusal e)

fine : (t : Answer) (bad : Bool) → cond bad (with_bad_leg t) t ≡ Ok tt → (bad ≡ false) × (t ≡ Ok tt)
fine t false e = (refl, e)
fine t true e = absurd (none_done t e)

pub legs_done : (t : Answer) (a b : ℕ) → with_legs t a b ≡ Ok tt → (t ≡ Ok tt) × (a < 4) × (b < 4)
unfolding with_legs
legs_done t a b e =
    let (f, d) = fine t (any_above 3 (a ∷ b ∷ [])) e in
    let (ha, (hb, _)) = not_above 3 (a ∷ b ∷ []) f in
    (d, omega arith, omega arith)

-- ---- the call

-- with equal legs nothing moves
pub swapped-none : (a b : ℕ) (S : Shifts) (old : List Float) → a ≡ b → old ≡ swapped S 3 (a, b) old
unfolding swapped
swapped-none a b S old e = sym (rw (eq-eqb a b e) refl)
