-- How the call goes from the guard's number to the explanation. Assumes nothing.
use Rattle.std.specs.Prelude.{Ok, Err, ◌≡◌, Bool, not, cond, ℕ, ◌≤◌, ◌<◌}
use Rattle.std.proofs.Math.Path.{refl}
use Rattle.std.proofs.Common.{sym, ap, ◌∙◌, arith}
use Rattle.std.proofs.Math.Bool.{true, false}
use mathlib.Core.List.{[]}
use borrow.Author.Tests.{not-true}
use Rattle.tables.specs.Answers.{Answer}
use Rattle.tables.specs.declared.Refusal.{Refusal}
use Rattle.tables.specs.declared.Refusal.TheVariants.{CountAboveLimit, WrongLength, IndexOutOfRange, BadShiftTables}
use Rattle.tables.specs.Answers.{refusal_number, number_of}
use Rattle.tables.specs.Limits.{limit2}
use Rattle.tables.specs.Conditions.{any_above, any_wrong, not_above}
use Rattle.tables.specs.Shifts.{Shifts, ruled}
use Rattle.tables.specs.Compact.{ShiftTables, shifts_of, table_lengths, tables_out_of_range, judged_entries, judged_tables, TablesFit, fit_of}
use Rattle.explain.specs.declared.Explanation.{Explanation}
use Rattle.explain.specs.Explain.{rule_at, first_of, second_of, third_of, first_broken, first_above, first_wrong, counts, because, bad_entry, broken_rule, explain_shift_tables}
use Rattle.explain.specs.Meaning.{breaks_it}

-- ---- the rule that is named, as the program finds it

module _ (S : Shifts) (n : ruled S ≡ false) {r : ℕ} (er : r ≡ first_broken S) where
  pub rule-below : r < 8
  unfolding broken_rule
  rule-below = rw er (breaks_it S n).0

  pub first_below : {i : ℕ} → i ≡ first_of (rule_at S r) → i < (rule_at S r).firsts
  unfolding broken_rule
  first_below ei = rw (ei, er) (breaks_it S n).1

  pub second_below : {i j : ℕ} → i ≡ first_of (rule_at S r) → j ≡ second_of (rule_at S r) i → j < (rule_at S r).seconds
  unfolding broken_rule
  second_below ei ej = rw (ej, ei, er) (breaks_it S n).2

  pub rule-named : {i j k : ℕ} → i ≡ first_of (rule_at S r) → j ≡ second_of (rule_at S r) i → k ≡ third_of (rule_at S r) i j → because BadShiftTables r i j k ≡ broken_rule S
  unfolding broken_rule
  rule-named ei ej ek = rw (ek, ej, ei, er) refl

-- ---- the guard's number says which refusal it was

-- four tests, one after the other
abbrev chain : {A : Type 0} → (a w o r : Bool) → A → A → A → A → A → A
chain a w o r x1 x2 x3 x6 x0 = cond a x1 (cond w x2 (cond o x3 (cond r x6 x0)))

module _ {A : Type 0} {k : ℕ} (x1 x2 x3 x6 x0 : A) where
  chain_1 : (a w o r : Bool) → k ≡ chain a w o r 1 2 3 6 0 → k ≡ 1 → x1 ≡ chain a w o r x1 x2 x3 x6 x0
  chain_1 true w o r e h = refl
  chain_1 false true o r e h = absurd (omega arith)
  chain_1 false false true r e h = absurd (omega arith)
  chain_1 false false false true e h = absurd (omega arith)
  chain_1 false false false false e h = absurd (omega arith)

  chain_2 : (a w o r : Bool) → k ≡ chain a w o r 1 2 3 6 0 → k ≡ 2 → (a ≡ false) × (x2 ≡ chain a w o r x1 x2 x3 x6 x0)
  chain_2 true w o r e h = absurd (omega arith)
  chain_2 false true o r e h = (refl, refl)
  chain_2 false false true r e h = absurd (omega arith)
  chain_2 false false false true e h = absurd (omega arith)
  chain_2 false false false false e h = absurd (omega arith)

  chain_3 : (a w o r : Bool) → k ≡ chain a w o r 1 2 3 6 0 → k ≡ 3 → x3 ≡ chain a w o r x1 x2 x3 x6 x0
  chain_3 true w o r e h = absurd (omega arith)
  chain_3 false true o r e h = absurd (omega arith)
  chain_3 false false true r e h = refl
  chain_3 false false false true e h = absurd (omega arith)
  chain_3 false false false false e h = absurd (omega arith)

  chain_6 : (a w o r : Bool) → k ≡ chain a w o r 1 2 3 6 0 → k ≡ 6
      → (a ≡ false) × (w ≡ false) × (o ≡ false) × (r ≡ true) × (x6 ≡ chain a w o r x1 x2 x3 x6 x0)
  chain_6 true w o r e h = absurd (omega arith)
  chain_6 false true o r e h = absurd (omega arith)
  chain_6 false false true r e h = absurd (omega arith)
  chain_6 false false false true e h = (refl, refl, refl, refl, refl)
  chain_6 false false false false e h = absurd (omega arith)

  chain_0 : (a w o r : Bool) → k ≡ chain a w o r 1 2 3 6 0 → (k ≡ 1 → ⊥) → (k ≡ 2 → ⊥) → (k ≡ 3 → ⊥) → (k ≡ 6 → ⊥) → x0 ≡ chain a w o r x1 x2 x3 x6 x0
  chain_0 true w o r e n1 n2 n3 n6 = absurd (n1 e)
  chain_0 false true o r e n1 n2 n3 n6 = absurd (n2 e)
  chain_0 false false true r e n1 n2 n3 n6 = absurd (n3 e)
  chain_0 false false false true e n1 n2 n3 n6 = absurd (n6 e)
  chain_0 false false false false e n1 n2 n3 n6 = refl

-- the refusal of an answer, the sixth where it has none
abbrev refusal_in : Answer → Refusal
refusal_in (Ok u) = BadShiftTables
refusal_in (Err q) = q

fourth : (a w o r : Bool) (q : Refusal) → ◌≡◌ {A = Answer} (Err q) (chain a w o r (Err CountAboveLimit) (Err WrongLength) (Err IndexOutOfRange) (Err BadShiftTables) (Ok tt))
    → (q ≡ CountAboveLimit → ⊥) → (q ≡ WrongLength → ⊥) → (q ≡ IndexOutOfRange → ⊥) → q ≡ BadShiftTables
fourth true w o r q e n1 n2 n3 = absurd (n1 (ap refusal_in e))
fourth false true o r q e n1 n2 n3 = absurd (n2 (ap refusal_in e))
fourth false false true r q e n1 n2 n3 = absurd (n3 (ap refusal_in e))
fourth false false false true q e n1 n2 n3 = ap refusal_in e
fourth false false false false q e n1 n2 n3 = ap refusal_in e

module _ (T : ShiftTables) where
  abbrev a : Bool
  a = any_above limit2 (counts T)

  abbrev w : Bool
  w = any_wrong (table_lengths T)

  abbrev o : Bool
  o = tables_out_of_range T

  abbrev r : Bool
  r = not (ruled (shifts_of T))

  numbered : number_of (judged_tables limit2 [] T) ≡ chain a w o r 1 2 3 6 0
  unfolding judged_tables judged_entries
  numbered = go a w o r refl refl refl refl
    where
      go : (a' w' o' r' : Bool) → a ≡ a' → w ≡ w' → o ≡ o' → r ≡ r' → number_of (judged_tables limit2 [] T) ≡ chain a w o r 1 2 3 6 0
      go true w' o' r' ea ew eo er = rw ea refl
      go false true o' r' ea ew eo er = rw (ea, ew) refl
      go false false true r' ea ew eo er = rw (ea, ew, eo) refl
      go false false false true ea ew eo er = rw (ea, ew, eo, er) refl
      go false false false false ea ew eo er = rw (ea, ew, eo, er) refl

  judged : judged_tables limit2 [] T ≡ chain a w o r (Err CountAboveLimit) (Err WrongLength) (Err IndexOutOfRange) (Err BadShiftTables) (Ok tt)
  unfolding judged_tables judged_entries
  judged = refl

  abbrev x1 : Explanation
  x1 = because CountAboveLimit (first_above limit2 (counts T)) 0 0 0

  abbrev x2 : Explanation
  x2 = because WrongLength (first_wrong (table_lengths T)) 0 0 0

  abbrev x0 : Explanation
  x0 = record { answer = Ok tt; which = 0; first = 0; second = 0; third = 0 }

  module _ {x : Answer} {k : ℕ} (ex : x ≡ judged_tables limit2 [] T) (ek : k ≡ number_of x) where
    number_is : k ≡ chain a w o r 1 2 3 6 0
    number_is = ek ∙ ap number_of ex ∙ numbered

    pub told_1 : k ≡ 1 → x1 ≡ explain_shift_tables T
    unfolding explain_shift_tables
    told_1 h = chain_1 x1 x2 (bad_entry T) (broken_rule (shifts_of T)) x0 a w o r number_is h

    pub told_2 : k ≡ 2 → (T.n_satom ≤ 1024) × (T.num_trans ≤ 1024) × (x2 ≡ explain_shift_tables T)
    unfolding explain_shift_tables
    told_2 h =
        let (p, q) = chain_2 x1 x2 (bad_entry T) (broken_rule (shifts_of T)) x0 a w o r number_is h in
        let m = not_above limit2 (counts T) p in
        (m.0, m.1.1.0, q)

    pub told_3 : k ≡ 3 → bad_entry T ≡ explain_shift_tables T
    unfolding explain_shift_tables
    told_3 h = chain_3 x1 x2 (bad_entry T) (broken_rule (shifts_of T)) x0 a w o r number_is h

    pub told_6 : k ≡ 6 → TablesFit 1024 T × (ruled (shifts_of T) ≡ false) × (broken_rule (shifts_of T) ≡ explain_shift_tables T)
    unfolding explain_shift_tables
    told_6 h =
        let (pa, pw, po, pr, q) = chain_6 x1 x2 (bad_entry T) (broken_rule (shifts_of T)) x0 a w o r number_is h in
        let m = not_above limit2 (counts T) pa in
        (fit_of 1024 T m.0 m.1.0 m.1.1.0 pw po, not-true (ruled (shifts_of T)) pr, q)

    pub told_0 : (k ≡ 1 → ⊥) → (k ≡ 2 → ⊥) → (k ≡ 3 → ⊥) → (k ≡ 6 → ⊥) → x0 ≡ explain_shift_tables T
    unfolding explain_shift_tables
    told_0 n1 n2 n3 n6 = chain_0 x1 x2 (bad_entry T) (broken_rule (shifts_of T)) x0 a w o r number_is n1 n2 n3 n6

  -- the same by the refusal itself
  module _ {x : Answer} {q : Refusal} (ex : x ≡ judged_tables limit2 [] T) (is : x ≡ Err q) where
    pub refused_1 : q ≡ CountAboveLimit → x1 ≡ explain_shift_tables T
    refused_1 e = told_1 ex refl (ap number_of is ∙ ap refusal_number e)

    pub refused_2 : q ≡ WrongLength → (T.n_satom ≤ 1024) × (T.num_trans ≤ 1024) × (x2 ≡ explain_shift_tables T)
    refused_2 e = told_2 ex refl (ap number_of is ∙ ap refusal_number e)

    pub refused_3 : q ≡ IndexOutOfRange → bad_entry T ≡ explain_shift_tables T
    refused_3 e = told_3 ex refl (ap number_of is ∙ ap refusal_number e)

    -- the guard has no other refusal than the sixth
    pub refused_else : (q ≡ CountAboveLimit → ⊥) → (q ≡ WrongLength → ⊥) → (q ≡ IndexOutOfRange → ⊥)
        → TablesFit 1024 T × (ruled (shifts_of T) ≡ false) × (broken_rule (shifts_of T) ≡ explain_shift_tables T)
    refused_else n1 n2 n3 =
        let e : q ≡ BadShiftTables = fourth a w o r q (sym is ∙ ex ∙ judged) n1 n2 n3 in
        told_6 ex refl (ap number_of is ∙ ap refusal_number e)

  pub accepted : {x : Answer} {u : Unit {0}} → x ≡ judged_tables limit2 [] T → x ≡ Ok u → x0 ≡ explain_shift_tables T
  accepted {x = x} ex is =
      let z : number_of x ≡ 0 = ap number_of is in
      told_0 ex refl (λ h. absurd (omega (arith, z, h))) (λ h. absurd (omega (arith, z, h))) (λ h. absurd (omega (arith, z, h))) (λ h. absurd (omega (arith, z, h)))
