-- The guard of a compact set, and then the length of one more slice: refusal 2 comes after 1 and before 3 and 6. Assumes nothing.
use Rattle.std.specs.Prelude.{Err, Ok, ◌≡◌, Bool, true, false, not, ◌||◌, ◌⊎◌, [], ◌∷◌, ℕ, ◌≤◌, eqb}
use Rattle.std.proofs.Math.Path.{refl}
use Rattle.std.proofs.Common.{sym, ap, ◌∙◌, true≢false, inl, inr, arith, eq-eqb, ne_eqb}
use Rattle.lists.specs.Tests.{split}
use Rattle.tables.specs.Answers.{Answer}
use Rattle.tables.specs.declared.Refusal.TheVariants.{CountAboveLimit, WrongLength, IndexOutOfRange, BadShiftTables}
use Rattle.tables.specs.Answers.{number_of, refuse_if}
use Rattle.tables.specs.Conditions.{any_above, any_wrong, not_above}
use Rattle.tables.specs.Lengths.{set_length}
use Rattle.tables.specs.Shifts.{ruled}
use Rattle.tables.specs.Compact.{ShiftTables, shifts_of, table_lengths, tables_out_of_range, judged_entries, judged_tables, judged_set}

-- the answer by its conditions: a count above, the set's length, the other length, those of the tables, an entry, a rule
abbrev answer_by : Bool → Bool → Bool → Bool → Bool → Bool → Answer
answer_by x y f t z w = refuse_if x CountAboveLimit (refuse_if ((y || (f || false)) || t) WrongLength (refuse_if z IndexOutOfRange (refuse_if w BadShiftTables (Ok tt))))

above_only : (x y f t z w : Bool) → number_of (answer_by x y f t z w) ≡ 1 → x ≡ true
above_only true y f t z w e = refl
above_only false true f t z w e = absurd (omega arith)
above_only false false true t z w e = absurd (omega arith)
above_only false false false true z w e = absurd (omega arith)
above_only false false false false true w e = absurd (omega arith)
above_only false false false false false true e = absurd (omega arith)
above_only false false false false false false e = absurd (omega arith)

above_same : (x y f g t z w : Bool) → x ≡ true → answer_by x y f t z w ≡ answer_by x y g t z w
above_same x y f g t z w e = rw e

wrong-by : (x y t z w : Bool) → x ≡ false → Err WrongLength ≡ answer_by x y true t z w
wrong-by true y t z w e = absurd (true≢false e)
wrong-by false true t z w e = refl
wrong-by false false t z w e = refl

-- 1 is answered where a count is above
number_above : (x y f t z w : Bool) → x ≡ true → number_of (answer_by x y f t z w) ≡ 1
number_above x y f t z w e = rw e

module _ (limit m lenSet len stated : ℕ) (T : ShiftTables) (a : Answer) (e : a ≡ judged_set limit m lenSet [] T) where
  abbrev above : Bool
  above = any_above limit (T.n_satom ∷ (T.n_patom ∷ (T.num_trans ∷ [])))

  abbrev set_wrong : Bool
  set_wrong = not (eqb lenSet (set_length T.n_patom T.n_satom m))

  abbrev by : Bool → Answer
  by f = answer_by above set_wrong f (any_wrong (table_lengths T)) (tables_out_of_range T) (not (ruled (shifts_of T)))

  more_is : by (not (eqb len stated)) ≡ judged_set limit m lenSet ((len, stated) ∷ []) T
  unfolding judged_tables judged_entries
  more_is = refl

  set_is : a ≡ by false
  unfolding judged_tables judged_entries
  set_is = e

  -- 1 where a count is above, whatever the slice's length
  pub above_too : number_of a ≡ 1 → a ≡ judged_set limit m lenSet ((len, stated) ∷ []) T
  above_too h =
      let x = above_only above set_wrong false (any_wrong (table_lengths T)) (tables_out_of_range T) (not (ruled (shifts_of T))) (ap number_of (sym set_is) ∙ h) in
      set_is ∙ above_same above set_wrong false (not (eqb len stated)) (any_wrong (table_lengths T)) (tables_out_of_range T) (not (ruled (shifts_of T))) x ∙ more_is

  not-one : (number_of a ≡ 1 → ⊥) → above ≡ false
  not-one d = go (split above)
    where
      go : (above ≡ true) ⊎ (above ≡ false) → above ≡ false
      go (inl x) = absurd (d (ap number_of set_is ∙ number_above above set_wrong false (any_wrong (table_lengths T)) (tables_out_of_range T) (not (ruled (shifts_of T))) x))
      go (inr x) = x

  -- otherwise the counts are within the limit
  pub few-atoms : (number_of a ≡ 1 → ⊥) → (T.n_satom ≤ limit) × (T.n_patom ≤ limit)
  few-atoms d = let (s, (p, _)) = not_above limit (T.n_satom ∷ (T.n_patom ∷ (T.num_trans ∷ []))) (not-one d) in (s, p)

  pub right_too : len ≡ stated → a ≡ judged_set limit m lenSet ((len, stated) ∷ []) T
  right_too h = set_is ∙ ap by (sym (ap not (eq-eqb len stated h))) ∙ more_is

  pub wrong-more : (number_of a ≡ 1 → ⊥) → (len ≡ stated → ⊥) → Err WrongLength ≡ judged_set limit m lenSet ((len, stated) ∷ []) T
  wrong-more d h =
      wrong-by above set_wrong (any_wrong (table_lengths T)) (tables_out_of_range T) (not (ruled (shifts_of T))) (not-one d)
      ∙ ap by (sym (ap not (ne_eqb len stated h))) ∙ more_is
