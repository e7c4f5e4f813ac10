-- The rules one by one and all together, and the tests of the rows alone as those of the tables.
-- Assumes nothing.
use Rattle.std.specs.Prelude.{Err}
use mathlib.Core.Path.{◌≡◌, refl, ap}
use mathlib.Core.List.{[], ◌∷◌}
use mathlib.Core.Bool.{Bool, true, false, not, ◌||◌}
use Prim.Native.Nat.{ℕ, ◌*◌, ◌≤◌}
use native.Mathlib.Nat.{mul-le-mul_right}
use native.Mathlib.Omega.{arith}
use lib.Dec.{eqb}
use borrow.Author.Tests.{eq-eqb, ne_eqb}
use Rattle.lists.specs.Tests.{and_says}
use Rattle.tables.specs.Answers.{Answer}
use Rattle.tables.specs.declared.Refusal.TheVariants.{CountAboveLimit, WrongLength}
use Rattle.tables.specs.Answers.{refuse_if}
use Rattle.tables.specs.Conditions.{any_above, any_wrong}
use Rattle.tables.specs.Lengths.{set_length}
use Rattle.tables.specs.Shifts.{Shifts, row, is_null, counts_agree, rows_injective, has_null, rows_closed, rows_free, p2s_back, s2pp_kept, nsym_lands, ruled}
use Rattle.tables.specs.Compact.{ShiftTables, shifts_of, table_lengths, judged_entries, judged_tables, judged_set}
use Rattle.shifts.specs.Rows.{rows_of}

pub product_small : (a b : ℕ) → a ≤ 1024 → b ≤ 1024 → a * b ≤ 1048576
product_small a b ha hb = omega (arith, mul-le-mul_right b ha)

module _ (S : Shifts) where
  pub rules_of : ruled S ≡ true
      → (counts_agree S ≡ true) × ((rows_injective S ≡ true) × ((has_null S ≡ true) × ((rows_closed S ≡ true) × ((rows_free S ≡ true) × ((p2s_back S ≡ true) × ((s2pp_kept S ≡ true) × (nsym_lands S ≡ true)))))))
  unfolding ruled
  rules_of e = simp and_says at e

module _ (T : ShiftTables) where
  pub same-null : has_null (rows_of T.n_satom T.num_trans T.perms) ≡ has_null (shifts_of T)
  unfolding has_null is_null row
  same-null = refl

-- ---- the guard of a compact set, return by return

-- by its conditions: a count above, the set's length, those of the tables
abbrev answer_by : Bool → Bool → Bool → Answer → Answer
answer_by x y t next = refuse_if x CountAboveLimit (refuse_if ((y || false) || t) WrongLength next)

by_count : (x y t : Bool) (next : Answer) → x ≡ true → Err CountAboveLimit ≡ answer_by x y t next
by_count x y t next e = rw e

by-set : (x y t : Bool) (next : Answer) → x ≡ false → y ≡ true → Err WrongLength ≡ answer_by x y t next
by-set x y t next e f = rw (e, f)

by-tables : (x y t : Bool) (next : Answer) → x ≡ false → y ≡ false → t ≡ true → Err WrongLength ≡ answer_by x y t next
by-tables x y t next e f g = rw (e, f, g)

by-none : (x y t : Bool) (next : Answer) → x ≡ false → y ≡ false → t ≡ false → next ≡ answer_by x y t next
by-none x y t next e f g = rw (e, f, g)

module _ (limit m lenSet : ℕ) (T : ShiftTables) where
  abbrev above : Bool
  above = any_above limit (T.n_satom ∷ (T.n_patom ∷ (T.num_trans ∷ [])))

  abbrev stated : ℕ
  stated = set_length T.n_patom T.n_satom m

  pub count_above : above ≡ true → Err CountAboveLimit ≡ judged_set limit m lenSet [] T
  unfolding judged_tables
  count_above e = by_count above (not (eqb lenSet stated)) (any_wrong (table_lengths T)) (judged_entries T) e

  module _ (e : above ≡ false) where
    pub wrong-set : (lenSet ≡ stated → ⊥) → Err WrongLength ≡ judged_set limit m lenSet [] T
    unfolding judged_tables
    wrong-set d = by-set above (not (eqb lenSet stated)) (any_wrong (table_lengths T)) (judged_entries T) e (ap not (ne_eqb lenSet stated d))

    module _ (s : lenSet ≡ stated) where
      pub wrong-tables : any_wrong (table_lengths T) ≡ true → Err WrongLength ≡ judged_set limit m lenSet [] T
      unfolding judged_tables
      wrong-tables w = by-tables above (not (eqb lenSet stated)) (any_wrong (table_lengths T)) (judged_entries T) e (ap not (eq-eqb lenSet stated s)) w

      pub entries-left : any_wrong (table_lengths T) ≡ false → judged_entries T ≡ judged_set limit m lenSet [] T
      unfolding judged_tables
      entries-left w = by-none above (not (eqb lenSet stated)) (any_wrong (table_lengths T)) (judged_entries T) e (ap not (eq-eqb lenSet stated s)) w
