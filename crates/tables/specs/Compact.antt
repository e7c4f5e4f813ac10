-- The one guard of every compact call, whatever its rank (document 01, refusals 1, 2, 3 and 6), and what a set that passes it is known to be.
-- Assumes nothing.
use Rattle.std.specs.Prelude.{Ok, ◌≡◌, Bool, false, not, ◌||◌, List, [], ◌∷◌, map, ℕ, ◌+◌, ◌*◌, ◌≤◌, ℤ, pos, length}
use Rattle.std.proofs.Math.Path.{sym}
use Rattle.std.proofs.Math.ListN.{get_or-map}
use Rattle.lists.specs.Digits.{times_power, in_row}
use Rattle.tables.specs.Answers.{Answer}
use Rattle.tables.specs.declared.shift_tables.ShiftTables.{ShiftTables as GivenTables}
use Rattle.tables.specs.declared.Refusal.TheVariants.{CountAboveLimit, WrongLength, IndexOutOfRange, BadShiftTables}
use Rattle.tables.specs.Answers.{refuse_if}
use Rattle.tables.specs.Conditions.{any_above, any_wrong, out_of_range, nat, index_at, IndexTable, or_false, not-wrong, read}
use Rattle.tables.specs.Lengths.{set_blocks, set_length}
use Rattle.tables.specs.Shifts.{Shifts, row, p2s_at, s2pp_at, nsym_at, ruled, Within, Laws}

-- the shift tables as a call is given them
pub record ShiftTables : Type 0 where
  pub n_satom : ℕ
  pub n_patom : ℕ
  pub num_trans : ℕ
  pub perms : List ℤ
  pub p2s : List ℤ
  pub s2pp : List ℤ
  pub nsym_list : List ℤ

-- the tables and counts in the order in which a call takes them
abbrev pub shift_tables : List ℤ → List ℤ → List ℤ → List ℤ → ℕ → ℕ → ℕ → ShiftTables
shift_tables p2s s2pp nsym_list perms n_satom n_patom num_trans = record {
  n_satom = n_satom;
  n_patom = n_patom;
  num_trans = num_trans;
  perms = perms;
  p2s = p2s;
  s2pp = s2pp;
  nsym_list = nsym_list;
}

-- the same from the program's own value
abbrev pub given : GivenTables → ShiftTables
given t = shift_tables t.p2s.now t.s2pp.now t.nsym_list.now t.perms.now t.n_satom t.n_patom t.num_trans

-- the same with their entries read as numbers
abbrev pub shifts_of : ShiftTables → Shifts
shifts_of T = record {
  n_satom = T.n_satom;
  n_patom = T.n_patom;
  num_trans = T.num_trans;
  perms = map nat T.perms;
  p2s = map nat T.p2s;
  s2pp = map nat T.s2pp;
  nsym_list = map nat T.nsym_list;
}

-- 2: the lengths that "Shift tables" states
abbrev pub table_lengths : ShiftTables → List (ℕ × ℕ)
table_lengths T =
    (length T.perms, T.num_trans * T.n_satom) ∷ ((length T.p2s, T.n_patom) ∷ ((length T.s2pp, T.n_satom) ∷ ((length T.nsym_list, T.n_satom) ∷ [])))

-- 3: what the tables point into
abbrev pub tables_out_of_range : ShiftTables → Bool
tables_out_of_range T =
    out_of_range T.n_satom T.perms
    || (out_of_range T.n_satom T.p2s || (out_of_range T.n_patom T.s2pp || out_of_range T.num_trans T.nsym_list))

-- 3 and 6
unfoldable pub judged_entries : ShiftTables → Answer
judged_entries T = refuse_if (tables_out_of_range T) IndexOutOfRange (refuse_if (not (ruled (shifts_of T))) BadShiftTables (Ok tt))

-- the tables, with the other lengths of a call
unfoldable pub judged_tables : ℕ → List (ℕ × ℕ) → ShiftTables → Answer
judged_tables limit lengths T =
    refuse_if (any_above limit (T.n_satom ∷ (T.n_patom ∷ (T.num_trans ∷ [])))) CountAboveLimit
    (refuse_if (any_wrong lengths || any_wrong (table_lengths T)) WrongLength (judged_entries T))

-- A compact call of rank m + 1: a set of n_patom first atoms among n_satom; `others` are the lengths of its other slices, each with the one stated for it.
abbrev pub judged_set : ℕ → ℕ → ℕ → List (ℕ × ℕ) → ShiftTables → Answer
judged_set limit m lenSet others T = judged_tables limit ((lenSet, set_length T.n_patom T.n_satom m) ∷ others) T

-- with a work slice that has an entry for each block of rank k + 1
unfoldable pub judged_compact : ℕ → ℕ → ℕ → ℕ → ℕ → ShiftTables → Answer
judged_compact limit m lenSet k lenWork T = judged_set limit m lenSet ((lenWork, set_blocks T.n_patom T.n_satom k) ∷ []) T

-- ---- what is known of tables and sets that pass

-- counts within the limit, four tables of the stated lengths whose entries are indices
pub record TablesFit (limit : ℕ) (T : ShiftTables) : Type 0 where
  pub satoms : T.n_satom ≤ limit
  pub patoms : T.n_patom ≤ limit
  pub shifts : T.num_trans ≤ limit
  pub perms-fit : IndexTable (T.num_trans * T.n_satom) T.n_satom T.perms
  pub p2s-fit : IndexTable T.n_patom T.n_satom T.p2s
  pub s2pp-fit : IndexTable T.n_satom T.n_patom T.s2pp
  pub nsym_fit : IndexTable T.n_satom T.num_trans T.nsym_list

-- a compact set of rank m + 1 with its work slice
pub record Compact (limit m lenSet k lenWork : ℕ) (T : ShiftTables) : Type 0 where
  pub set-length : lenSet ≡ set_length T.n_patom T.n_satom m
  pub work-length : lenWork ≡ times_power T.n_satom k T.n_patom
  pub fit : TablesFit limit T
  pub rules : Laws (shifts_of T)

-- what is read from a table is the accessor's number
module _ (T : ShiftTables) where
  pub perms_is : (t a : ℕ) → index_at T.perms (t * T.n_satom + a) ≡ row (shifts_of T) t a
  unfolding index_at row
  perms_is t a = sym (get_or-map nat T.perms (t * T.n_satom + a) (pos 0))

  pub p2s_is : (p : ℕ) → index_at T.p2s p ≡ p2s_at (shifts_of T) p
  unfolding index_at p2s_at
  p2s_is p = sym (get_or-map nat T.p2s p (pos 0))

  pub s2pp_is : (a : ℕ) → index_at T.s2pp a ≡ s2pp_at (shifts_of T) a
  unfolding index_at s2pp_at
  s2pp_is a = sym (get_or-map nat T.s2pp a (pos 0))

  pub nsym_is : (a : ℕ) → index_at T.nsym_list a ≡ nsym_at (shifts_of T) a
  unfolding index_at nsym_at
  nsym_is a = sym (get_or-map nat T.nsym_list a (pos 0))

-- every entry of tables that fit is an index
pub fit-within : {limit : ℕ} (T : ShiftTables) → TablesFit limit T → Within (shifts_of T)
fit-within T F = record {
  row_below = λ t a ht ha. rw (← perms_is T t a) (read F.perms-fit (t * T.n_satom + a) (in_row T.num_trans T.n_satom t a ht ha)).1;
  p2s-below = λ p h. rw (← p2s_is T p) (read F.p2s-fit p h).1;
  s2pp-below = λ a h. rw (← s2pp_is T a) (read F.s2pp-fit a h).1;
  nsym_below = λ a h. rw (← nsym_is T a) (read F.nsym_fit a h).1;
}

-- tables that pass refusals 1, 2 and 3 fit
pub fit_of : (limit : ℕ) (T : ShiftTables) → T.n_satom ≤ limit → T.n_patom ≤ limit → T.num_trans ≤ limit
    → any_wrong (table_lengths T) ≡ false → tables_out_of_range T ≡ false → TablesFit limit T
fit_of limit T nS nP nT hl hr =
    let (l1, (l2, (l3, (l4, _)))) = not-wrong (table_lengths T) hl in
    let (r1, r2') = or_false (out_of_range T.n_satom T.perms) _ hr in
    let (r2, r3') = or_false (out_of_range T.n_satom T.p2s) _ r2' in
    let (r3, r4) = or_false (out_of_range T.n_patom T.s2pp) _ r3' in
    record {
      satoms = nS;
      patoms = nP;
      shifts = nT;
      perms-fit = record { has = l1; within = r1 };
      p2s-fit = record { has = l2; within = r2 };
      s2pp-fit = record { has = l3; within = r3 };
      nsym_fit = record { has = l4; within = r4 };
    }
