-- What the calls answer and leave, refused or done, for every rank at once. Assumes nothing.
use Rattle.std.specs.Prelude.{Err, Ok, ◌≡◌, Bool, true, false, not, ◌||◌, List, [], ◌∷◌, eqb, ltb, Float, length, replicate}
use Rattle.std.proofs.Math.Path.{refl, sym, ap}
use Rattle.std.proofs.Common.{ap₂, ◌∙◌, true≢false, ⊎_elim, one-mul, mul-le-mul, arith, eq-eqb, ne_eqb}
use Prim.Native.Nat.{ℕ, zero, suc, ◌*◌, ◌-◌, ◌^◌, ◌≤◌, ◌<◌}
use Rattle.std.specs.Float.Ieee.{nan}
use Rattle.lists.specs.Tests.{split}
use Rattle.lists.specs.Tab.{times}
use Rattle.lists.specs.Floats.{plus_zero}
use Rattle.lists.specs.Digits.{times_power, room_power}
use Rattle.tables.specs.Answers.{Answer}
use Rattle.tables.specs.declared.Refusal.TheVariants.{CountAboveLimit, WrongLength, IndexOutOfRange, BadShiftTables}
use Rattle.tables.specs.Answers.{number_of, is_refusal, refuse_if, after, is_done, after_refusal, after-done, passed}
use Rattle.tables.specs.Conditions.{any_above, any_wrong, not_above}
use Rattle.tables.specs.Lengths.{set_blocks, set_length, block_rooms}
use Rattle.tables.specs.Limits.{limit3, limit_level}
use Rattle.tables.specs.Shifts.{Shifts, ruled}
use Rattle.tables.specs.Full.{judged_full, done_full, alone-done}
use Rattle.tables.specs.Compact.{ShiftTables, shifts_of, table_lengths, tables_out_of_range, judged_entries, judged_tables, Compact, judged_compact}
use Rattle.tables.proofs.CompactLaws.{done-tables}
use Rattle.places.specs.Places.{size, in_block, full_shifts}
use Rattle.orbits.specs.Symmetric.{symmetrized}
use Rattle.audits.specs.Guard.{Ready, full_tables, whole-shifts, ready-whole}
use Rattle.acoustic.specs.Acoustic.{without_drifts, leveled, perm_trans_symmetrized, drift_length, judged_work, judged_levels, judged_full_levels, perm_trans_symmetrize_compact, perm_trans_symmetrize_full}
use Rattle.fc3.specs.FullLoops.{FullReady}
use Rattle.acoustic.specs.Laws.{Room, rows2}

-- ---- the guard of a compact call, and then the length of one more slice

-- the answer by its conditions: a count above, the lengths of the set, the work bytes, the work numbers and the tables, an entry, a rule
abbrev answer_by : Bool → Bool → Bool → Bool → Bool → Bool → Bool → Answer
answer_by x y d f t z w = refuse_if x CountAboveLimit (refuse_if ((y || (d || (f || false))) || t) WrongLength (refuse_if z IndexOutOfRange (refuse_if w BadShiftTables (Ok tt))))

above_only : (x y d t z w : Bool) → number_of (answer_by x y d false t z w) ≡ 1 → x ≡ true
above_only true y d t z w e = refl
above_only false true d t z w e = absurd (omega arith)
above_only false false true t z w e = absurd (omega arith)
above_only false false false true z w e = absurd (omega arith)
above_only false false false false true w e = absurd (omega arith)
above_only false false false false false true e = absurd (omega arith)
above_only false false false false false false e = absurd (omega arith)

above_same : (x y d f g t z w : Bool) → x ≡ true → answer_by x y d f t z w ≡ answer_by x y d g t z w
above_same x y d f g t z w e = rw e

wrong-by : (x y d t z w : Bool) → x ≡ false → Err WrongLength ≡ answer_by x y d true t z w
wrong-by true y d t z w e = absurd (true≢false e)
wrong-by false true d t z w e = refl
wrong-by false false true t z w e = refl
wrong-by false false false t z w e = refl

number_above : (x y d f t z w : Bool) → x ≡ true → number_of (answer_by x y d f t z w) ≡ 1
number_above x y d f t z w e = rw e

module _ (limit m lenSet lenDone lenDrift : ℕ) (T : ShiftTables) (a : Answer) (e : a ≡ judged_compact limit m lenSet m lenDone T) where
  abbrev above : Bool
  above = any_above limit (T.n_satom ∷ (T.n_patom ∷ (T.num_trans ∷ [])))

  abbrev stated : ℕ
  stated = drift_length T.n_patom T.n_satom m

  abbrev set_wrong : Bool
  set_wrong = not (eqb lenSet (set_length T.n_patom T.n_satom m))

  abbrev done_wrong : Bool
  done_wrong = not (eqb lenDone (set_blocks T.n_patom T.n_satom m))

  abbrev tables_wrong : Bool
  tables_wrong = any_wrong (table_lengths T)

  abbrev unruled : Bool
  unruled = not (ruled (shifts_of T))

  abbrev by : Bool → Answer
  by f = answer_by above set_wrong done_wrong f tables_wrong (tables_out_of_range T) unruled

  more_is : by (not (eqb lenDrift stated)) ≡ judged_work limit m lenSet lenDone lenDrift T
  unfolding judged_tables judged_entries
  more_is = refl

  set_is : a ≡ by false
  unfolding judged_compact judged_tables judged_entries
  set_is = e

  pub above_too : number_of a ≡ 1 → a ≡ judged_work limit m lenSet lenDone lenDrift T
  above_too h =
      let x = above_only above set_wrong done_wrong tables_wrong (tables_out_of_range T) unruled (ap number_of (sym set_is) ∙ h) in
      set_is ∙ above_same above set_wrong done_wrong false (not (eqb lenDrift stated)) tables_wrong (tables_out_of_range T) unruled x ∙ more_is

  not-one : (number_of a ≡ 1 → ⊥) → above ≡ false
  not-one d =
      ⊎_elim (λ (x : above ≡ true). absurd (d (ap number_of set_is ∙ number_above above set_wrong done_wrong false tables_wrong (tables_out_of_range T) unruled x))) (λ (x : above ≡ false). x) (split above)

  pub few-atoms : (number_of a ≡ 1 → ⊥) → (T.n_satom ≤ limit) × (T.n_patom ≤ limit)
  few-atoms d = let (s, (p, _)) = not_above limit (T.n_satom ∷ (T.n_patom ∷ (T.num_trans ∷ []))) (not-one d) in (s, p)

  pub right_too : lenDrift ≡ stated → a ≡ judged_work limit m lenSet lenDone lenDrift T
  right_too h = set_is ∙ ap by (sym (ap not (eq-eqb lenDrift stated h))) ∙ more_is

  pub wrong-more : (number_of a ≡ 1 → ⊥) → (lenDrift ≡ stated → ⊥) → Err WrongLength ≡ judged_work limit m lenSet lenDone lenDrift T
  wrong-more d h = wrong-by above set_wrong done_wrong tables_wrong (tables_out_of_range T) unruled (not-one d) ∙ ap by (sym (ap not (ne_eqb lenDrift stated h))) ∙ more_is

-- ---- what passed

-- so many numbers of work
pub drift_rooms : (p n m : ℕ) → drift_length p n m ≡ times_power n (m - 1) p * in_block m
unfolding drift_length
drift_rooms p n m = ap₂ (λ x y. x * y) (block_rooms p n (m - 1)) (powers m)
  where
    powers : (m : ℕ) → 3 ^ suc m ≡ in_block m
    powers m = unfold in_block in (sym (one-mul (3 ^ suc m)) ∙ sym (room_power 3 (suc m) 1))

-- a set, work bytes for its blocks and room for the drifts
pub record Work (limit m lenSet lenDone lenDrift : ℕ) (T : ShiftTables) : Type 0 where
  pub room : Room limit m lenSet lenDrift T
  pub bytes : lenDone ≡ times_power T.n_satom m T.n_patom

pub work-passed : (limit m lenSet lenDone lenDrift : ℕ) (T : ShiftTables) (level : ℕ) → judged_levels limit m lenSet lenDone lenDrift T level ≡ Ok tt
    → Work limit m lenSet lenDone lenDrift T
unfolding size
work-passed limit m lenSet lenDone lenDrift T level e =
    let (_, e1) = passed (ltb limit_level level) CountAboveLimit _ e in
    let (l, F, L) = done-tables limit _ T e1 in
    record {
      room = record { ready = record { fit = F; rules = L; set-length = l.0 }; room = l.1.1.0 ∙ drift_rooms T.n_patom T.n_satom m };
      bytes = l.1.0 ∙ block_rooms T.n_patom T.n_satom m;
    }

pub full-passed : (limit m lenSet lenDrift n level : ℕ) → 1 ≤ limit → judged_full_levels limit m lenSet lenDrift n level ≡ Ok tt
    → Room limit m lenSet lenDrift (full_tables n) × (n ≤ limit)
full-passed limit m lenSet lenDrift n level h e =
    let (_, e1) = passed (ltb limit_level level) CountAboveLimit _ e in
    let (few, _, l) = done_full limit m lenSet _ n e1 in
    (record { ready = ready-whole limit m lenSet n h (alone-done limit m lenSet _ n e1); room = l.0 ∙ drift_rooms n n m }, few)

-- third order: 27 numbers in a block, and what the symmetrizers of crate `fc3` ask
pub drift27 : (p n : ℕ) → set_blocks p n 1 * 27 ≡ drift_length p n 2
unfolding drift_length
drift27 p n = refl

pub few27 : (p n : ℕ) → p ≤ 1024 → n ≤ 1024 → set_blocks p n 1 ≤ 1048576
few27 p n hp hn = rw (block_rooms p n 1 ∙ rows2 n p) (mul-le-mul hp hn)

pub tiles_ready : (n lenSet lenDrift : ℕ) → Room limit3 2 lenSet lenDrift (full_tables n) → n ≤ 256 → FullReady lenSet n
tiles_ready n lenSet lenDrift R h = record { atoms = h; set-length = R.ready.set-length ∙ ap (λ S. size S 2) (whole-shifts n) }

pub compact_ready : (lenSet lenDone lenDrift : ℕ) (T : ShiftTables) → Work limit3 2 lenSet lenDone lenDrift T → Compact limit3 2 lenSet 2 lenDone T
unfolding size
compact_ready lenSet lenDone lenDrift T W = record {
  set-length = W.room.ready.set-length;
  work-length = W.bytes;
  fit = W.room.ready.fit;
  rules = W.room.ready.rules;
}

-- ---- all levels

module _ (mean : List Float → Float) (S : Shifts) (m : ℕ) (os : List (List ℕ)) (set : List Float) where
  pub no_level : (level : ℕ) → level ≡ 0 → {new : List Float} → new ≡ symmetrized nan mean S m os set → new ≡ perm_trans_symmetrized mean S m os level set
  unfolding perm_trans_symmetrized
  no_level zero h e = e
  no_level (suc level) h e = absurd (omega arith)

  pub some_levels : (level : ℕ) → (level ≡ 0 → ⊥) → {new : List Float} → new ≡ times level (λ _. leveled mean S m os) set → new ≡ perm_trans_symmetrized mean S m os level set
  unfolding perm_trans_symmetrized
  some_levels zero h e = absurd (h refl)
  some_levels (suc level) h e = e

  pub one_level_lem : {off new : List Float} → off ≡ without_drifts S m set → new ≡ symmetrized nan mean S m os off → new ≡ leveled mean S m os set
  unfolding leveled
  one_level_lem eo en = en ∙ ap (symmetrized nan mean S m os) eo

-- ---- the calls

module _ {A B C : Type 0} {a b : Answer} (new old : A) (clear work : B) (clear' work' : C) where
  pub refused-both : a ≡ b → is_refusal a ≡ true → ◌≡◌ {A = Answer × A × B × C} (a, old, work, work') (b, after b new old, after b clear work, after b clear' work')
  refused-both e h =
      let g : is_refusal b ≡ true = sym (ap is_refusal e) ∙ h in
      rw (e, after_refusal b new old g, after_refusal b clear work g, after_refusal b clear' work' g)

  pub done-both : {x : A} {y : B} {z : C} → a ≡ b → is_refusal a ≡ false → x ≡ new → y ≡ clear → z ≡ clear'
      → ◌≡◌ {A = Answer × A × B × C} (Ok tt, x, y, z) (b, after b new old, after b clear work, after b clear' work')
  done-both e h ex ey ez =
      let g : is_refusal b ≡ false = sym (ap is_refusal e) ∙ h in
      rw (after-done b new old g, after-done b clear work g, after-done b clear' work' g, ex, ey, ez, is_done b g)

module _ {A B : Type 0} {a b : Answer} (new old : A) (clear work : B) where
  refused-one : a ≡ b → is_refusal a ≡ true → ◌≡◌ {A = Answer × A × B} (a, old, work) (b, after b new old, after b clear work)
  refused-one e h =
      let g : is_refusal b ≡ true = sym (ap is_refusal e) ∙ h in
      rw (e, after_refusal b new old g, after_refusal b clear work g)

  done-one : {x : A} {y : B} → a ≡ b → is_refusal a ≡ false → x ≡ new → y ≡ clear → ◌≡◌ {A = Answer × A × B} (Ok tt, x, y) (b, after b new old, after b clear work)
  done-one e h ex ey =
      let g : is_refusal b ≡ false = sym (ap is_refusal e) ∙ h in
      rw (after-done b new old g, after-done b clear work g, ex, ey, is_done b g)

module _ (limit m : ℕ) (mean : List Float → Float) (os : List (List ℕ)) (set : List Float) {a : Answer} where
  module _ (T : ShiftTables) (done : List ℕ) (drift : List Float) (level : ℕ) (e : a ≡ judged_levels limit m (length set) (length done) (length drift) T level) where
    pub compact_refused : is_refusal a ≡ true → (a, set, done, drift) ≡ perm_trans_symmetrize_compact limit m mean os set T done drift level
    unfolding perm_trans_symmetrize_compact
    compact_refused h =
        refused-both (perm_trans_symmetrized mean (shifts_of T) m os level set) set (replicate (length done) 0) done (replicate (length drift) plus_zero) drift e h

    pub compact_work : is_refusal a ≡ false → Work limit m (length set) (length done) (length drift) T
    compact_work h = work-passed limit m (length set) (length done) (length drift) T level (sym e ∙ is_done a h)

    pub compact_done : is_refusal a ≡ false → {x z : List Float} {y : List ℕ} → x ≡ perm_trans_symmetrized mean (shifts_of T) m os level set
        → y ≡ replicate (length done) 0 → z ≡ replicate (length drift) plus_zero → (Ok tt, x, y, z) ≡ perm_trans_symmetrize_compact limit m mean os set T done drift level
    unfolding perm_trans_symmetrize_compact
    compact_done h ex ey ez =
        done-both (perm_trans_symmetrized mean (shifts_of T) m os level set) set (replicate (length done) 0) done (replicate (length drift) plus_zero) drift e h ex ey ez

  module _ (n : ℕ) (drift : List Float) (level : ℕ) (e : a ≡ judged_full_levels limit m (length set) (length drift) n level) where
    pub full-refused : is_refusal a ≡ true → (a, set, drift) ≡ perm_trans_symmetrize_full limit m mean os set n drift level
    unfolding perm_trans_symmetrize_full
    full-refused h = refused-one (perm_trans_symmetrized mean (full_shifts n) m os level set) set (replicate (length drift) plus_zero) drift e h

    pub full-room : 1 ≤ limit → is_refusal a ≡ false → Room limit m (length set) (length drift) (full_tables n) × (n ≤ limit)
    full-room l h = full-passed limit m (length set) (length drift) n level l (sym e ∙ is_done a h)

    pub full-done : is_refusal a ≡ false → {x z : List Float} → x ≡ perm_trans_symmetrized mean (full_shifts n) m os level set → z ≡ replicate (length drift) plus_zero
        → (Ok tt, x, z) ≡ perm_trans_symmetrize_full limit m mean os set n drift level
    unfolding perm_trans_symmetrize_full
    full-done h ex ez = done-one (perm_trans_symmetrized mean (full_shifts n) m os level set) set (replicate (length drift) plus_zero) drift e h ex ez
