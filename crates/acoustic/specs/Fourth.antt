-- The calls of fourth order: the guard of a full set with two work slices, and what the public symmetrizers of crate `fc4` leave once the guard has
-- passed. Assumes nothing.
use Rattle.std.specs.Prelude.{Err, Ok, ◌≡◌, Bool, true, false, not, ◌||◌, List, [], ◌∷◌, ℕ, ◌*◌, ◌-◌, ◌≤◌, eqb, ltb, Float, length, replicate}
use Rattle.std.proofs.Math.Path.{refl}
use Rattle.std.proofs.Common.{sym, ap, ap₂, ◌∙◌, true≢false, mul-le-mul, eq-eqb, ne_eqb}
use Rattle.std.proofs.lemmas.Bool.{false≢true}
use Rattle.std.specs.Float.{nan}
use Rattle.lists.specs.Floats.{plus_zero}
use Rattle.lists.specs.Digits.{times_power}
use Rattle.tables.specs.Answers.{Answer}
use Rattle.tables.specs.declared.Refusal.TheVariants.{CountAboveLimit, WrongLength}
use Rattle.tables.specs.Answers.{is_refusal, refuse_if, is_done, after-done, passed}
use Rattle.tables.specs.Conditions.{any_above}
use Rattle.tables.specs.Lengths.{set_blocks, set_length, block_rooms}
use Rattle.tables.specs.Limits.{limit4, limit_level}
use Rattle.tables.specs.Full.{judged_full, done_full, alone-done, full-passes, right-with}
use Rattle.tables.specs.Compact.{ShiftTables, shifts_of, judged_compact}
use Rattle.tables.proofs.CompactLaws.{done-tables}
use Rattle.places.specs.Places.{size, full_shifts, perms4}
use Rattle.orbits.specs.Symmetric.{symmetrized}
use Rattle.audits.specs.Guard.{full_tables, ready-whole}
use Rattle.fc4.specs.Mean24.{mean24}
use Rattle.fc4.specs.Symmetrize.{set_permutation_symmetry_compact_fc4, set_permutation_symmetry_fc4}
use Rattle.acoustic.specs.Acoustic.{perm_trans_symmetrized, drift_length, judged_work, judged_levels, judged_full_work, judged_full_work_levels, perm_trans_symmetrize_full_work}
use Rattle.acoustic.specs.Laws.{Room, rows3}
use Rattle.acoustic.specs.Calls.{Work, work-passed, right_too, drift_rooms, refused-both, done-both}

pub drift81 : (p n : ℕ) → set_blocks p n 2 * 81 ≡ drift_length p n 3
unfolding drift_length
drift81 p n = refl

pub few81 : (p n : ℕ) → p ≤ 1024 → n ≤ 1024 → set_blocks p n 2 ≤ 1073741824
few81 p n hp hn = rw (block_rooms p n 2 ∙ rows3 n p) (mul-le-mul (mul-le-mul hp hn) hn)

-- ---- a compact call

-- the guard of the symmetrizer passes too
pub record Symmetrizable (limit m lenSet lenDone lenDrift : ℕ) (T : ShiftTables) : Type 0 where
  pub work : Work limit m lenSet lenDone lenDrift T
  pub passes : judged_compact limit m lenSet m lenDone T ≡ Ok tt

pub compact_passes : (limit m lenSet lenDone lenDrift : ℕ) (T : ShiftTables) (level : ℕ) → {a : Answer} → a ≡ judged_levels limit m lenSet lenDone lenDrift T level → is_refusal a ≡ false
    → Symmetrizable limit m lenSet lenDone lenDrift T
compact_passes limit m lenSet lenDone lenDrift T level {a} e h =
    let d : judged_levels limit m lenSet lenDone lenDrift T level ≡ Ok tt = sym e ∙ is_done a h in
    let (_, e1) = passed (ltb limit_level level) CountAboveLimit _ d in
    let (l, _, _) = done-tables limit _ T e1 in
    record {
      work = work-passed limit m lenSet lenDone lenDrift T level d;
      passes = right_too limit m lenSet lenDone lenDrift T (judged_compact limit m lenSet m lenDone T) refl l.1.1.0 ∙ e1;
    }

pub compact_call : (set : List Float) (T : ShiftTables) (work : List ℕ) (lenSet : ℕ) → length set ≡ lenSet → judged_compact limit4 3 lenSet 3 (length work) T ≡ Ok tt → {r : Answer} {new : List Float} {bytes : List ℕ}
    → ◌≡◌ {A = Answer × List Float × List ℕ} (r, new, bytes) (set_permutation_symmetry_compact_fc4 set T work) → new ≡ symmetrized nan mean24 (shifts_of T) 3 perms4 set
unfolding set_permutation_symmetry_compact_fc4
compact_call set T work lenSet l h e =
    ap (λ x. x.1) e
    ∙ after-done (judged_compact limit4 3 (length set) 3 (length work) T) (symmetrized nan mean24 (shifts_of T) 3 perms4 set) set
    (ap (λ n. is_refusal (judged_compact limit4 3 n 3 (length work) T)) l ∙ ap is_refusal h)

-- ---- a full call

abbrev answer_by : Bool → Bool → Bool → Bool → Answer
answer_by x y d f = refuse_if x CountAboveLimit (refuse_if (y || (d || (f || false))) WrongLength (Ok tt))

refused-by : (x y d f : Bool) → is_refusal (answer_by x y false false) ≡ true → answer_by x y false false ≡ answer_by x y d f
refused-by true y d f h = refl
refused-by false true d f h = refl
refused-by false false d f h = absurd (false≢true h)

wrong-by : (x y f : Bool) → is_refusal (answer_by x y false false) ≡ false → Err WrongLength ≡ answer_by x y true f
wrong-by true y f h = absurd (true≢false h)
wrong-by false true f h = absurd (true≢false h)
wrong-by false false f h = refl

last-by : (x y f : Bool) → is_refusal (answer_by x y false false) ≡ false → refuse_if f WrongLength (Ok tt) ≡ answer_by x y false f
last-by true y f h = absurd (true≢false h)
last-by false true f h = absurd (true≢false h)
last-by false false true h = refl
last-by false false false h = refl

module _ (limit m lenSet lenDone lenDrift n : ℕ) (a : Answer) (e : a ≡ judged_full limit m lenSet [] n) where
  abbrev above : Bool
  above = any_above limit (n ∷ [])

  abbrev set_wrong : Bool
  set_wrong = not (eqb lenSet (set_length n n m))

  alone_is : a ≡ answer_by above set_wrong false false
  unfolding judged_full
  alone_is = e

  both_is : answer_by above set_wrong (not (eqb lenDone (set_blocks n n m))) (not (eqb lenDrift (drift_length n n m))) ≡ judged_full_work limit m lenSet lenDone lenDrift n
  unfolding judged_full
  both_is = refl

  pub full-refused_too : is_refusal a ≡ true → a ≡ judged_full_work limit m lenSet lenDone lenDrift n
  full-refused_too h = alone_is ∙ refused-by above set_wrong (not (eqb lenDone (set_blocks n n m))) (not (eqb lenDrift (drift_length n n m))) (ap is_refusal (sym alone_is) ∙ h) ∙ both_is

  pub done-wrong : is_refusal a ≡ false → (lenDone ≡ set_blocks n n m → ⊥) → Err WrongLength ≡ judged_full_work limit m lenSet lenDone lenDrift n
  done-wrong h d =
      wrong-by above set_wrong (not (eqb lenDrift (drift_length n n m))) (ap is_refusal (sym alone_is) ∙ h)
      ∙ ap (λ b. answer_by above set_wrong (not b) (not (eqb lenDrift (drift_length n n m)))) (sym (ne_eqb lenDone (set_blocks n n m) d)) ∙ both_is

  module _ (h : is_refusal a ≡ false) (q : lenDone ≡ set_blocks n n m) where
    last_is : refuse_if (not (eqb lenDrift (drift_length n n m))) WrongLength (Ok tt) ≡ judged_full_work limit m lenSet lenDone lenDrift n
    last_is =
        last-by above set_wrong (not (eqb lenDrift (drift_length n n m))) (ap is_refusal (sym alone_is) ∙ h)
        ∙ ap (λ b. answer_by above set_wrong (not b) (not (eqb lenDrift (drift_length n n m)))) (sym (eq-eqb lenDone (set_blocks n n m) q)) ∙ both_is

    pub drift_wrong : (lenDrift ≡ drift_length n n m → ⊥) → Err WrongLength ≡ judged_full_work limit m lenSet lenDone lenDrift n
    drift_wrong d = ap (λ b. refuse_if (not b) WrongLength (Ok tt)) (sym (ne_eqb lenDrift (drift_length n n m) d)) ∙ last_is

    pub both_right : lenDrift ≡ drift_length n n m → a ≡ judged_full_work limit m lenSet lenDone lenDrift n
    both_right d = is_done a h ∙ ap (λ b. refuse_if (not b) WrongLength (Ok tt)) (sym (eq-eqb lenDrift (drift_length n n m) d)) ∙ last_is

pub record FullWork (limit m lenSet lenDone lenDrift n : ℕ) : Type 0 where
  pub room : Room limit m lenSet lenDrift (full_tables n)
  pub atoms : n ≤ limit
  pub passes : judged_full limit m lenSet ((lenDone, set_blocks n n m) ∷ []) n ≡ Ok tt

pub full-work : (limit m lenSet lenDone lenDrift n level : ℕ) → 1 ≤ limit → {a : Answer} → a ≡ judged_full_work_levels limit m lenSet lenDone lenDrift n level → is_refusal a ≡ false
    → FullWork limit m lenSet lenDone lenDrift n
full-work limit m lenSet lenDone lenDrift n level h {a} e r =
    let (_, e1) = passed (ltb limit_level level) CountAboveLimit _ (sym e ∙ is_done a r) in
    let (few, long, l) = done_full limit m lenSet _ n e1 in
    record {
      room = record { ready = ready-whole limit m lenSet n h (alone-done limit m lenSet _ n e1); room = l.1.0 ∙ drift_rooms n n m };
      atoms = few;
      passes = sym (right-with limit m lenSet lenDone (set_blocks n n m) n (Ok tt) (full-passes limit m lenSet n few long) refl l.0);
    }

pub full_call : (set : List Float) (work : List ℕ) (n lenSet : ℕ) → length set ≡ lenSet → judged_full limit4 3 lenSet ((length work, set_blocks n n 3) ∷ []) n ≡ Ok tt → {r : Answer} {new : List Float} {bytes : List ℕ}
    → ◌≡◌ {A = Answer × List Float × List ℕ} (r, new, bytes) (set_permutation_symmetry_fc4 set work n) → new ≡ symmetrized nan mean24 (full_shifts n) 3 perms4 set
unfolding set_permutation_symmetry_fc4
full_call set work n lenSet l h e =
    ap (λ x. x.1) e
    ∙ after-done (judged_full limit4 3 (length set) ((length work, set_blocks n n 3) ∷ []) n) (symmetrized nan mean24 (full_shifts n) 3 perms4 set) set
    (ap (λ k. is_refusal (judged_full limit4 3 k ((length work, set_blocks n n 3) ∷ []) n)) l ∙ ap is_refusal h)

module _ (limit m : ℕ) (mean : List Float → Float) (os : List (List ℕ)) (set : List Float) {a : Answer} (n : ℕ) (done : List ℕ) (drift : List Float) (level : ℕ)
    (e : a ≡ judged_full_work_levels limit m (length set) (length done) (length drift) n level) where
  pub full-work-refused : is_refusal a ≡ true → (a, set, done, drift) ≡ perm_trans_symmetrize_full_work limit m mean os set n done drift level
  unfolding perm_trans_symmetrize_full_work
  full-work-refused h =
      refused-both (perm_trans_symmetrized mean (full_shifts n) m os level set) set (replicate (length done) 0) done (replicate (length drift) plus_zero) drift e h

  pub full-work-done : is_refusal a ≡ false → {x z : List Float} {y : List ℕ} → x ≡ perm_trans_symmetrized mean (full_shifts n) m os level set
      → y ≡ replicate (length done) 0 → z ≡ replicate (length drift) plus_zero → (Ok tt, x, y, z) ≡ perm_trans_symmetrize_full_work limit m mean os set n done drift level
  unfolding perm_trans_symmetrize_full_work
  full-work-done h ex ey ez =
      done-both (perm_trans_symmetrized mean (full_shifts n) m os level set) set (replicate (length done) 0) done (replicate (length drift) plus_zero) drift e h ex ey ez
