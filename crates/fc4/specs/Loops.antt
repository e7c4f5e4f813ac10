-- The symmetrizers' loops of fourth order, over any shift tables: one visit, all of them, and the calls. Assumes nothing.
use Rattle.std.specs.Prelude.{Ok, ◌≡◌, true, false, ℕ, ◌≤◌, ◌<◌, List, [], ◌∷◌, length, get_or, replicate, Float}
use Rattle.std.proofs.Math.Path.{refl, sym, ap}
use Rattle.std.proofs.Common.{ap₂, ◌∙◌, eq-eqb, ne_eqb}
use Rattle.std.proofs.Math.ListN.{set}
use Rattle.std.proofs.lemmas.List.{length-replicate, get_or-replicate}
use Rattle.std.specs.Float.{nan}
use Rattle.lists.specs.Tab.{times}
use Rattle.lists.specs.Digits.{times_power}
use Rattle.tables.specs.Shifts.{Shifts, Laws}
use Rattle.tables.specs.Limits.{limit4}
use Rattle.tables.specs.Answers.{Answer}
use Rattle.tables.specs.Answers.{is_refusal, after, is_done, refused_call, done_call}
use Rattle.tables.specs.Full.{judged_full, done_full}
use Rattle.tables.specs.Compact.{ShiftTables, shifts_of, Compact, judged_compact}
use Rattle.tables.proofs.CompactLaws.{done_compact}
use Rattle.tables.specs.Lengths.{set_blocks, block_rooms}
use Rattle.places.specs.Places.{size}
use Rattle.places.specs.Permutations.{perms4, twenty_four_group}
use Rattle.places.specs.WholeLaws.{full_shifts, whole-laws, size_whole}
use Rattle.orbits.specs.Groups.{group_blocks, mean_block, spread_block}
use Rattle.orbits.specs.Spread.{set_all}
use Rattle.orbits.specs.Symmetric.{symmetrized}
use Rattle.orbits.specs.GroupLoop.{State, worked, marked_visit}
use Rattle.orbits.proofs.GroupLoopLaws.{marked-leaves}
use Rattle.fc4.specs.Mean24.{mean24}
use Rattle.fc4.specs.Mean.{Blocks24, times-front}
use Rattle.fc4.specs.Blocks.{blocks_in, marks_in}
use Rattle.fc4.specs.Symmetrize.{set_permutation_symmetry_compact_fc4, set_permutation_symmetry_fc4}

-- a compact set of fourth order that passed the guard, and a work slice of k atoms' places
abbrev pub Ready : ℕ → ℕ → ℕ → ShiftTables → Type 0
Ready lenSet k lenWork T = Compact limit4 3 lenSet k lenWork T

-- 24 entries of a done table of n
pub record Marks24 (n : ℕ) (bs : List ℕ) : Type 0 where
  pub count : length bs ≡ 24
  pub inside : (s : ℕ) → s < 24 → get_or bs s 0 < n

-- the marks of a group, set one after the other
set_all-times : {A : Type 0} (rs : List ℕ) (v : A) (l : List A) → set_all rs v l ≡ times (length rs) (λ s l. set l (get_or rs s 0) v) l
unfolding set_all
set_all-times [] v l = unfold times in refl
set_all-times (r ∷ rs) v l = set_all-times rs v (set l r v) ∙ sym (times-front (length rs) (λ s l. set l (get_or (r ∷ rs) s 0) v) l)

pub stored-marks : (bs done : List ℕ) → length bs ≡ 24 → times 24 (λ s l. set l (get_or bs s 0) 1) done ≡ set_all bs 1 done
stored-marks bs done e = ap (λ n. times n (λ s l. set l (get_or bs s 0) 1) done) (sym e) ∙ sym (set_all-times bs 1 done)

-- of a set and its done table: the group with the blocks bs marked, worked out and written
unfoldable pub taken_blocks : List ℕ → State → State
taken_blocks bs s = (spread_block 3 perms4 bs (mean_block mean24 3 perms4 bs s.0) s.0, set_all bs 1 s.1)

-- one visit
abbrev pub visit_at : Shifts → ℕ → State → State
visit_at S = marked_visit mean24 3 perms4 S

-- a block that is not marked, and one that is
module _ (S : Shifts) (b : ℕ) (s : State) where
  pub visit-free : {bs : List ℕ} {r : State} → get_or s.1 b 0 ≡ 0 → bs ≡ group_blocks S 3 perms4 b → r ≡ taken_blocks bs s → r ≡ visit_at S b s
  unfolding taken_blocks marked_visit worked
  visit-free {bs} {r} z e f = f ∙ ap (λ bs. taken_blocks bs s) e ∙ sym (rw (eq-eqb (get_or s.1 b 0) 0 z) refl)

  pub visit-met : (get_or s.1 b 0 ≡ 0 → ⊥) → s ≡ visit_at S b s
  unfolding marked_visit
  visit-met z = sym (rw (ne_eqb (get_or s.1 b 0) 0 z) refl)

-- where the blocks of a group lie
pub takes : (S : Shifts) (lenSet lenWork b : ℕ) → Laws S → lenSet ≡ size S 3 → lenWork ≡ times_power S.n_satom 3 S.n_patom → b < lenWork → {bs : List ℕ} → bs ≡ group_blocks S 3 perms4 b
    → Blocks24 lenSet bs × Marks24 lenWork bs
takes S lenSet lenWork b L ls lw h {bs} e =
    let hb : b < times_power S.n_satom 3 S.n_patom = rw lw at h in
    let B = blocks_in S L b hb lenSet ls in
    (rw e B, rw (e, lw) (record { count = B.count; inside = marks_in S L b hb }))

-- ---- the calls

module _ (S : Shifts) (set : List Float) (work : List ℕ) (a : Answer) where
  -- what a call leaves, by the guard's answer
  abbrev leaves : Answer → Answer × List Float × List ℕ
  leaves a = (a, after a (symmetrized nan mean24 S 3 perms4 set) set, after a (replicate (length work) 0) work)

  refused-leaves : is_refusal a ≡ true → ◌≡◌ {A = Answer × List Float × List ℕ} (a, set, work) (leaves a)
  refused-leaves r = refused_call a (symmetrized nan mean24 S 3 perms4 set) set (replicate (length work) 0) work r

  -- the work slice cleared, the loop run, and the work slice cleared again
  done-leaves : Laws S → length set ≡ size S 3 → length work ≡ times_power S.n_satom 3 S.n_patom → is_refusal a ≡ false → {cleared marked clear : List ℕ} {new : List Float}
      → cleared ≡ replicate (length work) 0 → ◌≡◌ {A = State} (new, marked) (times (length cleared) (visit_at S) (set, cleared)) → clear ≡ replicate (length marked) 0 → length marked ≡ length cleared
      → ◌≡◌ {A = Answer × List Float × List ℕ} (Ok tt, new, clear) (leaves a)
  done-leaves L ls lw r {cleared} {marked} {clear} {new} c l z k =
      let lc : length cleared ≡ length work = ap length c ∙ length-replicate (length work) 0 in
      let B = times_power S.n_satom 3 S.n_patom in
      let n : new ≡ symmetrized nan mean24 S 3 perms4 set =
      ap (λ s. s.0) l ∙ ap (λ n. (times n (visit_at S) (set, cleared)).0) (lc ∙ lw)
      ∙ marked-leaves mean24 S L 3 perms4 twenty_four_group set cleared ls (lc ∙ lw) (λ b h. ap (λ l. get_or l b 0) c ∙ get_or-replicate (length work) b 0 0 (rw lw h)) in
      let w : clear ≡ replicate (length work) 0 = z ∙ ap (λ m. replicate m 0) (k ∙ lc) in
      ap₂ (λ x y. (Ok tt, x, y)) n w
      ∙ done_call a (symmetrized nan mean24 S 3 perms4 set) set (replicate (length work) 0) work r

-- the compact set
pub sized : {k lenSet lenWork : ℕ} (T : ShiftTables) → Ready lenSet k lenWork T → lenSet ≡ size (shifts_of T) 3
unfolding size
sized T R = R.set-length

module _ (set : List Float) (T : ShiftTables) (work : List ℕ) (a : Answer) (e : a ≡ judged_compact limit4 3 (length set) 3 (length work) T) where
  pub symmetrize_refused : is_refusal a ≡ true → ◌≡◌ {A = Answer × List Float × List ℕ} (a, set, work) (set_permutation_symmetry_compact_fc4 set T work)
  unfolding set_permutation_symmetry_compact_fc4
  symmetrize_refused r = refused-leaves (shifts_of T) set work a r ∙ ap (leaves (shifts_of T) set work a) e

  pub symmetrize_ready : is_refusal a ≡ false → Ready (length set) 3 (length work) T
  symmetrize_ready r = done_compact limit4 3 (length set) 3 (length work) T (sym e ∙ is_done a r)

  pub symmetrize_done : is_refusal a ≡ false → {cleared marked clear : List ℕ} {new : List Float}
      → cleared ≡ replicate (length work) 0 → ◌≡◌ {A = State} (new, marked) (times (length cleared) (visit_at (shifts_of T)) (set, cleared)) → clear ≡ replicate (length marked) 0 → length marked ≡ length cleared
      → ◌≡◌ {A = Answer × List Float × List ℕ} (Ok tt, new, clear) (set_permutation_symmetry_compact_fc4 set T work)
  unfolding set_permutation_symmetry_compact_fc4
  symmetrize_done r c l z k =
      let R = symmetrize_ready r in
      done-leaves (shifts_of T) set work a R.rules (sized T R) R.work-length r c l z k ∙ ap (leaves (shifts_of T) set work a) e

-- ---- the full set

-- a full set of fourth order that passed its guard
pub record FullReady (lenSet lenWork n : ℕ) : Type 0 where
  pub atoms : n ≤ 64
  pub set-length : lenSet ≡ size (full_shifts n) 3
  pub work-length : lenWork ≡ times_power n 3 n

pub full-takes : {lenSet lenWork n : ℕ} → FullReady lenSet lenWork n → (b : ℕ) → b < lenWork → {bs : List ℕ} → bs ≡ group_blocks (full_shifts n) 3 perms4 b → Blocks24 lenSet bs × Marks24 lenWork bs
unfolding full_shifts
full-takes {lenSet} {lenWork} {n} R b h e = takes (full_shifts n) lenSet lenWork b (whole-laws n) R.set-length R.work-length h e

module _ (set : List Float) (work : List ℕ) (n : ℕ) (a : Answer) (e : a ≡ judged_full limit4 3 (length set) ((length work, set_blocks n n 3) ∷ []) n) where
  pub full-refused : is_refusal a ≡ true → ◌≡◌ {A = Answer × List Float × List ℕ} (a, set, work) (set_permutation_symmetry_fc4 set work n)
  unfolding set_permutation_symmetry_fc4
  full-refused r = refused-leaves (full_shifts n) set work a r ∙ ap (leaves (full_shifts n) set work a) e

  pub full-ready : is_refusal a ≡ false → FullReady (length set) (length work) n
  full-ready r =
      let (few, long, others) = done_full limit4 3 (length set) ((length work, set_blocks n n 3) ∷ []) n (sym e ∙ is_done a r) in
      record { atoms = few; set-length = long ∙ sym (size_whole n 3); work-length = others.0 ∙ block_rooms n n 3 }

  pub full-done : is_refusal a ≡ false → {cleared marked clear : List ℕ} {new : List Float}
      → cleared ≡ replicate (length work) 0 → ◌≡◌ {A = State} (new, marked) (times (length cleared) (visit_at (full_shifts n)) (set, cleared)) → clear ≡ replicate (length marked) 0 → length marked ≡ length cleared
      → ◌≡◌ {A = Answer × List Float × List ℕ} (Ok tt, new, clear) (set_permutation_symmetry_fc4 set work n)
  unfolding set_permutation_symmetry_fc4 full_shifts
  full-done r c l z k =
      let R = full-ready r in
      done-leaves (full_shifts n) set work a (whole-laws n) R.set-length R.work-length r c l z k ∙ ap (leaves (full_shifts n) set work a) e
