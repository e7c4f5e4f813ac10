-- What the two calls on compact sets of second order leave, refused or done. Assumes nothing.
use Rattle.std.specs.Prelude.{Ok, ◌≡◌, Bool, true, false, cond, List, ℕ, ltb, Float, length, replicate}
use Rattle.std.proofs.Common.{sym, ap, ◌∙◌}
use Rattle.tables.specs.Answers.{Answer}
use Rattle.tables.specs.declared.Refusal.TheVariants.{CountAboveLimit}
use Rattle.tables.specs.Answers.{is_refusal, after, is_done, after_refusal, after-done, passed}
use Rattle.tables.specs.Lengths.{set_length2}
use Rattle.tables.specs.Limits.{limit2, limit_level}
use Rattle.tables.specs.Compact.{ShiftTables, shifts_of}
use Rattle.tables.proofs.CompactLaws.{done_compact}
use Rattle.fc2_compact.specs.Passes.{transposed, averaged_compact}
use Rattle.fc2_compact.specs.Compact.{judged2, judged_levels, symmetrized_compact, set_index_permutation_symmetry_compact_fc, perm_trans_symmetrize_compact_fc}
use Rattle.fc2_compact.specs.Code.{Ready}

-- a call that is not refused has what its work asks
pub ready_of : (l : List Float) (T : ShiftTables) (w : List ℕ) → judged2 l T w ≡ Ok tt → Ready T (length l)
ready_of l T w e =
    let C = done_compact limit2 1 (length l) 1 (length w) T e in
    record { fit = C.fit; rules = C.rules; has = C.set-length ∙ set_length2 T.n_patom T.n_satom }

-- what a call leaves that is refused, and one that is done
module _ {A B : Type 0} {a b : Answer} (new old : A) (clear work : B) where
  call_refused : a ≡ b → is_refusal a ≡ true → ◌≡◌ {A = Answer × A × B} (a, old, work) (b, after b new old, after b clear work)
  call_refused e h =
      let g : is_refusal b ≡ true = sym (ap is_refusal e) ∙ h in
      rw (e, after_refusal b new old g, after_refusal b clear work g)

  call_done : {w : A} {d : B} → a ≡ b → is_refusal a ≡ false → w ≡ new → d ≡ clear → ◌≡◌ {A = Answer × A × B} (Ok tt, w, d) (b, after b new old, after b clear work)
  call_done e h ew ed =
      let g : is_refusal b ≡ false = sym (ap is_refusal e) ∙ h in
      rw (after-done b new old g, after-done b clear work g, ew, ed, is_done b g)

abbrev zeros_of : List ℕ → List ℕ
zeros_of w = replicate (length w) 0

module _ (l : List Float) (T : ShiftTables) (w : List ℕ) {a : Answer} where
  pub ready_when : a ≡ judged2 l T w → is_refusal a ≡ false → Ready T (length l)
  ready_when e h = ready_of l T w (sym e ∙ is_done a h)

  pub index_refused : (t : Bool) → a ≡ judged2 l T w → is_refusal a ≡ true → (a, l, w) ≡ set_index_permutation_symmetry_compact_fc l T w t
  unfolding set_index_permutation_symmetry_compact_fc
  index_refused t e h = call_refused (cond t (transposed (shifts_of T) l) (averaged_compact (shifts_of T) l)) l (zeros_of w) w e h

  pub index_done : {v : List Float} {d : List ℕ} (t : Bool) → a ≡ judged2 l T w → is_refusal a ≡ false
      → v ≡ cond t (transposed (shifts_of T) l) (averaged_compact (shifts_of T) l) → d ≡ zeros_of w → (Ok tt, v, d) ≡ set_index_permutation_symmetry_compact_fc l T w t
  unfolding set_index_permutation_symmetry_compact_fc
  index_done t e h ev ed = call_done (cond t (transposed (shifts_of T) l) (averaged_compact (shifts_of T) l)) l (zeros_of w) w e h ev ed

  pub ready_levels : (level : ℕ) → a ≡ judged_levels l T w level → is_refusal a ≡ false → Ready T (length l)
  ready_levels level e h = ready_of l T w (passed (ltb limit_level level) CountAboveLimit (judged2 l T w) (sym e ∙ is_done a h)).1

  pub symmetrize_refused : (level : ℕ) → a ≡ judged_levels l T w level → is_refusal a ≡ true → (a, l, w) ≡ perm_trans_symmetrize_compact_fc l T w level
  unfolding perm_trans_symmetrize_compact_fc
  symmetrize_refused level e h = call_refused (symmetrized_compact (shifts_of T) level l) l (zeros_of w) w e h

  pub symmetrize_done : {v : List Float} {d : List ℕ} (level : ℕ) → a ≡ judged_levels l T w level → is_refusal a ≡ false
      → v ≡ symmetrized_compact (shifts_of T) level l → d ≡ zeros_of w → (Ok tt, v, d) ≡ perm_trans_symmetrize_compact_fc l T w level
  unfolding perm_trans_symmetrize_compact_fc
  symmetrize_done level e h ev ed = call_done (symmetrized_compact (shifts_of T) level l) l (zeros_of w) w e h ev ed
