-- What the calls mean: level 0 is the symmetrizer, and at every level what is left is alike, whatever the set held. Assumes nothing.
use Rattle.std.specs.Prelude.{Ok, ◌≡◌, Bool, false, not, ◌||◌, List, [], ◌∷◌, ℕ, zero, suc, eqb, length, replicate, Float}
use Rattle.std.proofs.Math.Path.{refl, subst}
use Rattle.std.proofs.Common.{sym, ap, ◌∙◌, eq-eqb}
use Rattle.std.specs.Float.{nan}
use Rattle.lists.specs.Members.{In}
use Rattle.lists.specs.Tab.{times}
use Rattle.tables.specs.Answers.{Answer}
use Rattle.tables.specs.declared.Refusal.TheVariants.{CountAboveLimit, WrongLength}
use Rattle.tables.specs.Answers.{is_refusal, refuse_if, after, after-done}
use Rattle.tables.specs.Conditions.{any_above}
use Rattle.tables.specs.Limits.{limit3, limit4}
use Rattle.tables.specs.Lengths.{set_blocks, set_length}
use Rattle.tables.specs.Full.{judged_full}
use Rattle.tables.specs.Shifts.{Shifts, Laws}
use Rattle.tables.specs.Compact.{ShiftTables, shifts_of, judged_compact}
use Rattle.places.specs.Places.{Leg, Legs, read_out, permute_legs, perms3, perms4, full_shifts}
use Rattle.places.specs.Permutations.{Group, six-group, twenty_four_group}
use Rattle.places.specs.WholeLaws.{whole-laws}
use Rattle.orbits.specs.Symmetric.{symmetrized, symmetric, mean6}
use Rattle.fc4.specs.Mean24.{mean24}
use Rattle.fc4.specs.Symmetrize.{set_permutation_symmetry_compact_fc4, set_permutation_symmetry_fc4}
use Rattle.fc3.specs.Symmetrize.{set_permutation_symmetry_compact_fc3, set_permutation_symmetry_fc3}
use Rattle.acoustic.specs.Acoustic.{without_drifts, leveled, perm_trans_symmetrized, drift_length, judged_levels, perm_trans_symmetrize_compact, perm_trans_symmetrize_full, perm_trans_symmetrize_full_work}
use Rattle.acoustic.specs.Calls.{right_too, compact_work}

-- ---- level 0

-- with a work slice of the stated length the answer, the set and the work bytes are those of the symmetrizer
pub level_none : (set : List Float) (T : ShiftTables) (done : List ℕ) (drift : List Float) → length drift ≡ drift_length T.n_patom T.n_satom 2
    → (let (a, new, bytes, _) = perm_trans_symmetrize_compact limit3 2 mean6 perms3 set T done drift 0 in
    ◌≡◌ {A = Answer × List Float × List ℕ} (a, new, bytes) (set_permutation_symmetry_compact_fc3 set T done))
unfolding perm_trans_symmetrize_compact perm_trans_symmetrized set_permutation_symmetry_compact_fc3
level_none set T done drift h =
    ap (λ a. (a, after a (symmetrized nan mean6 (shifts_of T) 2 perms3 set) set, after a (replicate (length done) 0) done))
    (sym (right_too limit3 2 (length set) (length done) (length drift) T (judged_compact limit3 2 (length set) 2 (length done) T) refl h))

pub level_none-full : (set : List Float) (n : ℕ) (drift : List Float) → length drift ≡ drift_length n n 2
    → (let (a, new, _) = perm_trans_symmetrize_full limit3 2 mean6 perms3 set n drift 0 in ◌≡◌ {A = Answer × List Float} (a, new) (set_permutation_symmetry_fc3 set n))
unfolding perm_trans_symmetrize_full perm_trans_symmetrized set_permutation_symmetry_fc3 judged_full
level_none-full set n drift h =
    ap (λ (b : Bool).
    let a = refuse_if (any_above limit3 (n ∷ [])) CountAboveLimit (refuse_if (not (eqb (length set) (set_length n n 2)) || (not b || false)) WrongLength (Ok tt)) in
    (a, after a (symmetrized nan mean6 (full_shifts n) 2 perms3 set) set)) (eq-eqb (length drift) (drift_length n n 2) h)

pub level_none_fc4 : (set : List Float) (T : ShiftTables) (done : List ℕ) (drift : List Float) → length drift ≡ drift_length T.n_patom T.n_satom 3
    → (let (a, new, bytes, _) = perm_trans_symmetrize_compact limit4 3 mean24 perms4 set T done drift 0 in
    ◌≡◌ {A = Answer × List Float × List ℕ} (a, new, bytes) (set_permutation_symmetry_compact_fc4 set T done))
unfolding perm_trans_symmetrize_compact perm_trans_symmetrized set_permutation_symmetry_compact_fc4
level_none_fc4 set T done drift h =
    ap (λ a. (a, after a (symmetrized nan mean24 (shifts_of T) 3 perms4 set) set, after a (replicate (length done) 0) done))
    (sym (right_too limit4 3 (length set) (length done) (length drift) T (judged_compact limit4 3 (length set) 3 (length done) T) refl h))

pub level_none-full_fc4 : (set : List Float) (n : ℕ) (done : List ℕ) (drift : List Float) → length drift ≡ drift_length n n 3
    → (let (a, new, bytes, _) = perm_trans_symmetrize_full_work limit4 3 mean24 perms4 set n done drift 0 in
    ◌≡◌ {A = Answer × List Float × List ℕ} (a, new, bytes) (set_permutation_symmetry_fc4 set done n))
unfolding perm_trans_symmetrize_full_work perm_trans_symmetrized set_permutation_symmetry_fc4 judged_full
level_none-full_fc4 set n done drift h =
    ap (λ (b : Bool).
    let a = refuse_if (any_above limit4 (n ∷ [])) CountAboveLimit
    (refuse_if (not (eqb (length set) (set_length n n 3)) || (not (eqb (length done) (set_blocks n n 3)) || (not b || false))) WrongLength (Ok tt)) in
    (a, after a (symmetrized nan mean24 (full_shifts n) 3 perms4 set) set, after a (replicate (length done) 0) done)) (eq-eqb (length drift) (drift_length n n 3) h)

-- ---- every level ends with the symmetrizer, so that demand 3 holds of what it leaves

-- all permutations of any legs read out identical bits
abbrev pub Alike : Shifts → ℕ → List (List ℕ) → List Float → Type 0
Alike S m os set = (σ : List ℕ) (xs : List Leg) → In σ os → Legs S m xs → read_out nan S set (permute_legs σ xs) ≡ read_out nan S set xs

pub levels_alike : (mean : List Float → Float) (S : Shifts) → Laws S → (m : ℕ) (os : List (List ℕ)) → Group m os → (level : ℕ) (set : List Float)
    → Alike S m os (perm_trans_symmetrized mean S m os level set)
unfolding perm_trans_symmetrized times leveled
levels_alike mean S L m os G zero set = λ σ xs h p. symmetric S L m os G nan mean set σ xs h p
levels_alike mean S L m os G (suc level) set =
    λ σ xs h p. symmetric S L m os G nan mean (without_drifts S m (times level (λ _ set. symmetrized nan mean S m os (without_drifts S m set)) set)) σ xs h p

-- of a compact set that is not refused, at every order, and of a full set
module _ (limit m : ℕ) (mean : List Float → Float) (os : List (List ℕ)) (G : Group m os) (set : List Float) where
  pub compact_alike : (T : ShiftTables) (done : List ℕ) (drift : List Float) (level : ℕ) → (perm_trans_symmetrize_compact limit m mean os set T done drift level).0 ≡ Ok tt
      → Alike (shifts_of T) m os (perm_trans_symmetrize_compact limit m mean os set T done drift level).1
  unfolding perm_trans_symmetrize_compact
  compact_alike T done drift level e =
      let a = judged_levels limit m (length set) (length done) (length drift) T level in
      let W = compact_work limit m mean os set T done drift level refl (ap is_refusal e) in
      subst (Alike (shifts_of T) m os) (sym (after-done a (perm_trans_symmetrized mean (shifts_of T) m os level set) set (ap is_refusal e)))
      (levels_alike mean (shifts_of T) W.room.ready.rules m os G level set)

  pub full-alike : (n : ℕ) (drift : List Float) (level : ℕ) → (perm_trans_symmetrize_full limit m mean os set n drift level).0 ≡ Ok tt
      → Alike (full_shifts n) m os (perm_trans_symmetrize_full limit m mean os set n drift level).1
  unfolding perm_trans_symmetrize_full
  full-alike n drift level e =
      subst (Alike (full_shifts n) m os) (sym (after-done _ (perm_trans_symmetrized mean (full_shifts n) m os level set) set (ap is_refusal e)))
      (levels_alike mean (full_shifts n) (whole-laws n) m os G level set)

  pub full-work-alike : (n : ℕ) (done : List ℕ) (drift : List Float) (level : ℕ) → (perm_trans_symmetrize_full_work limit m mean os set n done drift level).0 ≡ Ok tt
      → Alike (full_shifts n) m os (perm_trans_symmetrize_full_work limit m mean os set n done drift level).1
  unfolding perm_trans_symmetrize_full_work
  full-work-alike n done drift level e =
      subst (Alike (full_shifts n) m os) (sym (after-done _ (perm_trans_symmetrized mean (full_shifts n) m os level set) set (ap is_refusal e)))
      (levels_alike mean (full_shifts n) (whole-laws n) m os G level set)

-- third and fourth order
pub third-alike : (set : List Float) (T : ShiftTables) (done : List ℕ) (drift : List Float) (level : ℕ)
    → (perm_trans_symmetrize_compact limit3 2 mean6 perms3 set T done drift level).0 ≡ Ok tt
    → Alike (shifts_of T) 2 perms3 (perm_trans_symmetrize_compact limit3 2 mean6 perms3 set T done drift level).1
third-alike = compact_alike limit3 2 mean6 perms3 six-group

pub third-full-alike : (set : List Float) (n : ℕ) (drift : List Float) (level : ℕ) → (perm_trans_symmetrize_full limit3 2 mean6 perms3 set n drift level).0 ≡ Ok tt
    → Alike (full_shifts n) 2 perms3 (perm_trans_symmetrize_full limit3 2 mean6 perms3 set n drift level).1
third-full-alike = full-alike limit3 2 mean6 perms3 six-group

pub fourth-alike : (set : List Float) (T : ShiftTables) (done : List ℕ) (drift : List Float) (level : ℕ)
    → (perm_trans_symmetrize_compact limit4 3 mean24 perms4 set T done drift level).0 ≡ Ok tt
    → Alike (shifts_of T) 3 perms4 (perm_trans_symmetrize_compact limit4 3 mean24 perms4 set T done drift level).1
fourth-alike = compact_alike limit4 3 mean24 perms4 twenty_four_group
