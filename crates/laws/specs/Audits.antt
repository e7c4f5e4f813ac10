-- What a symmetrizer leaves is alike: after a call that is not refused the audit with the same tables answers so, whatever the set held.
-- That alike is demand 3's statement, for any set, is `demanded` and `alike_of` of crate `audits`, specs/Demand. Assumes nothing.
use Rattle.std.specs.Prelude.{None, Ok, ◌≡◌, ℕ, ◌≤◌, List, [], ◌∷◌, length, Float}
use Rattle.std.proofs.Common.{sym, ap, ap₂, ◌∙◌, lit≤}
use Rattle.std.specs.Float.{nan}
use Rattle.tables.specs.Answers.{is_refusal, after, after-done}
use Rattle.tables.specs.Lengths.{set_blocks}
use Rattle.tables.specs.Full.{judged_full, alone-done}
use Rattle.tables.specs.Limits.{limit3, limit4}
use Rattle.tables.specs.Compact.{ShiftTables, shifts_of, judged_set, judged_compact}
use Rattle.tables.proofs.CompactLaws.{done_compact}
use Rattle.places.specs.Places.{size, length-fill}
use Rattle.places.specs.WholeLaws.{full_shifts, whole-laws}
use Rattle.places.specs.Permutations.{Group, perms3, perms4, six-group, twenty_four_group}
use Rattle.orbits.specs.Symmetric.{symmetrized, symmetric}
use Rattle.fc3.specs.Mean.{mean6}
use Rattle.fc3.specs.Symmetrize.{set_permutation_symmetry_compact_fc3, set_permutation_symmetry_fc3}
use Rattle.fc4.specs.Mean24.{mean24}
use Rattle.fc4.specs.Symmetrize.{set_permutation_symmetry_compact_fc4, set_permutation_symmetry_fc4}
use Rattle.audits.specs.Audit.{found_after, audit_compact, audit_full}
use Rattle.audits.proofs.DemandLaws.{alike_of}
use Rattle.audits.specs.Guard.{set-done, compact_done, ready-whole}

-- a symmetrized set has the length that the guard asks for
long : (mean : List Float → Float) (limit m k lenWork : ℕ) (os : List (List ℕ)) (set : List Float) (T : ShiftTables)
    → judged_compact limit m (length set) k lenWork T ≡ Ok tt → judged_set limit m (length (symmetrized nan mean (shifts_of T) m os set)) [] T ≡ Ok tt
unfolding symmetrized size
long mean limit m k lenWork os set T e =
    ap (λ n. judged_set limit m n [] T) (length-fill (shifts_of T) m _ ∙ sym (done_compact limit m (length set) k lenWork T e).set-length) ∙ set-done limit m (length set) k lenWork T e

-- one call of a compact symmetrizer, at any rank
compact_alike : (mean : List Float → Float) (limit m k : ℕ) (os : List (List ℕ)) → Group m os → (set : List Float) (T : ShiftTables) (lenWork : ℕ)
    → judged_compact limit m (length set) k lenWork T ≡ Ok tt
    → Ok None ≡ audit_compact limit m os (after (judged_compact limit m (length set) k lenWork T) (symmetrized nan mean (shifts_of T) m os set) set) T
compact_alike mean limit m k os G set T lenWork e =
    let S = shifts_of T in
    let a = judged_compact limit m (length set) k lenWork T in
    let s = symmetrized nan mean S m os set in
    let L = (done_compact limit m (length set) k lenWork T e).rules in
    compact_done limit m os s T (long mean limit m k lenWork os set T e) (sym (alike_of S L m os G s (λ σ xs h p. symmetric S L m os G nan mean set σ xs h p)))
    ∙ ap (λ l. audit_compact limit m os l T) (sym (after-done a s set (ap is_refusal e)))

pub third-alike : (set : List Float) (T : ShiftTables) (work : List ℕ) → (set_permutation_symmetry_compact_fc3 set T work).0 ≡ Ok tt
    → Ok None ≡ audit_compact limit3 2 perms3 (set_permutation_symmetry_compact_fc3 set T work).1 T
unfolding set_permutation_symmetry_compact_fc3
third-alike set T work e = compact_alike mean6 limit3 2 2 perms3 six-group set T (length work) e

pub fourth-alike : (set : List Float) (T : ShiftTables) (work : List ℕ) → (set_permutation_symmetry_compact_fc4 set T work).0 ≡ Ok tt
    → Ok None ≡ audit_compact limit4 3 perms4 (set_permutation_symmetry_compact_fc4 set T work).1 T
unfolding set_permutation_symmetry_compact_fc4
fourth-alike set T work e = compact_alike mean24 limit4 3 3 perms4 twenty_four_group set T (length work) e

-- ---- full sets, which are compact sets over `whole n`

whole_long : (mean : List Float → Float) (limit m : ℕ) (os : List (List ℕ)) (set : List Float) (n : ℕ) → 1 ≤ limit
    → judged_full limit m (length set) [] n ≡ Ok tt → judged_full limit m (length (symmetrized nan mean (full_shifts n) m os set)) [] n ≡ Ok tt
unfolding symmetrized size full_shifts
whole_long mean limit m os set n l e = ap (λ k. judged_full limit m k [] n) (length-fill (full_shifts n) m _ ∙ sym (ready-whole limit m (length set) n l e).set-length) ∙ e

whole-alike : (mean : List Float → Float) (limit m : ℕ) (os : List (List ℕ)) → Group m os → (set : List Float) (n : ℕ) → 1 ≤ limit
    → judged_full limit m (length set) [] n ≡ Ok tt → audit_full limit m os (symmetrized nan mean (full_shifts n) m os set) n ≡ Ok None
unfolding audit_full
whole-alike mean limit m os G set n l e =
    ap₂ found_after (whole_long mean limit m os set n l e)
    (alike_of (full_shifts n) (whole-laws n) m os G (symmetrized nan mean (full_shifts n) m os set) (λ σ xs h p. symmetric (full_shifts n) (whole-laws n) m os G nan mean set σ xs h p))

pub third-full-alike : (set : List Float) (n : ℕ) → (set_permutation_symmetry_fc3 set n).0 ≡ Ok tt → Ok None ≡ audit_full limit3 2 perms3 (set_permutation_symmetry_fc3 set n).1 n
unfolding set_permutation_symmetry_fc3
third-full-alike set n e =
    let a = judged_full limit3 2 (length set) [] n in
    let s = symmetrized nan mean6 (full_shifts n) 2 perms3 set in
    let k : after a s set ≡ s = after-done a s set (ap is_refusal e) in
    sym (ap (λ l. audit_full limit3 2 perms3 l n) k ∙ whole-alike mean6 limit3 2 perms3 six-group set n (lit≤ tt) e)

pub fourth-full-alike : (set : List Float) (work : List ℕ) (n : ℕ) → (set_permutation_symmetry_fc4 set work n).0 ≡ Ok tt
    → Ok None ≡ audit_full limit4 3 perms4 (set_permutation_symmetry_fc4 set work n).1 n
unfolding set_permutation_symmetry_fc4
fourth-full-alike set work n e =
    let a = judged_full limit4 3 (length set) ((length work, set_blocks n n 3) ∷ []) n in
    let s = symmetrized nan mean24 (full_shifts n) 3 perms4 set in
    let k : after a s set ≡ s = after-done a s set (ap is_refusal e) in
    sym (ap (λ l. audit_full limit4 3 perms4 l n) k ∙ whole-alike mean24 limit4 3 perms4 twenty_four_group set n (lit≤ tt) (alone-done limit4 3 (length set) ((length work, set_blocks n n 3) ∷ []) n e))
