-- What the symmetrizer of second order leaves of a compact set is alike: of specs/SecondOrder.antt the part on `perm_trans_symmetrize_compact_fc`.
-- Assumes nothing.
use Rattle.std.specs.Prelude.{None, Ok, ◌≡◌, List, ltb, length}
use Rattle.std.proofs.Math.Path.{sym, ap}
use Rattle.std.proofs.Common.{◌∙◌}
use Prim.Native.Nat.{ℕ, ◌≤◌}
use Rattle.std.specs.Float.Ieee.{Float}
use Rattle.tables.specs.declared.Refusal.TheVariants.{CountAboveLimit}
use Rattle.tables.specs.Answers.{is_refusal, after-done, passed}
use Rattle.tables.specs.Limits.{limit2, limit_level}
use Rattle.tables.specs.Compact.{ShiftTables, shifts_of}
use Rattle.tables.proofs.CompactLaws.{done_compact}
use Rattle.places.specs.Places.{length-fill}
use Rattle.places.specs.Permutations.{perms2}
use Rattle.fc2_compact.specs.Passes.{on_site}
use Rattle.fc2_compact.specs.Compact.{judged2, judged_levels, leveled, set_index_permutation_symmetry_compact_fc, perm_trans_symmetrize_compact_fc}
use Rattle.fc2_compact.specs.Compact as compact
use Rattle.audits.specs.Audit.{audit_compact}
use Rattle.laws.specs.SecondOrder.{left, levels_exchange}

-- `perm_trans_symmetrize_compact_fc` at one level or more
pub second_alike : (set : List Float) (T : ShiftTables) (work : List ℕ) (level : ℕ) → 1 ≤ level → (perm_trans_symmetrize_compact_fc set T work level).0 ≡ Ok tt
    → Ok None ≡ audit_compact limit2 1 perms2 (perm_trans_symmetrize_compact_fc set T work level).1 T
unfolding perm_trans_symmetrize_compact_fc
second_alike set T work level h e =
    let S = shifts_of T in
    let new = compact.symmetrized_compact S level set in
    let f = (passed (ltb limit_level level) CountAboveLimit (judged2 set T work) e).1 in
    let L = (done_compact limit2 1 (length set) 1 (length work) T f).rules in
    left set new T 1 (length work) f (unfold compact.symmetrized_compact on_site in length-fill S 1 _) (levels_exchange S L level set h)
    ∙ ap (λ s. audit_compact limit2 1 perms2 s T) (sym (after-done (judged_levels set T work level) new set (ap is_refusal e)))
