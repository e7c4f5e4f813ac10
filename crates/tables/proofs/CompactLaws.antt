-- What a set that passes the guard of compact calls is known to be. Assumes nothing.
use Rattle.std.specs.Prelude.{Ok, ◌≡◌, List, [], ◌∷◌, ℕ}
use Rattle.std.proofs.Common.{◌∙◌}
use Rattle.std.proofs.lemmas.Bool.{not-false}
use Rattle.lists.specs.Elements.{All}
use Rattle.tables.specs.Answers.{passed}
use Rattle.tables.specs.Conditions.{any_wrong, or_false, not_above, not-wrong}
use Rattle.tables.specs.Lengths.{block_rooms}
use Rattle.tables.specs.Shifts.{ruled, Laws, laws}
use Rattle.tables.specs.Compact.{ShiftTables, shifts_of, table_lengths, judged_entries, judged_tables, judged_compact, TablesFit, Compact, fit-within, fit_of}

-- tables that are not refused
pub done-tables : (limit : ℕ) (ls : List (ℕ × ℕ)) (T : ShiftTables) → judged_tables limit ls T ≡ Ok tt
    → All (λ l. l.0 ≡ l.1) ls × TablesFit limit T × Laws (shifts_of T)
unfolding judged_tables judged_entries
done-tables limit ls T e =
    let (q1, e1) = passed _ _ _ e in
    let (q2, e2) = passed _ _ _ e1 in
    let (q3, e3) = passed _ _ _ e2 in
    let (q6, e6) = passed _ _ _ e3 in
    let (nS, (nP, (nT, _))) = not_above limit (T.n_satom ∷ (T.n_patom ∷ (T.num_trans ∷ []))) q1 in
    let (hl, ht) = or_false (any_wrong ls) (any_wrong (table_lengths T)) q2 in
    let F = fit_of limit T nS nP nT ht q3 in
    (not-wrong ls hl, F, laws (shifts_of T) (fit-within T F) (not-false (ruled (shifts_of T)) q6))

-- a compact call that is not refused
pub done_compact : (limit m lenSet k lenWork : ℕ) (T : ShiftTables) → judged_compact limit m lenSet k lenWork T ≡ Ok tt → Compact limit m lenSet k lenWork T
unfolding judged_compact
done_compact limit m lenSet k lenWork T e =
    let (l, F, L) = done-tables limit _ T e in
    record {
      set-length = l.0;
      work-length = l.1.0 ∙ block_rooms T.n_patom T.n_satom k;
      fit = F;
      rules = L;
    }
