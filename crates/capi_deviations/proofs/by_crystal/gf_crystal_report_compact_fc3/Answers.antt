use mathlib.Core.Path.{sym, ap, ◌∙◌}
use mathlib.Core.List.{[], ◌∷◌}
use lib.ListN.{length}
use Rattle.tables.specs.Limits.{limit3}
use Rattle.tables.specs.Conditions.{any_above}
use Rattle.capi_deviations.specs.Slots.{row_length, report_slots, fits, either_above, call_given, call_wrong}
use Rattle.capi_deviations.proofs.by_crystal.gf_crystal_report_compact_fc3.Goals as goal

pub put-requires : goal.put-requires
put-requires c =
    let a = c.args in
    let f = fits (length a.value.now) (length a.place.now) (sym c.slots_fit.ensures ∙ c.if-slots_fit.true) in
    (c.row_length-n.ensures.1, f.0, f.1)

pub returns-then-slots_fit : goal.returns-then-slots_fit
returns-then-slots_fit c =
    let a = c.args in
    call_given (row_length (length a.fc.now)) a.value.now a.place.now _ _ _ (sym c.slots_fit.ensures ∙ c.if-slots_fit.true) c.crystal_report_compact_fc3-r.ensures
    (c.put.ensures ∙ ap (λ n. report_slots n c.crystal_report_compact_fc3-r.result a.value.now a.place.now) c.row_length-n.ensures.0)

pub returns : goal.returns
returns c =
    let a = c.args in
    call_wrong (row_length (length a.fc.now)) a.value.now a.place.now _ _ (sym c.slots_fit.ensures ∙ c.if-slots_fit.false)
    (c.wrong.ensures ∙ either_above (any_above 1024 (a.num_rot ∷ [])) (any_above limit3 (a.n_satom ∷ (a.n_patom ∷ (a.num_trans ∷ [])))) c.wrong_slots.ensures)
