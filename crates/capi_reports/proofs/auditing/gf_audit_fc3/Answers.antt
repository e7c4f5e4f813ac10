use mathlib.Core.Path.{sym, ◌∙◌}
use lib.ListN.{length}
use Rattle.capi_reports.specs.Told.{fits, call_told, call_wrong}
use Rattle.capi_reports.proofs.auditing.gf_audit_fc3.Goals as goal

pub told-requires : goal.told-requires
told-requires c =
    let a = c.args in
    fits (length a.place.now) (length a.numbers.now) (sym c.slots_fit.ensures ∙ c.if-slots_fit.true)

pub returns-then-slots_fit : goal.returns-then-slots_fit
returns-then-slots_fit c =
    let a = c.args in
    call_told a.place.now a.numbers.now _ _ _ (sym c.slots_fit.ensures ∙ c.if-slots_fit.true) c.audit_fc3-r.ensures c.told.ensures

pub returns : goal.returns
returns c =
    let a = c.args in
    call_wrong a.place.now a.numbers.now _ _ (sym c.slots_fit.ensures ∙ c.if-slots_fit.false) c.wrong_slots_full.ensures
