use mathlib.Core.Path.{sym, ◌∙◌}
use lib.ListN.{length}
use Rattle.capi_fc2.specs.Drift.{fits, told_of, above, wrong}
use Rattle.capi_fc2.proofs.gf_drift_report.Goals as goal

pub report-requires : goal.report-requires
report-requires c =
    let a = c.args in
    fits (length a.value.now) (length a.place.now) (sym c.slots_fit.ensures ∙ c.if-slots_fit.true)

pub returns-then-slots_fit : goal.returns-then-slots_fit
returns-then-slots_fit c =
    let a = c.args in
    told_of a.value.now a.place.now a.fc.now a.n_satom _ _ (sym c.slots_fit.ensures ∙ c.if-slots_fit.true)
    c.drift_report-a.ensures c.report.ensures

pub returns-then-n_satom-gt-LIMIT2 : goal.returns-then-n_satom-gt-LIMIT2
returns-then-n_satom-gt-LIMIT2 c =
    let a = c.args in
    above a.value.now a.place.now a.fc.now a.n_satom (sym c.slots_fit.ensures ∙ c.if-slots_fit.false) c.if-n_satom-gt-LIMIT2.true

pub returns : goal.returns
returns c =
    let a = c.args in
    wrong a.value.now a.place.now a.fc.now a.n_satom (sym c.slots_fit.ensures ∙ c.if-slots_fit.false) c.if-n_satom-gt-LIMIT2.false
