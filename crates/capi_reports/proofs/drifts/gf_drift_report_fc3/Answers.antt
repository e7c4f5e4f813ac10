use mathlib.Core.Path.{sym, ◌∙◌}
use lib.ListN.{length}
use Rattle.capi_reports.specs.Drifts.{leg_fits, leg-told, leg-wrong}
use Rattle.capi_reports.proofs.drifts.gf_drift_report_fc3.Goals as goal

pub leg_report-requires : goal.leg_report-requires
leg_report-requires c =
    let a = c.args in
    leg_fits (length a.value.now) (length a.place.now) (sym c.leg_slots_fit.ensures ∙ c.if-leg_slots_fit.true)

pub returns-then-leg_slots_fit : goal.returns-then-leg_slots_fit
returns-then-leg_slots_fit c =
    let a = c.args in
    leg-told a.value.now a.place.now a.fc.now a.num_atom _ _ (sym c.leg_slots_fit.ensures ∙ c.if-leg_slots_fit.true)
    c.drift_report_fc3-a.ensures c.leg_report.ensures

pub returns : goal.returns
returns c =
    let a = c.args in
    leg-wrong a.value.now a.place.now a.fc.now a.num_atom (sym c.leg_slots_fit.ensures ∙ c.if-leg_slots_fit.false) c.wrong_slots_full.ensures
