use mathlib.Core.Path.{sym, ◌∙◌}
use lib.ListN.{length}
use Rattle.tables.specs.Compact.{ShiftTables, shift_tables}
use Rattle.capi_fc2.specs.Drift.{fits}
use Rattle.capi_reports.specs.Drifts.{compact_told, compact_wrong}
use Rattle.capi_reports.proofs.drifts.gf_drift_report_compact_fc2.Goals as goal

pub report-requires : goal.report-requires
report-requires c =
    let a = c.args in
    fits (length a.value.now) (length a.place.now) (sym c.slots_fit.ensures ∙ c.if-slots_fit.true)

pub returns-then-slots_fit : goal.returns-then-slots_fit
returns-then-slots_fit c =
    let a = c.args in
    let T : ShiftTables = shift_tables a.p2s.now a.s2pp.now a.nsym_list.now a.perms.now a.n_satom a.n_patom a.num_trans in
    compact_told a.value.now a.place.now a.fc.now T _ _ (sym c.slots_fit.ensures ∙ c.if-slots_fit.true)
    c.drift_report_compact_fc2-a.ensures c.report.ensures

pub returns : goal.returns
returns c =
    let a = c.args in
    let T : ShiftTables = shift_tables a.p2s.now a.s2pp.now a.nsym_list.now a.perms.now a.n_satom a.n_patom a.num_trans in
    compact_wrong a.value.now a.place.now a.fc.now T (sym c.slots_fit.ensures ∙ c.if-slots_fit.false) c.wrong_slots.ensures
