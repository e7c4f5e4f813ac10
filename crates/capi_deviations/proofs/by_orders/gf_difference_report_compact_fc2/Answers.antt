use mathlib.Core.Path.{sym, ◌∙◌}
use lib.Dec.{lit<}
use lib.ListN.{length}
use Rattle.capi_deviations.specs.Slots.{fits, call_given, call_wrong}
use Rattle.capi_deviations.proofs.by_orders.gf_difference_report_compact_fc2.Goals as goal

pub put-requires : goal.put-requires
put-requires c =
    let a = c.args in
    let f = fits (length a.value.now) (length a.place.now) (sym c.slots_fit.ensures ∙ c.if-slots_fit.true) in
    (lit< tt, f.0, f.1)

pub returns-then-slots_fit : goal.returns-then-slots_fit
returns-then-slots_fit c =
    let a = c.args in
    call_given 2 a.value.now a.place.now _ _ _ (sym c.slots_fit.ensures ∙ c.if-slots_fit.true) c.difference_report_compact_fc2-r.ensures c.put.ensures

pub returns : goal.returns
returns c =
    let a = c.args in
    call_wrong 2 a.value.now a.place.now _ _ (sym c.slots_fit.ensures ∙ c.if-slots_fit.false) c.wrong_slots.ensures
