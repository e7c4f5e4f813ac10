use Rattle.roll.specs.Format.{entry}
use Rattle.capi_roll.specs.Told.{append-told, append-slot}
use Rattle.capi_roll.proofs.gf_append_roll.Goals as goal

pub returns-then-new_count-eq1 : goal.returns-then-new_count-eq1
returns-then-new_count-eq1 c =
    let a = c.args in
    append-told a.lent.now a.count (entry a.kind a.set a.earlier a.label.now) a.new_count.now c.if-new_count-eq1.true c.append-a.ensures c.report.ensures

pub returns : goal.returns
returns c =
    let a = c.args in
    append-slot a.lent.now a.count (entry a.kind a.set a.earlier a.label.now) a.new_count.now c.if-new_count-eq1.false c.judge_append-a.ensures c.number_of_appended.ensures c.seven_or_two.ensures
