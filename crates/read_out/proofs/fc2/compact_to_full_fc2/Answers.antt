use Rattle.std.proofs.lemmas.Result.{err_from_is_err_and}
use Rattle.tables.specs.Answers.{passes, refuses}
use mathlib.Core.Path.{sym, ◌∙◌}
use lib.Dec.{lit≤}
use Rattle.tables.specs.Compact.{ShiftTables, given}
use Rattle.read_out.specs.Guard.{in9, read-out-refused, reading}
use Rattle.read_out.proofs.GuardLaws.{read-out-done}
use Rattle.read_out.proofs.fc2.compact_to_full_fc2.Goals as goal

pub judge-requires : goal.judge-requires
judge-requires c = (lit≤ tt, lit≤ tt)

pub returns-in_err-judge : goal.returns-in_err-judge
returns-in_err-judge c =
    let a = c.args in
    let T : ShiftTables = given a.tables.now in
    let p = err_from_is_err_and c.from_residual.result c.from_residual.ensures.1 in
    rw (p.1, p.2) (rw (← c.in_err-judge.was) (read-out-refused 1024 1 9 in9 (lit≤ tt) a.full.now a.fc2.now T c.judge.result c.judge.ensures (refuses c.in_err-judge.was)))

pub rows-requires : goal.rows-requires
rows-requires c =
    let a = c.args in
    let T : ShiftTables = given a.tables.now in
    reading 1024 1 9 in9 (lit≤ tt) a.full.now a.fc2.now T c.judge.result c.judge.ensures (passes c.in_ok-judge.was)

pub returns : goal.returns
returns c =
    let a = c.args in
    let T : ShiftTables = given a.tables.now in
    read-out-done 1024 1 9 in9 (lit≤ tt) a.full.now a.fc2.now T c.judge.result c.judge.ensures (passes c.in_ok-judge.was) c.rows.ensures
