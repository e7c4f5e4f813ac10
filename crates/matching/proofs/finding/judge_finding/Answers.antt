use Rattle.std.proofs.lemmas.Result.{err_from_is_err_and}
use Rattle.tables.specs.Answers.{passes, refuses}
use Rattle.matching.proofs.FindingOutcomeLaws.{positions-refused, marks-wrong, marks-right}
use Rattle.matching.proofs.finding.judge_finding.Goals as goal

pub returns-in_err-judge_matching : goal.returns-in_err-judge_matching
returns-in_err-judge_matching c =
    let a = c.args in
    let j = c.judge_matching in
    let p = err_from_is_err_and c.from_residual.result c.from_residual.ensures.1 in
    rw (p.1, p.2) (rw (← c.in_err-judge_matching.was) (positions-refused a.len_slots a.len_marks a.len_pos a.len_rot a.num_pos j.result j.ensures (refuses c.in_err-judge_matching.was)))

pub returns-then-len_marks-num_pos : goal.returns-then-len_marks-num_pos
returns-then-len_marks-num_pos c =
    let a = c.args in
    let j = c.judge_matching in
    let h = passes c.in_ok-judge_matching.was in
    marks-right a.len_slots a.len_marks a.len_pos a.len_rot a.num_pos j.result j.ensures h c.if-len_marks-num_pos.true

pub returns : goal.returns
returns c =
    let a = c.args in
    let j = c.judge_matching in
    let h = passes c.in_ok-judge_matching.was in
    marks-wrong a.len_slots a.len_marks a.len_pos a.len_rot a.num_pos j.result j.ensures h c.if-len_marks-num_pos.false
