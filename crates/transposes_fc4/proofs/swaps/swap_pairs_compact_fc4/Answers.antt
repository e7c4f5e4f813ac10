use Rattle.std.proofs.lemmas.Result.{err_from_is_err_and}
use Rattle.tables.specs.Answers.{passes, refuses}
use Rattle.transposes_fc4.proofs.GuardLaws.{swap-refused, swap-ready, swap-done}
use Rattle.transposes_fc4.proofs.swaps.swap_pairs_compact_fc4.Goals as goal

pub returns-in_err-judge_legs : goal.returns-in_err-judge_legs
returns-in_err-judge_legs c =
    let p = err_from_is_err_and c.from_residual.result c.from_residual.ensures.1 in
    rw (p.1, p.2) (rw (← c.in_err-judge_legs.was) (swap-refused c.args.fc4.now _ c.args.done.now c.args.leg_a c.args.leg_b c.judge_compact-t.result c.judge_legs.result c.judge_compact-t.ensures c.judge_legs.ensures (refuses c.in_err-judge_legs.was)))

pub swap-requires : goal.swap-requires
swap-requires c =
    swap-ready c.args.fc4.now _ c.args.done.now c.args.leg_a c.args.leg_b c.judge_compact-t.result c.judge_legs.result
    c.judge_compact-t.ensures c.judge_legs.ensures
    (passes c.in_ok-judge_legs.was)

pub returns : goal.returns
returns c =
    swap-done c.args.fc4.now _ c.args.done.now c.args.leg_a c.args.leg_b c.judge_compact-t.result c.judge_legs.result
    c.judge_compact-t.ensures c.judge_legs.ensures
    (passes c.in_ok-judge_legs.was) c.swap.ensures c.clear.ensures
