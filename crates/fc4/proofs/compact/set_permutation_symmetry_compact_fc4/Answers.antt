use Rattle.std.proofs.lemmas.Result.{err_from_is_err_and}
use Rattle.tables.specs.Answers.{passes, refuses}
use mathlib.Core.Path.{sym, ◌∙◌}
use Rattle.fc4.specs.Loops.{symmetrize_refused, symmetrize_ready, symmetrize_done}
use Rattle.fc4.proofs.compact.set_permutation_symmetry_compact_fc4.Goals as goal

pub returns-in_err-judge_compact : goal.returns-in_err-judge_compact
returns-in_err-judge_compact c =
    let p = err_from_is_err_and c.from_residual.result c.from_residual.ensures.1 in
    rw (p.1, p.2) (rw (← c.in_err-judge_compact.was) (symmetrize_refused c.args.fc4.now _ c.args.done.now c.judge_compact.result c.judge_compact.ensures (refuses c.in_err-judge_compact.was)))

pub all_blocks-requires : goal.all_blocks-requires
all_blocks-requires c =
    record { ready = rw c.clear.auto.w (symmetrize_ready c.args.fc4.now _ c.args.done.now c.judge_compact.result c.judge_compact.ensures (passes c.in_ok-judge_compact.was)); in_range = c.addresses-t.ensures }

pub returns : goal.returns
returns c =
    symmetrize_done c.args.fc4.now _ c.args.done.now c.judge_compact.result c.judge_compact.ensures (passes c.in_ok-judge_compact.was)
    c.clear.ensures c.all_blocks.ensures c.clear-2.ensures c.all_blocks.auto.done
