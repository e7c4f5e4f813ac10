use Rattle.std.proofs.lemmas.Result.{err_from_is_err_and}
use Rattle.tables.specs.Answers.{passes, refuses}
use Rattle.fc2.specs.FullWorkLaws.{sized, call_refused, call_done}
use mathlib.Core.Path.{sym, ap, ◌∙◌}
use Rattle.fc2.proofs.full.perm_trans_symmetrize_fc.Goals as goal

pub returns-in_err-judge_levels : goal.returns-in_err-judge_levels
returns-in_err-judge_levels c =
    let p = err_from_is_err_and c.from_residual.result c.from_residual.ensures.1 in
    rw (p.1, p.2) (rw (← c.in_err-judge_levels.was) (call_refused c.judge_levels.result c.args.fc.now c.args.n_satom c.args.level c.judge_levels.ensures (refuses c.in_err-judge_levels.was)))

pub symmetrize-requires : goal.symmetrize-requires
symmetrize-requires c =
    sized c.judge_levels.result c.args.fc.now c.args.n_satom c.args.level c.judge_levels.ensures (passes c.in_ok-judge_levels.was)

pub returns : goal.returns
returns c =
    ap (λ l. (_, l)) c.symmetrize.ensures
    ∙ call_done c.judge_levels.result c.args.fc.now c.args.n_satom c.args.level c.judge_levels.ensures (passes c.in_ok-judge_levels.was)
