use Rattle.std.proofs.Common.{◌+◌, ◌*◌, ◌≤◌, length, sym, arith, length-take-le}
use Rattle.std.proofs.lemmas.Result.{err_from_is_err_and}
use Rattle.standing.proofs.StepsLaws.{add-limits, retire_add, retire_not}
use Rattle.standing.proofs.retire.retire_all.Goals as goal
use Rattle.standing.proofs.retire.retire_all.Goals.{In_ok-m}

-- what is known where something is added
limits : (c : In_ok-m) → (c.in_ok-m.m ≤ length c.judge.new.list) × (c.args.count + 14 * c.in_ok-m.m ≤ 65536)
limits c =
    let l = add-limits c.args.lent.now c.args.count c.args.set c.judge.ensures.0 c.in_ok-m.was in
    (omega (arith, l.0, c.judge.auto), l.1)

pub slice_bounds-list-end : goal.slice_bounds-list-end
slice_bounds-list-end c = (limits (goal.at.slice_bounds-list-end c).In_ok-m).0

pub slice_bounds-add_all-end : goal.slice_bounds-add_all-end
slice_bounds-add_all-end c = sym (length-take-le _ _ (limits (goal.at.slice_bounds-add_all-end c).In_ok-m).0)

pub add_all-requires : goal.add_all-requires
add_all-requires c =
    let l = limits (goal.at.add_all-requires c).In_ok-m in
    omega (arith, l.1, length-take-le c.in_ok-m.m c.judge.new.list l.0)

pub overflow_mul-result : goal.overflow_mul-result
overflow_mul-result c = omega (arith, (limits (goal.at.overflow_mul-result c).In_ok-m).1)

pub overflow_add-result : goal.overflow_add-result
overflow_add-result c = omega (arith, (limits (goal.at.overflow_add-result c).In_ok-m).1)

pub returns : goal.returns
returns c =
    let a = c.args in
    retire_add a.lent.now a.count a.set c.judge.ensures.0 c.in_ok-m.was (c.judge.ensures.1 _ c.in_ok-m.was) c.add_all.ensures

pub returns-in_err-m : goal.returns-in_err-m
returns-in_err-m c =
    let a = c.args in
    let p = err_from_is_err_and c.from_residual.result c.from_residual.ensures.1 in
    rw (p.1, p.2) (retire_not a.lent.now a.count a.set c.judge.ensures.0 c.in_err-m.was)
