use Rattle.std.proofs.Common.{◌≡◌, ℕ, length, drop, ap, ◌∙◌, arith}
use Rattle.standing.specs.RetireAll.{add_all}
use Rattle.standing.proofs.StepsLaws.{adds-further, adds-end}
use Rattle.standing.proofs.retire.add_all.Goals as goal

pub loop-set-preserved : goal.loop-set-preserved
loop-set-preserved c =
    let l = c.loop-set in (
      omega (arith, l.invariant.0),
      c.append.auto.lent ∙ l.invariant.1,
      adds-further c.args.lent.now l.lent _ c.args.list.now c.args.count l.long l.set-index c.loop-set-test.true c.append.ensures l.invariant.2,
    )

pub returns : goal.returns
returns c =
    let l = c.loop-set in
    let i : l.set-index ≡ length c.args.list.now = omega arith in
    adds-end c.args.lent.now l.lent c.args.list.now c.args.count l.long (l.invariant.2 ∙ ap (λ (j : ℕ). add_all l.lent l.long (drop j c.args.list.now)) i)
