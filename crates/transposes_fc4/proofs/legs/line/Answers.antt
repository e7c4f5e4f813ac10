use native.Mathlib.Omega.{arith}
use mathlib.Core.Path.{◌≡◌, ◌∙◌}
use Rattle.lists.specs.Tab.{times_none, times_more}
use Rattle.transposes_fc4.specs.Loops.{line4}
use Rattle.transposes_fc4.proofs.legs.line.Goals as goal

pub loop-l-init : goal.loop-l-init
loop-l-init c = times_none _ _

pub loop-l-preserved : goal.loop-l-preserved
loop-l-preserved c =
    let l = c.loop-l in
    times_more l.l _ _ l.invariant c.trade.ensures

pub returns : goal.returns
unfolding line4
returns c =
    let l = c.loop-l in
    let e : l.l ≡ c.args.tables.now.n_satom = omega arith in
    l.invariant ∙ rw e
