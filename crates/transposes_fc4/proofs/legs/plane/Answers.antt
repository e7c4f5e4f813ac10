use native.Mathlib.Omega.{arith}
use mathlib.Core.Path.{◌≡◌, ◌∙◌}
use Rattle.lists.specs.Tab.{times_none, times_more}
use Rattle.transposes_fc4.specs.Loops.{plane4}
use Rattle.transposes_fc4.proofs.legs.plane.Goals as goal

pub loop-k-init : goal.loop-k-init
loop-k-init c = times_none _ _

pub loop-k-preserved : goal.loop-k-preserved
loop-k-preserved c =
    let l = c.loop-k in
    times_more l.k _ _ l.invariant c.line.ensures

pub returns : goal.returns
unfolding plane4
returns c =
    let l = c.loop-k in
    let e : l.k ≡ c.args.tables.now.n_satom = omega arith in
    l.invariant ∙ rw e
