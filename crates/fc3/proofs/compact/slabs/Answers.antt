use native.Mathlib.Omega.{arith}
use mathlib.Core.Path.{◌≡◌, ◌∙◌}
use Rattle.lists.specs.Tab.{times_none, times_more}
use Rattle.fc3.specs.Loops.{all3}
use Rattle.fc3.proofs.compact.slabs.Goals as goal

pub loop-p-init : goal.loop-p-init
loop-p-init c = times_none _ _

pub loop-p-preserved : goal.loop-p-preserved
loop-p-preserved c =
    let l = c.loop-p in
    times_more l.p _ _ l.invariant c.slab.ensures

pub returns : goal.returns
unfolding all3
returns c =
    let l = c.loop-p in
    let e : l.p ≡ c.args.tables.now.n_patom = omega arith in
    l.invariant ∙ rw e
