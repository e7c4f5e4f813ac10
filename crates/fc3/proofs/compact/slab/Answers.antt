use native.Mathlib.Omega.{arith}
use mathlib.Core.Path.{◌≡◌, ◌∙◌}
use Rattle.lists.specs.Tab.{times_none, times_more}
use Rattle.fc3.specs.Loops.{slab3}
use Rattle.fc3.proofs.compact.slab.Goals as goal

pub loop-j-init : goal.loop-j-init
loop-j-init c = times_none _ _

pub loop-j-preserved : goal.loop-j-preserved
loop-j-preserved c =
    let l = c.loop-j in
    times_more l.j _ _ l.invariant c.row.ensures

pub returns : goal.returns
unfolding slab3
returns c =
    let l = c.loop-j in
    let e : l.j ≡ c.args.tables.now.n_satom = omega arith in
    l.invariant ∙ rw e
