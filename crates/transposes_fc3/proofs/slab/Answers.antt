use native.Mathlib.Omega.{arith}
use mathlib.Core.Path.{◌≡◌, ◌∙◌}
use Rattle.lists.specs.Tab.{times_none, times_more}
use Rattle.transposes_fc3.specs.Fc3Loops.{slab_t}
use Rattle.transposes_fc3.proofs.slab.Goals as goal

pub loop-j-init : goal.loop-j-init
loop-j-init c = times_none _ _

pub loop-j-preserved : goal.loop-j-preserved
loop-j-preserved c =
    let l = c.loop-j in
    times_more l.j _ _ l.invariant c.row.ensures

pub returns : goal.returns
unfolding slab_t
returns c =
    let l = c.loop-j in
    let e : l.j ≡ c.args.tables.now.n_satom = omega arith in
    l.invariant ∙ rw e
