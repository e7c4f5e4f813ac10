use native.Mathlib.Omega.{arith}
use mathlib.Core.Path.{◌≡◌, ◌∙◌}
use Rattle.lists.specs.Tab.{times_none, times_more}
use Rattle.transposes_fc3.specs.Fc3Loops.{all_t}
use Rattle.transposes_fc3.proofs.slabs.Goals as goal

pub loop-p-init : goal.loop-p-init
loop-p-init c = times_none _ _

pub loop-p-preserved : goal.loop-p-preserved
loop-p-preserved c =
    let l = c.loop-p in
    times_more l.p _ _ l.invariant c.slab.ensures

pub returns : goal.returns
unfolding all_t
returns c =
    let l = c.loop-p in
    let e : l.p ≡ c.args.tables.now.n_patom = omega arith in
    l.invariant ∙ rw e
