use Prim.Native.Nat.{◌*◌}
use native.Mathlib.Omega.{arith}
use mathlib.Core.Path.{◌≡◌, ◌∙◌}
use Rattle.lists.specs.Tab.{times_none, times_more}
use Rattle.transposes_fc4.specs.Loops.{pairs4}
use Rattle.transposes_fc4.proofs.legs.pairs.Goals as goal

pub loop-q-init : goal.loop-q-init
loop-q-init c = times_none _ _

pub loop-q-preserved : goal.loop-q-preserved
loop-q-preserved c =
    let l = c.loop-q in
    times_more l.q _ _ l.invariant c.pair.ensures

pub returns : goal.returns
unfolding pairs4
returns c =
    let l = c.loop-q in
    let e : l.q ≡ c.args.tables.now.n_patom * c.args.tables.now.n_satom = omega arith in
    l.invariant ∙ rw e
