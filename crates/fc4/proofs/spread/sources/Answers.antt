use native.Mathlib.Omega.{arith}
use mathlib.Core.Path.{◌≡◌, ◌∙◌}
use Rattle.lists.specs.Tab.{times_none, times_more}
use Rattle.positions.specs.Inverses.{inverse-at}
use Rattle.fc4.specs.Spread.{later_if_shared, sources_of, not-shared, is_shared}
use Rattle.fc4.proofs.spread.sources.Goals.{then-bs-s, else-bs-s}
use Rattle.fc4.proofs.spread.sources.Goals as goal

pub loop-s-init : goal.loop-s-init
loop-s-init c = times_none _ _

pub loop-s-preserved : goal.loop-s-preserved
loop-s-preserved c =
    let l = c.loop-s in
    let e : c.if-bs-s.m ≡ later_if_shared c.args.bs.now c.args.b l.s l.m =
    elim c.if-bs-s.branch [
      | then-bs-s w ↦ w.m-is ∙ is_shared c.args.bs.now c.args.b l.s l.m w.if-bs-s.true w.later-n.ensures (inverse-at c.requires.0 l.s)
      | else-bs-s w ↦ w.m-is ∙ not-shared c.args.bs.now c.args.b l.s l.m w.if-bs-s.false
    ] in
    times_more l.s _ _ l.invariant e

pub returns : goal.returns
unfolding sources_of
returns c =
    let l = c.loop-s in
    let e : l.s ≡ 24 = omega arith in
    l.invariant ∙ rw e
