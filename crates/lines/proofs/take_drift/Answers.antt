use Rattle.lines.specs.Lines.{less_at, line_less, step_is, step_fits}
use Rattle.lists.specs.Tab.{times_none, times_more}
use mathlib.Core.Path.{◌≡◌, refl, ◌∙◌}
use native.Mathlib.Omega.{arith}
use Rattle.lines.proofs.take_drift.Goals as goal

pub loop-k-init : goal.loop-k-init
loop-k-init c = (refl, times_none _ _)

pub index_of-at-requires : goal.index_of-at-requires
index_of-at-requires c = omega (arith, c.requires.within c.loop-k.k c.loop-k-test.true)

pub read9-b-requires : goal.read9-b-requires
read9-b-requires c =
    let l = c.loop-k in
    rw l.invariant.0 (step_fits c.requires l.k c.loop-k-test.true c.index_of-at.ensures)

pub write9-requires : goal.write9-requires
write9-requires c =
    let l = c.loop-k in
    rw l.invariant.0 (step_fits c.requires l.k c.loop-k-test.true c.index_of-at.ensures)

pub loop-k-preserved : goal.loop-k-preserved
unfolding less_at
loop-k-preserved c =
    let l = c.loop-k in
    let e = step_is c.requires l.k c.loop-k-test.true c.index_of-at.ensures in
    (c.write9.auto.fc ∙ l.invariant.0, times_more l.k _ _ l.invariant.1 (rw (c.less.ensures, c.read9-b.ensures, e) at c.write9.ensures))

pub returns : goal.returns
unfolding line_less
returns c =
    let l = c.loop-k in
    let i : l.k ≡ c.args.count = omega arith in
    l.invariant.1 ∙ rw i
