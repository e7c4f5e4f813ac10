use native.Mathlib.Omega.{arith}
use mathlib.Core.Path.{◌≡◌, refl, ap, ◌∙◌}
use Rattle.lists.specs.Tab.{times_none, times_more}
use Rattle.fc2.specs.FullLaws.{full_is}
use Rattle.fc2.specs.FullLoops.{less8, panel_less}
use Rattle.fc2.specs.Columns.{panel_fits}
use Rattle.fc2.proofs.columns.take_panel.Goals as goal

pub loop-i-init : goal.loop-i-init
loop-i-init c = (omega arith, refl, times_none _ _)

pub full2-b-requires : goal.full2-b-requires
full2-b-requires c = (c.requires.0.small, c.loop-i-test.true, omega (arith, c.requires.1))

pub take8-requires : goal.take8-requires
take8-requires c =
    let l = c.loop-i in
    rw (l.invariant.1, full_is c.args.n l.i c.args.j c.full2-b.ensures) (panel_fits c.requires.0 l.i c.args.j c.loop-i-test.true c.requires.1)

pub loop-i-preserved : goal.loop-i-preserved
loop-i-preserved c =
    let l = c.loop-i in
    let a = c.args in
    let e = ap (λ b. less8 a.d b l.fc) (full_is a.n l.i a.j c.full2-b.ensures) in
    (omega arith, c.take8.auto.fc ∙ l.invariant.1, times_more l.i _ _ l.invariant.2 (c.take8.ensures ∙ e))

pub returns : goal.returns
unfolding panel_less
returns c =
    let l = c.loop-i in
    let i : l.i ≡ c.args.n = omega arith in
    l.invariant.2 ∙ rw i
