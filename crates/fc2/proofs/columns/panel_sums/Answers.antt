use native.Mathlib.Omega.{arith}
use mathlib.Core.Path.{◌≡◌, ap, ◌∙◌}
use Rattle.lists.specs.Tab.{times_none, times_more}
use Rattle.fc2.specs.FullLaws.{full_is}
use Rattle.fc2.specs.FullLoops.{added8, panel_sums}
use Rattle.fc2.specs.Columns.{panel_fits}
use Rattle.fc2.proofs.columns.panel_sums.Goals as goal

pub loop-i-init : goal.loop-i-init
loop-i-init c = (omega arith, times_none _ _)

pub full2-b-requires : goal.full2-b-requires
full2-b-requires c = (c.requires.0.small, c.loop-i-test.true, omega (arith, c.requires.1))

pub add8-m-requires : goal.add8-m-requires
add8-m-requires c =
    let l = c.loop-i in
    rw (full_is c.args.n l.i c.args.j c.full2-b.ensures) (panel_fits c.requires.0 l.i c.args.j c.loop-i-test.true c.requires.1)

pub loop-i-preserved : goal.loop-i-preserved
loop-i-preserved c =
    let l = c.loop-i in
    let a = c.args in
    (omega arith, times_more l.i _ _ l.invariant.1 (c.add8-m.ensures ∙ ap (λ b. added8 l.s b a.fc.now) (full_is a.n l.i a.j c.full2-b.ensures)))

pub returns : goal.returns
unfolding panel_sums
returns c =
    let l = c.loop-i in
    let i : l.i ≡ c.args.n = omega arith in
    l.invariant.1 ∙ rw i
