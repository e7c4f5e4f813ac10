use native.Mathlib.Omega.{arith}
use mathlib.Core.Path.{◌≡◌, refl, ◌∙◌}
use Rattle.lists.specs.Tab.{times_none, times_more}
use Rattle.fc2.specs.FullLaws.{pair_inside, full_is}
use Rattle.fc2.specs.FullLoops.{pairs}
use Rattle.fc2.proofs.full.set_index_permutation_symmetry_fc.Goals as goal

pub loop-i-init : goal.loop-i-init
loop-i-init c = (omega arith, refl, times_none _ _)

pub average_before-requires : goal.average_before-requires
average_before-requires c =
    let l = c.loop-i in record { sized = rw l.invariant.1 c.requires; i_lt_n = c.loop-i-test.true }

pub full2-b-requires : goal.full2-b-requires
full2-b-requires c =
    (c.requires.small, c.loop-i-test.true, c.loop-i-test.true)

pub average_own-requires : goal.average_own-requires
average_own-requires c =
    let l = c.loop-i in
    rw (c.average_before.auto.fc, l.invariant.1, full_is c.args.n l.i l.i c.full2-b.ensures) (pair_inside c.requires l.i l.i c.loop-i-test.true c.loop-i-test.true)

pub loop-i-preserved : goal.loop-i-preserved
loop-i-preserved c =
    let l = c.loop-i in
    let n = c.args.n in
    let e = full_is n l.i l.i c.full2-b.ensures in
    (omega arith, c.average_own.auto.fc ∙ c.average_before.auto.fc ∙ l.invariant.1, times_more l.i _ _ l.invariant.2 (rw (c.average_before.ensures, e) at c.average_own.ensures))

pub returns : goal.returns
unfolding pairs
returns c =
    let l = c.loop-i in
    let i : l.i ≡ c.args.n = omega arith in
    l.invariant.2 ∙ rw i
