use native.Mathlib.Omega.{arith}
use mathlib.Core.Path.{◌≡◌, refl, ap, ◌∙◌}
use Rattle.lists.specs.Tab.{times_none, times_more}
use Rattle.blocks.specs.Block.{put_block}
use Rattle.lines.specs.Sums3x3.{balance}
use Rattle.lines.specs.Lines.{others, row_of, own_fits, balance_at, balances}
use Rattle.fc2.specs.FullLaws.{full_is}
use Rattle.fc2.specs.FullLoops.{diagonals}
use Rattle.fc2.proofs.full.set_translational_symmetry_fc.Goals as goal

pub loop-i-init : goal.loop-i-init
loop-i-init c = (omega arith, refl, times_none _ _)

pub full2-b-requires : goal.full2-b-requires
full2-b-requires c = (c.requires.small, c.loop-i-test.true, c.loop-i-test.true)

pub other_sums-s-requires : goal.other_sums-s-requires
other_sums-s-requires c =
    let l = c.loop-i in
    rw (l.invariant.1, full_is c.args.n l.i l.i c.full2-b.ensures) (row_of c.requires l.i l.i c.loop-i-test.true c.loop-i-test.true)

pub write9-requires : goal.write9-requires
write9-requires c =
    let l = c.loop-i in
    rw (l.invariant.1, full_is c.args.n l.i l.i c.full2-b.ensures) (own_fits (row_of c.requires l.i l.i c.loop-i-test.true c.loop-i-test.true))

pub loop-i-preserved : goal.loop-i-preserved
unfolding balance_at
loop-i-preserved c =
    let l = c.loop-i in
    let n = c.args.n in
    let e = ap (λ b. put_block 9 b (balance (others n b l.i l.fc)) l.fc) (full_is n l.i l.i c.full2-b.ensures) in
    (omega arith, c.write9.auto.fc ∙ l.invariant.1, times_more l.i _ _ l.invariant.2 (rw (c.balance.ensures, c.other_sums-s.ensures) at c.write9.ensures ∙ e))

pub returns : goal.returns
unfolding diagonals balances
returns c =
    let l = c.loop-i in
    let i : l.i ≡ c.args.n = omega arith in
    l.invariant.2 ∙ rw i
