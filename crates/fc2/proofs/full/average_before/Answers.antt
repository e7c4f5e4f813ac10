use native.Mathlib.Omega.{arith}
use mathlib.Core.Path.{◌≡◌, refl, ap₂, ◌∙◌}
use Rattle.lists.specs.Tab.{times_none, times_more}
use Rattle.lines.specs.Lines.{pair_at}
use Rattle.fc2.specs.FullLaws.{pair_inside, full_is}
use Rattle.fc2.specs.FullLoops.{pairs_before}
use Rattle.fc2.proofs.full.average_before.Goals as goal

pub loop-j-init : goal.loop-j-init
loop-j-init c = (omega arith, refl, times_none _ _)

pub full2-b-requires : goal.full2-b-requires
full2-b-requires c = (c.requires.sized.small, omega (arith, c.requires.i_lt_n), c.requires.i_lt_n)

pub full2-c-requires : goal.full2-c-requires
full2-c-requires c = (c.requires.sized.small, c.requires.i_lt_n, omega (arith, c.requires.i_lt_n))

pub average_pair-requires : goal.average_pair-requires
average_pair-requires c =
    let l = c.loop-j in
    let a = c.args in
    rw (l.invariant.1, full_is a.n l.j a.i c.full2-b.ensures, full_is a.n a.i l.j c.full2-c.ensures)
    (pair_inside c.requires.sized a.i l.j c.requires.i_lt_n (omega (arith, c.requires.i_lt_n)))

pub loop-j-preserved : goal.loop-j-preserved
loop-j-preserved c =
    let l = c.loop-j in
    let a = c.args in
    let e = ap₂ (λ x y. pair_at x y l.fc) (full_is a.n l.j a.i c.full2-b.ensures) (full_is a.n a.i l.j c.full2-c.ensures) in
    (omega arith, c.average_pair.auto.fc ∙ l.invariant.1, times_more l.j _ _ l.invariant.2 (c.average_pair.ensures ∙ e))

pub returns : goal.returns
unfolding pairs_before
returns c =
    let l = c.loop-j in
    let i : l.j ≡ c.args.i = omega arith in
    l.invariant.2 ∙ rw i
