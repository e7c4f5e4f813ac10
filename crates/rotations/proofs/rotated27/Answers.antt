use mathlib.Core.Path.{◌≡◌, refl, ap, ◌∙◌}
use native.Mathlib.Omega.{arith}
use lib.ListN.{length, get_or-replicate}
use lib.Ieee.{nan}
use Rattle.lists.specs.Floats.{plus_zero}
use Rattle.rotations.specs.Rotation.{sums}
use Rattle.rotations.specs.Laws.{sums_none, sums-more}
use borrow.Author.Rules.{rules}
use Rattle.rotations.proofs.rotated27.Goals as goal

pub loop-q-init : goal.loop-q-init
loop-q-init c =
    let a = c.args in
    (omega arith, sums_none 27 27 0 a.c.now a.t _ refl (λ k h. get_or-replicate 27 k plus_zero nan h))

pub share27-n-requires : goal.share27-n-requires
share27-n-requires c =
    let l = c.loop-q in
    let f : length c.args.c.now ≡ 729 = search rules in
    omega (arith, f)

pub loop-q-preserved : goal.loop-q-preserved
loop-q-preserved c =
    let l = c.loop-q in
    let a = c.args in
    (omega arith, sums-more 27 27 0 a.c.now a.t l.q _ _ (omega arith) refl l.invariant.1 c.share27-n.ensures)

pub returns : goal.returns
returns c =
    let l = c.loop-q in
    let a = c.args in
    let i : l.q ≡ 27 = omega arith in
    l.invariant.1 ∙ ap (λ k. sums 27 k 27 0 a.c.now a.t) i
