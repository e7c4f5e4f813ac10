use mathlib.Core.Path.{◌≡◌, refl, ap, ◌∙◌}
use Prim.Native.Nat.{◌+◌}
use native.Mathlib.Omega.{arith}
use lib.ListN.{length, get_or-replicate}
use lib.Ieee.{nan}
use Rattle.lists.specs.Digits.{in_row}
use Rattle.lists.specs.Floats.{plus_zero}
use Rattle.rotations.specs.Rotation.{sums}
use Rattle.rotations.specs.Laws.{sums_none, sums-more}
use Rattle.rotations.proofs.sums18.Goals as goal

pub loop-q-init : goal.loop-q-init
loop-q-init c =
    let a = c.args in
    (omega arith, sums_none 18 (length a.t.now) a.first a.c.now a.t.now _ refl (λ k h. get_or-replicate 18 k plus_zero nan h))

pub overflow_mul-q : goal.overflow_mul-q
overflow_mul-q c =
    let l = c.loop-q in
    let a = c.args in
    let k = in_row (length a.t.now) (length a.t.now) l.q 0 (omega arith) (omega arith) in
    omega arith

pub overflow_add-q : goal.overflow_add-q
overflow_add-q c =
    let l = c.loop-q in
    let a = c.args in
    let k = in_row (length a.t.now) (length a.t.now) l.q (a.first + 17) (omega arith) (omega arith) in
    omega arith

pub share18-n-requires : goal.share18-n-requires
share18-n-requires c =
    let l = c.loop-q in
    let a = c.args in
    let k = in_row (length a.t.now) (length a.t.now) l.q (a.first + 17) (omega arith) (omega arith) in
    omega arith

pub loop-q-preserved : goal.loop-q-preserved
loop-q-preserved c =
    let l = c.loop-q in
    let a = c.args in
    (omega arith, sums-more 18 (length a.t.now) a.first a.c.now a.t.now l.q _ _ refl refl l.invariant.1 c.share18-n.ensures)

pub returns : goal.returns
returns c =
    let l = c.loop-q in
    let a = c.args in
    let i : l.q ≡ length a.t.now = omega arith in
    l.invariant.1 ∙ ap (λ k. sums 18 k (length a.t.now) a.first a.c.now a.t.now) i
