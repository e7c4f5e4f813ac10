use mathlib.Core.Path.{◌≡◌, refl, ◌∙◌}
use Prim.Native.Nat.{◌*◌}
use native.Mathlib.Omega.{arith}
use lib.Ieee.{nan}
use Rattle.lists.specs.Tab.{is_tab}
use Rattle.rotations.specs.Rotation.{widened}
use Rattle.rotations.proofs.widen.Goals as goal

pub loop-q-init : goal.loop-q-init
loop-q-init c = (omega arith, refl, λ k h. absurd (omega arith))

pub widen_row-requires : goal.widen_row-requires
widen_row-requires c =
    let l = c.loop-q in record { w_bound = (c.requires.0, omega arith, l.invariant.1 ∙ c.requires.1, c.requires.2); by_index = l.invariant.2 }

pub loop-q-preserved : goal.loop-q-preserved
loop-q-preserved c =
    let l = c.loop-q in
    let a = c.args in
    (omega arith, c.widen_row.auto.into ∙ l.invariant.1, λ k h. c.widen_row.ensures k (omega arith))

pub returns : goal.returns
unfolding widened
returns c =
    let l = c.loop-q in
    let i : l.q ≡ 3 * c.args.w = omega arith in
    is_tab nan _ _ l.into (l.invariant.1 ∙ c.requires.1) (λ k h. l.invariant.2 k (rw i h))
