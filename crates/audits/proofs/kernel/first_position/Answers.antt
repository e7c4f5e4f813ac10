use Prim.Native.Nat.{ℕ}
use native.Mathlib.Omega.{arith}
use mathlib.Core.Path.{◌≡◌, subst}
use lib.ListN.{length}
use Rattle.lists.specs.Lowest.{Lowest, is_lowest}
use Rattle.audits.specs.Kernel.{another, position_to, first-none, one_more}
use Rattle.audits.proofs.kernel.first_position.Goals as goal

pub loop-i-init : goal.loop-i-init
loop-i-init c = first-none c.requires c.args.fc.now

pub first_unlike-until-requires : goal.first_unlike-until-requires
first_unlike-until-requires c = (c.requires, c.loop-i-test.true, c.loop-i.invariant.within)

pub loop-i-preserved : goal.loop-i-preserved
loop-i-preserved c =
    let l = c.loop-i in
    let a = c.args in
    one_more a.width l.until _ l.i (another a.width a.bs.now a.t.now a.fc.now a.b) l.invariant c.first_unlike-until.ensures

pub returns : goal.returns
returns c =
    let l = c.loop-i in
    let a = c.args in
    let e : l.i ≡ length a.bs.now = omega (arith, c.requires.more) in
    is_lowest a.width _ l.until (subst (λ (n : ℕ). Lowest a.width (position_to a.width a.bs.now a.t.now a.fc.now a.b n) l.until) e l.invariant)
