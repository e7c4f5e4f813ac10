use mathlib.Core.Path.{◌≡◌, refl, sym, ap, ◌∙◌}
use Prim.Native.Nat.{ℕ}
use native.Mathlib.Omega.{arith}
use lib.ListN.{length-set}
use Rattle.standing.specs.PlacingLaws.{under_way, begun, goes_on, ended}
use Rattle.standing.proofs.retire.place.Goals as goal

pub loop-i-init : goal.loop-i-init
loop-i-init c = let a = c.args in (refl, begun a.list.now a.m a.y)

pub loop-i-preserved : goal.loop-i-preserved
loop-i-preserved c =
    let l = c.loop-i in (
      length-set l.list l.i _ ∙ l.invariant.0,
      goes_on l.list c.args.m l.i l.on _ _ c.loop-i-test.true (omega (arith, c.requires, l.invariant.0)) c.min.ensures c.max-on.ensures ∙ l.invariant.1,
    )

pub returns : goal.returns
returns c =
    let l = c.loop-i in
    let i : l.i ≡ c.args.m = omega arith in
    ended l.list c.args.m l.on (omega (arith, c.requires, l.invariant.0)) ∙ ap (λ (j : ℕ). under_way l.list c.args.m j l.on) (sym i) ∙ l.invariant.1
