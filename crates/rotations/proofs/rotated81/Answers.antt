use mathlib.Core.Path.{◌≡◌, refl, ◌∙◌}
use Prim.Native.Nat.{◌*◌}
use native.Mathlib.Omega.{arith}
use borrow.Author.Count.{below_none}
use Rattle.rotations.specs.Laws.{fill-part, filled-sums, sized, sums-width}
use borrow.Author.Rules.{rules}
use Rattle.rotations.proofs.rotated81.Goals as goal

pub loop-h-init : goal.loop-h-init
loop-h-init c = (omega arith, refl, below_none _)

pub sums18-s-requires : goal.sums18-s-requires
sums18-s-requires c =
    let l = c.loop-h in
    sized 81 (l.h * 18) 18 (search rules) (search rules) (omega arith) (omega arith)

pub write18-requires : goal.write18-requires
write18-requires c =
    let l = c.loop-h in
    omega (arith, l.invariant.1)

pub loop-h-preserved : goal.loop-h-preserved
loop-h-preserved c =
    let l = c.loop-h in
    let a = c.args in (
      omega arith,
      c.write18.auto.r ∙ l.invariant.1,
      λ k h. fill-part 81 18 l.h (l.h * 18) a.c.now a.t l.r refl (omega (arith, l.invariant.1)) (sums-width 18 81 (l.h * 18) a.c.now a.t (search rules) c.sums18-s.ensures) c.write18.ensures l.invariant.2 k (omega arith),
    )

pub sums9-s-requires : goal.sums9-s-requires
sums9-s-requires c = sized 81 72 9 (search rules) (search rules) (omega arith) (omega arith)

pub write9-requires : goal.write9-requires
write9-requires c =
    let l = c.loop-h in
    omega (arith, l.invariant.1)

pub returns : goal.returns
returns c =
    let l = c.loop-h in
    let a = c.args in
    let i : l.h ≡ 4 = omega arith in
    filled-sums 81 a.c.now a.t _ (c.write9.auto.fc ∙ l.invariant.1)
    (fill-part 81 9 8 72 a.c.now a.t l.r refl (omega (arith, l.invariant.1)) (sums-width 9 81 72 a.c.now a.t (search rules) c.sums9-s.ensures) c.write9.ensures
    (λ k h. l.invariant.2 k (omega arith)))
