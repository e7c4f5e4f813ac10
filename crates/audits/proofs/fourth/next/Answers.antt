use native.Mathlib.Omega.{arith}
use Prim.Native.Nat.{ℕ}
use mathlib.Core.Path.{◌≡◌, sym, ◌∙◌, subst}
use borrow.Author.Tests.{not-false}
use Rattle.audits.specs.Later.{Next, next-none, next_more}
use Rattle.audits.proofs.fourth.next.Goals as goal

pub loop-r-init : goal.loop-r-init
loop-r-init c = next-none c.args.n c.args.b c.args.count c.requires.0

pub falls-requires : goal.falls-requires
falls-requires c = let h = c.loop-r-test.true in c.requires.2 (omega arith)

pub returns-then-not-falls : goal.returns-then-not-falls
returns-then-not-falls c = c.loop-r.invariant

pub loop-r-preserved : goal.loop-r-preserved
loop-r-preserved c =
    let l = c.loop-r in
    next_more c.args.n c.args.b c.args.count l.r l.invariant c.loop-r-test.true (sym c.falls.ensures ∙ not-false c.falls.result c.if-not-falls.false-raw)

pub returns : goal.returns
returns c =
    let l = c.loop-r in
    let e : l.r ≡ c.args.count = omega (arith, c.requires.0) in
    subst (λ (r : ℕ). Next c.args.n c.args.b c.args.count r) e l.invariant
