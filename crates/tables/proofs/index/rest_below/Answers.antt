use mathlib.Core.Path.{◌≡◌, refl, sym, ◌∙◌}
use mathlib.Core.Bool.{true, true≢false}
use Prim.Native.Nat.{◌≤◌}
use native.Mathlib.Omega.{arith}
use lib.ListN.{get_or}
use lib.IntN.{pos}
use borrow.Author.Count.{below_more}
use Rattle.lists.specs.Tests.{not-both}
use Rattle.tables.specs.Conditions.{below}
use Rattle.tables.proofs.Integers.{handed}
use Rattle.tables.proofs.index.rest_below.Goals as goal

pub loop-i-init : goal.loop-i-init
loop-i-init c = λ k h g. absurd (omega arith)

pub loop-i-preserved : goal.loop-i-preserved
loop-i-preserved c =
    let l = c.loop-i in
    let a = c.args in
    let e = handed (λ z. c.is_below.result ≡ below a.n z) a.t.now l.i c.is_below-arg-1.given c.is_below.ensures in
    below_more (λ k. a.start ≤ k → below a.n (get_or a.t.now k (pos 0)) ≡ true) l.i l.invariant (λ _. sym e ∙ c.if-not-is_below.false)

pub returns-then-not-is_below : goal.returns-then-not-is_below
returns-then-not-is_below c =
    let l = c.loop-i in
    let a = c.args in
    let e = handed (λ z. c.is_below.result ≡ below a.n z) a.t.now l.i c.is_below-arg-1.given c.is_below.ensures in
    (λ q. absurd (true≢false (sym q)), λ f. absurd (not-both (f l.i (omega arith) c.loop-i-test.true) (sym e ∙ c.if-not-is_below.true)))

pub returns : goal.returns
returns c = (λ _ k g h. c.loop-i.invariant k (omega arith) g, λ _. refl)
