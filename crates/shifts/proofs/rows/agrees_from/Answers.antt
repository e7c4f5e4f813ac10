use mathlib.Core.Bool.{true≢false}
use mathlib.Core.Path.{◌≡◌, refl, sym}
use Prim.Native.Nat.{◌≤◌}
use native.Mathlib.Omega.{arith}
use borrow.Author.Count.{below_more}
use Rattle.lists.specs.Tests.{not-both}
use Rattle.shifts.specs.Rows.{image}
use Rattle.shifts.proofs.rows.agrees_from.Goals as goal

pub loop-a-init : goal.loop-a-init
loop-a-init c = λ k h g. absurd (omega arith)

pub agrees_at-requires : goal.agrees_at-requires
agrees_at-requires c = let p = c.requires in (p.0, p.1, p.2, p.3, c.loop-a-test.true)

pub loop-a-preserved : goal.loop-a-preserved
loop-a-preserved c =
    let a = c.args in
    let l = c.loop-a in
    below_more (λ k. a.start ≤ k → image a.tables.now.perms.now a.tables.now.n_satom a.u (image a.tables.now.perms.now a.tables.now.n_satom a.t k) ≡ image a.tables.now.perms.now a.tables.now.n_satom a.v k) l.a l.invariant (λ _. c.agrees_at.ensures.0 c.if-not-agrees_at.false)

pub returns-then-not-agrees_at : goal.returns-then-not-agrees_at
returns-then-not-agrees_at c = (λ q. absurd (true≢false (sym q)), λ f. absurd (not-both (c.agrees_at.ensures.1 (f c.loop-a.a (omega arith) c.loop-a-test.true)) c.if-not-agrees_at.true))

pub returns : goal.returns
returns c = (λ _ k g h. c.loop-a.invariant k (omega arith) g, λ _. refl)
