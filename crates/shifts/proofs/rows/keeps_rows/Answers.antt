use mathlib.Core.Bool.{true≢false}
use mathlib.Core.Path.{refl, sym}
use native.Mathlib.Omega.{arith}
use borrow.Author.Count.{below_more}
use Rattle.lists.specs.Tests.{not-both}
use Rattle.shifts.specs.Loops.{KeepsAt}
use Rattle.shifts.proofs.rows.keeps_rows.Goals as goal

pub loop-a-init : goal.loop-a-init
loop-a-init c = λ k h. absurd (omega arith)

pub keeps_row-requires : goal.keeps_row-requires
keeps_row-requires c = (c.requires.0, c.requires.1, c.loop-a-test.true)

pub loop-a-preserved : goal.loop-a-preserved
loop-a-preserved c =
    let l = c.loop-a in
    let a = c.args in
    below_more (λ k. KeepsAt a.tables.now.n_satom a.tables.now.perms.now a.tables.now.p2s.now a.tables.now.s2pp.now a.sent.now a.g k) l.a l.invariant (c.keeps_row.ensures.0 c.if-not-keeps_row.false)

pub returns-then-not-keeps_row : goal.returns-then-not-keeps_row
returns-then-not-keeps_row c = (λ q. absurd (true≢false (sym q)), λ f. absurd (not-both (c.keeps_row.ensures.1 (f c.loop-a.a c.loop-a-test.true)) c.if-not-keeps_row.true))

pub returns : goal.returns
returns c = (λ _ k h. c.loop-a.invariant k (omega arith), λ _. refl)
