use mathlib.Core.Bool.{true≢false}
use mathlib.Core.Path.{◌≡◌, sym}
use Prim.Native.Nat.{◌+◌, ◌*◌}
use native.Mathlib.Omega.{arith}
use borrow.Author.Count.{below_none}
use Rattle.lists.specs.Tests.{not-both}
use Rattle.tables.proofs.Loops.{four-more, all_of_lem}
use Rattle.shifts.specs.Rows.{image}
use Rattle.shifts.proofs.rows.is_after.Goals as goal

pub loop-f-init : goal.loop-f-init
loop-f-init c = below_none _

pub agrees_at_four-requires : goal.agrees_at_four-requires
agrees_at_four-requires c = let p = c.requires in (p.0, p.1, p.2, p.3, omega arith)

pub loop-f-preserved : goal.loop-f-preserved
loop-f-preserved c =
    let a = c.args in
    let l = c.loop-f in
    λ k h. four-more (λ k. image a.tables.now.perms.now a.tables.now.n_satom a.u (image a.tables.now.perms.now a.tables.now.n_satom a.t k) ≡ image a.tables.now.perms.now a.tables.now.n_satom a.v k) (l.f * 4) l.invariant (c.agrees_at_four.ensures.0 c.if-not-agrees_at_four.false) k (omega arith)

pub returns-then-not-agrees_at_four : goal.returns-then-not-agrees_at_four
returns-then-not-agrees_at_four c =
    (λ q. absurd (true≢false (sym q)), λ f. absurd (not-both (c.agrees_at_four.ensures.1 (λ k h. f (c.loop-f.f * 4 + k) (omega arith))) c.if-not-agrees_at_four.true))

pub agrees_from-requires : goal.agrees_from-requires
agrees_from-requires c = let p = c.requires in (p.0, p.1, p.2, p.3, omega arith)

pub returns : goal.returns
returns c =
    let a = c.args in
    let l = c.loop-f in (
      λ q. all_of_lem (λ k. image a.tables.now.perms.now a.tables.now.n_satom a.u (image a.tables.now.perms.now a.tables.now.n_satom a.t k) ≡ image a.tables.now.perms.now a.tables.now.n_satom a.v k) (l.f * 4) a.tables.now.n_satom l.invariant (λ k g h. c.agrees_from.ensures.0 q k (omega arith) h),
      λ f. c.agrees_from.ensures.1 (λ k g h. f k h),
    )
