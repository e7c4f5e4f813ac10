use mathlib.Core.Bool.{true, true≢false}
use mathlib.Core.Path.{◌≡◌, sym, ◌∙◌}
use Prim.Native.Nat.{◌+◌, ◌*◌}
use native.Mathlib.Omega.{arith}
use lib.ListN.{length, get_or}
use borrow.Author.Count.{below_none}
use Rattle.lists.specs.Tests.{not-both}
use Rattle.tables.specs.Conditions.{below}
use lib.IntN.{pos}
use mir.Syntax.{w64}
use mir.ValLaws.{to_z-of_z}
use Rattle.tables.proofs.Loops.{four-more, all_of_lem}
use Rattle.tables.proofs.index.fours_below.Goals as goal

pub loop-f-init : goal.loop-f-init
loop-f-init c = below_none _

pub four_within-requires : goal.four_within-requires
four_within-requires c = (to_z-of_z w64 c.args.m c.ranges.m ∙ c.requires, omega arith)

pub loop-f-preserved : goal.loop-f-preserved
loop-f-preserved c =
    let a = c.args in
    let l = c.loop-f in
    λ k h. four-more (λ k. below a.n (get_or a.t.now k (pos 0)) ≡ true) (l.f * 4) l.invariant (c.four_within.ensures.0 c.if-not-four_within.false) k (omega arith)

pub returns-then-not-four_within : goal.returns-then-not-four_within
returns-then-not-four_within c =
    (λ q. absurd (true≢false (sym q)), λ f. absurd (not-both (c.four_within.ensures.1 (λ k h. f (c.loop-f.f * 4 + k) (omega arith))) c.if-not-four_within.true))

pub returns : goal.returns
returns c =
    let a = c.args in
    let l = c.loop-f in (
      λ q. all_of_lem (λ k. below a.n (get_or a.t.now k (pos 0)) ≡ true) (l.f * 4) (length a.t.now) l.invariant (λ k g h. c.rest_below.ensures.0 q k (omega arith) h),
      λ f. c.rest_below.ensures.1 (λ k g h. f k h),
    )
