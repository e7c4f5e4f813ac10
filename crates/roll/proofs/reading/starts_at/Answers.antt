use mathlib.Core.Path.{◌≡◌, ◌∙◌, subst}
use mathlib.Core.Bool.{false}
use Prim.Native.Nat.{◌<◌}
use native.Mathlib.Omega.{arith}
use lib.Dec.{eqb}
use borrow.Author.Tests.{eq-eqb, ne_eqb}
use borrow.Author.Count.{below_none, below_more}
use Rattle.roll.specs.Reading.{record_start, is_start, count_of}
use Rattle.roll.specs.StartLaws.{start_first, next_start, one-passed, all_failed}
use Rattle.roll.specs.HoldingLaws.{count_is, framed-eight}
use Rattle.roll.specs.StepLaws.{inside}
use Rattle.roll.proofs.reading.starts_at.Goals as goal

pub loop-init : goal.loop-init
loop-init c = (start_first c.args.b.now, below_none _)

pub returns-then-p-at : goal.returns-then-p-at
unfolding is_start
returns-then-p-at c =
    let b = c.args.b.now in
    let l = c.loop in
    let e = count_is b c.count_in-n.ensures.0 in
    let met : record_start b l.counter ≡ c.args.at = omega (arith, l.invariant.0, c.if-p-at.true) in
    one-passed (count_of b) (λ k. eqb (record_start b k) c.args.at) l.counter (subst (λ n. l.counter < n) e c.loop-test.true) (eq-eqb (record_start b l.counter) c.args.at met)

pub record_end-p-requires : goal.record_end-p-requires
record_end-p-requires c =
    let l = c.loop in
    (inside c.args.b.now c.requires l.counter l.p (subst (λ n. l.counter < n) (count_is c.args.b.now c.count_in-n.ensures.0) c.loop-test.true) l.invariant.0).1

pub loop-preserved : goal.loop-preserved
loop-preserved c =
    let b = c.args.b.now in
    let l = c.loop in (
      next_start b l.counter l.p c.record_end-p.result l.invariant.0 c.record_end-p.ensures,
      below_more (λ k. eqb (record_start b k) c.args.at ≡ false) l.counter l.invariant.1 (ne_eqb (record_start b l.counter) c.args.at (λ e. c.if-p-at.false (l.invariant.0 ∙ e))),
    )

pub returns : goal.returns
unfolding is_start
returns c =
    let b = c.args.b.now in
    let l = c.loop in
    let e = count_is b c.count_in-n.ensures.0 in
    all_failed (count_of b) (λ k. eqb (record_start b k) c.args.at) (λ k h. l.invariant.1 k (omega arith))

pub count_in-n-requires : goal.count_in-n-requires
count_in-n-requires c =
    (framed-eight c.args.b.now c.requires, omega arith)
