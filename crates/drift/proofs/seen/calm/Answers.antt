use Prim.Native.Nat.{ℕ}
use native.Mathlib.Omega.{arith}
use mathlib.Core.Bool.{Bool, true}
use mathlib.Core.Path.{◌≡◌, sym, ◌∙◌}
use Rattle.lists.specs.Tests.{every, every-at, every_of, refuted, not-both}
use Rattle.lines.specs.Sums3x3.{sum_in}
use Rattle.reports.specs.Floats.{at_most}
use borrow.Author.Tests.{not-false, not-true}
use borrow.Author.Count.{below_more}
use Rattle.drift.proofs.seen.calm.Goals as goal

pub loop-p-init : goal.loop-p-init
loop-p-init c = (omega arith, λ k h. absurd (omega arith))

pub offset_bounds-s-row_of : goal.offset_bounds-s-row_of
offset_bounds-s-row_of c = let e = c.row_of.ensures in omega arith

pub offset_bounds-s-column_of : goal.offset_bounds-s-column_of
offset_bounds-s-column_of c = let e = c.column_of.ensures in omega arith

pub bounds-s-row_of : goal.bounds-s-row_of
bounds-s-row_of c = let e = c.row_of.ensures in omega arith

pub bounds-s-column_of : goal.bounds-s-column_of
bounds-s-column_of c = let e = c.column_of.ensures in omega arith

pub returns-then-not-within : goal.returns-then-not-within
returns-then-not-within c =
    let l = c.loop-p in
    let f : ℕ → Bool = λ k. at_most c.args.worst (sum_in c.args.s k) in
    let e : c.within.result ≡ f l.p = rw (c.column_of.ensures, c.row_of.ensures) at c.within.ensures in
    sym (refuted (every 9 f) (λ t. not-both (e ∙ every-at 9 f t l.p (omega arith)) (not-true c.within.result c.if-not-within.true-raw)))

pub loop-p-preserved : goal.loop-p-preserved
loop-p-preserved c =
    let l = c.loop-p in
    let f : ℕ → Bool = λ k. at_most c.args.worst (sum_in c.args.s k) in
    let e : c.within.result ≡ f l.p = rw (c.column_of.ensures, c.row_of.ensures) at c.within.ensures in
    (omega arith, below_more (λ k. f k ≡ true) l.p l.invariant.1 (sym e ∙ not-false c.within.result c.if-not-within.false-raw))

pub returns : goal.returns
returns c = let l = c.loop-p in sym (every_of 9 _ (λ k h. l.invariant.1 k (omega arith)))
