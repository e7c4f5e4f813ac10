use mathlib.Core.Path.{◌≡◌, sym, ap, ◌∙◌, subst}
use mathlib.Core.Bool.{true}
use Prim.Native.Nat.{◌+◌, ◌≤◌, ◌<◌}
use native.Mathlib.Omega.{arith}
use borrow.Author.Count.{below_none, below_more}
use lib.ListN.{get_or, set}
use Rattle.roll.specs.Reading.{record_start, listed_once}
use Rattle.roll.specs.Roll.{Marked}
use Rattle.roll.specs.StartLaws.{Open, all_open, one_shut, is_shut, is_open_lem, listed_is, not_listed, all-passed, one_failed}
use Rattle.roll.proofs.judge.lists_once.Goals as goal

pub loop-i-init : goal.loop-i-init
loop-i-init c =
    let a = c.args in
    let p = c.requires in
    (all_open a.b.now a.marks.now (subst (λ m. Marked a.b.now m a.marks.now) p.0 p.3), below_none _)

pub returns-then-t-x : goal.returns-then-t-x
returns-then-t-x c =
    let b = c.args.b.now in
    let t = c.args.t in
    let i = c.loop-i.i in
    let e = listed_is b t i _ _ c.requires.1 c.listed_at.ensures c.four-x.ensures.0 in
    let g = ap (record_start b) (sym c.requires.0) ∙ c.requires.2.ends in
    one_failed c.args.n (listed_once b) i c.loop-i-test.true (not_listed b t i g (subst (λ x. t ≤ x) e c.if-t-x.true))

pub returns-then-marks-x-eq0 : goal.returns-then-marks-x-eq0
returns-then-marks-x-eq0 c =
    let b = c.args.b.now in
    let l = c.loop-i in
    let e = listed_is b c.args.t l.i _ _ c.requires.1 c.listed_at.ensures c.four-x.ensures.0 in
    one_failed c.args.n (listed_once b) l.i c.loop-i-test.true (is_shut b l.i l.marks l.invariant.0 (ap (λ x. get_or l.marks x 0) (sym e) ∙ c.if-marks-x-eq0.true))

pub loop-i-preserved : goal.loop-i-preserved
loop-i-preserved c =
    let b = c.args.b.now in
    let l = c.loop-i in
    let e = listed_is b c.args.t l.i _ _ c.requires.1 c.listed_at.ensures c.four-x.ensures.0 in
    let small : c.four-x.result < 65536 = omega arith in (
      subst (λ x. Open b (l.i + 1) (set l.marks x 0)) (sym e) (one_shut b l.i l.marks (subst (λ x. x < 65536) e small) l.invariant.0),
      below_more (λ k. listed_once b k ≡ true) l.i l.invariant.1 (is_open_lem b l.i l.marks l.invariant.0 (λ z. c.if-marks-x-eq0.false (ap (λ x. get_or l.marks x 0) e ∙ z))),
    )

pub returns : goal.returns
returns c =
    let a = c.args in
    let l = c.loop-i in
    all-passed a.n (listed_once a.b.now) (λ k h. l.invariant.1 k (omega arith))
