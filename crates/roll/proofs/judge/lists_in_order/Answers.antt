use mathlib.Core.Path.{◌≡◌, sym, ap, ◌∙◌, subst}
use mathlib.Core.Bool.{true, false, ◌&&◌}
use Prim.Native.Nat.{◌+◌}
use native.Mathlib.Omega.{arith}
use borrow.Author.Count.{below_none, below_more}
use borrow.Author.Tests.{eq-eqb, ne_eqb}
use lib.Dec.{eqb, leb}
use Rattle.lists.specs.Tests.{every, every_of}
use Rattle.roll.specs.Reading.{record_start, size_at, ruled_at, follow, listed}
use Rattle.roll.specs.StartLaws.{start_first, next_start, fit_says, not_fitting, following, listed_is, one_failed}
use Rattle.roll.specs.HoldingLaws.{no-and, and_no, and_yes}
use Rattle.roll.proofs.judge.lists_in_order.Goals as goal

pub loop-i-init : goal.loop-i-init
loop-i-init c = let b = c.args.b.now in (start_first b, omega arith, below_none _, below_none _)

pub returns-then-not-fits : goal.returns-then-not-fits
returns-then-not-fits c =
    let a = c.args in
    let b = a.b.now in
    let l = c.loop-i in
    no-and (follow b a.n a.t) (every a.n (λ i. eqb (listed b i) (record_start b i))) (sym (not_fitting b a.n a.t l.i c.loop-i-test.true
    (subst (λ x. (leb (x + size_at b x) a.t && ruled_at b x) ≡ false) l.invariant.0 (sym c.if-not-fits.ensures))))

pub returns-then-four-p : goal.returns-then-four-p
returns-then-four-p c =
    let a = c.args in
    let b = a.b.now in
    let l = c.loop-i in
    let e = listed_is b a.t l.i _ _ c.requires.1 c.listed_at.ensures c.four.ensures.0 in
    and_no (follow b a.n a.t) (every a.n (λ i. eqb (listed b i) (record_start b i)))
    (one_failed a.n (λ i. eqb (listed b i) (record_start b i)) l.i c.loop-i-test.true
    (ne_eqb (listed b l.i) (record_start b l.i) (λ q. omega (arith, e, q, l.invariant.0, c.if-four-p.true))))

pub record_end-p-requires : goal.record_end-p-requires
record_end-p-requires c =
    let a = c.args in
    let f = fit_says a.b.now c.loop-i.p a.t (sym c.if-not-fits.ensures) in
    omega (arith, f.0)

pub loop-i-preserved : goal.loop-i-preserved
loop-i-preserved c =
    let a = c.args in
    let b = a.b.now in
    let l = c.loop-i in
    let f = fit_says b l.p a.t (sym c.if-not-fits.ensures) in
    let z = c.record_end-p.ensures in
    let e = listed_is b a.t l.i _ _ c.requires.1 c.listed_at.ensures c.four.ensures.0 in (
      next_start b l.i l.p c.record_end-p.result l.invariant.0 z,
      omega (arith, z, f.1),
      below_more (λ k. ruled_at b (record_start b k) ≡ true) l.i l.invariant.2 (subst (λ x. ruled_at b x ≡ true) l.invariant.0 f.2),
      below_more (λ k. eqb (listed b k) (record_start b k) ≡ true) l.i l.invariant.3 (eq-eqb (listed b l.i) (record_start b l.i) (omega (arith, e, c.if-four-p.false, l.invariant.0))),
    )

pub returns : goal.returns
returns c =
    let a = c.args in
    let b = a.b.now in
    let l = c.loop-i in
    let i : l.i ≡ a.n = omega arith in
    and_yes (follow b a.n a.t) (every a.n (λ i. eqb (listed b i) (record_start b i)))
    (ap (λ x. eqb x a.t) (l.invariant.0 ∙ ap (record_start b) i) ∙ following b a.n a.t (λ k h. l.invariant.2 k (omega arith)))
    (every_of a.n (λ i. eqb (listed b i) (record_start b i)) (λ k h. l.invariant.3 k (omega arith)))
