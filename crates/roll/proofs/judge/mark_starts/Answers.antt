use mathlib.Core.Path.{◌≡◌, sym, ap, ◌∙◌, subst}
use mathlib.Core.Bool.{true, false, ◌&&◌, true≢false}
use Prim.Native.Nat.{◌+◌, ◌<◌}
use native.Mathlib.Omega.{arith}
use borrow.Author.Count.{below_none, below_more}
use lib.Dec.{eqb, leb}
use lib.ListN.{set}
use Rattle.roll.specs.Reading.{record_start, size_at, ruled_at}
use Rattle.roll.specs.Roll.{Marked}
use Rattle.roll.specs.StartLaws.{start_first, next_start, fit_says, not_fitting, following, none-marked, one-marked}
use Rattle.roll.proofs.judge.mark_starts.Goals as goal

pub loop-init : goal.loop-init
loop-init c =
    let a = c.args in
    let b = a.b.now in
    (start_first b, omega arith, subst (Marked b 0) (sym c.requires.2) (none-marked b), below_none _)

pub returns-then-not-fits : goal.returns-then-not-fits
returns-then-not-fits c =
    let a = c.args in
    let b = a.b.now in
    let l = c.loop in (
      not_fitting b a.n a.t l.counter c.loop-test.true
          (subst (λ x. (leb (x + size_at b x) a.t && ruled_at b x) ≡ false) l.invariant.0 (sym c.if-not-fits.ensures)),
      λ q. absurd (true≢false (sym q)),
    )

pub bounds-marks-at : goal.bounds-marks-at
bounds-marks-at c =
    let a = c.args in
    let f = fit_says a.b.now c.loop.at a.t (sym c.if-not-fits.ensures) in
    omega (arith, f.0)

pub record_end-at-requires : goal.record_end-at-requires
record_end-at-requires c =
    let a = c.args in
    let f = fit_says a.b.now c.loop.at a.t (sym c.if-not-fits.ensures) in
    omega (arith, f.0)

pub loop-preserved : goal.loop-preserved
loop-preserved c =
    let a = c.args in
    let b = a.b.now in
    let l = c.loop in
    let f = fit_says b l.at a.t (sym c.if-not-fits.ensures) in
    let z = c.record_end-at.ensures in
    let s : record_start b l.counter < 65536 = omega (arith, l.invariant.0) in (
      next_start b l.counter l.at c.record_end-at.result l.invariant.0 z,
      omega (arith, z, f.1),
      subst (λ x. Marked b (l.counter + 1) (set l.marks x 1)) (sym l.invariant.0) (one-marked b l.counter l.marks s l.invariant.2),
      below_more (λ k. ruled_at b (record_start b k) ≡ true) l.counter l.invariant.3 (subst (λ x. ruled_at b x ≡ true) l.invariant.0 f.2),
    )

pub returns : goal.returns
returns c =
    let a = c.args in
    let b = a.b.now in
    let l = c.loop in
    let i : l.counter ≡ a.n = omega arith in (
      ap (λ x. eqb x a.t) (l.invariant.0 ∙ ap (record_start b) i) ∙ following b a.n a.t (λ k h. l.invariant.3 k (omega arith)),
      λ q. subst (λ n. Marked b n l.marks) i l.invariant.2,
    )
