use mathlib.Core.Path.{◌≡◌, refl, sym, ap, ◌∙◌}
use native.Mathlib.Omega.{arith}
use lib.ListN.{length}
use lib.Seq.{length-take-le}
use Rattle.roll.specs.StartLaws.{start_first, next_start}
use Rattle.roll.specs.HoldingLaws.{is_sized}
use Rattle.standing.specs.Walk.{record_of, inside}
use Rattle.standing.specs.Steps.{waits_at, gathered_to}
use Rattle.standing.proofs.StepsLaws.{gathered-no, gathered-one}
use Rattle.standing.proofs.retire.gather.Goals as goal

pub loop-init : goal.loop-init
loop-init c = let a = c.args in (omega arith, start_first a.b.now, refl, gathered-no a.b.now _ a.list.now)

pub waits-requires : goal.waits-requires
waits-requires c =
    let l = c.loop in
    let r = inside c.args.b.now c.requires.0 l.counter l.p (omega (arith, c.loop-test.true, c.requires.1)) l.invariant.1 in
    (c.requires.0, c.requires.1, r.1)

pub place_if-m-requires : goal.place_if-m-requires
place_if-m-requires c =
    let l = c.loop in
    omega (arith, c.loop-test.true, l.invariant.0, l.invariant.2, c.requires.1, c.requires.2, (is_sized c.args.b.now c.requires.0).few)

pub record_end-p-requires : goal.record_end-p-requires
record_end-p-requires c =
    let l = c.loop in
    (inside c.args.b.now c.requires.0 l.counter l.p (omega (arith, c.loop-test.true, c.requires.1)) l.invariant.1).1

pub loop-preserved : goal.loop-preserved
loop-preserved c =
    let b = c.args.b.now in
    let l = c.loop in (
      omega (arith, l.invariant.0, c.place_if-m.ensures.0),
      next_start b l.counter l.p c.record_end-p.result l.invariant.1 c.record_end-p.ensures,
      c.place_if-m.auto.list ∙ l.invariant.2,
      gathered-one b (waits_at (record_of b) c.args.n c.args.last) l.counter l.p l.invariant.1 l.invariant.3 c.set_at.ensures.0 c.waits.ensures c.place_if-m.ensures.1,
    )

pub returns : goal.returns
returns c =
    let b = c.args.b.now in
    let l = c.loop in
    let i : l.counter ≡ c.args.n = omega arith in
    let e = l.invariant.3 ∙ ap (gathered_to (waits_at (record_of b) c.args.n c.args.last) (record_of b)) i in
    (omega (arith, l.invariant.0, i), e, ap length (sym e) ∙ length-take-le l.m l.list (omega (arith, l.invariant.0, l.invariant.2, i, c.requires.1, c.requires.2, (is_sized b c.requires.0).few)))

pub set_at-requires : goal.set_at-requires
set_at-requires c =
    let l = c.loop in
    (inside c.args.b.now c.requires.0 l.counter l.p (omega (arith, c.loop-test.true, c.requires.1)) l.invariant.1).1
