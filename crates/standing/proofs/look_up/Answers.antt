use Rattle.std.proofs.Common.{◌<◌, sym}
use Rattle.roll.specs.Reading.{entry_at, count_of}
use Rattle.standing.specs.Register.{replaces}
use Rattle.standing.proofs.Laws.{numbered}
use Rattle.standing.proofs.Replacers.{noted-by, small-by, named-by}
use mathlib.Core.Path.{◌≡◌, ap, subst}
use mathlib.Core.Bool.{Bool, ◌||◌}
use Prim.Native.Nat.{ℕ}
use native.Mathlib.Omega.{arith}
use Rattle.roll.specs.StartLaws.{start_first, next_start}
use Rattle.standing.specs.Walk.{Notes, record_of, register_after, set_or_zero, notes_none, notes_more, inside}
use Rattle.standing.proofs.look_up.Goals as goal

pub loop-init : goal.loop-init
loop-init c =
    (start_first c.args.b.now, notes_none c.args.b.now c.args.x, tt)

pub delivers_at-delivered-requires : goal.delivers_at-delivered-requires
delivers_at-delivered-requires c =
    let l = c.loop in
    let r = inside c.args.b.now c.requires.0 l.counter l.p (omega (arith, c.loop-test.true, c.requires.1)) l.invariant.0 in
    omega (arith, r.0, r.1)

pub retires_at-retired-requires : goal.retires_at-retired-requires
retires_at-retired-requires c =
    let l = c.loop in
    let r = inside c.args.b.now c.requires.0 l.counter l.p (omega (arith, c.loop-test.true, c.requires.1)) l.invariant.0 in
    omega (arith, r.0, r.1)

pub replacer-requires : goal.replacer-requires
replacer-requires c =
    let l = c.loop in
    (inside c.args.b.now c.requires.0 l.counter l.p (omega (arith, c.loop-test.true, c.requires.1)) l.invariant.0).1

pub record_end-p-requires : goal.record_end-p-requires
record_end-p-requires c =
    let l = c.loop in
    (inside c.args.b.now c.requires.0 l.counter l.p (omega (arith, c.loop-test.true, c.requires.1)) l.invariant.0).1

pub loop-preserved : goal.loop-preserved
unfolding record_of
loop-preserved c =
    let b = c.args.b.now in
    let l = c.loop in
    let t = replaces (entry_at b l.p) c.args.x in
    let m = (entry_at b l.p).number in
    let h : l.counter < count_of b = omega (arith, c.loop-test.true, c.requires.1) in
    let named : 0 < m = subst (λ (p : ℕ). 0 < (entry_at b p).number) (sym l.invariant.0) (numbered b c.requires.0 l.counter h) in (
      next_start b l.counter l.p c.record_end-p.result l.invariant.0 c.record_end-p.ensures,
      notes_more b l.counter c.args.x l.p l.invariant.0 l.invariant.1
          (ap (λ (z : Bool). l.delivered || z) c.delivers_at-delivered.ensures)
          (ap (λ (z : Bool). l.retired || z) c.retires_at-retired.ensures)
          (noted-by t m l.by c.replacer.ensures.0 c.or-by.ensures)
          (small-by t m l.by c.replacer.ensures.0 c.or-by.ensures _ c.replacer.ensures.1 l.invariant.1.small),
      named-by t m l.by c.replacer.ensures.0 c.or-by.ensures named l.invariant.2,
    )

pub returns : goal.returns
returns c =
    let l = c.loop in
    let e : l.counter ≡ c.args.n = omega arith in
    record {
      notes = subst (λ (m : ℕ). Notes (register_after (record_of c.args.b.now) m) c.args.x l.delivered l.retired (set_or_zero l.by)) e l.invariant.1;
      named = l.invariant.2;
    }
