use Rattle.std.proofs.Common.{sym}
use mathlib.Core.Path.{◌≡◌}
use mathlib.Core.Bool.{true}
use native.Mathlib.Omega.{arith}
use borrow.Author.Count.{below_none, below_more}
use Rattle.roll.specs.StartLaws.{start_first, next_start, one_failed, all-passed}
use Rattle.standing.specs.Register.{allowed}
use Rattle.standing.specs.Walk.{record_of, register_after, lawful_to, inside}
use Rattle.standing.proofs.is_lawful.Goals as goal

pub loop-i-init : goal.loop-i-init
loop-i-init c =
    (start_first c.args.b.now, below_none _)

pub is_allowed-requires : goal.is_allowed-requires
is_allowed-requires c =
    let l = c.loop-i in
    (c.requires.0, omega (arith, c.loop-i-test.true, c.requires.1), l.invariant.0)

pub returns-then-not-is_allowed : goal.returns-then-not-is_allowed
unfolding lawful_to
returns-then-not-is_allowed c =
    let b = c.args.b.now in
    let l = c.loop-i in
    one_failed c.args.n (λ k. allowed (register_after (record_of b) k) (record_of b k)) l.i c.loop-i-test.true (sym c.if-not-is_allowed.ensures)

pub record_end-p-requires : goal.record_end-p-requires
record_end-p-requires c =
    let l = c.loop-i in
    (inside c.args.b.now c.requires.0 l.i l.p (omega (arith, c.loop-i-test.true, c.requires.1)) l.invariant.0).1

pub loop-i-preserved : goal.loop-i-preserved
loop-i-preserved c =
    let b = c.args.b.now in
    let l = c.loop-i in (
      next_start b l.i l.p c.record_end-p.result l.invariant.0 c.record_end-p.ensures,
      below_more (λ k. allowed (register_after (record_of b) k) (record_of b k) ≡ true) l.i l.invariant.1 (sym c.if-not-is_allowed.ensures),
    )

pub returns : goal.returns
unfolding lawful_to
returns c =
    let b = c.args.b.now in
    let l = c.loop-i in
    all-passed c.args.n (λ k. allowed (register_after (record_of b) k) (record_of b k)) (λ k h. l.invariant.1 k (omega arith))
