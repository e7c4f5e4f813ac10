use Rattle.roll.specs.Reading.{entry_at}
use Rattle.standing.specs.Register.{replaces}
use Rattle.standing.proofs.Replacers.{moved-by, cond_below}
use mathlib.Core.Path.{◌≡◌, ap, ◌∙◌}
use Prim.Native.Nat.{ℕ}
use native.Mathlib.Omega.{arith}
use Rattle.roll.specs.StartLaws.{start_first, next_start}
use Rattle.standing.specs.Walk.{record_of, inside}
use Rattle.standing.specs.Chains.{carried}
use Rattle.standing.proofs.EndLaws.{carried_none, carried-more}
use Rattle.standing.proofs.end_of.Goals as goal

pub loop-init : goal.loop-init
loop-init c = (start_first c.args.b.now, carried_none c.args.b.now c.args.x, c.requires.2)

pub replacer-requires : goal.replacer-requires
replacer-requires c =
    let l = c.loop in
    (inside c.args.b.now c.requires.0 l.counter l.p (omega (arith, c.loop-test.true, c.requires.1)) l.invariant.0).1

pub record_end-p-requires : goal.record_end-p-requires
record_end-p-requires c =
    let l = c.loop in
    (inside c.args.b.now c.requires.0 l.counter l.p (omega (arith, c.loop-test.true, c.requires.1)) l.invariant.0).1

pub loop-preserved : goal.loop-preserved
loop-preserved c =
    let b = c.args.b.now in
    let l = c.loop in
    let z = moved-by (replaces (entry_at b l.p) l.y) (entry_at b l.p).number l.y c.replacer.ensures.0 c.unwrap_or-y.ensures in (
      next_start b l.counter l.p c.record_end-p.result l.invariant.0 c.record_end-p.ensures,
      carried-more b l.counter l.p c.args.x l.y l.invariant.0 l.invariant.1 z,
      rw z (cond_below (replaces (entry_at b l.p) l.y) c.replacer.ensures.1 l.invariant.2),
    )

pub returns : goal.returns
returns c =
    let l = c.loop in
    let i : l.counter ≡ c.args.n = omega arith in
    (l.invariant.1 ∙ ap (λ (k : ℕ). carried (record_of c.args.b.now) k c.args.x) i, l.invariant.2)
