use Prim.Native.Nat.{◌+◌, ◌*◌}
use native.Mathlib.Omega.{arith}
use mathlib.Core.Path.{◌≡◌, sym, ap, ◌∙◌}
use Rattle.lists.specs.Tab.{times_none, times_more}
use Rattle.lines.specs.Sums3x3.{zeros}
use Rattle.lines.specs.Lines.{line_sums}
use Rattle.drift.specs.Loops.{look_line}
use Rattle.drift.specs.Laws.{line_calm}
use Rattle.drift.specs.Lines.{look_leg, square, step_pos, line_in, first_small}
use Rattle.drift.proofs.third.look_leg.Goals.{then-not-calm, else-not-calm}
use Rattle.drift.proofs.third.look_leg.Goals as goal

pub overflow_mul-count : goal.overflow_mul-count
overflow_mul-count c = let g = square c.args.n c.requires.0.few in omega arith

pub overflow_mul-count-2 : goal.overflow_mul-count-2
overflow_mul-count-2 c = let g = square c.args.n c.requires.0.few in omega arith

pub loop-e-init : goal.loop-e-init
loop-e-init c = (omega arith, times_none _ _)

pub first_nine-first-requires : goal.first_nine-first-requires
first_nine-first-requires c =
    let A = c.requires.0 in
    let e = c.loop-e.e in
    let h = c.loop-e-test.true in
    let f = first_small A e h in
    (step_pos A e h, f.1, f.0)

pub overflow_mul-step : goal.overflow_mul-step
overflow_mul-step c =
    let f = (first_small c.requires.0 c.loop-e.e c.loop-e-test.true).2 in
    omega arith

pub line_sums-s-requires : goal.line_sums-s-requires
line_sums-s-requires c =
    rw c.first_nine-first.ensures (line_in c.requires.0 c.loop-e.e c.loop-e-test.true)

pub overflow_step-e : goal.overflow_step-e
overflow_step-e c =
    let g = square c.args.n c.requires.0.few in
    let t = c.loop-e-test.true in
    omega arith

pub overflow_add-from : goal.overflow_add-from
overflow_add-from c =
    let g = square c.args.n c.requires.0.few in
    let b = c.requires.1 in
    let t = c.loop-e-test.true in
    omega arith

pub look_line-more-requires : goal.look_line-more-requires
look_line-more-requires c =
    let g = square c.args.n c.requires.0.few in
    let b = c.requires.1 in
    let t = c.loop-e-test.true in
    omega arith

pub loop-e-preserved : goal.loop-e-preserved
loop-e-preserved c =
    let l = c.loop-e in
    let a = c.args in
    let f : c.if-not-calm.seen ≡ look_line (a.from + l.e) c.line_sums-s.result l.seen =
    elim c.if-not-calm.branch [
      | then-not-calm w ↦ w.seen-is ∙ w.look_line-more.ensures
      | else-not-calm w ↦ w.seen-is ∙ line_calm (a.from + l.e) c.line_sums-s.result l.seen (sym c.calm.ensures ∙ w.if-not-calm.false)
    ] in
    (omega arith, times_more l.e _ _ l.invariant.1 (f ∙ ap (λ s. look_line (a.from + l.e) s l.seen) (c.line_sums-s.ensures ∙ ap (λ b. line_sums b (a.step * 3) a.n a.fc.now zeros) c.first_nine-first.ensures)))

pub returns : goal.returns
unfolding look_leg
returns c =
    let l = c.loop-e in
    let n = c.args.n in
    let i : l.e ≡ n * n * 3 = omega arith in
    l.invariant.1 ∙ rw i
