use Prim.Native.Nat.{◌+◌, ◌*◌}
use native.Mathlib.Omega.{arith}
use mathlib.Core.Path.{◌≡◌, sym, ap, ◌∙◌}
use Rattle.lists.specs.Tab.{times_none, times_more}
use Rattle.lines.specs.Sums3x3.{zeros}
use Rattle.lines.specs.Lines.{line_sums}
use Rattle.drift.specs.Loops.{look_line, look_lines}
use Rattle.drift.specs.Laws.{line_calm}
use Rattle.drift.proofs.full.look_lines.Goals.{then-not-calm, else-not-calm}
use Rattle.drift.proofs.full.look_lines.Goals as goal

pub loop-i-init : goal.loop-i-init
loop-i-init c = (omega arith, times_none _ _)

pub index_of-requires : goal.index_of-requires
index_of-requires c =
    omega (arith, (c.requires.2 c.loop-i.i c.loop-i-test.true).within 0 (omega arith))

pub line_sums-s-requires : goal.line_sums-s-requires
line_sums-s-requires c =
    let l = c.loop-i in
    let e : l.i * c.args.apart ≡ c.index_of.result = omega (arith, c.index_of.ensures) in
    rw (sym e) (c.requires.2 l.i c.loop-i-test.true)

pub overflow_add-first : goal.overflow_add-first
overflow_add-first c = omega (arith, c.requires.1)

pub look_line-more-requires : goal.look_line-more-requires
look_line-more-requires c = omega (arith, c.requires.0, c.requires.1)

pub loop-i-preserved : goal.loop-i-preserved
loop-i-preserved c =
    let l = c.loop-i in
    let a = c.args in
    let e : c.index_of.result ≡ l.i * a.apart = omega (arith, c.index_of.ensures) in
    let f : c.if-not-calm.seen ≡ look_line (a.first + l.i) c.line_sums-s.result l.seen =
    elim c.if-not-calm.branch [
      | then-not-calm w ↦ w.seen-is ∙ w.look_line-more.ensures
      | else-not-calm w ↦ w.seen-is ∙ line_calm (a.first + l.i) c.line_sums-s.result l.seen (sym c.calm.ensures ∙ w.if-not-calm.false)
    ] in
    (omega arith, times_more l.i _ _ l.invariant.1 (f ∙ ap (λ s. look_line (a.first + l.i) s l.seen) (c.line_sums-s.ensures ∙ ap (λ b. line_sums b a.step a.n a.fc.now zeros) e)))

pub returns : goal.returns
unfolding look_lines
returns c =
    let l = c.loop-i in
    let i : l.i ≡ c.args.n = omega arith in
    l.invariant.1 ∙ rw i
