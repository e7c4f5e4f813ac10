use native.Mathlib.Omega.{arith}
use mathlib.Core.Path.{◌≡◌, sym, ap, ◌∙◌}
use Rattle.lists.specs.Tab.{times_none, times_more}
use Rattle.drift.specs.Loops.{look_line}
use Rattle.drift.specs.Laws.{line_calm}
use Rattle.drift.specs.CompactLaws.{look_rows}
use Rattle.drift.proofs.compact.look_rows.Goals.{then-not-calm, else-not-calm}
use Rattle.drift.proofs.compact.look_rows.Goals as goal

pub loop-i-init : goal.loop-i-init
loop-i-init c = (omega arith, times_none _ _)

pub row_sums-s-requires : goal.row_sums-s-requires
row_sums-s-requires c = (c.requires, c.loop-i-test.true)

pub look_line-more-requires : goal.look_line-more-requires
look_line-more-requires c = let g = c.requires.tables.satoms in omega arith

pub loop-i-preserved : goal.loop-i-preserved
loop-i-preserved c =
    let l = c.loop-i in
    let a = c.args in
    let f : c.if-not-calm.seen ≡ look_line l.i c.row_sums-s.result l.seen =
    elim c.if-not-calm.branch [
      | then-not-calm w ↦ w.seen-is ∙ w.look_line-more.ensures
      | else-not-calm w ↦ w.seen-is ∙ line_calm l.i c.row_sums-s.result l.seen (sym c.calm.ensures ∙ w.if-not-calm.false)
    ] in
    (omega arith, times_more l.i _ _ l.invariant.1 (f ∙ ap (λ s. look_line l.i s l.seen) c.row_sums-s.ensures))

pub returns : goal.returns
unfolding look_rows
returns c =
    let l = c.loop-i in
    let i : l.i ≡ c.args.tables.now.n_satom = omega arith in
    l.invariant.1 ∙ rw i
