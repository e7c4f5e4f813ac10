use Prim.Native.Nat.{◌+◌}
use native.Mathlib.Omega.{arith}
use mathlib.Core.Path.{◌≡◌, sym, ap, ◌∙◌}
use Rattle.lists.specs.Tab.{times_none, times_more}
use Rattle.drift.specs.Loops.{look_line}
use Rattle.drift.specs.Laws.{line_calm}
use Rattle.drift.specs.CompactLaws.{look_compact_columns}
use Rattle.drift.proofs.compact.look_columns.Goals.{then-not-calm, else-not-calm}
use Rattle.drift.proofs.compact.look_columns.Goals as goal

pub loop-j-init : goal.loop-j-init
loop-j-init c = (omega arith, times_none _ _)

pub column_sums-s-requires : goal.column_sums-s-requires
column_sums-s-requires c = (c.requires, c.loop-j-test.true)

pub overflow_add-tables : goal.overflow_add-tables
overflow_add-tables c = let g = c.requires.tables.satoms in omega arith

pub look_line-more-requires : goal.look_line-more-requires
look_line-more-requires c = let g = c.requires.tables.satoms in omega arith

pub loop-j-preserved : goal.loop-j-preserved
loop-j-preserved c =
    let l = c.loop-j in
    let a = c.args in
    let f : c.if-not-calm.seen ≡ look_line (a.tables.now.n_satom + l.j) c.column_sums-s.result l.seen =
    elim c.if-not-calm.branch [
      | then-not-calm w ↦ w.seen-is ∙ w.look_line-more.ensures
      | else-not-calm w ↦ w.seen-is ∙ line_calm (a.tables.now.n_satom + l.j) c.column_sums-s.result l.seen (sym c.calm.ensures ∙ w.if-not-calm.false)
    ] in
    (omega arith, times_more l.j _ _ l.invariant.1 (f ∙ ap (λ s. look_line (a.tables.now.n_satom + l.j) s l.seen) c.column_sums-s.ensures))

pub returns : goal.returns
unfolding look_compact_columns
returns c =
    let l = c.loop-j in
    let i : l.j ≡ c.args.tables.now.n_satom = omega arith in
    l.invariant.1 ∙ rw i
