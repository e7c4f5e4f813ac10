use Prim.Native.Nat.{◌*◌}
use native.Mathlib.Omega.{arith}
use mathlib.Core.Path.{◌≡◌, refl, ap, ◌∙◌}
use Rattle.lists.specs.Tab.{times, times_none, times_more}
use Rattle.blocks.specs.Block.{put_block}
use Rattle.lines.specs.Sums3x3.{zeros}
use Rattle.lines.specs.Lines.{line_sums, row-start, run_line}
use Rattle.row_sums.specs.RowSums.{flat_sums}
use Rattle.row_sums.specs.RowLaws.{row_at}
use Rattle.row_sums.proofs.RowLaws.{rows_make}
use Rattle.row_sums.proofs.sum_rows.Goals as goal

pub loop-i-init : goal.loop-i-init
loop-i-init c = (omega arith, refl, times_none _ _)

pub index_of-requires : goal.index_of-requires
index_of-requires c = row-start c.requires.0 c.loop-i.i c.loop-i-test.true

pub line_sums-s-requires : goal.line_sums-s-requires
line_sums-s-requires c =
    let l = c.loop-i in
    let e = c.index_of.ensures in
    run_line c.requires.0 l.i c.args.n _ c.loop-i-test.true (omega arith)

pub write9-requires : goal.write9-requires
write9-requires c =
    let l = c.loop-i in
    let e = l.invariant.1 in
    let f = c.requires.1 in
    omega arith

pub loop-i-preserved : goal.loop-i-preserved
unfolding row_at
loop-i-preserved c =
    let l = c.loop-i in
    let a = c.args in
    let e : c.index_of.result ≡ l.i * a.n = omega (arith, c.index_of.ensures) in
    let v = c.flat.ensures ∙ ap flat_sums (c.line_sums-s.ensures ∙ ap (λ b. line_sums b 1 a.n a.fc.now zeros) e) in
    (omega arith, c.write9.auto.fc ∙ l.invariant.1, times_more l.i _ _ l.invariant.2 (c.write9.ensures ∙ ap (λ v. put_block 9 l.i v l.sums) v))

pub returns : goal.returns
returns c =
    let l = c.loop-i in
    let a = c.args in
    let i : l.i ≡ a.n = omega arith in
    l.invariant.2 ∙ ap (λ k. times k (row_at a.n a.fc.now) a.sums.now) i ∙ rows_make a.n a.fc.now a.sums.now c.requires.1
