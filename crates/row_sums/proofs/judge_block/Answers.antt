use mathlib.Core.Path.{◌≡◌, sym, ap, ◌∙◌}
use mathlib.Core.Bool.{true, false}
use Prim.Native.Nat.{◌+◌, ◌*◌}
use native.Mathlib.Omega.{arith}
use borrow.Author.Tests.{le-leb, lt-leb}
use Rattle.blocks.specs.Block.{block}
use Rattle.lines.specs.Lines.{block_fits}
use Rattle.grid.specs.Grid.{nine_on_grid}
use Rattle.row_sums.specs.RowSums.{judged_block}
use Rattle.row_sums.specs.Calls.{full_is}
use Rattle.row_sums.proofs.judge_block.Goals as goal

pub returns-then-i-n : goal.returns-then-i-n
unfolding judged_block
returns-then-i-n c = let a = c.args in simp (le-leb a.n a.i (omega arith))

pub returns-then-j-n : goal.returns-then-j-n
unfolding judged_block
returns-then-j-n c = let a = c.args in simp (lt-leb a.n a.i (omega arith), le-leb a.n a.j (omega arith))

pub full2-requires : goal.full2-requires
full2-requires c = (c.requires.small, c.if-i-n.false, c.if-j-n.false)

pub read9-old-requires : goal.read9-old-requires
read9-old-requires c =
    let a = c.args in
    rw (full_is a.n a.i a.j c.full2.ensures) (block_fits c.requires a.i a.j c.if-i-n.false c.if-j-n.false)

pub returns-then-nine_on_grid-2 : goal.returns-then-nine_on_grid-2
unfolding judged_block
returns-then-nine_on_grid-2 c =
    let a = c.args in
    let e = full_is a.n a.i a.j c.full2.ensures in
    let o : nine_on_grid (block 9 (a.i * a.n + a.j) a.fc.now) ≡ true =
    ap nine_on_grid (sym (c.read9-old.ensures ∙ ap (λ b. block 9 b a.fc.now) e)) ∙ sym c.nine_on_grid.ensures ∙ c.if-nine_on_grid.true in
    let h : nine_on_grid a.block ≡ true = sym c.nine_on_grid-then-nine_on_grid.ensures ∙ c.if-nine_on_grid-2.true in
    simp (lt-leb _ _ c.if-i-n.false, lt-leb _ _ c.if-j-n.false, o, h)

pub returns-else-nine_on_grid-2 : goal.returns-else-nine_on_grid-2
unfolding judged_block
returns-else-nine_on_grid-2 c =
    let a = c.args in
    let e = full_is a.n a.i a.j c.full2.ensures in
    let o : nine_on_grid (block 9 (a.i * a.n + a.j) a.fc.now) ≡ true =
    ap nine_on_grid (sym (c.read9-old.ensures ∙ ap (λ b. block 9 b a.fc.now) e)) ∙ sym c.nine_on_grid.ensures ∙ c.if-nine_on_grid.true in
    let h : nine_on_grid a.block ≡ false = sym c.nine_on_grid-then-nine_on_grid.ensures ∙ c.if-nine_on_grid-2.false in
    simp (lt-leb _ _ c.if-i-n.false, lt-leb _ _ c.if-j-n.false, o, h)

pub returns-else-nine_on_grid : goal.returns-else-nine_on_grid
unfolding judged_block
returns-else-nine_on_grid c =
    let a = c.args in
    let e = full_is a.n a.i a.j c.full2.ensures in
    let o : nine_on_grid (block 9 (a.i * a.n + a.j) a.fc.now) ≡ false =
    ap nine_on_grid (sym (c.read9-old.ensures ∙ ap (λ b. block 9 b a.fc.now) e)) ∙ sym c.nine_on_grid.ensures ∙ c.if-nine_on_grid.false in
    simp (lt-leb _ _ c.if-i-n.false, lt-leb _ _ c.if-j-n.false, o)
