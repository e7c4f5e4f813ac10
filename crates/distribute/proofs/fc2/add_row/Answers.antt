use mathlib.Core.Path.{◌≡◌, ap, ◌∙◌}
use Prim.Native.Nat.{◌+◌, ◌*◌}
use native.Mathlib.Omega.{arith}
use Rattle.lists.specs.Tab.{times_none, times_more}
use Rattle.blocks.specs.Block.{block}
use Rattle.tables.specs.Conditions.{index_at}
use Rattle.blocks.specs.Block9.{transposed9}
use Rattle.rotations.specs.Rotation.{rotated, coefficients}
use Rattle.distribute.specs.Fc2.{add_block, add_row}
use Rattle.distribute.proofs.fc2.add_row.Goals as goal

pub read9-r-requires : goal.read9-r-requires
read9-r-requires c = c.requires.rotation_fits

pub loop-other-init : goal.loop-other-init
loop-other-init c = times_none _ _

pub entry-image-requires : goal.entry-image-requires
entry-image-requires c = (c.requires.image c.loop-other.other (omega arith)).0

pub index_of-target-requires : goal.index_of-target-requires
index_of-target-requires c = omega (arith, c.requires.todo_fits)

pub index_of-source-requires : goal.index_of-source-requires
index_of-source-requires c =
    omega (arith, c.requires.done_fits, (c.requires.image c.loop-other.other (omega arith)).1, c.entry-image.ensures)

pub add_block-requires : goal.add_block-requires
add_block-requires c =
    let i = (c.requires.image c.loop-other.other (omega arith)).1 in
    (omega (arith, c.requires.todo_fits, c.index_of-target.ensures), omega (arith, c.requires.done_fits, c.entry-image.ensures, c.index_of-source.ensures))

pub loop-other-preserved : goal.loop-other-preserved
loop-other-preserved c =
    let l = c.loop-other in
    let a = c.args in
    let m = transposed9 (block 9 a.s a.r_carts.now) in
    let k : c.coefficients2-c.result ≡ coefficients m 2 9 = c.coefficients2-c.ensures ∙ ap (λ x. coefficients x 2 9) (c.transposed9.ensures ∙ ap transposed9 c.read9-r.ensures) in
    let r : c.add_block.new.fc2 ≡ add_block (rotated m 2) (a.todo_first * a.num_pos + l.other) (a.done_first * a.num_pos + index_at a.permutations.now (a.s * a.num_pos + l.other)) l.fc2 =
    c.add_block.ensures m k ∙ rw (c.index_of-target.ensures, c.index_of-source.ensures, c.entry-image.ensures) in
    times_more l.other _ _ l.invariant r

pub returns : goal.returns
unfolding add_row
returns c =
    let l = c.loop-other in
    let i : l.other ≡ c.args.num_pos = omega arith in
    l.invariant ∙ rw i
