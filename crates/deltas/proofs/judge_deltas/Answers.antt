use mathlib.Core.Path.{refl, sym, ◌∙◌}
use Prim.Native.Nat.{◌≤◌}
use native.Mathlib.Nat.{le_trans}
use lib.Dec.{lit≤}
use Rattle.lists.specs.Tests.{not-not}
use Rattle.deltas.specs.Guard.{counts-small, judged_is, slab_blocks, power_few, width_few}
use Rattle.deltas.proofs.judge_deltas.Goals as goal

pub returns-then-counts_above : goal.returns-then-counts_above
returns-then-counts_above c = judged_is _ _ _ _ _ _ _ refl refl (sym c.if-counts_above.true ∙ c.counts_above.ensures) refl refl

pub set_blocks-b-requires : goal.set_blocks-b-requires
set_blocks-b-requires c =
    let a = c.args in
    let (h, _, _) = counts-small a.limit a.num_atom a.num_site_sym a.num_disp (sym c.counts_above.ensures ∙ c.if-counts_above.false) in
    (lit≤ tt, le_trans h (le_trans c.requires.0 (lit≤ tt)), c.requires.1)

pub lengths_wrong-requires : goal.lengths_wrong-requires
lengths_wrong-requires c =
    let a = c.args in
    let (h, p, q) = counts-small a.limit a.num_atom a.num_site_sym a.num_disp (sym c.counts_above.ensures ∙ c.if-counts_above.false) in
    let n : a.num_atom ≤ 256 = le_trans h c.requires.0 in
    (rw (c.set_blocks-b.ensures, slab_blocks a.num_atom a.m) (power_few a.num_atom a.m n c.requires.1), rw c.requires.2 (width_few a.m c.requires.1), n, p, q)

pub returns-then-lengths_wrong : goal.returns-then-lengths_wrong
returns-then-lengths_wrong c =
    judged_is _ _ _ _ _ _ _ c.set_blocks-b.ensures c.requires.2 (sym c.if-counts_above.false ∙ c.counts_above.ensures)
    (sym c.if-lengths_wrong.true ∙ c.lengths_wrong.ensures) refl

pub returns-then-not-all_below : goal.returns-then-not-all_below
returns-then-not-all_below c =
    judged_is _ _ _ _ _ _ _ c.set_blocks-b.ensures c.requires.2 (sym c.if-counts_above.false ∙ c.counts_above.ensures)
    (sym c.if-lengths_wrong.false ∙ c.lengths_wrong.ensures)
    (sym c.if-not-all_below.true-raw ∙ not-not _ c.all_below.ensures)

pub returns : goal.returns
returns c =
    judged_is _ _ _ _ _ _ _ c.set_blocks-b.ensures c.requires.2 (sym c.if-counts_above.false ∙ c.counts_above.ensures)
    (sym c.if-lengths_wrong.false ∙ c.lengths_wrong.ensures)
    (sym c.if-not-all_below.false-raw ∙ not-not _ c.all_below.ensures)
