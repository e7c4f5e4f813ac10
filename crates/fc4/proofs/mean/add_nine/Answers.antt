use Prim.Native.Nat.{◌+◌, ◌*◌}
use native.Mathlib.Omega.{arith}
use mathlib.Core.Path.{◌≡◌, ap, ◌∙◌}
use mathlib.Core.List.{[]}
use lib.ListN.{get_or, length-set}
use lib.Ieee.{nan, binary64, add}
use Rattle.lists.specs.Tab.{fill_more, is_tab}
use Rattle.blocks.specs.Permuted.{permuted}
use Rattle.positions.specs.Positions.{permutation_at, permuted_in}
use Rattle.fc4.specs.Mean.{added_nine}
use Rattle.fc4.proofs.mean.add_nine.Goals as goal

pub bounds-g-q : goal.bounds-g-q
bounds-g-q c =
    let l = c.loop-k in
    let w : c.index_of.result ≡ c.args.h * 9 + l.k = c.index_of.ensures in
    let e : c.entry-q.result ≡ permuted 3 (permutation_at c.args.s) c.index_of.result = c.entry-q.ensures in
    let p = permuted_in c.args.s c.index_of.result c.requires.2 (omega arith) in
    omega arith

pub loop-k-preserved : goal.loop-k-preserved
loop-k-preserved c =
    let l = c.loop-k in (
      simp length-set l.invariant.0,
      fill_more nan _ l.r l.k _ (omega arith)
          (ap (λ q. add binary64 (get_or c.args.sums l.k nan) (get_or (get_or c.args.g.now c.args.s []) q nan)) (c.entry-q.ensures ∙ ap (permuted 3 (permutation_at c.args.s)) c.index_of.ensures))
          l.invariant.1,
    )

pub returns : goal.returns
unfolding added_nine
returns c =
    let l = c.loop-k in
    is_tab nan 9 _ l.r l.invariant.0 (λ j h. l.invariant.1 j (omega arith))
