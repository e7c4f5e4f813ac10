use native.Mathlib.Omega.{arith}
use mathlib.Core.Path.{refl}
use mathlib.Core.List.{[]}
use Rattle.lists.specs.Tab.{fill_more, is_tab}
use borrow.Author.Count.{below_none}
use Rattle.fc2.specs.FullLoops.{added8}
use borrow.Author.Rules.{rules}
use Rattle.fc2.proofs.columns.add8.Goals as goal

pub loop-c-init : goal.loop-c-init
loop-c-init c = (omega arith, refl, below_none _)

pub overflow_add-b : goal.overflow_add-b
overflow_add-b c = omega (arith, c.requires)

pub read9-v-requires : goal.read9-v-requires
read9-v-requires c = omega (arith, c.requires)

pub loop-c-preserved : goal.loop-c-preserved
loop-c-preserved c =
    let l = c.loop-c in
    (search rules, search rules, fill_more [] _ l.r l.c _ (omega arith) (rw c.read9-v.ensures at c.more-m.ensures) l.invariant.2)

pub returns : goal.returns
unfolding added8
returns c =
    let l = c.loop-c in
    is_tab [] 8 _ l.r l.invariant.1 (λ k h. l.invariant.2 k (omega arith))
