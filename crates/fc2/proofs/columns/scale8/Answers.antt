use native.Mathlib.Omega.{arith}
use mathlib.Core.Path.{refl}
use mathlib.Core.List.{[]}
use Rattle.lists.specs.Tab.{fill_more, is_tab}
use borrow.Author.Count.{below_none}
use Rattle.fc2.specs.FullLoops.{scaled8}
use borrow.Author.Rules.{rules}
use Rattle.fc2.proofs.columns.scale8.Goals as goal

pub loop-c-init : goal.loop-c-init
loop-c-init c = (omega arith, refl, below_none _)

pub loop-c-preserved : goal.loop-c-preserved
loop-c-preserved c =
    let l = c.loop-c in
    (search rules, search rules, fill_more [] _ l.r l.c _ (omega arith) c.scaled-m.ensures l.invariant.2)

pub returns : goal.returns
unfolding scaled8
returns c =
    let l = c.loop-c in
    is_tab [] 8 _ l.r l.invariant.1 (λ k h. l.invariant.2 k (omega arith))
