use native.Mathlib.Omega.{arith}
use mathlib.Core.Path.{◌≡◌, refl, ◌∙◌}
use Rattle.lists.specs.Tab.{times_none, times_more}
use Rattle.lines.specs.Lines.{less_at}
use Rattle.fc2.specs.FullLoops.{less8}
use Rattle.fc2.proofs.columns.take8.Goals as goal

pub loop-c-init : goal.loop-c-init
loop-c-init c = (omega arith, refl, times_none _ _)

pub overflow_add-b : goal.overflow_add-b
overflow_add-b c = omega (arith, c.requires)

pub read9-v-requires : goal.read9-v-requires
read9-v-requires c = omega (arith, c.requires, c.loop-c.invariant.1)

pub overflow_add-b-in-loop-c : goal.overflow_add-b-in-loop-c
overflow_add-b-in-loop-c c = omega (arith, c.requires)

pub write9-requires : goal.write9-requires
write9-requires c = omega (arith, c.requires, c.loop-c.invariant.1)

pub loop-c-preserved : goal.loop-c-preserved
unfolding less_at
loop-c-preserved c =
    let l = c.loop-c in
    (omega arith, c.write9.auto.fc ∙ l.invariant.1, times_more l.c _ _ l.invariant.2 (rw (c.less-w.ensures, c.read9-v.ensures) at c.write9.ensures))

pub returns : goal.returns
unfolding less8
returns c =
    let l = c.loop-c in
    let i : l.c ≡ 8 = omega arith in
    l.invariant.2 ∙ rw i
