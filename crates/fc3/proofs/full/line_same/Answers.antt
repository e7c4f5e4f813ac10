use Prim.Native.Nat.{◌+◌}
use native.Mathlib.Omega.{arith}
use mathlib.Core.Path.{◌≡◌}
use Rattle.lists.specs.Tab.{times-at, times-from}
use Rattle.fc3.specs.FullLoops.{group_at, line_of, first-turn}
use Rattle.fc3.proofs.full.line_same.Goals as goal

pub loop-c-init : goal.loop-c-init
loop-c-init c = times-at _ _ _

pub loop-c-preserved : goal.loop-c-preserved
loop-c-preserved c =
    let l = c.loop-c in
    let a = c.args in
    times-from (a.a.0 + 1) l.c (group_at a.num_atom a.a.0 a.a.0) _ l.auto.c l.invariant c.group_first.ensures

pub returns : goal.returns
unfolding line_of
returns c =
    let l = c.loop-c in
    let a = c.args in
    let e : l.c ≡ a.num_atom = omega arith in
    first-turn a.a.0 a.num_atom (group_at a.num_atom a.a.0 a.a.0) a.fc3.now c.requires.1 c.group_same.ensures e l.invariant
