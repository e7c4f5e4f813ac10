use Prim.Native.Nat.{◌+◌}
use native.Mathlib.Omega.{arith}
use mathlib.Core.Path.{◌≡◌}
use Rattle.lists.specs.Tab.{times-at, times-from}
use Rattle.fc3.specs.FullLoops.{line_of, lines_of, first-turn}
use Rattle.fc3.proofs.full.lines.Goals as goal

pub loop-b-init : goal.loop-b-init
loop-b-init c = times-at _ _ _

pub loop-b-preserved : goal.loop-b-preserved
loop-b-preserved c =
    let l = c.loop-b in
    let a = c.args in
    times-from (a.a.0 + 1) l.b (line_of a.num_atom a.a.0) _ l.auto.b l.invariant c.line_rising.ensures

pub returns : goal.returns
unfolding lines_of
returns c =
    let l = c.loop-b in
    let a = c.args in
    let e : l.b ≡ a.num_atom = omega arith in
    first-turn a.a.0 a.num_atom (line_of a.num_atom a.a.0) a.fc3.now c.requires.1 c.line_same.ensures e l.invariant
