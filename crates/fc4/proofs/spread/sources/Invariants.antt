use mathlib.Core.Path.{◌≡◌}
use lib.ListN.{replicate}
use Rattle.lists.specs.Tab.{times}
use Rattle.fc4.specs.Spread.{later_if_shared}
use Rattle.fc4.proofs.spread.sources.Given as goal

abbrev pub invariant-loop-s : goal.invariant-loop-s
invariant-loop-s l =
    l.m ≡ times l.s (later_if_shared l.bs l.b) (replicate 81 0)
