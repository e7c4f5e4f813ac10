use Rattle.replays.proofs.pages.replay.Given as goal

abbrev pub invariant-loop-r : goal.invariant-loop-r
invariant-loop-r g l = (goal.iterator-loop-r g).can_next l.r-iterator × (goal.iterator-loop-r g).is_finite l.r-iterator × goal.F-IsAlwaysCallable g l.step

abbrev pub invariant-loop : goal.invariant-loop
invariant-loop g l = goal.F-IsAlwaysCallable g l.step
