use mathlib.Core.Path.{◌≡◌}
use Rattle.lists.specs.Tab.{times}
use Rattle.fc3.specs.FullLoops.{slab_of}
use Rattle.fc3.proofs.full.symmetrize.Given as goal

abbrev pub invariant-loop-a : goal.invariant-loop-a
invariant-loop-a l = l.fc3 ≡ times l.a (slab_of l.num_atom) l.initial.fc3
