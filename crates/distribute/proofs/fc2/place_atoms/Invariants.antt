use Rattle.distribute.specs.Fc2Laws.{Placed}
use Rattle.distribute.proofs.fc2.place_atoms.Given as goal

abbrev pub invariant-loop-i : goal.invariant-loop-i
invariant-loop-i l = Placed l.atom_list l.i l.atom_list_reverse
