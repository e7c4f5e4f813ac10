use mathlib.Core.Path.{◌≡◌}
use Rattle.lists.specs.Tab.{times}
use Rattle.distribute.specs.Fc2.{distribute_atom}
use Rattle.distribute.proofs.fc2.distribute_atoms.Given as goal

abbrev pub invariant-loop-i : goal.invariant-loop-i
invariant-loop-i l =
    l.fc2
    ≡ times l.i
    (distribute_atom
    (record {
      atom_list = l.atom_list;
      fc_indices = l.fc_indices_of_atom_list;
      r_carts = l.r_carts;
      permutations = l.permutations;
      map_atoms = l.map_atoms;
      map_syms = l.map_syms;
      num_pos = l.num_pos;
    }))
    l.initial.fc2
