use mathlib.Core.Path.{◌≡◌, ◌∙◌}
use native.Mathlib.Omega.{arith}
use lib.ListN.{length}
use Rattle.lists.specs.Tab.{times_none, times_more}
use Rattle.distribute.specs.Fc2.{distributed_fc2}
use Rattle.distribute.specs.Fc2Laws.{ready-length}
use Rattle.distribute.proofs.fc2.distribute_atoms.Goals as goal

pub loop-i-init : goal.loop-i-init
loop-i-init c = times_none _ _

pub distribute_atom-requires : goal.distribute_atom-requires
distribute_atom-requires c =
    let l = c.loop-i in record { in_range = (omega arith, c.requires.in_range); placed = c.requires.placed; ready = ready-length l.auto.fc2 c.requires.ready }

pub loop-i-preserved : goal.loop-i-preserved
loop-i-preserved c =
    let l = c.loop-i in
    times_more l.i _ _ l.invariant c.distribute_atom.ensures

pub returns : goal.returns
unfolding distributed_fc2
returns c =
    let l = c.loop-i in
    let i : l.i ≡ length c.args.atom_list.now = omega arith in
    l.invariant ∙ rw i
