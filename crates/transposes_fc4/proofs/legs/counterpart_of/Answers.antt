use mathlib.Core.Path.{refl}
use mathlib.Core.List.{[], ◌∷◌}
use lib.Dec.{lit<}
use Rattle.transposes_fc4.specs.Loops.{leg-below, named-below, read_in_order}
use Rattle.transposes_fc4.proofs.legs.counterpart_of.Goals as goal

pub atom_at-requires : goal.atom_at-requires
atom_at-requires c = (lit< tt, leg-below c.args.o.now c.requires.1 0 (lit< tt))

pub atom_at-requires-2 : goal.atom_at-requires-2
atom_at-requires-2 c = (lit< tt, leg-below c.args.o.now c.requires.1 1 (lit< tt))

pub atom_at-requires-3 : goal.atom_at-requires-3
atom_at-requires-3 c = (lit< tt, leg-below c.args.o.now c.requires.1 2 (lit< tt))

pub atom_at-requires-4 : goal.atom_at-requires-4
atom_at-requires-4 c = (lit< tt, leg-below c.args.o.now c.requires.1 3 (lit< tt))

pub stored_block4-requires : goal.stored_block4-requires
stored_block4-requires c =
    let b = named-below c.args.o.now c.requires.1 c.args.tables.now.n_satom (c.args.i.0 ∷ c.args.j.0 ∷ c.args.k.0 ∷ c.args.l.0 ∷ []) refl c.requires.2 in (
      c.requires.0,
      rw c.atom_at.ensures (b 0 (lit< tt)),
      rw c.atom_at-2.ensures (b 1 (lit< tt)),
      rw c.atom_at-3.ensures (b 2 (lit< tt)),
      rw c.atom_at-4.ensures (b 3 (lit< tt)),
    )

pub returns : goal.returns
returns c =
    read_in_order c.args.tables.now.n_satom c.args.tables.now.s2pp.now c.args.tables.now.nsym_list.now c.args.tables.now.perms.now c.args.o.now (c.args.i.0 ∷ c.args.j.0 ∷ c.args.k.0 ∷ c.args.l.0 ∷ [])
    c.atom_at.ensures c.atom_at-2.ensures c.atom_at-3.ensures c.atom_at-4.ensures c.stored_block4.ensures
