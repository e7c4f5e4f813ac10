use mathlib.Core.List.{[], ◌∷◌}
use Rattle.places.specs.ReadOuts.{stored-read, s2pp-read, s2pp-small, nsym_read, along, along-below}
use Rattle.places.proofs.stored_block2.Goals as goal

pub nsym_at-t-requires : goal.nsym_at-t-requires
nsym_at-t-requires c = (nsym_read c.requires.0 c.args.i.0 c.requires.1).0

pub s2pp_at-requires : goal.s2pp_at-requires
s2pp_at-requires c =
    (s2pp-read c.requires.0 c.args.i.0 c.requires.1).0

pub perms_at-requires : goal.perms_at-requires
perms_at-requires c =
    along c.requires.0 c.args.i.0 c.requires.1 _ c.args.j.0 c.nsym_at-t.ensures c.requires.2

pub block2-requires : goal.block2-requires
block2-requires c =
    let T = c.requires.0 in
    let t = c.nsym_at-t.ensures in (
      T.satoms,
      s2pp-small T c.args.i.0 c.requires.1 _ c.s2pp_at.ensures,
      along-below T c.args.i.0 c.requires.1 _ c.args.j.0 _ t c.perms_at.ensures c.requires.2,
    )

pub returns : goal.returns
returns c =
    let a = c.args in
    rw (stored-read a.tables.now.n_satom a.tables.now.s2pp.now a.tables.now.nsym_list.now a.tables.now.perms.now a.i.0 (a.j.0 ∷ [])) cc
