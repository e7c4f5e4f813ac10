use mir.Syntax.{w64}
use mir.Val.{to_z, SFits}
use mir.ValLaws.{to_z-of_z}
use mathlib.Core.Path.{◌≡◌}
use Prim.Native.Nat.{◌<◌}
use native.Mathlib.Omega.{arith}
use lib.ListN.{length}
use lib.IntN.{pos}
use borrow.Author.Count.{below_none}
use Rattle.tables.specs.Conditions.{read}
use Rattle.distribute.specs.Fc2Laws.{placed-more}
use borrow.Author.Rules.{rules}
use Rattle.distribute.proofs.fc2.place_atoms.Goals as goal

pub loop-i-init : goal.loop-i-init
loop-i-init c = below_none _

pub entry-atom-requires : goal.entry-atom-requires
entry-atom-requires c = (read c.requires.index_table c.loop-i.i (omega arith)).0

pub overflow_cast-atom_list_reverse : goal.overflow_cast-atom_list_reverse
overflow_cast-atom_list_reverse c = record { sfits = omega (arith, c.requires.atom_list_len_bound) }

pub offset_bounds-atom_list_reverse-atom : goal.offset_bounds-atom_list_reverse-atom
offset_bounds-atom_list_reverse-atom c =
    let l = c.loop-i in
    let k = (read c.requires.index_table l.i (omega arith)).1 in
    let h : c.entry-atom.result < length c.args.atom_list_reverse.now = omega (arith, c.entry-atom.ensures) in
    search rules

pub bounds-atom_list_reverse-atom : goal.bounds-atom_list_reverse-atom
bounds-atom_list_reverse-atom c =
    let l = c.loop-i in
    let k = (read c.requires.index_table l.i (omega arith)).1 in
    omega (arith, c.entry-atom.ensures)

pub loop-i-preserved : goal.loop-i-preserved
loop-i-preserved c =
    let l = c.loop-i in
    let a = c.args in
    let f : SFits w64 (pos l.i) = record { sfits = omega (arith, c.requires.atom_list_len_bound) } in
    let z : to_z w64 l.i ≡ pos l.i = to_z-of_z w64 (pos l.i) f in
    let k = (read c.requires.index_table l.i (omega arith)).1 in
    rw (z, c.entry-atom.ensures) (placed-more a.atom_list.now l.i l.atom_list_reverse (rw l.auto.atom_list_reverse k) l.invariant)

pub returns : goal.returns
returns c =
    let l = c.loop-i in
    let e : l.i ≡ length c.args.atom_list.now = omega arith in
    rw e at l.invariant
