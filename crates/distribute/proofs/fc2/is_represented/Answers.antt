use mathlib.Core.Path.{sym, ap, ◌∙◌, subst}
use Prim.Native.Nat.{ℕ}
use Rattle.tables.specs.Conditions.{index_at, Readable, read}
use Rattle.distribute.specs.Fc2.{listed_atom}
use Rattle.distribute.specs.Fc2Laws.{represented_yes, represented-no}
use Rattle.distribute.proofs.fc2.is_represented.Goals as goal

pub entry-requires : goal.entry-requires
entry-requires c = (read c.requires.index_table c.args.i c.requires.i_in_bounds).0

pub entry-atom_done-requires : goal.entry-atom_done-requires
entry-atom_done-requires c =
    let a = c.args in
    subst (λ (x : ℕ). Readable a.map_atoms.now x) (sym c.entry.ensures) (read c.requires.index_table_2 _ (read c.requires.index_table a.i c.requires.i_in_bounds).1).0

pub entry-requires-2 : goal.entry-requires-2
entry-requires-2 c =
    let a = c.args in
    let d = c.entry-atom_done.ensures ∙ ap (index_at a.map_atoms.now) c.entry.ensures in
    subst (λ (x : ℕ). Readable a.map_atoms.now x) (sym d)
    (read c.requires.index_table_2 _ (read c.requires.index_table_2 _ (read c.requires.index_table a.i c.requires.i_in_bounds).1).1).0

pub listed-requires : goal.listed-requires
listed-requires c = λ i h. (read c.requires.index_table i h).0

pub returns-then-entry-atom_done : goal.returns-then-entry-atom_done
returns-then-entry-atom_done c =
    let a = c.args in
    let d = c.entry-atom_done.ensures ∙ ap (index_at a.map_atoms.now) c.entry.ensures in
    let t = sym (c.entry-2.ensures ∙ ap (index_at a.map_atoms.now) d) ∙ c.if-entry-atom_done.true ∙ d in
    c.listed.ensures ∙ ap (listed_atom a.atom_list.now) d ∙ represented_yes a.atom_list.now a.map_atoms.now a.i t

pub returns : goal.returns
returns c =
    let a = c.args in
    let d = c.entry-atom_done.ensures ∙ ap (index_at a.map_atoms.now) c.entry.ensures in
    represented-no a.atom_list.now a.map_atoms.now a.i
    (λ t. c.if-entry-atom_done.false (c.entry-2.ensures ∙ ap (index_at a.map_atoms.now) d ∙ t ∙ sym d))
