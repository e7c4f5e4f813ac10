use mathlib.Core.Path.{sym, ap, ◌∙◌, subst}
use Prim.Native.Nat.{ℕ}
use Rattle.tables.specs.Conditions.{index_at, Readable}
use Rattle.distribute.specs.Fc2Laws.{read-todo, read_done, read_sym, read-todo-first, read-last, read-done-first, rows, atom-stays, atom-filled}
use Rattle.distribute.proofs.fc2.distribute_atom.Goals as goal

pub entry-atom_todo-requires : goal.entry-atom_todo-requires
entry-atom_todo-requires c =
    (read-todo _ _ c.requires.ready c.args.i c.requires.in_range.0).0

pub entry-atom_done-requires : goal.entry-atom_done-requires
entry-atom_done-requires c =
    let a = c.args in
    subst (λ (x : ℕ). Readable a.map_atoms.now x) (sym c.entry-atom_todo.ensures) (read_done _ _ c.requires.ready a.i c.requires.in_range.0).0

pub returns-then-atom_todo-atom_done : goal.returns-then-atom_todo-atom_done
returns-then-atom_todo-atom_done c =
    let a = c.args in
    atom-stays _ a.i a.fc2.now (sym c.entry-atom_todo.ensures ∙ c.if-atom_todo-atom_done.true ∙ c.entry-atom_done.ensures ∙ ap (index_at a.map_atoms.now) c.entry-atom_todo.ensures)

pub entry-s-requires : goal.entry-s-requires
entry-s-requires c =
    let a = c.args in
    subst (λ (x : ℕ). Readable a.map_syms.now x) (sym c.entry-atom_todo.ensures) (read_sym _ _ c.requires.ready a.i c.requires.in_range.0).0

pub entry-todo_first-requires : goal.entry-todo_first-requires
entry-todo_first-requires c =
    let a = c.args in
    (read-todo-first _ _ c.requires.ready a.i c.requires.in_range.0).0

pub entry-last-requires : goal.entry-last-requires
entry-last-requires c =
    let a = c.args in
    let d = c.entry-atom_done.ensures ∙ ap (index_at a.map_atoms.now) c.entry-atom_todo.ensures in
    let (r, q) = read-last _ _ c.requires.ready a.i c.requires.in_range.0 a.atom_list_reverse.now c.requires.in_range.1 c.requires.placed in
    subst (λ (x : ℕ). Readable a.atom_list_reverse.now x) (sym d) r

pub entry-done_first-requires : goal.entry-done_first-requires
entry-done_first-requires c =
    let a = c.args in
    let d = c.entry-atom_done.ensures ∙ ap (index_at a.map_atoms.now) c.entry-atom_todo.ensures in
    let (r, q) = read-last _ _ c.requires.ready a.i c.requires.in_range.0 a.atom_list_reverse.now c.requires.in_range.1 c.requires.placed in
    let l = c.entry-last.ensures ∙ ap (index_at a.atom_list_reverse.now) d ∙ q in
    subst (λ (x : ℕ). Readable a.fc_indices_of_atom_list.now x) (sym l) (read-done-first _ _ c.requires.ready a.i c.requires.in_range.0).0

pub add_row-requires : goal.add_row-requires
add_row-requires c =
    let a = c.args in
    let d = c.entry-atom_done.ensures ∙ ap (index_at a.map_atoms.now) c.entry-atom_todo.ensures in
    let (r, q) = read-last _ _ c.requires.ready a.i c.requires.in_range.0 a.atom_list_reverse.now c.requires.in_range.1 c.requires.placed in
    let l = c.entry-last.ensures ∙ ap (index_at a.atom_list_reverse.now) d ∙ q in
    let y = c.entry-s.ensures ∙ ap (index_at a.map_syms.now) c.entry-atom_todo.ensures in
    let t = c.entry-todo_first.ensures in
    let f = c.entry-done_first.ensures ∙ ap (index_at a.fc_indices_of_atom_list.now) l in
    rw (y, t, f) (rows _ _ c.requires.ready a.i c.requires.in_range.0)

pub returns : goal.returns
returns c =
    let a = c.args in
    let d = c.entry-atom_done.ensures ∙ ap (index_at a.map_atoms.now) c.entry-atom_todo.ensures in
    let (r, q) = read-last _ _ c.requires.ready a.i c.requires.in_range.0 a.atom_list_reverse.now c.requires.in_range.1 c.requires.placed in
    let l = c.entry-last.ensures ∙ ap (index_at a.atom_list_reverse.now) d ∙ q in
    let y = c.entry-s.ensures ∙ ap (index_at a.map_syms.now) c.entry-atom_todo.ensures in
    let t = c.entry-todo_first.ensures in
    let f = c.entry-done_first.ensures ∙ ap (index_at a.fc_indices_of_atom_list.now) l in
    let n = c.if-atom_todo-atom_done.false in
    c.add_row.ensures ∙ rw (y, t, f) (atom-filled _ a.i a.fc2.now (λ z. n (c.entry-atom_todo.ensures ∙ z ∙ sym d)))
