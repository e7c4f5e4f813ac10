use mathlib.Core.Bool.{not}
use Rattle.lists.specs.Tests.{or-here, or-next, or-last}
use mathlib.Core.Path.{refl, sym, ap, ◌∙◌}
use native.Mathlib.Omega.{arith}
use borrow.Author.Tests.{eq-eqb, ne_eqb}
use Rattle.tables.specs.Lengths.{set_length2}
use Rattle.distribute.specs.Fc2Laws.{product_small}
use Rattle.distribute.proofs.fc2.lengths_wrong.Goals as goal

pub overflow_mul-num_first : goal.overflow_mul-num_first
overflow_mul-num_first c = let a = c.args in omega (arith, product_small a.num_first a.num_pos (omega arith) (omega arith))

pub overflow_mul-num_first-2 : goal.overflow_mul-num_first-2
overflow_mul-num_first-2 c = let a = c.args in omega (arith, product_small a.num_first a.num_pos (omega arith) (omega arith))

pub returns-then-fc2-num_first : goal.returns-then-fc2-num_first
returns-then-fc2-num_first c =
    let a = c.args in
    or-here _ _ (ap not (ne_eqb _ _ (λ e. c.if-fc2-num_first.true (e ∙ set_length2 a.num_first a.num_pos))))

pub returns-then-fc_indices_of_atom_list-atom_list : goal.returns-then-fc_indices_of_atom_list-atom_list
returns-then-fc_indices_of_atom_list-atom_list c =
    let a = c.args in
    or-next _ _ (ap not (eq-eqb _ _ (c.if-fc2-num_first.false ∙ sym (set_length2 a.num_first a.num_pos))))
    (or-here _ _ (ap not (ne_eqb _ _ c.if-fc_indices_of_atom_list-atom_list.true)))

pub returns-then-r_carts-num_rot : goal.returns-then-r_carts-num_rot
returns-then-r_carts-num_rot c =
    let a = c.args in
    or-next _ _ (ap not (eq-eqb _ _ (c.if-fc2-num_first.false ∙ sym (set_length2 a.num_first a.num_pos))))
    (or-next _ _ (ap not (eq-eqb _ _ c.if-fc_indices_of_atom_list-atom_list.false))
    (or-here _ _ (ap not (ne_eqb _ _ c.if-r_carts-num_rot.true))))

pub overflow_mul-num_rot-2 : goal.overflow_mul-num_rot-2
overflow_mul-num_rot-2 c = let a = c.args in omega (arith, product_small a.num_rot a.num_pos (omega arith) (omega arith))

pub returns-then-permutations-num_rot : goal.returns-then-permutations-num_rot
returns-then-permutations-num_rot c =
    let a = c.args in
    or-next _ _ (ap not (eq-eqb _ _ (c.if-fc2-num_first.false ∙ sym (set_length2 a.num_first a.num_pos))))
    (or-next _ _ (ap not (eq-eqb _ _ c.if-fc_indices_of_atom_list-atom_list.false))
    (or-next _ _ (ap not (eq-eqb _ _ c.if-r_carts-num_rot.false))
    (or-here _ _ (ap not (ne_eqb _ _ c.if-permutations-num_rot.true)))))

pub returns-then-map_atoms-num_pos : goal.returns-then-map_atoms-num_pos
returns-then-map_atoms-num_pos c =
    let a = c.args in
    or-next _ _ (ap not (eq-eqb _ _ (c.if-fc2-num_first.false ∙ sym (set_length2 a.num_first a.num_pos))))
    (or-next _ _ (ap not (eq-eqb _ _ c.if-fc_indices_of_atom_list-atom_list.false))
    (or-next _ _ (ap not (eq-eqb _ _ c.if-r_carts-num_rot.false))
    (or-next _ _ (ap not (eq-eqb _ _ c.if-permutations-num_rot.false))
    (or-here _ _ (ap not (ne_eqb _ _ c.if-map_atoms-num_pos.true))))))

pub returns-then-map_syms-num_pos : goal.returns-then-map_syms-num_pos
returns-then-map_syms-num_pos c =
    let a = c.args in
    or-next _ _ (ap not (eq-eqb _ _ (c.if-fc2-num_first.false ∙ sym (set_length2 a.num_first a.num_pos))))
    (or-next _ _ (ap not (eq-eqb _ _ c.if-fc_indices_of_atom_list-atom_list.false))
    (or-next _ _ (ap not (eq-eqb _ _ c.if-r_carts-num_rot.false))
    (or-next _ _ (ap not (eq-eqb _ _ c.if-permutations-num_rot.false))
    (or-next _ _ (ap not (eq-eqb _ _ c.if-map_atoms-num_pos.false))
    (or-here _ _ (ap not (ne_eqb _ _ c.if-map_syms-num_pos.true)))))))

pub returns : goal.returns
returns c =
    let a = c.args in
    or-next _ _ (ap not (eq-eqb _ _ (c.if-fc2-num_first.false ∙ sym (set_length2 a.num_first a.num_pos))))
    (or-next _ _ (ap not (eq-eqb _ _ c.if-fc_indices_of_atom_list-atom_list.false))
    (or-next _ _ (ap not (eq-eqb _ _ c.if-r_carts-num_rot.false))
    (or-next _ _ (ap not (eq-eqb _ _ c.if-permutations-num_rot.false))
    (or-next _ _ (ap not (eq-eqb _ _ c.if-map_atoms-num_pos.false))
    (or-next _ _ (ap not (eq-eqb _ _ c.if-map_syms-num_pos.false))
    (or-last _ refl))))))
