use lib.ListN.{length}
use Rattle.distribute.specs.Fc2.{Distribution}
use mathlib.Core.Path.{refl, sym, ◌∙◌}
use Rattle.distribute.specs.Fc2Laws.{counts-small, tables-fit, judged_is}
use Rattle.distribute.proofs.fc2.judge_distribute_fc2.Goals as goal

pub returns-then-counts_above : goal.returns-then-counts_above
returns-then-counts_above c =
    judged_is _ _ _ _ _
    (sym c.if-counts_above.true ∙ c.counts_above.ensures)
    refl
    refl
    refl

pub lengths_wrong-requires : goal.lengths_wrong-requires
lengths_wrong-requires c =
    let a = c.args in
    counts-small a.num_pos a.num_first a.num_rot (length a.atom_list.now) (sym c.counts_above.ensures ∙ c.if-counts_above.false)

pub returns-then-lengths_wrong : goal.returns-then-lengths_wrong
returns-then-lengths_wrong c =
    judged_is _ _ _ _ _
    (sym c.if-counts_above.false ∙ c.counts_above.ensures)
    (sym c.if-lengths_wrong.true ∙ c.lengths_wrong.ensures)
    refl
    refl

pub returns-then-entries_out : goal.returns-then-entries_out
returns-then-entries_out c =
    judged_is _ _ _ _ _
    (sym c.if-counts_above.false ∙ c.counts_above.ensures)
    (sym c.if-lengths_wrong.false ∙ c.lengths_wrong.ensures)
    (sym c.if-entries_out.true ∙ c.entries_out.ensures)
    refl

pub bad_representative-requires : goal.bad_representative-requires
bad_representative-requires c =
    let a = c.args in
    let D : Distribution =
    record {
      atom_list = a.atom_list.now;
      fc_indices = a.fc_indices_of_atom_list.now;
      r_carts = a.r_carts.now;
      permutations = a.permutations.now;
      map_atoms = a.map_atoms.now;
      map_syms = a.map_syms.now;
      num_pos = a.num_pos;
    } in
    let t =
    tables-fit D a.num_first a.num_rot (length a.fc2.now) (length a.atom_list_reverse.now)
    (sym c.lengths_wrong.ensures ∙ c.if-lengths_wrong.false) (sym c.entries_out.ensures ∙ c.if-entries_out.false) in
    record { index_table = t.0; index_table_2 = t.1 }

pub returns-then-bad_representative : goal.returns-then-bad_representative
returns-then-bad_representative c =
    judged_is _ _ _ _ _
    (sym c.if-counts_above.false ∙ c.counts_above.ensures)
    (sym c.if-lengths_wrong.false ∙ c.lengths_wrong.ensures)
    (sym c.if-entries_out.false ∙ c.entries_out.ensures)
    (sym c.if-bad_representative.true ∙ c.bad_representative.ensures)

pub returns : goal.returns
returns c =
    judged_is _ _ _ _ _
    (sym c.if-counts_above.false ∙ c.counts_above.ensures)
    (sym c.if-lengths_wrong.false ∙ c.lengths_wrong.ensures)
    (sym c.if-entries_out.false ∙ c.entries_out.ensures)
    (sym c.if-bad_representative.false ∙ c.bad_representative.ensures)
