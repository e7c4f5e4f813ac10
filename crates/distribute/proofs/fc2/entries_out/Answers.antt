use mathlib.Core.Bool.{true, false}
use Rattle.tables.specs.Conditions.{out_of_range}
use mathlib.Core.Path.{◌≡◌, sym, ◌∙◌}
use Rattle.lists.specs.Tests.{not-not}
use Rattle.distribute.proofs.fc2.entries_out.Goals as goal

pub returns-then-not-all_below : goal.returns-then-not-all_below
returns-then-not-all_below c =
    let a = c.args in
    let o1 : out_of_range a.num_pos a.atom_list.now ≡ true = sym (not-not _ c.all_below.ensures) ∙ c.if-not-all_below.true-raw in
    rw (o1)

pub returns-then-not-all_below-2 : goal.returns-then-not-all_below-2
returns-then-not-all_below-2 c =
    let a = c.args in
    let o1 : out_of_range a.num_pos a.atom_list.now ≡ false = sym (not-not _ c.all_below.ensures) ∙ c.if-not-all_below.false-raw in
    let o2 : out_of_range a.num_first a.fc_indices_of_atom_list.now ≡ true = sym (not-not _ c.all_below-2.ensures) ∙ c.if-not-all_below-2.true-raw in
    rw (o1, o2)

pub returns-then-not-all_below-3 : goal.returns-then-not-all_below-3
returns-then-not-all_below-3 c =
    let a = c.args in
    let o1 : out_of_range a.num_pos a.atom_list.now ≡ false = sym (not-not _ c.all_below.ensures) ∙ c.if-not-all_below.false-raw in
    let o2 : out_of_range a.num_first a.fc_indices_of_atom_list.now ≡ false = sym (not-not _ c.all_below-2.ensures) ∙ c.if-not-all_below-2.false-raw in
    let o3 : out_of_range a.num_pos a.permutations.now ≡ true = sym (not-not _ c.all_below-3.ensures) ∙ c.if-not-all_below-3.true-raw in
    rw (o1, o2, o3)

pub returns-then-not-all_below-4 : goal.returns-then-not-all_below-4
returns-then-not-all_below-4 c =
    let a = c.args in
    let o1 : out_of_range a.num_pos a.atom_list.now ≡ false = sym (not-not _ c.all_below.ensures) ∙ c.if-not-all_below.false-raw in
    let o2 : out_of_range a.num_first a.fc_indices_of_atom_list.now ≡ false = sym (not-not _ c.all_below-2.ensures) ∙ c.if-not-all_below-2.false-raw in
    let o3 : out_of_range a.num_pos a.permutations.now ≡ false = sym (not-not _ c.all_below-3.ensures) ∙ c.if-not-all_below-3.false-raw in
    let o4 : out_of_range a.num_pos a.map_atoms.now ≡ true = sym (not-not _ c.all_below-4.ensures) ∙ c.if-not-all_below-4.true-raw in
    rw (o1, o2, o3, o4)

pub returns : goal.returns
returns c =
    let a = c.args in
    let o1 : out_of_range a.num_pos a.atom_list.now ≡ false = sym (not-not _ c.all_below.ensures) ∙ c.if-not-all_below.false-raw in
    let o2 : out_of_range a.num_first a.fc_indices_of_atom_list.now ≡ false = sym (not-not _ c.all_below-2.ensures) ∙ c.if-not-all_below-2.false-raw in
    let o3 : out_of_range a.num_pos a.permutations.now ≡ false = sym (not-not _ c.all_below-3.ensures) ∙ c.if-not-all_below-3.false-raw in
    let o4 : out_of_range a.num_pos a.map_atoms.now ≡ false = sym (not-not _ c.all_below-4.ensures) ∙ c.if-not-all_below-4.false-raw in
    rw (o1, o2, o3, o4) (not-not _ c.all_below-5.ensures)
