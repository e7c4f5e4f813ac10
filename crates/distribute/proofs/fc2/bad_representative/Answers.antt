use mathlib.Core.Path.{◌≡◌, sym, ap, ◌∙◌}
use mathlib.Core.Bool.{not}
use native.Mathlib.Omega.{arith}
use lib.ListN.{length}
use Rattle.lists.specs.Tests.{some_of}
use Rattle.distribute.specs.Fc2.{bad_representative}
use Rattle.distribute.specs.Fc2Laws.{none_yet, none_more}
use Rattle.distribute.proofs.fc2.bad_representative.Goals as goal

pub loop-i-init : goal.loop-i-init
loop-i-init c = none_yet _

pub is_represented-requires : goal.is_represented-requires
is_represented-requires c = record { index_table = c.requires.index_table; index_table_2 = c.requires.index_table_2; i_in_bounds = omega arith }

pub loop-i-preserved : goal.loop-i-preserved
loop-i-preserved c =
    let l = c.loop-i in
    none_more l.i _ l.invariant (ap not (sym c.is_represented.ensures ∙ c.if-not-is_represented.false))

pub returns-then-not-is_represented : goal.returns-then-not-is_represented
unfolding bad_representative
returns-then-not-is_represented c =
    let l = c.loop-i in
    let a = c.args in
    sym (some_of (length a.atom_list.now) _ l.i (omega arith) (ap not (sym c.is_represented.ensures ∙ c.if-not-is_represented.true)))

pub returns : goal.returns
unfolding bad_representative
returns c =
    let l = c.loop-i in
    let e : l.i ≡ length c.args.atom_list.now = omega arith in
    sym (rw e at l.invariant)
