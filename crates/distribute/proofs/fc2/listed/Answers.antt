use mathlib.Core.Path.{◌≡◌, sym, ◌∙◌}
use native.Mathlib.Omega.{arith}
use lib.ListN.{length}
use borrow.Author.Tests.{eq-eqb, ne_eqb}
use Rattle.lists.specs.Tests.{some_of}
use Rattle.distribute.specs.Fc2.{listed_atom}
use Rattle.distribute.specs.Fc2Laws.{none_yet, none_more}
use Rattle.distribute.proofs.fc2.listed.Goals as goal

pub loop-i-init : goal.loop-i-init
loop-i-init c = none_yet _

pub entry-requires : goal.entry-requires
entry-requires c = c.requires c.loop-i.i (omega arith)

pub returns-then-entry-atom : goal.returns-then-entry-atom
unfolding listed_atom
returns-then-entry-atom c =
    let l = c.loop-i in
    let a = c.args in
    sym (some_of (length a.atom_list.now) _ l.i (omega arith) (eq-eqb _ _ (sym c.entry.ensures ∙ c.if-entry-atom.true)))

pub loop-i-preserved : goal.loop-i-preserved
loop-i-preserved c =
    let l = c.loop-i in
    let a = c.args in
    none_more l.i _ l.invariant (ne_eqb _ _ (λ e. c.if-entry-atom.false (c.entry.ensures ∙ e)))

pub returns : goal.returns
unfolding listed_atom
returns c =
    let l = c.loop-i in
    let e : l.i ≡ length c.args.atom_list.now = omega arith in
    sym (rw e at l.invariant)
