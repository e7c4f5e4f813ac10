use mathlib.Core.Path.{sym, ap, ◌∙◌}
use native.Mathlib.Omega.{arith}
use borrow.Author.Tests.{not-true, not-false}
use borrow.Author.Count.{below_none, below_more}
use Rattle.tables.proofs.Loops.{all-passed, one_failed}
use lib.Dec.{eqb}
use Rattle.tables.specs.Shifts.{is_null}
use Rattle.tables.specs.Compact.{ShiftTables, shifts_of, perms_is, given}
use Rattle.explain.specs.Laws.{perms-read}
use Rattle.explain.proofs.rules.is_null.Goals as goal

pub loop-a-init : goal.loop-a-init
loop-a-init c = below_none _

pub perms_at-b-requires : goal.perms_at-b-requires
perms_at-b-requires c =
    let a = c.args in
    let T : ShiftTables = given a.tables.now in
    perms-read T c.requires.0 a.t c.loop-a.a c.requires.1 c.loop-a-test.true

pub returns-then-ne : goal.returns-then-ne
unfolding is_null
returns-then-ne c =
    let a = c.args in
    let T : ShiftTables = given a.tables.now in
    let S = shifts_of T in
    let l = c.loop-a in
    let e = c.perms_at-b.ensures ∙ perms_is T a.t l.a in
    one_failed a.tables.now.n_satom _ l.a c.loop-a-test.true (ap (λ x. eqb x l.a) (sym e) ∙ not-true _ (sym c.ne.ensures ∙ c.if-ne.true))

pub loop-a-preserved : goal.loop-a-preserved
loop-a-preserved c =
    let a = c.args in
    let T : ShiftTables = given a.tables.now in
    let S = shifts_of T in
    let l = c.loop-a in
    let e = c.perms_at-b.ensures ∙ perms_is T a.t l.a in
    below_more _ l.a l.invariant (ap (λ x. eqb x l.a) (sym e) ∙ not-false _ (sym c.ne.ensures ∙ c.if-ne.false))

pub returns : goal.returns
unfolding is_null
returns c =
    let a = c.args in
    all-passed a.tables.now.n_satom _ (λ k h. c.loop-a.invariant k (omega arith))
