use mathlib.Core.Path.{◌≡◌, sym, ap, ap₂, ◌∙◌}
use native.Mathlib.Omega.{arith}
use borrow.Author.Tests.{not-true, not-false}
use borrow.Author.Count.{below_none, below_more}
use Rattle.tables.proofs.Loops.{all-passed, one_failed}
use lib.Dec.{eqb}
use Rattle.tables.specs.Shifts.{row, is_after}
use Rattle.tables.specs.Compact.{ShiftTables, shifts_of, perms_is, given}
use Rattle.explain.specs.Laws.{perms-read, image-below}
use Rattle.explain.proofs.rules.is_after.Goals as goal

pub loop-a-init : goal.loop-a-init
loop-a-init c = below_none _

pub perms_at-b-requires : goal.perms_at-b-requires
perms_at-b-requires c =
    let a = c.args in
    let T : ShiftTables = given a.tables.now in
    let p = c.requires in
    perms-read T p.0 a.t c.loop-a.a p.1 c.loop-a-test.true

pub perms_at-x-requires : goal.perms_at-x-requires
perms_at-x-requires c =
    let a = c.args in
    let T : ShiftTables = given a.tables.now in
    let p = c.requires in
    perms-read T p.0 a.u _ p.2 (image-below T p.0 c.perms_at-b.ensures p.1 c.loop-a-test.true)

pub perms_at-y-requires : goal.perms_at-y-requires
perms_at-y-requires c =
    let a = c.args in
    let T : ShiftTables = given a.tables.now in
    let p = c.requires in
    perms-read T p.0 a.v c.loop-a.a p.3 c.loop-a-test.true

pub returns-then-ne : goal.returns-then-ne
unfolding is_after
returns-then-ne c =
    let a = c.args in
    let T : ShiftTables = given a.tables.now in
    let S = shifts_of T in
    let l = c.loop-a in
    let e : c.perms_at-x.result.0 ≡ row S a.u (row S a.t l.a) =
    c.perms_at-x.ensures ∙ perms_is T a.u _ ∙ ap (row S a.u) (c.perms_at-b.ensures ∙ perms_is T a.t l.a) in
    let d = c.perms_at-y.ensures ∙ perms_is T a.v l.a in
    one_failed a.tables.now.n_satom _ l.a c.loop-a-test.true (ap₂ eqb (sym e) (sym d) ∙ not-true _ (sym c.ne.ensures ∙ c.if-ne.true))

pub loop-a-preserved : goal.loop-a-preserved
loop-a-preserved c =
    let a = c.args in
    let T : ShiftTables = given a.tables.now in
    let S = shifts_of T in
    let l = c.loop-a in
    let e : c.perms_at-x.result.0 ≡ row S a.u (row S a.t l.a) =
    c.perms_at-x.ensures ∙ perms_is T a.u _ ∙ ap (row S a.u) (c.perms_at-b.ensures ∙ perms_is T a.t l.a) in
    let d = c.perms_at-y.ensures ∙ perms_is T a.v l.a in
    below_more _ l.a l.invariant (ap₂ eqb (sym e) (sym d) ∙ not-false _ (sym c.ne.ensures ∙ c.if-ne.false))

pub returns : goal.returns
unfolding is_after
returns c =
    let a = c.args in
    all-passed a.tables.now.n_satom _ (λ k h. c.loop-a.invariant k (omega arith))
