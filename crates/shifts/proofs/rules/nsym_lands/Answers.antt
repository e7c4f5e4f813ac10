use mathlib.Core.Path.{◌≡◌, sym, ap, ap₂, ◌∙◌}
use native.Mathlib.Omega.{arith}
use lib.Dec.{eqb}
use borrow.Author.Tests.{not-true, not-false}
use borrow.Author.Count.{below_none, below_more}
use Rattle.lists.specs.Digits.{in_row}
use Rattle.tables.specs.Compact.{ShiftTables, shifts_of, perms_is, p2s_is, s2pp_is, nsym_is, given}
use Rattle.tables.specs.Shifts.{Shifts, row, p2s_at, s2pp_at, nsym_at, nsym_lands}
use Rattle.tables.specs.Conditions.{read}
use Rattle.tables.proofs.Loops.{all-passed, one_failed}
use Rattle.shifts.proofs.rules.nsym_lands.Goals as goal

pub loop-a-init : goal.loop-a-init
loop-a-init c = below_none _

pub nsym_at-requires : goal.nsym_at-requires
nsym_at-requires c = (read c.requires.nsym_fit c.loop-a.a c.loop-a-test.true).0

pub perms_at-b-requires : goal.perms_at-b-requires
perms_at-b-requires c =
    let k = c.loop-a.a in
    let h = c.loop-a-test.true in
    (read c.requires.perms-fit _ (in_row c.args.tables.now.num_trans c.args.tables.now.n_satom c.nsym_at.result k (omega (arith, c.nsym_at.ensures, (read c.requires.nsym_fit k h).1)) h)).0

pub s2pp_at-requires : goal.s2pp_at-requires
s2pp_at-requires c = (read c.requires.s2pp-fit c.loop-a.a c.loop-a-test.true).0

pub p2s_at-d-requires : goal.p2s_at-d-requires
p2s_at-d-requires c =
    (read c.requires.p2s-fit c.s2pp_at.result.0 (omega (arith, c.s2pp_at.ensures, (read c.requires.s2pp-fit c.loop-a.a c.loop-a-test.true).1))).0

pub returns-then-ne : goal.returns-then-ne
unfolding nsym_lands
returns-then-ne c =
    let a = c.args in
    let l = c.loop-a in
    let T : ShiftTables = given a.tables.now in
    let S : Shifts = shifts_of T in
    let e : c.perms_at-b.result.0 ≡ row S (nsym_at S l.a) l.a =
    c.perms_at-b.ensures ∙ perms_is T _ l.a ∙ ap (λ t. row S t l.a) (c.nsym_at.ensures ∙ nsym_is T l.a) in
    let f : c.p2s_at-d.result.0 ≡ p2s_at S (s2pp_at S l.a) = c.p2s_at-d.ensures ∙ p2s_is T _ ∙ ap (p2s_at S) (c.s2pp_at.ensures ∙ s2pp_is T l.a) in
    one_failed _ _ l.a c.loop-a-test.true (ap₂ eqb (sym e) (sym f) ∙ not-true _ (sym c.ne.ensures ∙ c.if-ne.true))

pub loop-a-preserved : goal.loop-a-preserved
loop-a-preserved c =
    let a = c.args in
    let l = c.loop-a in
    let T : ShiftTables = given a.tables.now in
    let S : Shifts = shifts_of T in
    let e : c.perms_at-b.result.0 ≡ row S (nsym_at S l.a) l.a =
    c.perms_at-b.ensures ∙ perms_is T _ l.a ∙ ap (λ t. row S t l.a) (c.nsym_at.ensures ∙ nsym_is T l.a) in
    let f : c.p2s_at-d.result.0 ≡ p2s_at S (s2pp_at S l.a) = c.p2s_at-d.ensures ∙ p2s_is T _ ∙ ap (p2s_at S) (c.s2pp_at.ensures ∙ s2pp_is T l.a) in
    below_more _ l.a l.invariant (ap₂ eqb (sym e) (sym f) ∙ not-false _ (sym c.ne.ensures ∙ c.if-ne.false))

pub returns : goal.returns
unfolding nsym_lands
returns c = all-passed _ _ (λ k h. c.loop-a.invariant k (omega arith))
