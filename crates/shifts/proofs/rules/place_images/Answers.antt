use mathlib.Core.Bool.{true≢false}
use mathlib.Core.Path.{◌≡◌, refl, sym, ap, ◌∙◌, subst}
use Prim.Native.Nat.{◌+◌, ◌<◌}
use native.Mathlib.Omega.{arith}
use lib.ListN.{get_or, set}
use borrow.Author.Tests.{not-true, not-false, eqb-true, eq-eqb}
use Rattle.lists.specs.Tests.{not-both}
use Rattle.tables.specs.Conditions.{index_at, read}
use Rattle.shifts.specs.Rows.{image}
use Rattle.shifts.specs.Placing.{Placing}
use Rattle.shifts.proofs.Placing.{none-placing, placing-more, placing-twice}
use Rattle.shifts.proofs.Generators.{image-below, image-read}
use Rattle.shifts.proofs.rules.place_images.Goals as goal

pub loop-t-init : goal.loop-t-init
loop-t-init c = none-placing _ _ _ _ _ _ c.requires.4

pub perms_at-x-requires : goal.perms_at-x-requires
perms_at-x-requires c = image-read c.requires.1 c.loop-t.t c.args.a.0 c.loop-t-test.true c.requires.2

pub s2pp_at-q-requires : goal.s2pp_at-q-requires
s2pp_at-q-requires c =
    (read c.requires.0 c.perms_at-x.result.0 (omega (arith, c.perms_at-x.ensures, image-below c.requires.1 c.loop-t.t c.args.a.0 c.loop-t-test.true c.requires.2))).0

pub returns-then-ne : goal.returns-then-ne
returns-then-ne c =
    let a = c.args in
    let l = c.loop-t in
    let e = c.s2pp_at-q.ensures ∙ ap (index_at a.tables.now.s2pp.now) c.perms_at-x.ensures in
    (λ q. absurd (true≢false (sym q)), λ f. absurd (not-both (eq-eqb _ _ (e ∙ f.0 l.t c.loop-t-test.true)) (not-true _ (sym c.ne.ensures ∙ c.if-ne.true))))

pub offset_bounds-sent-i : goal.offset_bounds-sent-i
offset_bounds-sent-i c =
    omega (arith, c.perms_at-x.ensures, c.requires.1.atoms, image-below c.requires.1 c.loop-t.t c.args.a.0 c.loop-t-test.true c.requires.2)

pub bounds-sent-i : goal.bounds-sent-i
bounds-sent-i c =
    omega (arith, c.perms_at-x.ensures, c.requires.1.atoms, image-below c.requires.1 c.loop-t.t c.args.a.0 c.loop-t-test.true c.requires.2)

pub returns-then-sent-i-ne0 : goal.returns-then-sent-i-ne0
returns-then-sent-i-ne0 c =
    let a = c.args in
    let l = c.loop-t in
    let h = c.loop-t-test.true in
    let e = c.perms_at-x.ensures in (
      λ q. absurd (true≢false (sym q)),
      λ f. absurd (placing-twice a.tables.now.n_satom l.t a.a.0 a.p.0 a.tables.now.perms.now a.tables.now.s2pp.now a.sent.now l.sent l.invariant a.tables.now.num_trans h c.requires.3 f (λ z. c.if-sent-i-ne0.true (ap (λ x. get_or l.sent x 0) e ∙ z))),
    )

pub offset_bounds-sent-i-in-loop-t : goal.offset_bounds-sent-i-in-loop-t
offset_bounds-sent-i-in-loop-t c =
    omega (arith, c.perms_at-x.ensures, c.requires.1.atoms, image-below c.requires.1 c.loop-t.t c.args.a.0 c.loop-t-test.true c.requires.2)

pub bounds-sent-i-in-loop-t : goal.bounds-sent-i-in-loop-t
bounds-sent-i-in-loop-t c =
    omega (arith, c.perms_at-x.ensures, c.requires.1.atoms, image-below c.requires.1 c.loop-t.t c.args.a.0 c.loop-t-test.true c.requires.2)

pub loop-t-preserved : goal.loop-t-preserved
loop-t-preserved c =
    let a = c.args in
    let l = c.loop-t in
    let h = c.loop-t-test.true in
    let e : c.perms_at-x.result.0 ≡ image a.tables.now.perms.now a.tables.now.n_satom l.t a.a.0 = c.perms_at-x.ensures in
    let f = c.s2pp_at-q.ensures ∙ ap (index_at a.tables.now.s2pp.now) e in
    let small : image a.tables.now.perms.now a.tables.now.n_satom l.t a.a.0 < 1024 = omega (arith, c.requires.1.atoms, image-below c.requires.1 l.t a.a.0 h c.requires.2) in
    subst (λ x. Placing a.tables.now.n_satom (l.t + 1) a.a.0 a.p.0 a.tables.now.perms.now a.tables.now.s2pp.now a.sent.now (set l.sent x (l.t + 1))) (sym e)
    (placing-more a.tables.now.n_satom l.t a.a.0 a.p.0 a.tables.now.perms.now a.tables.now.s2pp.now a.sent.now l.sent l.invariant small (sym f ∙ eqb-true _ _ (not-false _ (sym c.ne.ensures ∙ c.if-ne.false))) (ap (λ x. get_or l.sent x 0) (sym e) ∙ c.if-sent-i-ne0.false))

pub returns : goal.returns
returns c =
    let a = c.args in
    let l = c.loop-t in
    let i : l.t ≡ a.tables.now.num_trans = omega arith in
    (λ _. subst (λ k. Placing a.tables.now.n_satom k a.a.0 a.p.0 a.tables.now.perms.now a.tables.now.s2pp.now a.sent.now l.sent) i l.invariant, λ _. refl)
