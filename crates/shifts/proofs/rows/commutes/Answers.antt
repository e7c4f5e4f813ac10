use mathlib.Core.Bool.{true≢false}
use mathlib.Core.Path.{refl, sym, ap, ◌∙◌}
use native.Mathlib.Omega.{arith}
use lib.ListN.{get_or}
use borrow.Author.Tests.{not-true, not-false, eqb-true, eq-eqb}
use borrow.Author.Count.{below_none, below_more}
use Rattle.lists.specs.Tests.{not-both}
use Rattle.shifts.specs.Rows.{image}
use Rattle.shifts.proofs.Generators.{image-below, image-read}
use Rattle.shifts.proofs.rows.commutes.Goals as goal

pub loop-a-init : goal.loop-a-init
loop-a-init c = below_none _

pub perms_at-b-requires : goal.perms_at-b-requires
perms_at-b-requires c = image-read c.requires.0 c.args.g c.loop-a.a c.requires.1 c.loop-a-test.true

pub shifted-requires : goal.shifted-requires
shifted-requires c = omega (arith, c.requires.0.atoms, c.loop-a-test.true)

pub perms_at-d-requires : goal.perms_at-d-requires
perms_at-d-requires c =
    let h = c.requires.2 c.loop-a.a c.loop-a-test.true in
    image-read c.requires.0 c.args.g c.shifted.result.0 c.requires.1 (omega (arith, c.shifted.ensures, h))

pub shifted-requires-in-loop-a : goal.shifted-requires-in-loop-a
shifted-requires-in-loop-a c =
    omega (arith, c.perms_at-b.ensures, c.requires.0.atoms, image-below c.requires.0 c.args.g c.loop-a.a c.requires.1 c.loop-a-test.true)

pub returns-then-ne : goal.returns-then-ne
returns-then-ne c =
    let l = c.loop-a in
    let e = c.perms_at-d.ensures ∙ ap (image c.args.tables.now.perms.now c.args.tables.now.n_satom c.args.g) c.shifted.ensures in
    let f = c.shifted-in-loop-a.ensures ∙ ap (λ x. get_or c.args.right.now x 0) c.perms_at-b.ensures in
    (λ q. absurd (true≢false (sym q)), λ h. absurd (not-both (eq-eqb _ _ (e ∙ h l.a c.loop-a-test.true ∙ sym f)) (not-true _ (sym c.ne.ensures ∙ c.if-ne.true))))

pub loop-a-preserved : goal.loop-a-preserved
loop-a-preserved c =
    let l = c.loop-a in
    let e = c.perms_at-d.ensures ∙ ap (image c.args.tables.now.perms.now c.args.tables.now.n_satom c.args.g) c.shifted.ensures in
    let f = c.shifted-in-loop-a.ensures ∙ ap (λ x. get_or c.args.right.now x 0) c.perms_at-b.ensures in
    below_more _ l.a l.invariant (sym e ∙ eqb-true _ _ (not-false _ (sym c.ne.ensures ∙ c.if-ne.false)) ∙ f)

pub returns : goal.returns
returns c = (λ _ k h. c.loop-a.invariant k (omega arith), λ _. refl)
