use mathlib.Core.Path.{sym, ap, ◌∙◌}
use native.Mathlib.Omega.{arith}
use borrow.Author.Tests.{eqb-true, eq-eqb}
use Rattle.shifts.specs.Rows.{image}
use Rattle.shifts.proofs.Generators.{image-below, image-read}
use Rattle.shifts.proofs.rows.agrees_at.Goals as goal

pub perms_at-requires : goal.perms_at-requires
perms_at-requires c = image-read c.requires.0 c.args.t c.args.a.0 c.requires.1 c.requires.4

pub perms_at-b-requires : goal.perms_at-b-requires
perms_at-b-requires c =
    image-read c.requires.0 c.args.u c.perms_at.result.0 c.requires.2 (omega (arith, c.perms_at.ensures, image-below c.requires.0 c.args.t c.args.a.0 c.requires.1 c.requires.4))

pub perms_at-d-requires : goal.perms_at-d-requires
perms_at-d-requires c = image-read c.requires.0 c.args.v c.args.a.0 c.requires.3 c.requires.4

pub returns : goal.returns
returns c =
    let a = c.args in
    let e = c.perms_at-b.ensures ∙ ap (image a.tables.now.perms.now a.tables.now.n_satom a.u) c.perms_at.ensures in
    let f = c.perms_at-d.ensures in
    let r = c.eq.ensures in
    (λ q. sym e ∙ eqb-true _ _ (sym r ∙ q) ∙ f, λ q. r ∙ eq-eqb _ _ (e ∙ q ∙ sym f))
