use mathlib.Core.Path.{ap, ◌∙◌}
use native.Mathlib.Omega.{arith}
use lib.ListN.{get_or}
use Rattle.shifts.specs.Rows.{image}
use Rattle.shifts.proofs.Generators.{image-below, image-read}
use Rattle.shifts.proofs.rows.row_after.Goals as goal

pub perms_at-requires : goal.perms_at-requires
perms_at-requires c = image-read c.requires.0.rows c.args.r c.args.base.0 c.requires.1 c.requires.0.below

pub perms_at-requires-2 : goal.perms_at-requires-2
perms_at-requires-2 c =
    let R = c.requires.0.rows in
    image-read R c.args.u c.perms_at.result.0 c.requires.2 (omega (arith, c.perms_at.ensures, image-below R c.args.r c.args.base.0 c.requires.1 c.requires.0.below))

pub sender-requires : goal.sender-requires
sender-requires c =
    let a = c.args in
    let M = c.requires.0 in
    let e = c.perms_at-2.ensures ∙ ap (image a.tables.now.perms.now a.tables.now.n_satom a.u) c.perms_at.ensures in
    let f = ap (λ x. get_or a.sent.now x 0) e in
    let h = image-below M.rows a.u _ c.requires.2 (image-below M.rows a.r a.base.0 c.requires.1 M.below) in
    (omega (arith, e, M.rows.atoms, h), omega (arith, f, (M.named _ h).0))

pub returns : goal.returns
returns c =
    let a = c.args in
    let M = c.requires.0 in
    let e = c.perms_at-2.ensures ∙ ap (image a.tables.now.perms.now a.tables.now.n_satom a.u) c.perms_at.ensures in
    let f = ap (λ x. get_or a.sent.now x 0) e in
    let h = M.named _ (image-below M.rows a.u _ c.requires.2 (image-below M.rows a.r a.base.0 c.requires.1 M.below)) in
    let r = c.sender.ensures in
    (omega (arith, r, f, h.0, h.1), omega (arith, r, f, h.0))
