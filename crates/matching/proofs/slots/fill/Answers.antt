use mathlib.Core.Path.{sym, ap, ◌∙◌}
use native.Mathlib.Omega.{arith}
use lib.IntN.{negsuc}
use lib.ListN.{length, length-replicate}
use Rattle.distances.specs.Near.{distance}
use Rattle.matching.proofs.CellsOutcomeLaws.{all_found, not_found}
use Rattle.matching.proofs.slots.fill.Goals as goal

pub place_all-p-requires : goal.place_all-p-requires
place_all-p-requires c =
    let l = ap length c.clear.ensures ∙ length-replicate (length c.args.rot_atom.now) (negsuc 0) in
    record { pos_len = omega (arith, l, c.requires.pos_len); rot_len = omega (arith, l, c.requires.rot_len) }

pub returns-then-all_filled : goal.returns-then-all_filled
returns-then-all_filled c =
    let a = c.args in
    all_found (distance a.cell a.pos.now a.rot_pos.now) (length a.rot_atom.now) _ c.clear.ensures _ _ c.place_all-p.ensures.0 c.place_all-p.ensures.1
    (sym c.all_filled.ensures ∙ c.if-all_filled.true)

pub returns : goal.returns
returns c =
    let a = c.args in
    not_found (distance a.cell a.pos.now a.rot_pos.now) (length a.rot_atom.now) _ c.clear.ensures _ _ c.place_all-p.ensures.0 c.place_all-p.ensures.1
    _ (sym c.all_filled.ensures ∙ c.if-all_filled.false) c.failed.ensures
