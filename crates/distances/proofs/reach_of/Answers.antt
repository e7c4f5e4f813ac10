use mathlib.Core.Path.{ap, ◌∙◌}
use mathlib.Core.Bool.{Bool}
use lib.Ieee.{Float, binary64, mul}
use Rattle.distances.specs.declared.Reach.{Reach}
use Rattle.distances.specs.Reach.{early_in, sure_of}
use Rattle.distances.proofs.Numbers.{early_moved, only_moved}
use Rattle.distances.proofs.reach_of.Goals as goal

pub returns : goal.returns
returns c =
    let a = c.args in
    let w = c.with_sure.ensures in
    let e = c.early_in-early.ensures in
    let q = ap (λ (r : Reach). r.square) w.0 in
    let f = ap (λ (r : Reach). r.early) w.0 in (
      w.0 ∙ ap (λ (z : Float). record { square = mul binary64 a.cell.symprec a.cell.symprec; sure = sure_of a.cell.symprec (mul binary64 a.cell.symprec a.cell.symprec); early = z }) (e.0 ∙ ap (λ (b : Bool). early_in b (mul binary64 a.cell.symprec a.cell.symprec) a.cell.lattice) c.everywhere.ensures),
      record {
        reaches = w.1;
        early_is = early_moved a.cell.lattice _ _ _ _ q f e.1;
        only_if = only_moved _ _ _ _ c.everywhere.ensures f e.2;
      },
    )
