use native.Mathlib.Omega.{arith}
use mathlib.Core.Path.{ap, ◌∙◌}
use mathlib.Core.List.{◌∷◌, []}
use lib.ListN.{length-set}
use Rattle.capi_cells.specs.Explained.{slots_of, five_slots}
use Rattle.capi_cells.proofs.capi_explaining.put.Goals as goal

pub bounds-place-4 : goal.bounds-place-4
bounds-place-4 c =
    let h = c.requires in
    simp length-set (omega arith)

pub shape_of-place : goal.shape_of-place
shape_of-place c = simp length-set

pub returns : goal.returns
unfolding slots_of
returns c =
    let a = c.args in
    let e = a.e in
    five_slots a.place.now _ e.which e.first e.second e.third c.requires ∙ ap (λ n. n ∷ (e.which ∷ (e.first ∷ (e.second ∷ (e.third ∷ []))))) c.number.ensures
