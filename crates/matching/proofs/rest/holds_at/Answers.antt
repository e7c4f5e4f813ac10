use mathlib.Core.Path.{sym, ap, ◌∙◌}
use lib.IntN.{pos}
use Rattle.matching.specs.StepLaws.{filled_pos}
use Rattle.matching.specs.Rest.{there-told, free-told}
use Rattle.matching.proofs.rest.holds_at.Goals as goal

pub entry-k-requires : goal.entry-k-requires
entry-k-requires c =
    let a = c.args in
    (c.requires, filled_pos a.rot_atom.now a.j (sym c.filled_at.ensures ∙ c.if-filled_at.true))

pub returns-then-filled_at : goal.returns-then-filled_at
returns-then-filled_at c =
    let a = c.args in
    let f = filled_pos a.rot_atom.now a.j (sym c.filled_at.ensures ∙ c.if-filled_at.true) in
    there-told a.rot_atom.now a.j a.i c.entry-k.result (f ∙ ap pos (sym c.entry-k.ensures))

pub returns : goal.returns
returns c =
    let a = c.args in
    free-told a.rot_atom.now a.j a.i (sym c.filled_at.ensures ∙ c.if-filled_at.false)
