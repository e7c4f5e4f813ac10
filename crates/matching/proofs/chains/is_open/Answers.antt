use mathlib.Core.Path.{sym, ◌∙◌}
use native.Mathlib.Omega.{arith}
use Rattle.matching.specs.Groups.{held_below}
use Rattle.matching.specs.StepLaws.{filled_pos, open_held, open_free, open_far}
use Rattle.matching.proofs.chains.is_open.Goals as goal

pub entry-requires : goal.entry-requires
entry-requires c =
    (c.requires.j_in_bounds, filled_pos c.args.rot_atom.now c.args.j (sym c.filled_at.ensures ∙ c.if-filled_at.true))

pub bounds-marks-entry : goal.bounds-marks-entry
bounds-marks-entry c =
    let a = c.args in
    let H = c.requires.homeless in
    let f = filled_pos a.rot_atom.now a.j (sym c.filled_at.ensures ∙ c.if-filled_at.true) in
    omega (arith, c.entry.ensures, (held_below _ _ a.rot_atom.now H.partial a.j _ c.requires.j_in_bounds f).0, H.marks_are.len)

pub returns-then-filled_at : goal.returns-then-filled_at
returns-then-filled_at c =
    let a = c.args in
    rw c.entry.ensures (open_held _ a.rot_atom.now a.marks.now a.i a.j
    (sym c.near.ensures ∙ c.if-near.true) (sym c.filled_at.ensures ∙ c.if-filled_at.true))

pub returns-then-near : goal.returns-then-near
returns-then-near c =
    let a = c.args in
    open_free _ a.rot_atom.now a.marks.now a.i a.j
    (sym c.near.ensures ∙ c.if-near.true) (sym c.filled_at.ensures ∙ c.if-filled_at.false)

pub returns : goal.returns
returns c =
    let a = c.args in
    open_far _ a.rot_atom.now a.marks.now a.i a.j (sym c.near.ensures ∙ c.if-near.false)
