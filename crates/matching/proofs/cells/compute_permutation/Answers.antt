use mathlib.Core.Path.{sym, ap, ◌∙◌}
use native.Mathlib.Omega.{arith}
use lib.ListN.{length}
use Rattle.std.proofs.lemmas.Result.{err_from_is_err_and}
use Rattle.distances.specs.Near.{distance}
use Rattle.matching.specs.Matching.{searched}
use Rattle.matching.proofs.CellsOutcomeLaws.{accepted, refused, done}
use Rattle.matching.proofs.cells.compute_permutation.Goals as goal

pub fill-requires : goal.fill-requires
fill-requires c =
    let a = c.args in
    let g = accepted (length a.rot_atom.now) (length a.pos.now) (length a.rot_pos.now) a.num_pos (sym c.judge_matching.ensures ∙ c.in_ok-judge_matching.was) in
    record { pos_len = omega (arith, g.slots_len, g.triples.pos_len); rot_len = omega (arith, g.slots_len, g.triples.rot_len) }

pub returns-in_err-judge_matching : goal.returns-in_err-judge_matching
returns-in_err-judge_matching c =
    let a = c.args in
    let p = err_from_is_err_and c.from_residual.result c.from_residual.ensures.1 in
    rw (p.1, p.2) (refused a.rot_atom.now a.cell a.pos.now a.rot_pos.now a.num_pos _ (sym c.judge_matching.ensures ∙ c.in_err-judge_matching.was))

pub returns : goal.returns
returns c =
    let a = c.args in
    let d = sym c.judge_matching.ensures ∙ c.in_ok-judge_matching.was in
    let n = (accepted (length a.rot_atom.now) (length a.pos.now) (length a.rot_pos.now) a.num_pos d).slots_len in
    done a.rot_atom.now a.cell a.pos.now a.rot_pos.now a.num_pos _ _ d (c.fill.ensures ∙ ap (searched (distance a.cell a.pos.now a.rot_pos.now)) n)
