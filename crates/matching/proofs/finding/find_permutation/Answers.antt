use mathlib.Core.Path.{sym, ◌∙◌}
use native.Mathlib.Omega.{arith}
use lib.ListN.{length}
use Rattle.std.proofs.lemmas.Result.{err_from_is_err_and}
use Rattle.matching.proofs.FindingOutcomeLaws.{accepted, refused, finished}
use Rattle.matching.proofs.finding.find_permutation.Goals as goal

pub find-requires : goal.find-requires
find-requires c =
    let a = c.args in
    let g = accepted (length a.rot_atom.now) (length a.marks.now) (length a.pos.now) (length a.rot_pos.now) a.num_pos (sym c.judge_finding.ensures ∙ c.in_ok-judge_finding.was) in (
      omega (arith, g.small, g.slots_len),
      g.marks-len ∙ sym g.slots_len,
      record { pos_len = omega (arith, g.slots_len, g.triples.pos_len); rot_len = omega (arith, g.slots_len, g.triples.rot_len) },
    )

pub returns-in_err-judge_finding : goal.returns-in_err-judge_finding
returns-in_err-judge_finding c =
    let a = c.args in
    let p = err_from_is_err_and c.from_residual.result c.from_residual.ensures.1 in
    rw (p.1, p.2) (refused a.rot_atom.now a.marks.now a.cell a.pos.now a.rot_pos.now a.num_pos _ (sym c.judge_finding.ensures ∙ c.in_err-judge_finding.was))

pub returns : goal.returns
returns c =
    let a = c.args in
    let d = sym c.judge_finding.ensures ∙ c.in_ok-judge_finding.was in
    let g = accepted (length a.rot_atom.now) (length a.marks.now) (length a.pos.now) (length a.rot_pos.now) a.num_pos d in
    finished a.rot_atom.now a.marks.now a.cell a.pos.now a.rot_pos.now a.num_pos (length a.rot_atom.now) _ d g.slots_len c.find.ensures
