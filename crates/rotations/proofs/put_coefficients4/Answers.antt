use mathlib.Core.Path.{sym, ap, ◌∙◌}
use native.Mathlib.Omega.{arith}
use Rattle.rotations.specs.Rotation.{widened}
use Rattle.rotations.specs.Laws.{widens}
use Rattle.rotations.proofs.put_coefficients4.Goals as goal

pub returns : goal.returns
returns c =
    let m = c.args.m in
    c.widen.ensures ∙ ap (λ b. widened 27 b m) c.coefficients3-b.ensures ∙ sym (widens m 2 27 (omega arith))
