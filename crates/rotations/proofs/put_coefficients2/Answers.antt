use mathlib.Core.Path.{sym, ap, ◌∙◌}
use Rattle.rotations.specs.Rotation.{widened}
use Rattle.rotations.specs.Laws.{one-leg, widens}
use native.Mathlib.Omega.{arith}
use Rattle.rotations.proofs.put_coefficients2.Goals as goal

pub returns : goal.returns
returns c =
    let m = c.args.m in
    c.widen.ensures ∙ ap (λ b. widened 3 b m) (c.transposed9-t.ensures ∙ one-leg m) ∙ sym (widens m 0 3 (omega arith))
