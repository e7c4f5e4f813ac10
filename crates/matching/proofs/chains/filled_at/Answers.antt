use mathlib.Core.Path.{◌≡◌}
use native.Mathlib.Omega.{arith}
use Rattle.tables.proofs.Integers.{handed}
use Rattle.matching.specs.Matching.{is_filled}
use Rattle.matching.proofs.chains.filled_at.Goals as goal

pub returns : goal.returns
returns c =
    let a = c.args in
    handed (λ z. c.is_filled.result ≡ is_filled z) a.rot_atom.now a.j (omega arith) c.is_filled.ensures
