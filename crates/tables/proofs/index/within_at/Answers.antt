use mathlib.Core.Path.{◌≡◌, sym, ◌∙◌}
use Rattle.tables.specs.Conditions.{below}
use Rattle.tables.proofs.Integers.{handed}
use Rattle.tables.proofs.index.within_at.Goals as goal

pub returns : goal.returns
returns c =
    let a = c.args in
    let e = handed (λ z. c.is_within.result ≡ below a.n z) a.t.now a.i c.is_within-arg-1.given c.is_within.ensures in
    (λ q. sym e ∙ q, λ q. e ∙ q)
