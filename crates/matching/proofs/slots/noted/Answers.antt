use Rattle.matching.specs.Search.{noted_by}
use mathlib.Core.Path.{sym, ap, ◌∙◌}
use Rattle.matching.proofs.slots.noted.Goals as goal

pub returns-in-NoNumber : goal.returns-in-NoNumber
returns-in-NoNumber c =
    let a = c.args in
    c.earlier.ensures ∙ ap (λ d. noted_by d a.none a.n a.j) (sym c.in-NoNumber.is)
