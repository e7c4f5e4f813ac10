use Rattle.matching.proofs.Signs.{read_back}
use Rattle.matching.specs.Matching.{is_filled}
use mathlib.Core.Path.{◌≡◌, sym, ◌∙◌}
use Rattle.matching.proofs.slots.tried.Goals as goal

pub returns-then-is_filled : goal.returns-then-is_filled
returns-then-is_filled c =
    rw (sym (read_back (λ z. c.is_filled.result ≡ is_filled z) c.args.slot c.ranges.slot c.is_filled.ensures) ∙ c.if-is_filled.true)

pub returns : goal.returns
returns c =
    rw (sym (read_back (λ z. c.is_filled.result ≡ is_filled z) c.args.slot c.ranges.slot c.is_filled.ensures) ∙ c.if-is_filled.false) c.distance_of.ensures
