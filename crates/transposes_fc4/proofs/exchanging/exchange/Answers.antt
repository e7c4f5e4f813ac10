use mathlib.Core.Path.{sym, ◌∙◌}
use Rattle.places.specs.Moves.{order4}
use Rattle.blocks.specs.Permuted.{permuted}
use Rattle.transposes_fc4.specs.Pairs.{from_pairs, same-positions}
use Rattle.transposes_fc4.proofs.exchanging.exchange.Goals as goal

pub returns-then-first_two : goal.returns-then-first_two
returns-then-first_two c =
    let a = c.args in
    c.exchange_nines.ensures
    ∙ same-positions (permuted 3 (order4 0)) (from_pairs a.m.now 27) (λ k h. sym (c.requires.1 c.if-first_two.true k h)) a.a a.b a.fc4.now

pub returns : goal.returns
returns c = c.exchange_pairs.ensures
