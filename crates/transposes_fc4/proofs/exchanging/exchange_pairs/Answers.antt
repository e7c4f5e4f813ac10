use mathlib.Core.Path.{sym}
use Rattle.transposes_fc4.specs.Pairs.{from_pairs}
use Rattle.orbits.specs.InnerLaws.{flipped, swapped-flipped}
use Rattle.transposes_fc4.proofs.exchanging.exchange_pairs.Goals as goal

pub returns-then-b-a : goal.returns-then-b-a
returns-then-b-a c =
    let a = c.args in
    flipped 81 (from_pairs a.m.now 27) a.a a.b a.fc4.now (sym c.if-b-a.true) c.permute_pairs.ensures

pub returns : goal.returns
returns c =
    let a = c.args in
    swapped-flipped 81 (from_pairs a.m.now 27) a.a a.b a.fc4.now (λ e. c.if-b-a.false (sym e)) c.requires.1 c.requires.2 c.swap_blocks.ensures c.permute_pairs-2.ensures c.permute_pairs-3.ensures
