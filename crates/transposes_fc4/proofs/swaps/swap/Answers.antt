use mathlib.Core.Path.{◌∙◌}
use Rattle.tables.specs.Compact.{given}
use Rattle.transposes_fc4.specs.Loops.{swaps}
use Rattle.transposes_fc4.specs.Guard.{swapped-none}
use Rattle.transposes_fc4.proofs.swaps.swap.Goals as goal

pub returns-then-leg_a-leg_b : goal.returns-then-leg_a-leg_b
returns-then-leg_a-leg_b c =
    swapped-none c.args.leg_a c.args.leg_b _ c.args.fc4.now c.if-leg_a-leg_b.true

pub exchange_legs-requires : goal.exchange_legs-requires
exchange_legs-requires c = (c.requires.0, c.requires.1, c.requires.2, c.if-leg_a-leg_b.false)

pub returns : goal.returns
returns c =
    c.exchange_legs.ensures
    ∙ swaps c.args.leg_a c.args.leg_b (given c.args.tables.now) c.requires.1 c.requires.2 c.if-leg_a-leg_b.false c.requires.0.sound.rules c.args.fc4.now c.requires.0.set-length
