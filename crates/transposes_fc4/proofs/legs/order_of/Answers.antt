use Rattle.transposes_fc4.specs.Rows.{order_is}
use Rattle.transposes_fc4.proofs.legs.order_of.Goals as goal

pub returns : goal.returns
returns c =
    order_is c.args.leg_a c.args.leg_b c.partner.ensures c.partner-2.ensures c.partner-3.ensures c.partner-4.ensures
