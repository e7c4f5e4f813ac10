use mathlib.Core.Path.{◌≡◌, sym, ap, ◌∙◌}
use native.Mathlib.Omega.{arith}
use lib.Dec.{lit<}
use lib.IntN.{pos}
use mir.Syntax.{w64}
use mir.Val.{to_z, of_z}
use mir.ValLaws.{to_z-of_z}
use Rattle.tables.specs.Compact.{shifts_of, given}
use Rattle.transposes_fc4.specs.Fc4LoopLaws.{by_zero, by-other}
use Rattle.transposes_fc4.proofs.by_type.Goals as goal

pub exchange_legs-requires : goal.exchange_legs-requires
exchange_legs-requires c = (c.requires, lit< tt, lit< tt, λ e. omega (arith, e))

pub returns-then-t_type-eq0 : goal.returns-then-t_type-eq0
returns-then-t_type-eq0 c =
    let z : c.args.t_type ≡ pos 0 = sym (to_z-of_z w64 c.args.t_type c.ranges.t_type) ∙ ap (to_z w64) c.if-t_type-eq0.true in
    c.exchange_legs.ensures ∙ by_zero c.args.half_shifts_stay (given c.args.tables.now) c.requires.sound.rules c.args.fc4.now c.requires.set-length c.args.t_type z

pub returns-else-t_type-eq0 : goal.returns-else-t_type-eq0
returns-else-t_type-eq0 c =
    by-other c.args.half_shifts_stay (shifts_of (given c.args.tables.now)) c.args.fc4.now c.args.t_type (λ z. c.if-t_type-eq0.false (ap (of_z w64) z))
