use Rattle.std.proofs.Common.{◌≡◌, ◌<◌, IfSome}
use Rattle.roll.specs.Reading.{record_start}
use Rattle.standing.specs.Walk.{Notes, record_of, register_after, set_or_zero}
use Rattle.standing.proofs.look_up.Given as goal

abbrev pub invariant-loop : goal.invariant-loop
invariant-loop l = (l.p ≡ record_start l.b l.counter) × Notes (register_after (record_of l.b) l.counter) l.x l.delivered l.retired (set_or_zero l.by) × IfSome l.by (λ m. 0 < m)
