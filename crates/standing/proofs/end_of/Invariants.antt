use mathlib.Core.Path.{◌≡◌}
use Prim.Native.Nat.{◌<◌}
use Rattle.roll.specs.Reading.{record_start}
use Rattle.standing.specs.Walk.{record_of}
use Rattle.standing.specs.Chains.{carried}
use Rattle.standing.proofs.end_of.Given as goal

abbrev pub invariant-loop : goal.invariant-loop
invariant-loop l = (l.p ≡ record_start l.b l.counter) × (l.y ≡ carried (record_of l.b) l.counter l.x) × (l.y < 4294967296)
