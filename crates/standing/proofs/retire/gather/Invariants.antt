use mathlib.Core.Path.{◌≡◌}
use Prim.Native.Nat.{◌≤◌}
use lib.ListN.{length, take}
use Rattle.roll.specs.Reading.{record_start}
use Rattle.standing.specs.Walk.{record_of}
use Rattle.standing.specs.Steps.{waits_at, gathered_to}
use Rattle.standing.proofs.retire.gather.Given as goal

abbrev pub invariant-loop : goal.invariant-loop
invariant-loop l =
    (l.m ≤ l.counter) × (l.p ≡ record_start l.b l.counter) × (length l.list ≡ length l.initial.list) × (take l.m l.list ≡ gathered_to (waits_at (record_of l.b) l.n l.last) (record_of l.b) l.counter)
