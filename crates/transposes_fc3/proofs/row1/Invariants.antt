use mathlib.Core.Path.{◌≡◌}
use Rattle.lists.specs.Tab.{times}
use Rattle.tables.specs.Compact.{given}
use Rattle.transposes_fc3.specs.Fc3Loops.{at3, exchange_at}
use Rattle.transposes_fc3.proofs.row1.Given as goal

abbrev pub invariant-loop-k : goal.invariant-loop-k
invariant-loop-k l =
    let T = given l.tables in
    l.fc3 ≡ times l.k (λ k. exchange_at l.half_shifts_stay T 1 (at3 T l.p.0 l.j.0 k)) l.initial.fc3
