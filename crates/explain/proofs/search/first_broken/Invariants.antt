use mathlib.Core.Path.{◌≡◌}
use mathlib.Core.Bool.{false}
use Prim.Native.Nat.{ℕ, ◌<◌}
use Rattle.tables.specs.Shifts.{Shifts}
use Rattle.tables.specs.Compact.{shifts_of, given}
use Rattle.explain.specs.Explain.{rule_at, broken}
use Rattle.explain.proofs.search.first_broken.Given as goal

abbrev pub invariant-loop-rule : goal.invariant-loop-rule
invariant-loop-rule l =
    let S : Shifts = shifts_of (given l.tables) in
    (q : ℕ) → q < l.rule → broken (rule_at S q) ≡ false
