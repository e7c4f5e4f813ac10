use mathlib.Core.Path.{◌≡◌}
use mathlib.Core.Bool.{false}
use Prim.Native.Nat.{ℕ, ◌<◌}
use Rattle.tables.specs.Compact.{shifts_of, given}
use Rattle.explain.specs.Explain.{Rule, rule_at, broken_at}
use Rattle.explain.proofs.search.second_of.Given as goal

abbrev pub invariant-loop-j : goal.invariant-loop-j
invariant-loop-j l =
    let R : Rule = rule_at (shifts_of (given l.tables)) l.rule in
    (q : ℕ) → q < l.j → broken_at R l.i q ≡ false
