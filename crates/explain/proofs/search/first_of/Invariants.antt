use mathlib.Core.Path.{◌≡◌}
use mathlib.Core.Bool.{false}
use Prim.Native.Nat.{ℕ, ◌<◌}
use Rattle.tables.specs.Compact.{shifts_of, given}
use Rattle.explain.specs.Explain.{Rule, rule_at, broken_from}
use Rattle.explain.proofs.search.first_of.Given as goal

abbrev pub invariant-loop-i : goal.invariant-loop-i
invariant-loop-i l =
    let R : Rule = rule_at (shifts_of (given l.tables)) l.rule in
    (q : ℕ) → q < l.i → broken_from R q ≡ false
