use mathlib.Core.Path.{◌≡◌}
use mathlib.Core.Bool.{false}
use Prim.Native.Nat.{ℕ, ◌<◌}
use Rattle.tables.specs.Compact.{shifts_of, given}
use Rattle.explain.specs.Explain.{Rule, rule_at}
use Rattle.explain.proofs.search.third_of.Given as goal

abbrev pub invariant-loop-k : goal.invariant-loop-k
invariant-loop-k l =
    let R : Rule = rule_at (shifts_of (given l.tables)) l.rule in
    (q : ℕ) → q < l.k → R.breaks l.i l.j q ≡ false
