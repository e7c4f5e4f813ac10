use mathlib.Core.Path.{◌≡◌, sym, ap}
use mathlib.Core.Bool.{cond}
use Prim.Native.Nat.{ℕ, ◌≤◌}
use borrow.Author.Tests.{lt-ltb, le-ltb}
use Rattle.matching.specs.declared.cells.Pair.{Pair}
use Rattle.matching.specs.declared.cells.Matching.TheVariants.{NotMatched, NoNumber}
use Rattle.matching.specs.Matching.{failed_by}
use Rattle.matching.proofs.slots.failed.Goals as goal

not_named : (n : ℕ) (p : Pair) → n ≤ p.position → NotMatched ≡ failed_by n p
not_named n p h = sym (ap (λ b. cond b (NoNumber p) NotMatched) (le-ltb p.position n h))

pub returns-then-p-n : goal.returns-then-p-n
returns-then-p-n c = simp (lt-ltb _ _ c.if-p-n.true)

pub returns : goal.returns
returns c = not_named _ _ c.if-p-n.false
