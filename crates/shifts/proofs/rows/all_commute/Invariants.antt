use mathlib.Core.Path.{◌≡◌}
use Prim.Native.Nat.{ℕ, ◌<◌}
use lib.ListN.{get_or}
use Rattle.shifts.specs.Loops.{Commutes}
use Rattle.shifts.proofs.rows.all_commute.Given as goal

abbrev pub invariant-loop-g : goal.invariant-loop-g
invariant-loop-g l = (k : ℕ) → k < l.g → (get_or l.gens k 0 ≡ 0 → ⊥) → Commutes l.tables.n_satom l.tables.perms.now k (λ a. get_or l.right a 0)
