use mathlib.Core.Path.{◌≡◌}
use Prim.Native.Nat.{ℕ, ◌<◌}
use lib.ListN.{length, get_or}
use Rattle.shifts.specs.Loops.{Settled}
use Rattle.shifts.proofs.rows.all_settled.Given as goal

abbrev pub invariant-loop-s : goal.invariant-loop-s
invariant-loop-s l = (length l.right ≡ 1024) × ((k : ℕ) → k < l.s → (get_or l.gens k 0 ≡ 0 → ⊥) → Settled l.tables.n_satom l.tables.num_trans l.tables.perms.now l.tables.p2s.now l.tables.s2pp.now l.sent l.gens k)
