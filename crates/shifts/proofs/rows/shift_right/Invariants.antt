use mathlib.Core.Path.{◌≡◌}
use Prim.Native.Nat.{ℕ, ◌<◌}
use lib.ListN.{length, get_or}
use Rattle.shifts.specs.Loops.{right_of}
use Rattle.shifts.proofs.rows.shift_right.Given as goal

abbrev pub invariant-loop-a : goal.invariant-loop-a
invariant-loop-a l = ((k : ℕ) → k < l.a → get_or l.right k 0 ≡ right_of l.tables.perms.now l.tables.n_satom l.tables.p2s.now l.tables.s2pp.now l.sent l.s k) × (length l.right ≡ 1024)
