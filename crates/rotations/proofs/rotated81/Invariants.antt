use mathlib.Core.Path.{◌≡◌}
use Prim.Native.Nat.{◌-◌, ◌*◌, ◌≤◌}
use lib.ListN.{length}
use Rattle.rotations.specs.Laws.{Filled}
use Rattle.rotations.proofs.rotated81.Given as goal

abbrev pub invariant-loop-h : goal.invariant-loop-h
invariant-loop-h l = (l.h ≤ 4) × (length l.r ≡ 81) × Filled 81 (l.h * 18) l.c l.t l.r

abbrev pub decreases-loop-h : goal.decreases-loop-h
decreases-loop-h l = 4 - l.h
