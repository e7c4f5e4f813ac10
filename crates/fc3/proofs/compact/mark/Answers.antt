use mathlib.Core.Path.{refl}
use native.Mathlib.Omega.{arith}
use lib.ListN.{length-set}
use Rattle.orbits.specs.Spread.{set_all}
use Rattle.fc3.proofs.compact.mark.Goals as goal

pub bounds-done-b1 : goal.bounds-done-b1
bounds-done-b1 c = simp length-set (omega arith)

pub bounds-done-b2 : goal.bounds-done-b2
bounds-done-b2 c = simp length-set (omega arith)

pub bounds-done-b3 : goal.bounds-done-b3
bounds-done-b3 c = simp length-set (omega arith)

pub bounds-done-b4 : goal.bounds-done-b4
bounds-done-b4 c = simp length-set (omega arith)

pub bounds-done-b5 : goal.bounds-done-b5
bounds-done-b5 c = simp length-set (omega arith)

pub shape_of-done : goal.shape_of-done
shape_of-done c = simp length-set

pub returns : goal.returns
unfolding set_all
returns c = refl
