use mathlib.Core.Path.{◌≡◌, sym, ap, ◌∙◌}
use Prim.Native.Nat.{◌+◌, ◌*◌}
use native.Mathlib.Omega.{arith}
use Rattle.lists.specs.Digits.{times_power}
use Rattle.tables.proofs.Rooms.{room-none, room-more}
use Rattle.tables.proofs.sets.times_power.Goals as goal

pub loop-init : goal.loop-init
loop-init c = room-none _ _

pub overflow_mul-x : goal.overflow_mul-x
overflow_mul-x c = let l = c.loop in let a = c.args in omega (arith, l.invariant, room-more a.b l.counter a.n, ap (λ x. x * a.b) l.invariant, c.requires (l.counter + 1) (omega arith))

pub loop-preserved : goal.loop-preserved
loop-preserved c = let l = c.loop in let a = c.args in ap (λ x. x * a.b) l.invariant ∙ sym (room-more a.b l.counter a.n)

pub returns : goal.returns
returns c = let l = c.loop in let a = c.args in let e : l.counter ≡ a.k = omega arith in l.invariant ∙ ap (λ i. times_power a.b i a.n) e
