use mathlib.Core.Path.{refl}
use native.Mathlib.Omega.{arith}
use Rattle.lists.specs.Tests.{not-both}
use Rattle.shifts.proofs.rows.spread.Goals as goal

pub loop-init : goal.loop-init
loop-init c = (c.requires.rows.1, c.requires.made.1, c.requires.made.2)

pub learn_after-requires : goal.learn_after-requires
learn_after-requires c =
    let l = c.loop in record { rows = (c.requires.rows.0, l.invariant.0, c.requires.rows.2); made = (c.requires.made.0, l.invariant.1, l.invariant.2) }

pub returns-then-not-learn_after : goal.returns-then-not-learn_after
returns-then-not-learn_after c = (c.learn_after.ensures.0, λ C. absurd (not-both (c.learn_after.ensures.1 C) c.if-not-learn_after.true))

pub bounds-known-r : goal.bounds-known-r
bounds-known-r c = omega (arith, c.requires.rows.0.rows.shifts, c.loop.invariant.0)

pub returns-then-x-eq0 : goal.returns-then-x-eq0
returns-then-x-eq0 c = (c.learn_after.ensures.0, λ _. refl)

pub returns-then-tables-x : goal.returns-then-tables-x
returns-then-tables-x c = (c.learn_after.ensures.0, λ _. refl)

pub loop-preserved : goal.loop-preserved
loop-preserved c =
    let l = c.loop in
    let K = c.learn_after.ensures.0 in
    (omega arith, K.next l.r _ l.invariant.0 (omega arith) (omega arith), K)

pub returns : goal.returns
returns c = (c.loop.invariant.2, λ _. refl)
