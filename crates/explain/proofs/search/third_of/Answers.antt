use mathlib.Core.Path.{sym, ◌∙◌}
use native.Mathlib.Omega.{arith}
use borrow.Author.Count.{below_none, below_more}
use Rattle.lists.specs.Lowest.{lowest_by}
use Rattle.tables.specs.Compact.{ShiftTables, shifts_of, given}
use Rattle.explain.specs.Explain.{rule_at, third_of}
use Rattle.explain.proofs.search.third_of.Goals as goal

pub thirds-n-requires : goal.thirds-n-requires
thirds-n-requires c = c.requires.1

pub loop-k-init : goal.loop-k-init
loop-k-init c = below_none _

pub breaks-requires : goal.breaks-requires
breaks-requires c =
    let l = c.loop-k in
    let p = c.requires in
    (p.0, p.1, p.2, p.3, omega (arith, c.thirds-n.ensures))

pub returns-then-breaks : goal.returns-then-breaks
unfolding third_of
returns-then-breaks c =
    let a = c.args in
    let T : ShiftTables = given a.tables.now in
    let R = rule_at (shifts_of T) a.rule in
    let l = c.loop-k in
    lowest_by R.thirds (R.breaks a.i a.j) l.k (omega (arith, c.thirds-n.ensures)) l.invariant (λ _. sym c.breaks.ensures ∙ c.if-breaks.true)

pub loop-k-preserved : goal.loop-k-preserved
loop-k-preserved c =
    let l = c.loop-k in
    below_more _ l.k l.invariant (sym c.breaks.ensures ∙ c.if-breaks.false)

pub returns : goal.returns
unfolding third_of
returns c =
    let a = c.args in
    let T : ShiftTables = given a.tables.now in
    let R = rule_at (shifts_of T) a.rule in
    let l = c.loop-k in
    lowest_by R.thirds (R.breaks a.i a.j) c.thirds-n.result (omega (arith, c.thirds-n.ensures)) (λ q h. l.invariant q (omega arith)) (λ h. absurd (omega (arith, c.thirds-n.ensures)))
