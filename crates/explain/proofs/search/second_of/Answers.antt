use native.Mathlib.Omega.{arith}
use borrow.Author.Count.{below_none, below_more}
use Rattle.lists.specs.Lowest.{lowest_by}
use Rattle.tables.specs.Compact.{ShiftTables, shifts_of, given}
use Rattle.explain.specs.Explain.{rule_at, broken_at, second_of, third_of}
use Rattle.explain.specs.Laws.{found_some, found_none}
use Rattle.explain.proofs.search.second_of.Goals as goal

pub seconds-n-requires : goal.seconds-n-requires
seconds-n-requires c = c.requires.1

pub thirds-m-requires : goal.thirds-m-requires
thirds-m-requires c = c.requires.1

pub loop-j-init : goal.loop-j-init
loop-j-init c = below_none _

pub third_of-requires : goal.third_of-requires
third_of-requires c =
    let l = c.loop-j in
    let p = c.requires in
    (p.0, p.1, p.2, omega (arith, c.seconds-n.ensures))

pub returns-then-third_of-m : goal.returns-then-third_of-m
unfolding second_of third_of
returns-then-third_of-m c =
    let a = c.args in
    let T : ShiftTables = given a.tables.now in
    let R = rule_at (shifts_of T) a.rule in
    let l = c.loop-j in
    lowest_by R.seconds (broken_at R a.i) l.j (omega (arith, c.seconds-n.ensures)) l.invariant (λ _. found_some R.thirds (R.breaks a.i l.j) c.third_of.ensures c.thirds-m.ensures c.if-third_of-m.true)

pub loop-j-preserved : goal.loop-j-preserved
unfolding third_of
loop-j-preserved c =
    let a = c.args in
    let T : ShiftTables = given a.tables.now in
    let R = rule_at (shifts_of T) a.rule in
    let l = c.loop-j in
    below_more _ l.j l.invariant (found_none R.thirds (R.breaks a.i l.j) c.third_of.ensures c.thirds-m.ensures c.if-third_of-m.false)

pub returns : goal.returns
unfolding second_of
returns c =
    let a = c.args in
    let T : ShiftTables = given a.tables.now in
    let R = rule_at (shifts_of T) a.rule in
    let l = c.loop-j in
    lowest_by R.seconds (broken_at R a.i) c.seconds-n.result (omega (arith, c.seconds-n.ensures)) (λ q h. l.invariant q (omega arith)) (λ h. absurd (omega (arith, c.seconds-n.ensures)))
