use native.Mathlib.Omega.{arith}
use borrow.Author.Count.{below_none, below_more}
use Rattle.lists.specs.Lowest.{lowest_by}
use Rattle.tables.specs.Compact.{ShiftTables, shifts_of, given}
use Rattle.explain.specs.Explain.{rule_at, broken_at, broken_from, first_of, second_of}
use Rattle.explain.specs.Laws.{found_some, found_none}
use Rattle.explain.proofs.search.first_of.Goals as goal

pub firsts-n-requires : goal.firsts-n-requires
firsts-n-requires c = c.requires.1

pub seconds-m-requires : goal.seconds-m-requires
seconds-m-requires c = c.requires.1

pub loop-i-init : goal.loop-i-init
loop-i-init c = below_none _

pub second_of-requires : goal.second_of-requires
second_of-requires c =
    let l = c.loop-i in
    let p = c.requires in
    (p.0, p.1, omega (arith, c.firsts-n.ensures))

pub returns-then-second_of-m : goal.returns-then-second_of-m
unfolding first_of second_of
returns-then-second_of-m c =
    let a = c.args in
    let T : ShiftTables = given a.tables.now in
    let R = rule_at (shifts_of T) a.rule in
    let l = c.loop-i in
    lowest_by R.firsts (broken_from R) l.i (omega (arith, c.firsts-n.ensures)) l.invariant (λ _. found_some R.seconds (broken_at R l.i) c.second_of.ensures c.seconds-m.ensures c.if-second_of-m.true)

pub loop-i-preserved : goal.loop-i-preserved
unfolding second_of
loop-i-preserved c =
    let a = c.args in
    let T : ShiftTables = given a.tables.now in
    let R = rule_at (shifts_of T) a.rule in
    let l = c.loop-i in
    below_more _ l.i l.invariant (found_none R.seconds (broken_at R l.i) c.second_of.ensures c.seconds-m.ensures c.if-second_of-m.false)

pub returns : goal.returns
unfolding first_of
returns c =
    let a = c.args in
    let T : ShiftTables = given a.tables.now in
    let R = rule_at (shifts_of T) a.rule in
    let l = c.loop-i in
    lowest_by R.firsts (broken_from R) c.firsts-n.result (omega (arith, c.firsts-n.ensures)) (λ q h. l.invariant q (omega arith)) (λ h. absurd (omega (arith, c.firsts-n.ensures)))
