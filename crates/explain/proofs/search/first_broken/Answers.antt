use native.Mathlib.Omega.{arith}
use borrow.Author.Count.{below_none, below_more}
use Rattle.lists.specs.Lowest.{lowest_by}
use Rattle.tables.specs.Compact.{ShiftTables, shifts_of, given}
use Rattle.explain.specs.Explain.{rule_at, broken_from, broken, first_of, first_broken}
use Rattle.explain.specs.Laws.{found_some, found_none}
use Rattle.explain.proofs.search.first_broken.Goals as goal

pub loop-rule-init : goal.loop-rule-init
loop-rule-init c = below_none _

pub first_of-requires : goal.first_of-requires
first_of-requires c = (c.requires, c.loop-rule-test.true)

pub firsts-requires : goal.firsts-requires
firsts-requires c = c.loop-rule-test.true

pub returns-then-first_of-firsts : goal.returns-then-first_of-firsts
unfolding first_broken broken first_of
returns-then-first_of-firsts c =
    let a = c.args in
    let T : ShiftTables = given a.tables.now in
    let l = c.loop-rule in
    let R = rule_at (shifts_of T) l.rule in
    lowest_by 8 (λ r. broken (rule_at (shifts_of T) r)) l.rule (omega arith) l.invariant (λ _. found_some R.firsts (broken_from R) c.first_of.ensures c.firsts.ensures c.if-first_of-firsts.true)

pub loop-rule-preserved : goal.loop-rule-preserved
unfolding broken first_of
loop-rule-preserved c =
    let a = c.args in
    let T : ShiftTables = given a.tables.now in
    let l = c.loop-rule in
    let R = rule_at (shifts_of T) l.rule in
    below_more _ l.rule l.invariant (found_none R.firsts (broken_from R) c.first_of.ensures c.firsts.ensures c.if-first_of-firsts.false)

pub returns : goal.returns
unfolding first_broken
returns c =
    let a = c.args in
    let T : ShiftTables = given a.tables.now in
    let l = c.loop-rule in
    lowest_by 8 (λ r. broken (rule_at (shifts_of T) r)) 8 (omega arith) (λ q h. l.invariant q (omega arith)) (λ h. absurd (omega arith))
