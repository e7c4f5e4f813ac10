use Rattle.std.proofs.Common.{arith, ne_eqb, ◌∙◌}
use Rattle.standing.proofs.StepsLaws.{waits-retirement, waits-elsewhere, waits_open}
use Rattle.standing.proofs.retire.waits.Goals as goal

pub end_of-requires : goal.end_of-requires
end_of-requires c = (c.requires.0, c.requires.1, c.set_at-set.ensures.1)

pub look_up-requires : goal.look_up-requires
look_up-requires c = (c.requires.0, omega (arith, c.requires.1))

pub returns-then-b-at : goal.returns-then-b-at
returns-then-b-at c =
    let a = c.args in
    waits-retirement a.b.now a.n a.last a.at c.if-b-at.true

pub returns-then-end_of-last : goal.returns-then-end_of-last
returns-then-end_of-last c =
    let a = c.args in
    waits_open a.b.now a.n a.last a.at c.if-b-at.false c.set_at-set.ensures.0 c.end_of.ensures.0 c.if-end_of-last.true c.look_up.ensures.notes.retires

pub returns-else-end_of-last : goal.returns-else-end_of-last
returns-else-end_of-last c =
    let a = c.args in
    ne_eqb c.end_of.result a.last c.if-end_of-last.false
    ∙ waits-elsewhere a.b.now a.n a.last a.at c.if-b-at.false c.set_at-set.ensures.0 c.end_of.ensures.0 c.if-end_of-last.false
