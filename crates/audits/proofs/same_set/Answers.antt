use Rattle.audits.specs.Kernel.{set-refused, set_unlike, set-alike}
use Rattle.audits.proofs.same_set.Goals as goal

pub returns-then-b-a : goal.returns-then-b-a
returns-then-b-a c = let a = c.args in set-refused a.a.now a.b.now c.if-b-a.true

pub first_difference-q-requires : goal.first_difference-q-requires
first_difference-q-requires c = c.if-b-a.false

pub returns-then-q-a : goal.returns-then-q-a
returns-then-q-a c =
    let a = c.args in
    set_unlike a.a.now a.b.now c.if-b-a.false c.first_difference-q.result c.first_difference-q.ensures c.if-q-a.true

pub returns : goal.returns
returns c =
    let a = c.args in
    set-alike a.a.now a.b.now c.if-b-a.false c.first_difference-q.result c.first_difference-q.ensures c.if-q-a.false
