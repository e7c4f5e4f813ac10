use Rattle.legs.specs.Laws.{adding_none, adding_more, adding_all}
use Rattle.legs.proofs.add_all.Goals as goal

pub loop-k-init : goal.loop-k-init
loop-k-init c = adding_none _ _

pub loop-k-preserved : goal.loop-k-preserved
loop-k-preserved c =
    let l = c.loop-k in
    let a = c.args in
    adding_more a.s.now a.b.now l.k _ c.loop-k-test.true c.requires l.invariant

pub returns : goal.returns
returns c = let a = c.args in adding_all a.s.now a.b.now _ _ c.loop-k-test.false c.requires c.loop-k.invariant
