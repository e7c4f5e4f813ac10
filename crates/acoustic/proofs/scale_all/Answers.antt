use lib.Ieee.{mul, binary64}
use Rattle.acoustic.specs.Laws.{mapping_none, mapping_more, mapping_all}
use Rattle.acoustic.proofs.scale_all.Goals as goal

pub loop-k-init : goal.loop-k-init
loop-k-init c = mapping_none _ _

pub loop-k-preserved : goal.loop-k-preserved
loop-k-preserved c =
    let l = c.loop-k in
    let a = c.args in
    mapping_more (λ _ y. mul binary64 y a.x) a.s.now l.k _ c.loop-k-test.true l.invariant

pub returns : goal.returns
returns c =
    let a = c.args in
    mapping_all (λ _ y. mul binary64 y a.x) a.s.now _ _ c.loop-k-test.false c.loop-k.invariant
