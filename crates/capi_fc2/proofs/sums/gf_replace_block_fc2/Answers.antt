use native.Mathlib.Omega.{arith}
use Rattle.capi_fc2.specs.Replace.{called, above, wrong}
use Rattle.capi_fc2.proofs.sums.gf_replace_block_fc2.Goals as goal

pub read9-b-requires : goal.read9-b-requires
read9-b-requires c = omega arith

pub returns-then-block-eq9 : goal.returns-then-block-eq9
returns-then-block-eq9 c =
    let a = c.args in
    called a.fc.now a.sums.now a.block.now a.i a.j a.n_satom c.read9-b.result _ _ _ _ c.replace_block_fc2-a.ensures c.number.ensures (omega arith) c.read9-b.ensures

pub returns-then-n_satom-gt-LIMIT2 : goal.returns-then-n_satom-gt-LIMIT2
returns-then-n_satom-gt-LIMIT2 c =
    let a = c.args in
    above a.fc.now a.sums.now a.block.now a.i a.j a.n_satom c.if-block-eq9.false c.if-n_satom-gt-LIMIT2.true

pub returns : goal.returns
returns c =
    let a = c.args in
    wrong a.fc.now a.sums.now a.block.now a.i a.j a.n_satom c.if-block-eq9.false c.if-n_satom-gt-LIMIT2.false
