use mathlib.Core.Path.{sym}
use lib.ListN.{get_or}
use lib.Ieee.{nan, sub, binary64}
use Rattle.acoustic.specs.Laws.{mapping_none, mapping_more, mapping_all}
use Rattle.acoustic.proofs.take_all.Goals as goal

pub loop-k-init : goal.loop-k-init
loop-k-init c = mapping_none _ _

pub loop-k-preserved : goal.loop-k-preserved
loop-k-preserved c =
    let l = c.loop-k in
    let a = c.args in
    mapping_more (λ j y. sub binary64 y (get_or a.d.now j nan)) a.s.now l.k _ (rw (sym c.requires) c.loop-k-test.true) l.invariant

pub returns : goal.returns
returns c =
    let a = c.args in
    mapping_all (λ j y. sub binary64 y (get_or a.d.now j nan)) a.s.now _ _ (rw (sym c.requires) c.loop-k-test.false) c.loop-k.invariant
