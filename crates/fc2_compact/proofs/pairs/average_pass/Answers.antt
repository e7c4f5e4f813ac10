use mathlib.Core.Path.{◌≡◌, ◌∙◌}
use native.Mathlib.Omega.{arith}
use Rattle.lists.specs.Tab.{times_none, times_more}
use Rattle.fc2_compact.proofs.CodeLaws.{average_all}
use Rattle.fc2_compact.proofs.pairs.average_pass.Goals as goal

pub loop-p-init : goal.loop-p-init
loop-p-init c = times_none _ _

pub loop-p-preserved : goal.loop-p-preserved
loop-p-preserved c =
    let l = c.loop-p in
    times_more l.p _ _ l.invariant c.average_row.ensures

pub returns : goal.returns
returns c =
    let l = c.loop-p in
    let e : l.p ≡ c.args.tables.now.n_patom = omega arith in
    l.invariant ∙ rw e (average_all c.args.fc.now c.requires)
