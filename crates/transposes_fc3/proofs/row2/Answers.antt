use native.Mathlib.Omega.{arith}
use mathlib.Core.Path.{◌≡◌, ◌∙◌}
use Rattle.lists.specs.Tab.{times_more}
use Rattle.transposes_fc3.specs.Fc3Loops.{row_t, idle_2}
use Rattle.transposes_fc3.proofs.row2.Goals as goal

pub loop-k-init : goal.loop-k-init
loop-k-init c =
    idle_2 _ c.requires.trading.sound c.args.p.0 c.args.j.0 c.requires.in_range.0 c.requires.in_range.1 c.args.fc3.now

pub loop-k-preserved : goal.loop-k-preserved
loop-k-preserved c =
    let l = c.loop-k in
    times_more l.k _ _ l.invariant c.visit2.ensures

pub returns : goal.returns
unfolding row_t
returns c =
    let l = c.loop-k in
    let e : l.k ≡ c.args.tables.now.n_satom = omega arith in
    l.invariant ∙ rw e
