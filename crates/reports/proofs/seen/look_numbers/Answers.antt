use native.Mathlib.Omega.{arith}
use mathlib.Core.Path.{◌≡◌, ◌∙◌}
use lib.ListN.{length}
use Rattle.lists.specs.Tab.{times_none, times_more}
use Rattle.reports.specs.Loops.{look_at}
use Rattle.reports.proofs.seen.look_numbers.Goals as goal

pub loop-k-init : goal.loop-k-init
loop-k-init c = times_none _ _

pub loop-k-preserved : goal.loop-k-preserved
loop-k-preserved c = let l = c.loop-k in times_more l.k _ _ l.invariant c.look-seen.ensures

pub returns : goal.returns
unfolding look_at
returns c =
    let l = c.loop-k in
    let i : l.k ≡ length c.args.x.now = omega arith in
    l.invariant ∙ rw i
