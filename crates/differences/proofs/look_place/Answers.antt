use Prim.Native.Nat.{◌+◌, ◌*◌}
use native.Mathlib.Omega.{arith}
use mathlib.Core.Path.{◌≡◌, ap, ap₂, ◌∙◌}
use lib.ListN.{length, get_or}
use lib.Ieee.{nan, sub, binary64}
use Rattle.lists.specs.Tab.{times_none, times_more}
use Rattle.audits.specs.Kernel.{there, readable, in_here}
use Rattle.reports.specs.Loops.{look, look_at}
use Rattle.differences.specs.Laws.{look_place, few-places}
use Rattle.differences.proofs.look_place.Goals as goal

pub own-here-requires : goal.own-here-requires
own-here-requires c = in_here c.requires.0 c.args.k c.requires.1

pub index_of-place-requires : goal.index_of-place-requires
index_of-place-requires c = let h = in_here c.requires.0 c.args.k c.requires.1 in omega (arith, h, c.requires.2)

pub loop-i-init : goal.loop-i-init
loop-i-init c = times_none _ _

pub read-there-requires : goal.read-there-requires
read-there-requires c =
    readable c.requires.0 c.loop-i.i c.args.k c.loop-i-test.true c.requires.1

pub index_of-requires : goal.index_of-requires
index_of-requires c =
    rw c.index_of-place.ensures (few-places (c.args.b * c.args.width + c.args.k) _ _ c.loop-i.i (in_here c.requires.0 c.args.k c.requires.1) c.requires.2 c.requires.0.few c.loop-i-test.true)

pub loop-i-preserved : goal.loop-i-preserved
loop-i-preserved c =
    let l = c.loop-i in
    let a = c.args in
    let e : c.index_of.result ≡ (a.b * a.width + a.k) * length a.bs.now + l.i = c.index_of.ensures ∙ ap (λ x. x * length a.bs.now + l.i) c.index_of-place.ensures in
    let x : sub binary64 c.read-there.result c.own-here.result ≡ sub binary64 (there a.width a.bs.now a.t.now a.fc.now l.i a.k) (get_or a.fc.now (a.b * a.width + a.k) nan) = ap₂ (sub binary64) c.read-there.ensures c.own-here.ensures in
    times_more l.i _ _ l.invariant (c.look-seen.ensures ∙ ap₂ (λ r x. look r x l.seen) e x)

pub returns : goal.returns
unfolding look_place look_at
returns c =
    let l = c.loop-i in
    let i : l.i ≡ length c.args.bs.now = omega arith in
    l.invariant ∙ rw i
