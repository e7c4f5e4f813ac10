use native.Mathlib.Omega.{arith}
use mathlib.Core.Path.{◌≡◌}
use Rattle.transposes_fc4.specs.Pairs.{from_pairs, none-traded, one-traded, all-permuted}
use Rattle.transposes_fc4.proofs.exchanging.permute_pairs.Goals as goal

pub loop-n-init : goal.loop-n-init
loop-n-init c = none-traded c.args.b c.args.fc4.now c.requires.1 c.args.m.now c.requires.0

pub loop-n-preserved : goal.loop-n-preserved
loop-n-preserved c =
    let l = c.loop-n in
    one-traded c.args.b c.args.fc4.now c.requires.1 c.args.m.now c.requires.0 l.n (omega arith) l.fc4 l.invariant c.index_of-x.ensures c.index_of-y.ensures

pub returns : goal.returns
returns c =
    let l = c.loop-n in
    let e : l.n ≡ 27 = omega arith in
    all-permuted c.args.b c.args.fc4.now c.requires.1 (from_pairs c.args.m.now 27) (rw e at l.invariant)
