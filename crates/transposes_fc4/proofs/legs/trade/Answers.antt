use Rattle.orbits.specs.HalfShift.{prim_small, read-tables, rep-read}
use Rattle.transposes_fc4.specs.Loops.{in_runs, found_in, found-now, found-met}
use Rattle.transposes_fc4.proofs.legs.trade.Goals as goal

pub block4-b-requires : goal.block4-b-requires
block4-b-requires c =
    let M = c.requires.pair_at.0 in
    (M.trading.sound.fit.satoms, prim_small _ M.trading.sound c.args.p.0 M.first, M.second, c.requires.in_range.0, c.requires.in_range.1)

pub counterpart_of-c-requires : goal.counterpart_of-c-requires
counterpart_of-c-requires c =
    let M = c.requires.pair_at.0 in
    let Z = M.trading.sound in
    (read-tables _ Z, c.requires.pair_at.1.is_order, (rw M.rep (rep-read _ Z _ M.first).1, (M.second, (c.requires.in_range.0, (c.requires.in_range.1, tt)))))

pub exchange-requires : goal.exchange-requires
exchange-requires c =
    let W = c.requires.pair_at.1 in
    let (hb, hc) = found_in _ _ c.args.o.now W.is_order c.args.p.0 c.args.i.0 c.args.j.0 c.args.k.0 c.args.l.0 c.requires.pair_at.0 c.requires.in_range.0 c.requires.in_range.1 _ _
    c.block4-b.ensures c.counterpart_of-c.ensures in
    (W.inside, in_runs _ _ W, hb, hc)

pub returns-then-b-c : goal.returns-then-b-c
returns-then-b-c c =
    let W = c.requires.pair_at.1 in
    found-now _ _ c.args.o.now W.is_order c.args.p.0 c.args.i.0 c.args.j.0 c.args.k.0 c.args.l.0 c.requires.pair_at.0 c.requires.in_range.0 c.requires.in_range.1 _ _
    c.block4-b.ensures c.counterpart_of-c.ensures c.args.m.now W c.if-b-c.true c.args.fc4.now c.exchange.ensures

pub returns-else-b-c : goal.returns-else-b-c
returns-else-b-c c =
    found-met _ _ c.args.o.now c.requires.pair_at.1.is_order c.args.p.0 c.args.i.0 c.args.j.0 c.args.k.0 c.args.l.0 c.requires.pair_at.0 c.requires.in_range.0 c.requires.in_range.1 _ _
    c.block4-b.ensures c.counterpart_of-c.ensures c.if-b-c.false c.args.fc4.now
