use Rattle.fc2_compact.specs.Code.{s2pp-read, facts, visit_in, average_earlier, average_late, average_done}
use Rattle.fc2_compact.proofs.pairs.average_visit.Goals as goal

pub s2pp_at-requires : goal.s2pp_at-requires
s2pp_at-requires c = s2pp-read _ c.args.fc.now _ _ _ c.requires

pub returns-then-s2pp_at-p : goal.returns-then-s2pp_at-p
returns-then-s2pp_at-p c =
    average_earlier _ c.args.fc.now _ _ _ c.requires _ c.s2pp_at.ensures c.if-s2pp_at-p.true

pub block2-b-requires : goal.block2-b-requires
block2-b-requires c = let r = c.requires in ((facts r).few, (facts r).first_small, r.second)

pub stored_block2-c-requires : goal.stored_block2-c-requires
stored_block2-c-requires c = let r = c.requires in ((facts r).tables-fit, r.second, (facts r).own_below)

pub returns-then-c-b : goal.returns-then-c-b
returns-then-c-b c =
    average_late _ c.args.fc.now _ _ _ c.requires _ _ c.block2-b.ensures c.stored_block2-c.ensures c.if-c-b.true

pub average_pair-requires : goal.average_pair-requires
average_pair-requires c =
    visit_in _ c.args.fc.now _ _ _ c.requires _ _ c.block2-b.ensures c.stored_block2-c.ensures

pub returns : goal.returns
returns c =
    average_done _ c.args.fc.now _ _ _ c.requires _ _ c.block2-b.ensures c.stored_block2-c.ensures c.if-c-b.false
    c.average_pair.ensures
