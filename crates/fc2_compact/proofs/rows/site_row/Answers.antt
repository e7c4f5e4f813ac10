use Rattle.tables.specs.Compact.{given}
use Rattle.fc2_compact.specs.Code.{p2s-read, own_at, own_in, own_row, facts, site_row_is}
use Rattle.fc2_compact.proofs.rows.site_row.Goals as goal

pub p2s_at-i-requires : goal.p2s_at-i-requires
p2s_at-i-requires c = p2s-read c.requires.0 c.args.p c.requires.1

pub block2-b-requires : goal.block2-b-requires
block2-b-requires c =
    let r = own_at c.requires.0 c.requires.1 c.p2s_at-i.ensures in
    ((facts r).few, (facts r).first_small, r.second)

pub other_sums-s-requires : goal.other_sums-s-requires
other_sums-s-requires c =
    own_row (own_at c.requires.0 c.requires.1 c.p2s_at-i.ensures) c.block2-b.ensures

pub write9-requires : goal.write9-requires
write9-requires c =
    own_in (own_at c.requires.0 c.requires.1 c.p2s_at-i.ensures) c.block2-b.ensures

pub returns : goal.returns
returns c =
    let T = given c.args.tables.now in
    site_row_is T c.args.p c.args.fc.now c.p2s_at-i.ensures c.block2-b.ensures c.other_sums-s.ensures c.balance.ensures c.write9.ensures
