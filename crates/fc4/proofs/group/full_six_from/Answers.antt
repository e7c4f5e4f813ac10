use native.Mathlib.Omega.{arith}
use Rattle.fc4.proofs.group.full_six_from.Goals as goal

pub full4-xyz-requires : goal.full4-xyz-requires
full4-xyz-requires c = let p = c.requires in (omega arith, p.1, p.2, p.3, p.4)

pub full4-xzy-requires : goal.full4-xzy-requires
full4-xzy-requires c = let p = c.requires in (omega arith, p.1, p.2, p.4, p.3)

pub full4-yxz-requires : goal.full4-yxz-requires
full4-yxz-requires c = let p = c.requires in (omega arith, p.1, p.3, p.2, p.4)

pub full4-yzx-requires : goal.full4-yzx-requires
full4-yzx-requires c = let p = c.requires in (omega arith, p.1, p.3, p.4, p.2)

pub full4-zxy-requires : goal.full4-zxy-requires
full4-zxy-requires c = let p = c.requires in (omega arith, p.1, p.4, p.2, p.3)

pub full4-zyx-requires : goal.full4-zyx-requires
full4-zyx-requires c = let p = c.requires in (omega arith, p.1, p.4, p.3, p.2)

pub returns : goal.returns
returns c =
    rw (c.full4-xyz.ensures, c.full4-xzy.ensures, c.full4-yxz.ensures, c.full4-yzx.ensures, c.full4-zxy.ensures, c.full4-zyx.ensures)
