use Rattle.fc4.proofs.group.six_from.Goals as goal

pub stored_block4-xyz-requires : goal.stored_block4-xyz-requires
stored_block4-xyz-requires c = c.requires

pub stored_block4-xzy-requires : goal.stored_block4-xzy-requires
stored_block4-xzy-requires c = let p = c.requires in (p.0, p.1, p.2, p.4, p.3)

pub stored_block4-yxz-requires : goal.stored_block4-yxz-requires
stored_block4-yxz-requires c = let p = c.requires in (p.0, p.1, p.3, p.2, p.4)

pub stored_block4-yzx-requires : goal.stored_block4-yzx-requires
stored_block4-yzx-requires c = let p = c.requires in (p.0, p.1, p.3, p.4, p.2)

pub stored_block4-zxy-requires : goal.stored_block4-zxy-requires
stored_block4-zxy-requires c = let p = c.requires in (p.0, p.1, p.4, p.2, p.3)

pub stored_block4-zyx-requires : goal.stored_block4-zyx-requires
stored_block4-zyx-requires c = let p = c.requires in (p.0, p.1, p.4, p.3, p.2)

pub returns : goal.returns
returns c =
    rw (c.stored_block4-xyz.ensures, c.stored_block4-xzy.ensures, c.stored_block4-yxz.ensures, c.stored_block4-yzx.ensures, c.stored_block4-zxy.ensures, c.stored_block4-zyx.ensures)
