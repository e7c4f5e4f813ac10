use mathlib.Core.Path.{refl}
use Rattle.fc3.specs.Coinciding.{slots_in, length-flat, group-put}
use Rattle.fc3.proofs.spots.put_positions.Goals as goal

pub put_planes-requires : goal.put_planes-requires
put_planes-requires c =
    ((refl, (refl, (refl, (refl, (refl, (refl, (refl, tt))))))), slots_in c.slot-s0.ensures.1 c.slot-s1.ensures.1 c.slot-s2.ensures.1 c.slot-s3.ensures.1 c.slot-s4.ensures.1 c.slot-s5.ensures.1)

pub copy_blocks-requires : goal.copy_blocks-requires
copy_blocks-requires c = (
  c.requires,
  c.put_planes.ensures.0,
  slots_in c.slot-s0.ensures.1 c.slot-s1.ensures.1 c.slot-s2.ensures.1 c.slot-s3.ensures.1 c.slot-s4.ensures.1 c.slot-s5.ensures.1,
)

pub returns : goal.returns
returns c =
    let a = c.args in
    group-put a.b0 a.b1 a.b2 a.b3 a.b4 a.b5 a.v a.fc3.now _ _ c.requires
    c.slot-s0.ensures.0 c.slot-s1.ensures.0 c.slot-s2.ensures.0 c.slot-s3.ensures.0 c.slot-s4.ensures.0 c.slot-s5.ensures.0
    c.put_planes.ensures.0 c.put_planes.ensures.1 (length-flat _)
    (slots_in c.slot-s0.ensures.1 c.slot-s1.ensures.1 c.slot-s2.ensures.1 c.slot-s3.ensures.1 c.slot-s4.ensures.1 c.slot-s5.ensures.1)
    c.copy_blocks.ensures
