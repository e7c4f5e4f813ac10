use Rattle.fc3.specs.Coinciding.{six_copies}
use Rattle.fc3.proofs.spots.copy_blocks.Goals as goal

pub returns : goal.returns
returns c =
    let a = c.args in
    six_copies a.fc3.now a.group a.b0 a.b1 a.b2 a.b3 a.b4 a.b5 a.s0 a.s1 a.s2 a.s3 a.s4 a.s5
    c.write27-6.ensures c.write27-5.ensures c.write27-4.ensures c.write27-3.ensures c.write27-2.ensures c.write27.ensures
