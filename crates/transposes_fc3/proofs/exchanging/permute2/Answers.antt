use native.Mathlib.Omega.{arith}
use Rattle.transposes_fc3.specs.Nines.{nines_are}
use Rattle.transposes_fc3.proofs.exchanging.permute2.Goals as goal

pub index_of-requires : goal.index_of-requires
index_of-requires c = omega arith

pub transpose_nine-requires : goal.transpose_nine-requires
transpose_nine-requires c = let e = c.index_of.ensures in omega arith

pub index_of-requires-2 : goal.index_of-requires-2
index_of-requires-2 c = omega arith

pub transpose_nine-requires-2 : goal.transpose_nine-requires-2
transpose_nine-requires-2 c = let e = c.index_of-2.ensures in let k = c.transpose_nine.auto.fc3 in omega arith

pub index_of-requires-3 : goal.index_of-requires-3
index_of-requires-3 c = omega arith

pub transpose_nine-requires-3 : goal.transpose_nine-requires-3
transpose_nine-requires-3 c = let e = c.index_of-3.ensures in let k = c.transpose_nine.auto.fc3 in let l = c.transpose_nine-2.auto.fc3 in omega arith

pub returns : goal.returns
returns c =
    let a = c.args in
    nines_are a.b a.fc3.now c.requires c.index_of.ensures c.index_of-2.ensures c.index_of-3.ensures
    c.transpose_nine.ensures c.transpose_nine-2.ensures c.transpose_nine-3.ensures
