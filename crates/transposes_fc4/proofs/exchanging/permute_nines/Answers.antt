use native.Mathlib.Omega.{arith}
use Rattle.transposes_fc4.specs.Runs.{runs_are}
use Rattle.transposes_fc4.proofs.exchanging.permute_nines.Goals as goal

pub index_of-requires : goal.index_of-requires
index_of-requires c = omega arith

pub index_of-requires-2 : goal.index_of-requires-2
index_of-requires-2 c = omega arith

pub index_of-requires-3 : goal.index_of-requires-3
index_of-requires-3 c = omega arith

pub index_of-requires-4 : goal.index_of-requires-4
index_of-requires-4 c = omega arith

pub index_of-requires-5 : goal.index_of-requires-5
index_of-requires-5 c = omega arith

pub index_of-requires-6 : goal.index_of-requires-6
index_of-requires-6 c = omega arith

pub swap_nines-requires : goal.swap_nines-requires
swap_nines-requires c = let e = c.index_of.ensures in let f = c.index_of-2.ensures in (omega arith, omega arith)

pub swap_nines-requires-2 : goal.swap_nines-requires-2
swap_nines-requires-2 c = let e = c.index_of-3.ensures in let f = c.index_of-4.ensures in let k = c.swap_nines.auto.fc4 in (omega arith, omega arith)

pub swap_nines-requires-3 : goal.swap_nines-requires-3
swap_nines-requires-3 c = let e = c.index_of-5.ensures in let f = c.index_of-6.ensures in let k = c.swap_nines.auto.fc4 in let l = c.swap_nines-2.auto.fc4 in (omega arith, omega arith)

pub returns : goal.returns
returns c =
    let a = c.args in
    runs_are a.b a.fc4.now c.requires c.index_of.ensures c.index_of-2.ensures c.index_of-3.ensures c.index_of-4.ensures c.index_of-5.ensures c.index_of-6.ensures
    c.swap_nines.ensures c.swap_nines-2.ensures c.swap_nines-3.ensures
