use native.Mathlib.Omega.{arith}
use Rattle.fc3.specs.FullLoops.{Sorted, found-same, found_in, found_is}
use Rattle.fc3.proofs.full.group_same.Goals as goal

pub work_same-requires : goal.work_same-requires
work_same-requires c =
    let a = c.args in
    let t : Sorted a.num_atom a.a.0 a.a.0 a.a.0 = record { ab = omega arith; bc = omega arith; last = c.requires.1 } in
    (found_in t (found-same c.full3-aaa.ensures) c.requires.0).in0

pub returns : goal.returns
returns c =
    let a = c.args in
    let t : Sorted a.num_atom a.a.0 a.a.0 a.a.0 = record { ab = omega arith; bc = omega arith; last = c.requires.1 } in
    found_is t (found-same c.full3-aaa.ensures) a.fc3.now c.work_same.ensures
