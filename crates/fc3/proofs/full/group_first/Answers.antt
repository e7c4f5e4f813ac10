use native.Mathlib.Omega.{arith}
use Rattle.fc3.specs.FullLoops.{Sorted, found_first, first-distinct, found_in, found_is}
use Rattle.fc3.proofs.full.group_first.Goals as goal

pub work_first_two-requires : goal.work_first_two-requires
work_first_two-requires c =
    let a = c.args in
    let t : Sorted a.num_atom a.a.0 a.a.0 a.c.0 = let h = c.requires.1 in record { ab = omega arith; bc = omega arith; last = c.requires.2 } in
    (found_in t (found_first c.full3-aac.ensures c.full3-aca.ensures c.full3-caa.ensures) c.requires.0, first-distinct c.requires.1 c.requires.2 c.full3-aac.ensures c.full3-aca.ensures c.full3-caa.ensures)

pub returns : goal.returns
returns c =
    let a = c.args in
    let t : Sorted a.num_atom a.a.0 a.a.0 a.c.0 = let h = c.requires.1 in record { ab = omega arith; bc = omega arith; last = c.requires.2 } in
    found_is t (found_first c.full3-aac.ensures c.full3-aca.ensures c.full3-caa.ensures) a.fc3.now c.work_first_two.ensures
