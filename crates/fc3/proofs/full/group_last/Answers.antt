use native.Mathlib.Omega.{arith}
use Rattle.fc3.specs.FullLoops.{Sorted, found-last, last-distinct, found_in, found_is}
use Rattle.fc3.proofs.full.group_last.Goals as goal

pub work_last_two-requires : goal.work_last_two-requires
work_last_two-requires c =
    let a = c.args in
    let t : Sorted a.num_atom a.a.0 a.b.0 a.b.0 = let h = c.requires.1 in record { ab = omega arith; bc = omega arith; last = c.requires.2 } in
    (found_in t (found-last c.full3-abb.ensures c.full3-bab.ensures c.full3-bba.ensures) c.requires.0, last-distinct c.requires.1 c.requires.2 c.full3-abb.ensures c.full3-bab.ensures c.full3-bba.ensures)

pub returns : goal.returns
returns c =
    let a = c.args in
    let t : Sorted a.num_atom a.a.0 a.b.0 a.b.0 = let h = c.requires.1 in record { ab = omega arith; bc = omega arith; last = c.requires.2 } in
    found_is t (found-last c.full3-abb.ensures c.full3-bab.ensures c.full3-bba.ensures) a.fc3.now c.work_last_two.ensures
