use native.Mathlib.Omega.{arith}
use Rattle.fc3.specs.FullLoops.{Sorted, Found, found_in, found-distinct, found_is}
use Rattle.fc3.proofs.full.group_rising.Goals as goal

pub work_distinct-requires : goal.work_distinct-requires
work_distinct-requires c =
    let a = c.args in
    let h = c.requires.1 in
    let k = c.requires.2 in
    let t : Sorted a.num_atom a.a.0 a.b.0 a.c.0 = record { ab = omega arith; bc = omega arith; last = c.requires.3 } in
    let f : Found a.num_atom a.a.0 a.b.0 a.c.0 c.full3-abc.result c.full3-acb.result c.full3-bac.result c.full3-bca.result c.full3-cab.result c.full3-cba.result =
    record { abc = c.full3-abc.ensures; acb = c.full3-acb.ensures; bac = c.full3-bac.ensures; bca = c.full3-bca.ensures; cab = c.full3-cab.ensures; cba = c.full3-cba.ensures } in
    (found_in t f c.requires.0, found-distinct t f c.requires.1 c.requires.2)

pub returns : goal.returns
returns c =
    let a = c.args in
    let h = c.requires.1 in
    let k = c.requires.2 in
    let t : Sorted a.num_atom a.a.0 a.b.0 a.c.0 = record { ab = omega arith; bc = omega arith; last = c.requires.3 } in
    let f : Found a.num_atom a.a.0 a.b.0 a.c.0 c.full3-abc.result c.full3-acb.result c.full3-bac.result c.full3-bca.result c.full3-cab.result c.full3-cba.result =
    record { abc = c.full3-abc.ensures; acb = c.full3-acb.ensures; bac = c.full3-bac.ensures; bca = c.full3-bca.ensures; cab = c.full3-cab.ensures; cba = c.full3-cba.ensures } in
    found_is t f a.fc3.now c.work_distinct.ensures
