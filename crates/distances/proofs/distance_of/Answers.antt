use native.Mathlib.Omega.{arith}
use Rattle.distances.specs.Near.{distance2, distance}
use Rattle.distances.proofs.Numbers.{rests_of}
use Rattle.distances.proofs.distance_of.Goals as goal

pub index_of-requires : goal.index_of-requires
index_of-requires c = omega (arith, c.requires.0, c.requires.1)

pub index_of-requires-2 : goal.index_of-requires-2
index_of-requires-2 c = omega (arith, c.requires.0, c.requires.1)

pub index_of-requires-3 : goal.index_of-requires-3
index_of-requires-3 c = omega (arith, c.requires.0, c.requires.1)

pub index_of-requires-4 : goal.index_of-requires-4
index_of-requires-4 c = omega (arith, c.requires.0, c.requires.1)

pub index_of-requires-5 : goal.index_of-requires-5
index_of-requires-5 c = omega (arith, c.requires.0, c.requires.1)

pub index_of-requires-6 : goal.index_of-requires-6
index_of-requires-6 c = omega (arith, c.requires.0, c.requires.1)

pub bounds-pos-index_of : goal.bounds-pos-index_of
bounds-pos-index_of c = rw c.index_of.ensures (omega (arith, c.requires.0, c.requires.1))

pub bounds-rot_pos-index_of : goal.bounds-rot_pos-index_of
bounds-rot_pos-index_of c = rw c.index_of-2.ensures (omega (arith, c.requires.0, c.requires.1))

pub bounds-pos-index_of-2 : goal.bounds-pos-index_of-2
bounds-pos-index_of-2 c = rw c.index_of-3.ensures (omega (arith, c.requires.0, c.requires.1))

pub bounds-rot_pos-index_of-2 : goal.bounds-rot_pos-index_of-2
bounds-rot_pos-index_of-2 c = rw c.index_of-4.ensures (omega (arith, c.requires.0, c.requires.1))

pub bounds-pos-index_of-3 : goal.bounds-pos-index_of-3
bounds-pos-index_of-3 c = rw c.index_of-5.ensures (omega (arith, c.requires.0, c.requires.1))

pub bounds-rot_pos-index_of-3 : goal.bounds-rot_pos-index_of-3
bounds-rot_pos-index_of-3 c = rw c.index_of-6.ensures (omega (arith, c.requires.0, c.requires.1))

pub short-requires : goal.short-requires
short-requires c =
    let f = c.requires.2 in (
      f.reaches,
      f.early_is,
      λ w h.
          rests_of c.args.cell.periodic _ _ _ _ _ _ _ _ _ c.difference-x.ensures c.difference-y.ensures c.difference-z.ensures
          (f.only_if w h),
    )

pub returns : goal.returns
unfolding distance distance2
returns c =
    rw (c.short.ensures, c.difference-z.ensures, c.difference-y.ensures, c.difference-x.ensures, c.index_of.ensures, c.index_of-2.ensures, c.index_of-3.ensures, c.index_of-4.ensures, c.index_of-5.ensures, c.index_of-6.ensures)
