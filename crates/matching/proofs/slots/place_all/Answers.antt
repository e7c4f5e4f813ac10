use Rattle.matching.specs.Slots.{still-filled, length-place}
use Rattle.distances.specs.Near.{near, distance}
use Rattle.matching.proofs.SearchLaws.{pair-none, pair-more}
use Rattle.lists.specs.Tab.{times_none, times_more}
use borrow.Author.Count.{below_none}
use lib.ListN.{length}
use native.Mathlib.Omega.{arith}
use mathlib.Core.Path.{◌≡◌, ap, ◌∙◌}
use Rattle.matching.proofs.slots.place_all.Goals as goal

pub loop-i-init : goal.loop-i-init
loop-i-init c = (record { there = omega arith; filled = below_none _ }, times_none _ _, pair-none _ _)

pub skip_filled-start-requires : goal.skip_filled-start-requires
skip_filled-start-requires c = c.loop-i.invariant.0

pub place-s-requires : goal.place-s-requires
place-s-requires c =
    let l = c.loop-i in
    (record { triples = record { pos_len = omega (arith, l.auto.rot_atom, c.requires.pos_len); rot_len = omega (arith, l.auto.rot_atom, c.requires.rot_len) }; below = omega arith }, c.skip_filled-start.ensures.0, c.reach_of-r.ensures.1)

pub loop-i-preserved : goal.loop-i-preserved
loop-i-preserved c =
    let l = c.loop-i in
    let a = c.args in
    let p = c.place-s.ensures.0 in
    let q = c.place-s.ensures.1 in
    let b = c.skip_filled-start.ensures.0 in
    let is_near = near a.cell a.pos.now a.rot_pos.now in
    let dist = distance a.cell a.pos.now a.rot_pos.now in
    let n = ap length p ∙ length-place is_near l.i l.rot_atom ∙ l.auto.rot_atom in (
      rw p (still-filled is_near l.i l.rot_atom _ b),
      times_more l.i _ _ l.invariant.1 p,
      c.first_pair-first.ensures ∙ pair-more dist a.rot_atom.now l.i _ _ l.first l.rot_atom l.invariant.2 (omega (arith, n, l.auto.rot_atom)) l.invariant.1 q,
    )

pub returns : goal.returns
returns c =
    let l = c.loop-i in
    let n = length c.args.rot_atom.now in
    let e : l.i ≡ n = omega arith in
    (l.invariant.1 ∙ rw e, l.invariant.2 ∙ rw e)
