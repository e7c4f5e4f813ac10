use mathlib.Core.Path.{◌≡◌, sym, ◌∙◌}
use native.Mathlib.Omega.{arith}
use lib.ListN.{length}
use Rattle.matching.specs.Rest.{placed-none, placed-more, placed-all, placed-stuck}
use Rattle.matching.proofs.rest.place_rest.Goals as goal

pub loop-i-init : goal.loop-i-init
loop-i-init c = placed-none _ _ c.args.rot_atom.now c.requires.partial.0

pub place_one-requires : goal.place_one-requires
place_one-requires c =
    let l = c.loop-i in
    let n = l.auto.rot_atom in record {
      partial = (rw n l.invariant.partial, omega (arith, n), omega (arith, n, c.requires.partial.1), l.auto.marks ∙ c.requires.partial.2 ∙ sym n);
      triples = (rw n c.requires.triples, c.reach_of-reach.ensures.1);
    }

pub loop-i-preserved : goal.loop-i-preserved
loop-i-preserved c =
    let a = c.args in
    let l = c.loop-i in
    let w = c.place_one in
    placed-more _ _ a.rot_atom.now l.i l.rot_atom _ _ c.loop-i-test.true l.invariant (rw (l.auto.rot_atom, c.if-not-place_one.false) at w.ensures)

pub returns-then-not-place_one : goal.returns-then-not-place_one
returns-then-not-place_one c =
    let a = c.args in
    let l = c.loop-i in
    let w = c.place_one in
    placed-stuck _ _ a.rot_atom.now l.i l.rot_atom _ _ c.loop-i-test.true l.invariant (rw (l.auto.rot_atom, c.if-not-place_one.true) at w.ensures)

pub returns : goal.returns
returns c =
    let a = c.args in
    let l = c.loop-i in
    let q : l.i ≡ length a.rot_atom.now = omega arith in
    placed-all _ _ a.rot_atom.now l.rot_atom l.marks (rw q at l.invariant)
