use lib.Ieee.{in_float}
use lib.Dec.{le→leb}
use Prim.Native.Nat.{◌*◌, ◌^◌}
use native.Mathlib.Nat.{mul-le-mul}
use native.Mathlib.Omega.{arith}
use mathlib.Core.Path.{◌≡◌, refl, ap, ◌∙◌}
use Rattle.lists.specs.Tab.{times, times_none, times_more}
use Rattle.blocks.specs.Block.{put_block}
use Rattle.tables.specs.Limits.{limit3}
use Rattle.tables.specs.Compact.{ShiftTables, shifts_of, given}
use Rattle.lines.specs.Sums3x3.{inverse}
use Rattle.acoustic.specs.Laws.{drift_put, drift_inside, in27, rows2}
use Rattle.acoustic.proofs.third.drifts.Goals as goal

pub int_to_float-inv_n : goal.int_to_float-inv_n
unfolding in_float
int_to_float-inv_n c = le→leb c.args.tables.now.n_satom (2 ^ 53) (omega (arith, c.requires.0.ready.fit.satoms))

pub overflow_mul-count : goal.overflow_mul-count
overflow_mul-count c = let g = mul-le-mul c.requires.0.ready.fit.patoms c.requires.0.ready.fit.satoms in omega (arith, g)

pub loop-r-init : goal.loop-r-init
loop-r-init c = (omega arith, refl, times_none _ _)

pub drift_block-v-requires : goal.drift_block-v-requires
drift_block-v-requires c = (c.requires.0.ready, c.requires.1, c.loop-r-test.true)

pub write27-requires : goal.write27-requires
write27-requires c =
    let a = c.args in
    let T : ShiftTables = given a.tables.now in
    let l = c.loop-r in
    rw l.invariant.1 (drift_inside limit3 2 _ _ T c.requires.0 27 in27 l.r (rw (rows2 a.tables.now.n_satom a.tables.now.n_patom) c.loop-r-test.true))

pub overflow_step-r : goal.overflow_step-r
overflow_step-r c =
    let g = mul-le-mul c.requires.0.ready.fit.patoms c.requires.0.ready.fit.satoms in
    omega (arith, g, c.loop-r-test.true)

pub loop-r-preserved : goal.loop-r-preserved
unfolding drift_put
loop-r-preserved c =
    let a = c.args in
    let T : ShiftTables = given a.tables.now in
    let l = c.loop-r in
    (omega arith, c.write27.auto.fc ∙ l.invariant.1, times_more l.r _ _ l.invariant.2 (c.write27.ensures ∙ ap (λ v. put_block 27 l.r v l.drift) c.drift_block-v.ensures))

pub returns : goal.returns
unfolding inverse
returns c =
    let a = c.args in
    let T : ShiftTables = given a.tables.now in
    let l = c.loop-r in
    let e : l.r ≡ a.tables.now.n_patom * a.tables.now.n_satom = omega (arith, c.loop-r-test.false, l.invariant.0) in
    l.invariant.2 ∙ ap (λ k. times k (drift_put (shifts_of T) 2 a.leg 27 a.fc3.now (inverse a.tables.now.n_satom)) a.drift.now) e
