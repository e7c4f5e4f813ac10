use mathlib.Core.Path.{◌≡◌, refl, ap, ◌∙◌}
use native.Mathlib.Omega.{arith}
use Rattle.lists.specs.Tab.{tab}
use Rattle.roll.specs.Format.{in_fours}
use Rattle.roll.specs.Reading.{record_start}
use Rattle.roll.specs.Laid.{laid}
use Rattle.roll.specs.StartLaws.{start_first, next_start, head-before}
use Rattle.roll.specs.StoringLaws.{no-starts, more-starts, still}
use Rattle.roll.proofs.append.lay_starts.Goals as goal

pub loop-i-init : goal.loop-i-init
loop-i-init c = let a = c.args in (refl, start_first a.s.now, no-starts a.s.now a.t)

pub lay_four-requires : goal.lay_four-requires
lay_four-requires c = omega (arith, c.listed_at.ensures)

pub record_end-at-requires : goal.record_end-at-requires
record_end-at-requires c = let a = c.args in omega (arith, head-before a.s.now c.loop-i.i a.n c.loop-i-test.true, c.lay_four.auto.s)

pub loop-i-preserved : goal.loop-i-preserved
loop-i-preserved c =
    let a = c.args in
    let l = c.loop-i in
    let h = c.loop-i-test.true in
    let q = more-starts a.s.now a.n a.t c.requires.0 c.requires.1 l.s _ l.i l.at _ h l.invariant.1 c.listed_at.ensures l.invariant.2 c.lay_four.ensures in
    let z = c.record_end-at.ensures ∙ still a.s.now a.n a.t c.requires.0 c.requires.1 _ l.i l.at h l.invariant.1 q in
    (c.lay_four.auto.s ∙ l.invariant.0, next_start a.s.now l.i l.at c.record_end-at.result l.invariant.1 z, q)

pub returns : goal.returns
returns c =
    let a = c.args in
    let l = c.loop-i in
    let i : l.i ≡ a.n = omega arith in
    l.invariant.2 ∙ ap (λ m. laid a.s.now a.t (in_fours (tab m (record_start a.s.now)))) i
