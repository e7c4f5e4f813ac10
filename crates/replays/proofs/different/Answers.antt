use Rattle.std.proofs.Common.{◌≡◌, ℕ, cond, eqb, length, get_or, ap, ◌∙◌, arith}
use Rattle.lists.specs.Tab.{times, times_none, times_more}
use Rattle.replays.specs.Tally.{differing, increased}
use Rattle.replays.proofs.different.Goals as goal

pub loop-i-init : goal.loop-i-init
loop-i-init c = times_none _ _

pub loop-i-preserved : goal.loop-i-preserved
loop-i-preserved c =
    let l = c.loop-i in
    let a = c.args in
    let one = c.differs.ensures ∙ ap (λ (w : ℕ). cond (eqb (get_or a.got.now l.i 0) w) 0 1) c.word_of.ensures in
    times_more l.i _ _ l.invariant (c.plus-d.ensures ∙ ap (increased l.d) one)

pub returns : goal.returns
returns c =
    let l = c.loop-i in
    let a = c.args in
    let e : l.i ≡ length a.got.now = omega arith in
    l.invariant ∙ ap (λ (n : ℕ). times n (λ i. differing a.r.now a.got.now i) 0) e
