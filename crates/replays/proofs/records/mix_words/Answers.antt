use Rattle.std.proofs.Common.{◌≡◌, ℕ, ◌+◌, ◌-◌, ap, ◌∙◌, arith}
use Rattle.lists.specs.Tab.{times, times-at, times-from}
use Rattle.replays.specs.Words.{mixed, mixed_at}
use Rattle.replays.proofs.records.mix_words.Goals as goal

pub loop-k-init : goal.loop-k-init
loop-k-init c =
    let a = c.args in
    (omega arith, times-at a.from (λ i. mixed_at a.s.now (a.from + i)) a.h)

pub loop-k-preserved : goal.loop-k-preserved
loop-k-preserved c =
    let a = c.args in
    let l = c.loop-k in
    (omega arith, times-from a.from l.k (mixed_at a.s.now) a.h (omega arith) l.invariant.1 (c.mix-g.ensures ∙ ap (mixed l.g) c.word_of.ensures))

pub returns : goal.returns
returns c =
    let a = c.args in
    let l = c.loop-k in
    let e : l.k - a.from ≡ a.to - a.from = omega arith in
    l.invariant.1 ∙ ap (λ (n : ℕ). times n (λ i. mixed_at a.s.now (a.from + i)) a.h) e
