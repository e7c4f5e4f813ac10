use mathlib.Core.Path.{◌≡◌, sym, ap, ◌∙◌}
use native.Mathlib.Omega.{arith}
use borrow.Author.Count.{below_none, below_more}
use mathlib.Core.Bool.{not}
use lib.ListN.{length}
use Rattle.lists.specs.Lowest.{lowest_by}
use Rattle.tables.specs.Conditions.{below}
use Rattle.tables.proofs.Integers.{handed}
use Rattle.explain.specs.Explain.{first_beyond}
use Rattle.explain.proofs.first_beyond.Goals as goal

pub loop-k-init : goal.loop-k-init
loop-k-init c = below_none _

pub loop-k-preserved : goal.loop-k-preserved
loop-k-preserved c =
    let l = c.loop-k in
    let a = c.args in
    let e = handed (λ z. c.is_index.result ≡ below a.n z) a.t.now l.k c.is_index-arg-1.given c.is_index.ensures in
    below_more _ l.k l.invariant (ap not (sym e ∙ c.if-not-is_index.false))

pub returns-then-not-is_index : goal.returns-then-not-is_index
unfolding first_beyond
returns-then-not-is_index c =
    let l = c.loop-k in
    let a = c.args in
    let e = handed (λ z. c.is_index.result ≡ below a.n z) a.t.now l.k c.is_index-arg-1.given c.is_index.ensures in
    lowest_by (length a.t.now) _ l.k (omega arith) l.invariant (λ _. ap not (sym e ∙ c.if-not-is_index.true))

pub returns : goal.returns
unfolding first_beyond
returns c =
    let a = c.args in
    let l = c.loop-k in
    lowest_by (length a.t.now) _ (length a.t.now) (omega arith) (λ k h. l.invariant k (omega arith)) (λ h. absurd (omega arith))
