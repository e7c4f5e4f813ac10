use mathlib.Core.Bool.{true≢false}
use mathlib.Core.Path.{◌≡◌, refl, sym}
use native.Mathlib.Omega.{arith}
use lib.ListN.{get_or}
use borrow.Author.Count.{below_none, below_more}
use Rattle.shifts.proofs.rules.all_placed.Goals as goal

pub loop-a-init : goal.loop-a-init
loop-a-init c = below_none _

pub returns-then-sent-a-eq0 : goal.returns-then-sent-a-eq0
returns-then-sent-a-eq0 c = (λ q. absurd (true≢false (sym q)), λ f. absurd (f c.loop-a.a c.loop-a-test.true c.if-sent-a-eq0.true))

pub loop-a-preserved : goal.loop-a-preserved
loop-a-preserved c = let l = c.loop-a in below_more (λ k. get_or c.args.sent.now k 0 ≡ 0 → ⊥) l.a l.invariant c.if-sent-a-eq0.false

pub returns : goal.returns
returns c = (λ _ k h. c.loop-a.invariant k (omega arith), λ _. refl)
