use mathlib.Core.Bool.{true≢false}
use mathlib.Core.Path.{◌≡◌, refl, sym}
use native.Mathlib.Omega.{arith}
use lib.ListN.{get_or}
use borrow.Author.Count.{below_more}
use Rattle.lists.specs.Tests.{not-both}
use Rattle.shifts.specs.Loops.{Commutes}
use Rattle.shifts.proofs.rows.all_commute.Goals as goal

pub loop-g-init : goal.loop-g-init
loop-g-init c = λ k h. absurd (omega arith)

pub generator_commutes-requires : goal.generator_commutes-requires
generator_commutes-requires c = (c.requires.0, c.loop-g-test.true, c.requires.1)

pub loop-g-preserved : goal.loop-g-preserved
loop-g-preserved c =
    let l = c.loop-g in
    let a = c.args in
    below_more (λ k. (get_or a.gens.now k 0 ≡ 0 → ⊥) → Commutes a.tables.now.n_satom a.tables.now.perms.now k (λ x. get_or a.right.now x 0)) l.g l.invariant (c.generator_commutes.ensures.0 c.if-not-generator_commutes.false)

pub returns-then-not-generator_commutes : goal.returns-then-not-generator_commutes
returns-then-not-generator_commutes c = (λ q. absurd (true≢false (sym q)), λ f. absurd (not-both (c.generator_commutes.ensures.1 (f c.loop-g.g c.loop-g-test.true)) c.if-not-generator_commutes.true))

pub returns : goal.returns
returns c = (λ _ k h. c.loop-g.invariant k (omega arith), λ _. refl)
