use mathlib.Core.Bool.{true≢false}
use mathlib.Core.Path.{◌≡◌, refl, sym}
use Prim.Native.Nat.{ℕ}
use native.Mathlib.Omega.{arith}
use lib.ListN.{get_or, length-replicate}
use borrow.Author.Count.{below_more}
use Rattle.lists.specs.Tests.{not-both}
use Rattle.shifts.specs.Loops.{Settled}
use Rattle.shifts.proofs.rows.all_settled.Goals as goal

pub loop-s-init : goal.loop-s-init
loop-s-init c = (length-replicate {A = ℕ} 1024 0, λ k h. absurd (omega arith))

pub is_settled-requires : goal.is_settled-requires
is_settled-requires c = (c.requires, c.loop-s-test.true, c.loop-s.invariant.0)

pub loop-s-preserved : goal.loop-s-preserved
loop-s-preserved c =
    let l = c.loop-s in
    let a = c.args in
    let E = c.is_settled.ensures in
    (E.0, below_more (λ k. (get_or a.gens.now k 0 ≡ 0 → ⊥) → Settled a.tables.now.n_satom a.tables.now.num_trans a.tables.now.perms.now a.tables.now.p2s.now a.tables.now.s2pp.now a.sent.now a.gens.now k) l.s l.invariant.1 (E.1.0 c.if-not-is_settled.false))

pub returns-then-not-is_settled : goal.returns-then-not-is_settled
returns-then-not-is_settled c = (λ q. absurd (true≢false (sym q)), λ f. absurd (not-both (c.is_settled.ensures.1.1 (f c.loop-s.s c.loop-s-test.true)) c.if-not-is_settled.true))

pub returns : goal.returns
returns c = (λ _ k h. c.loop-s.invariant.1 k (omega arith), λ _. refl)
