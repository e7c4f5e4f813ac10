use mathlib.Core.Bool.{true≢false}
use mathlib.Core.Path.{refl, sym}
use native.Mathlib.Omega.{arith}
use borrow.Author.Count.{below_more}
use Rattle.lists.specs.Tests.{not-both}
use Rattle.shifts.proofs.Generators.{made_more, known_start}
use Rattle.shifts.proofs.rows.learn_all.Goals as goal

pub overflow_add-known : goal.overflow_add-known
overflow_add-known c = omega (arith, c.requires.0.rows.shifts)

pub offset_bounds-known-null : goal.offset_bounds-known-null
offset_bounds-known-null c = omega (arith, c.requires.0.rows.shifts, c.requires.1)

pub bounds-known-null : goal.bounds-known-null
bounds-known-null c = omega (arith, c.requires.0.rows.shifts, c.requires.1)

pub loop-u-init : goal.loop-u-init
loop-u-init c =
    let a = c.args in
    (c.requires.3, λ k h. absurd (omega arith), known_start a.tables.now.n_satom a.tables.now.num_trans a.tables.now.perms.now a.gens.now a.null (omega (arith, c.requires.0.rows.shifts, c.requires.1)) (c.requires.2 a.gens.now))

pub learn-requires : goal.learn-requires
learn-requires c =
    let l = c.loop-u in record { rows = (c.requires.0, c.requires.1, c.loop-u-test.true); made = (c.requires.2 l.gens, l.invariant.2, l.invariant.0) }

pub loop-u-preserved : goal.loop-u-preserved
loop-u-preserved c =
    let a = c.args in
    let l = c.loop-u in
    let L = c.learn.ensures.0 in
    (L.size, below_more _ l.u (λ k b. made_more a.tables.now.n_satom a.tables.now.num_trans a.tables.now.perms.now l.gens _ L.more (l.invariant.1 k b)) L.made, L.knows)

pub returns-then-not-learn : goal.returns-then-not-learn
returns-then-not-learn c = (λ q. absurd (true≢false (sym q)), λ C. absurd (not-both (c.learn.ensures.1 C) c.if-not-learn.true))

pub returns : goal.returns
returns c = (λ _ k h. c.loop-u.invariant.1 k (omega arith), λ _. refl)
