use mathlib.Core.Bool.{true≢false}
use mathlib.Core.Path.{◌≡◌, refl, sym, subst}
use native.Mathlib.Omega.{arith}
use Rattle.lists.specs.Tests.{not-both}
use Rattle.tables.specs.Conditions.{read}
use Rattle.shifts.specs.Placing.{Placed, Spread}
use Rattle.shifts.proofs.Placing.{none-placed, placed-fresh, placed-more}
use Rattle.shifts.proofs.rules.place_all.Goals as goal

pub loop-p-init : goal.loop-p-init
loop-p-init c = rw c.requires.3 (none-placed _ _ _ _ _)

pub p2s_at-a-requires : goal.p2s_at-a-requires
p2s_at-a-requires c = (read c.requires.0 c.loop-p.p c.loop-p-test.true).0

pub place_images-requires : goal.place_images-requires
place_images-requires c =
    let a = c.args in
    let l = c.loop-p in
    let h = (read c.requires.0 l.p c.loop-p-test.true).1 in
    (c.requires.1, c.requires.2, omega (arith, c.p2s_at-a.ensures, h), placed-fresh a.tables.now.n_satom a.tables.now.num_trans l.p a.tables.now.perms.now a.tables.now.p2s.now a.tables.now.s2pp.now l.sent l.invariant, l.invariant.size)

pub loop-p-preserved : goal.loop-p-preserved
loop-p-preserved c =
    let a = c.args in
    let l = c.loop-p in
    let e = c.p2s_at-a.ensures in
    placed-more a.tables.now.n_satom a.tables.now.num_trans l.p a.tables.now.perms.now a.tables.now.p2s.now a.tables.now.s2pp.now l.sent l.invariant _ _ e (c.place_images.ensures.0 c.if-not-place_images.false)

pub returns-then-not-place_images : goal.returns-then-not-place_images
returns-then-not-place_images c =
    let a = c.args in
    let l = c.loop-p in
    let e = c.p2s_at-a.ensures in (
      λ q. absurd (true≢false (sym q)),
      λ f.
          let o = subst (λ x. Spread a.tables.now.n_satom a.tables.now.num_trans a.tables.now.perms.now a.tables.now.s2pp.now x l.p) (sym e) (f l.p c.loop-p-test.true) in
          absurd (not-both (c.place_images.ensures.1 o) c.if-not-place_images.true),
    )

pub returns : goal.returns
returns c =
    let a = c.args in
    let l = c.loop-p in
    let i : l.p ≡ a.tables.now.n_patom = omega arith in
    (λ _. subst (λ k. Placed a.tables.now.n_satom a.tables.now.num_trans k a.tables.now.perms.now a.tables.now.p2s.now a.tables.now.s2pp.now l.sent) i l.invariant, λ _. refl)
