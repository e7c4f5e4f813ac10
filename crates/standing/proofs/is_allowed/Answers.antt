use Rattle.std.proofs.Common.{refl, ◌∙◌}
use native.Mathlib.Omega.{arith}
use Rattle.standing.specs.Walk.{inside, retires-known, delivered-twice, delivers-new, replaces-unknown, replaces-known}
use Rattle.standing.proofs.Replacers.{none-is-zero}
use Rattle.standing.proofs.is_allowed.Goals as goal

pub bounds-b-at : goal.bounds-b-at
bounds-b-at c =
    let r = inside c.args.b.now c.requires.0 c.args.n c.args.at c.requires.1 c.requires.2 in
    omega (arith, r.0, r.1)

pub look_up-own-requires : goal.look_up-own-requires
look_up-own-requires c =
    (c.requires.0, omega (arith, c.requires.1))

pub returns-then-kind : goal.returns-then-kind
returns-then-kind c =
    retires-known c.args.b.now c.args.n c.args.at _ c.set_at.result c.requires.2 refl c.set_at.ensures.0
    c.look_up-own.ensures.notes c.if-kind.true

pub returns-then-own : goal.returns-then-own
returns-then-own c =
    delivered-twice c.args.b.now c.args.n c.args.at _ c.set_at.result c.requires.2 refl c.set_at.ensures.0
    c.look_up-own.ensures.notes c.if-own.true c.if-kind.false

pub returns-then-kind-2 : goal.returns-then-kind-2
returns-then-kind-2 c =
    delivers-new c.args.b.now c.args.n c.args.at _ c.set_at.result c.requires.2 refl c.set_at.ensures.0
    c.look_up-own.ensures.notes c.if-own.false c.if-kind.false c.if-kind-2.true

pub look_up-old-requires : goal.look_up-old-requires
look_up-old-requires c =
    (c.requires.0, omega (arith, c.requires.1))

pub returns-then-old : goal.returns-then-old
returns-then-old c =
    none-is-zero c.look_up-old.result.by _ c.is_none.ensures c.look_up-old.ensures.named
    ∙ replaces-known c.args.b.now c.args.n c.args.at _ c.set_at.result c.requires.2 refl c.set_at.ensures.0
    c.look_up-own.ensures.notes c.earlier_at.ensures.0 c.look_up-old.ensures.notes c.if-own.false c.if-kind-2.false c.if-old.true

pub returns-else-old : goal.returns-else-old
returns-else-old c =
    c.if-old.false
    ∙ replaces-unknown c.args.b.now c.args.n c.args.at _ c.set_at.result c.requires.2 refl c.set_at.ensures.0
    c.look_up-own.ensures.notes c.earlier_at.ensures.0 c.look_up-old.ensures.notes c.if-own.false c.if-kind-2.false c.if-old.false

pub set_at-requires : goal.set_at-requires
set_at-requires c =
    (inside c.args.b.now c.requires.0 c.args.n c.args.at c.requires.1 c.requires.2).1

pub earlier_at-requires : goal.earlier_at-requires
earlier_at-requires c =
    (inside c.args.b.now c.requires.0 c.args.n c.args.at c.requires.1 c.requires.2).1
