use mathlib.Core.Path.{refl}
use native.Mathlib.Omega.{arith}
use Rattle.lists.specs.Tests.{not-both}
use Rattle.shifts.specs.Loops.{shift-after}
use Rattle.shifts.proofs.Generators.{known-linked, mark_composed}
use Rattle.shifts.proofs.rows.learn_after.Goals as goal

pub bounds-known-v : goal.bounds-known-v
bounds-known-v c = omega (arith, c.requires.rows.0.rows.shifts, c.row_after-v.ensures.0)

pub returns-then-known-v-ne0 : goal.returns-then-known-v-ne0
returns-then-known-v-ne0 c = (c.requires.made.2, λ _. refl)

pub is_after-requires : goal.is_after-requires
is_after-requires c = (c.requires.rows.0.rows, c.requires.rows.1, c.requires.rows.2, c.row_after-v.ensures.0)

pub bounds-known-r : goal.bounds-known-r
bounds-known-r c = omega (arith, c.requires.rows.0.rows.shifts, c.requires.rows.1)

pub bounds-known-v-then-is_after : goal.bounds-known-v-then-is_after
bounds-known-v-then-is_after c = omega (arith, c.requires.rows.0.rows.shifts, c.row_after-v.ensures.0)

pub bounds-known-r-then-is_after : goal.bounds-known-r-then-is_after
bounds-known-r-then-is_after c = omega (arith, c.requires.rows.0.rows.shifts, c.requires.rows.1)

pub returns-then-is_after : goal.returns-then-is_after
returns-then-is_after c =
    let a = c.args in
    let hv = c.row_after-v.ensures.0 in
    let e = c.is_after.ensures.0 c.if-is_after.true in
    (known-linked a.tables.now.n_satom a.tables.now.num_trans a.tables.now.perms.now a.gens.now a.known.now a.r _ c.requires.rows.0.rows c.requires.rows.1 hv c.requires.made.2 c.requires.made.1 (shift-after c.requires.rows.1 c.requires.rows.2 c.requires.made.1 c.requires.made.0 e), λ _. refl)

pub returns : goal.returns
returns c =
    let a = c.args in
    let w = c.row_after-v.ensures in (
      c.requires.made.2,
      λ C. absurd (not-both (c.is_after.ensures.1 (mark_composed a.tables.now.n_satom a.tables.now.num_trans a.tables.now.perms.now a.base.0 a.sent.now c.requires.rows.0 C a.r a.u _ c.requires.rows.1 c.requires.rows.2 w.1)) c.if-is_after.false),
    )
