use mathlib.Core.Path.{refl, ◌∙◌}
use Prim.Native.Nat.{◌<◌}
use native.Mathlib.Omega.{arith}
use lib.ListN.{length-set}
use Rattle.shifts.specs.Loops.{generator}
use Rattle.shifts.proofs.Generators.{made_more, gens_more, known_more}
use Rattle.shifts.proofs.rows.learn.Goals as goal

pub offset_bounds-known-u : goal.offset_bounds-known-u
offset_bounds-known-u c = omega (arith, c.requires.rows.0.rows.shifts, c.requires.rows.2)

pub bounds-known-u : goal.bounds-known-u
bounds-known-u c = omega (arith, c.requires.rows.0.rows.shifts, c.requires.rows.2)

pub returns-then-known-u-ne0 : goal.returns-then-known-u-ne0
returns-then-known-u-ne0 c =
    (record { size = c.requires.made.2; more = λ k p. p; made = c.requires.made.1.made c.args.u c.requires.rows.2 c.if-known-u-ne0.true; knows = c.requires.made.1 }, λ _. refl)

pub bounds-gens-u : goal.bounds-gens-u
bounds-gens-u c = omega (arith, c.requires.rows.0.rows.shifts, c.requires.rows.2)

pub spread-requires : goal.spread-requires
spread-requires c =
    let a = c.args in
    let h : a.u < 1024 = omega (arith, c.requires.rows.0.rows.shifts, c.requires.rows.2) in
    let g = gens_more a.gens.now a.u h c.requires.made.2 in record { rows = c.requires.rows; made = (generator g.1, made_more a.tables.now.n_satom a.tables.now.num_trans a.tables.now.perms.now a.gens.now _ g.0 c.requires.made.0, known_more a.tables.now.n_satom a.tables.now.num_trans a.tables.now.perms.now a.gens.now _ a.known.now g.0 c.requires.made.1) }

pub returns : goal.returns
returns c =
    let a = c.args in
    let h : a.u < 1024 = omega (arith, c.requires.rows.0.rows.shifts, c.requires.rows.2) in
    let g = gens_more a.gens.now a.u h c.requires.made.2 in
    (record { size = length-set a.gens.now a.u 1 ∙ c.requires.made.2; more = g.0; made = generator g.1; knows = c.spread.ensures.0 }, c.spread.ensures.1)
