use mathlib.Core.Path.{◌≡◌}
use native.Mathlib.Omega.{arith}
use Rattle.tables.proofs.Loops.{four_tell}
use Rattle.shifts.specs.Rows.{image}
use Rattle.shifts.proofs.rows.agrees_at_four.Goals as goal

pub agrees_at-p-requires : goal.agrees_at-p-requires
agrees_at-p-requires c = let p = c.requires in (p.0, p.1, p.2, p.3, omega (arith, p.4))

pub overflow_add-a : goal.overflow_add-a
overflow_add-a c = let p = c.requires in omega (arith, p.4, p.0.atoms)

pub agrees_at-q-requires : goal.agrees_at-q-requires
agrees_at-q-requires c = let p = c.requires in (p.0, p.1, p.2, p.3, omega (arith, p.4))

pub overflow_add-a-2 : goal.overflow_add-a-2
overflow_add-a-2 c = let p = c.requires in omega (arith, p.4, p.0.atoms)

pub agrees_at-r-requires : goal.agrees_at-r-requires
agrees_at-r-requires c = let p = c.requires in (p.0, p.1, p.2, p.3, omega (arith, p.4))

pub overflow_add-a-3 : goal.overflow_add-a-3
overflow_add-a-3 c = let p = c.requires in omega (arith, p.4, p.0.atoms)

pub agrees_at-s-requires : goal.agrees_at-s-requires
agrees_at-s-requires c = let p = c.requires in (p.0, p.1, p.2, p.3, omega (arith, p.4))

pub returns : goal.returns
returns c =
    let a = c.args in
    four_tell (λ k. image a.tables.now.perms.now a.tables.now.n_satom a.u (image a.tables.now.perms.now a.tables.now.n_satom a.t k) ≡ image a.tables.now.perms.now a.tables.now.n_satom a.v k) a.a _ _ _ _
    c.agrees_at-p.ensures c.agrees_at-q.ensures c.agrees_at-r.ensures c.agrees_at-s.ensures
