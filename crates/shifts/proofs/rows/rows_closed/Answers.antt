use mathlib.Core.Bool.{true≢false}
use mathlib.Core.Path.{sym}
use Prim.Native.Nat.{ℕ}
use native.Mathlib.Omega.{arith}
use lib.ListN.{length-replicate}
use Rattle.lists.specs.Tests.{not-both}
use Rattle.tables.specs.Conditions.{read}
use Rattle.shifts.proofs.Generators.{all_closed, closed-settled, base_marked, base_null}
use Rattle.shifts.proofs.rows.rows_closed.Goals as goal

pub p2s_at-first-requires : goal.p2s_at-first-requires
p2s_at-first-requires c = (read c.requires.reps 0 c.requires.rep).0

pub sender-requires : goal.sender-requires
sender-requires c =
    let a = c.args in
    (omega (arith, c.requires.rows.atoms, c.p2s_at-first.ensures, (read c.requires.reps 0 c.requires.rep).1), (base_null a.tables.now.n_satom a.tables.now.num_trans a.tables.now.n_patom a.tables.now.perms.now a.tables.now.p2s.now a.tables.now.s2pp.now a.sent.now c.requires _ c.p2s_at-first.ensures).1)

pub learn_all-requires : goal.learn_all-requires
learn_all-requires c =
    let a = c.args in
    let e = c.p2s_at-first.ensures in
    let r = c.sender.ensures in
    let N = base_null a.tables.now.n_satom a.tables.now.num_trans a.tables.now.n_patom a.tables.now.perms.now a.tables.now.p2s.now a.tables.now.s2pp.now a.sent.now c.requires _ e in
    (base_marked a.tables.now.n_satom a.tables.now.num_trans a.tables.now.n_patom a.tables.now.perms.now a.tables.now.p2s.now a.tables.now.s2pp.now a.sent.now c.requires _ e, rw r N.0, rw r N.2, length-replicate {A = ℕ} 1024 0)

pub all_settled-requires : goal.all_settled-requires
all_settled-requires c = c.requires

pub returns-then-learn_all : goal.returns-then-learn_all
returns-then-learn_all c =
    let a = c.args in (
      λ q. all_closed a.tables.now.n_satom a.tables.now.num_trans a.tables.now.n_patom a.tables.now.perms.now a.tables.now.p2s.now a.tables.now.s2pp.now a.sent.now _ c.requires (c.learn_all.ensures.0 c.if-learn_all.true) (c.all_settled.ensures.0 q),
      λ C. c.all_settled.ensures.1 (λ g hg z. closed-settled a.tables.now.n_satom a.tables.now.num_trans a.tables.now.n_patom a.tables.now.perms.now a.tables.now.p2s.now a.tables.now.s2pp.now a.sent.now c.requires C c.learn_all.new.gens g hg),
    )

pub returns : goal.returns
returns c = (λ q. absurd (true≢false (sym q)), λ C. absurd (not-both (c.learn_all.ensures.1 C) c.if-learn_all.false))
