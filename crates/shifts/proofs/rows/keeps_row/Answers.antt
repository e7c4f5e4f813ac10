use mathlib.Core.Bool.{true≢false}
use mathlib.Core.Path.{sym, ap, ◌∙◌}
use Prim.Native.Nat.{ℕ, ◌-◌, ◌<◌}
use native.Mathlib.Omega.{arith}
use lib.ListN.{get_or}
use borrow.Author.Tests.{not-true, not-false, eqb-true, eq-eqb}
use Rattle.lists.specs.Tests.{not-both}
use Rattle.tables.specs.Conditions.{index_at, read}
use Rattle.shifts.specs.Rows.{image}
use Rattle.shifts.proofs.Generators.{image-below, image-read, sent_pos, sender_below}
use Rattle.shifts.proofs.rows.keeps_row.Goals as goal

pub perms_at-b-requires : goal.perms_at-b-requires
perms_at-b-requires c = image-read c.requires.0.rows c.args.g c.args.a.0 c.requires.1 c.requires.2

pub s2pp_at-p-requires : goal.s2pp_at-p-requires
s2pp_at-p-requires c = (read c.requires.0.orbs c.args.a.0 c.requires.2).0

pub s2pp_at-q-requires : goal.s2pp_at-q-requires
s2pp_at-q-requires c =
    (read c.requires.0.orbs c.perms_at-b.result.0 (omega (arith, c.perms_at-b.ensures, image-below c.requires.0.rows c.args.g c.args.a.0 c.requires.1 c.requires.2))).0

pub returns-then-ne : goal.returns-then-ne
returns-then-ne c =
    let e = c.s2pp_at-q.ensures ∙ ap (index_at c.args.tables.now.s2pp.now) c.perms_at-b.ensures in
    (λ q. absurd (true≢false (sym q)), λ K. absurd (not-both (eq-eqb _ _ (e ∙ K.0 ∙ sym c.s2pp_at-p.ensures)) (not-true _ (sym c.ne.ensures ∙ c.if-ne.true))))

pub p2s_at-first-requires : goal.p2s_at-first-requires
p2s_at-first-requires c = (read c.requires.0.reps 0 c.requires.0.rep).0

pub sender-requires : goal.sender-requires
sender-requires c =
    (omega (arith, c.requires.0.rows.atoms, c.requires.2), sent_pos c.requires.0 c.args.a.0 c.requires.2)

pub perms_at-requires : goal.perms_at-requires
perms_at-requires c =
    image-read c.requires.0.rows _ _ (omega (arith, c.sender.ensures, sender_below c.requires.0 c.args.a.0 c.requires.2)) (omega (arith, c.p2s_at-first.ensures, (read c.requires.0.reps 0 c.requires.0.rep).1))

pub perms_at-d-requires : goal.perms_at-d-requires
perms_at-d-requires c =
    let R = c.requires.0.rows in
    let hs : c.sender.result < c.args.tables.now.num_trans = omega (arith, c.sender.ensures, sender_below c.requires.0 c.args.a.0 c.requires.2) in
    let hp : c.p2s_at-first.result.0 < c.args.tables.now.n_satom = omega (arith, c.p2s_at-first.ensures, (read c.requires.0.reps 0 c.requires.0.rep).1) in
    image-read R c.args.g _ c.requires.1 (omega (arith, c.perms_at.ensures, image-below R _ _ hs hp))

pub sender-requires-2 : goal.sender-requires-2
sender-requires-2 c =
    let a = c.args in
    let Z = c.requires.0 in
    let e = c.perms_at-b.ensures in
    let h = image-below Z.rows a.g a.a.0 c.requires.1 c.requires.2 in
    (omega (arith, e, Z.rows.atoms, h), omega (arith, ap (λ x. get_or a.sent.now x 0) e, sent_pos Z _ h))

pub sender-requires-3 : goal.sender-requires-3
sender-requires-3 c =
    let Z = c.requires.0 in
    let R = Z.rows in
    let hs : c.sender.result < c.args.tables.now.num_trans = omega (arith, c.sender.ensures, sender_below Z c.args.a.0 c.requires.2) in
    let hp : c.p2s_at-first.result.0 < c.args.tables.now.n_satom = omega (arith, c.p2s_at-first.ensures, (read Z.reps 0 Z.rep).1) in
    let hb : c.perms_at.result.0 < c.args.tables.now.n_satom = omega (arith, c.perms_at.ensures, image-below R _ _ hs hp) in
    let hd : c.perms_at-d.result.0 < c.args.tables.now.n_satom = omega (arith, c.perms_at-d.ensures, image-below R c.args.g _ c.requires.1 hb) in
    (omega (arith, R.atoms, hd), sent_pos Z _ hd)

pub returns : goal.returns
returns c =
    let a = c.args in
    let Z = c.requires.0 in
    let im : ℕ → ℕ → ℕ = λ t x. image a.tables.now.perms.now a.tables.now.n_satom t x in
    let at : ℕ → ℕ = λ x. get_or a.sent.now x 0 in
    let e = ap at c.perms_at-b.ensures in
    let f = c.perms_at-d.ensures ∙ ap (im a.g) (c.perms_at.ensures ∙ ap (λ x. im x c.p2s_at-first.result.0) c.sender.ensures ∙ ap (im (get_or a.sent.now a.a.0 0 - 1)) c.p2s_at-first.ensures) in
    let i = c.s2pp_at-q.ensures ∙ ap (index_at a.tables.now.s2pp.now) c.perms_at-b.ensures in
    let hb = image-below Z.rows a.g a.a.0 c.requires.1 c.requires.2 in
    let hd = image-below Z.rows a.g _ c.requires.1 (image-below Z.rows _ _ (sender_below Z a.a.0 c.requires.2) (read Z.reps 0 Z.rep).1) in (
      λ q. (
        sym i ∙ eqb-true _ _ (not-false _ (sym c.ne.ensures ∙ c.if-ne.false)) ∙ c.s2pp_at-p.ensures,
        omega (arith, eqb-true c.sender-2.result c.sender-3.result q, c.sender-2.ensures, c.sender-3.ensures, e, ap at f, sent_pos Z _ hb, sent_pos Z _ hd),
      ),
      λ K. eq-eqb _ _ (c.sender-2.ensures ∙ ap (λ x. x - 1) (e ∙ K.1 ∙ sym (ap at f)) ∙ sym c.sender-3.ensures),
    )
