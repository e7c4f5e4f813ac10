use mathlib.Core.Path.{◌≡◌, ap, ◌∙◌}
use Prim.Native.Nat.{ℕ, ◌-◌, ◌<◌}
use native.Mathlib.Omega.{arith}
use lib.ListN.{length, get_or, set, length-set}
use lib.Seq.{get_or-set_other, get_or-set_same}
use borrow.Author.Count.{below_none, below_more}
use Rattle.tables.specs.Conditions.{index_at, read}
use Rattle.shifts.specs.Rows.{image}
use Rattle.shifts.specs.Loops.{right_of}
use Rattle.shifts.proofs.Generators.{image-below, image-read}
use Rattle.shifts.proofs.rows.shift_right.Goals as goal

pub loop-a-init : goal.loop-a-init
loop-a-init c = (below_none _, c.requires.2)

pub s2pp_at-requires : goal.s2pp_at-requires
s2pp_at-requires c = (read c.requires.0.orbs c.loop-a.a c.loop-a-test.true).0

pub p2s_at-p-requires : goal.p2s_at-p-requires
p2s_at-p-requires c =
    let Z = c.requires.0 in
    (read Z.reps c.s2pp_at.result.0 (omega (arith, c.s2pp_at.ensures, (read Z.orbs c.loop-a.a c.loop-a-test.true).1))).0

pub sender-requires : goal.sender-requires
sender-requires c =
    let (t, ht, e, f) = c.requires.0.named c.loop-a.a c.loop-a-test.true in
    (omega (arith, c.requires.0.rows.atoms, c.loop-a-test.true), omega arith)

pub perms_at-requires : goal.perms_at-requires
perms_at-requires c =
    let Z = c.requires.0 in
    let ho : c.s2pp_at.result.0 < c.args.tables.now.n_patom = omega (arith, c.s2pp_at.ensures, (read Z.orbs c.loop-a.a c.loop-a-test.true).1) in
    image-read Z.rows c.args.s _ c.requires.1 (omega (arith, c.p2s_at-p.ensures, (read Z.reps _ ho).1))

pub perms_at-b-requires : goal.perms_at-b-requires
perms_at-b-requires c =
    let Z = c.requires.0 in
    let ho : c.s2pp_at.result.0 < c.args.tables.now.n_patom = omega (arith, c.s2pp_at.ensures, (read Z.orbs c.loop-a.a c.loop-a-test.true).1) in
    let hp : c.p2s_at-p.result.0 < c.args.tables.now.n_satom = omega (arith, c.p2s_at-p.ensures, (read Z.reps _ ho).1) in
    let (t, ht, e, f) = Z.named c.loop-a.a c.loop-a-test.true in
    image-read Z.rows _ _ (omega (arith, c.sender.ensures)) (omega (arith, c.perms_at.ensures, image-below Z.rows c.args.s _ c.requires.1 hp))

pub offset_bounds-right-a : goal.offset_bounds-right-a
offset_bounds-right-a c = omega (arith, c.requires.0.rows.atoms, c.loop-a-test.true)

pub bounds-right-a : goal.bounds-right-a
bounds-right-a c = omega (arith, c.requires.0.rows.atoms, c.loop-a-test.true)

pub loop-a-preserved : goal.loop-a-preserved
loop-a-preserved c =
    let a = c.args in
    let l = c.loop-a in
    let im : ℕ → ℕ → ℕ = λ t x. image a.tables.now.perms.now a.tables.now.n_satom t x in
    let v = c.perms_at-b.result.0 in
    let e : v ≡ right_of a.tables.now.perms.now a.tables.now.n_satom a.tables.now.p2s.now a.tables.now.s2pp.now a.sent.now a.s l.a =
    c.perms_at-b.ensures ∙ ap (λ x. im x c.perms_at.result.0) c.sender.ensures
    ∙ ap (im (get_or a.sent.now l.a 0 - 1)) (c.perms_at.ensures ∙ ap (im a.s) (c.p2s_at-p.ensures ∙ ap (index_at a.tables.now.p2s.now) c.s2pp_at.ensures)) in
    let h : l.a < length l.right = omega (arith, c.requires.0.rows.atoms, c.loop-a-test.true, l.invariant.1) in (
      below_more (λ k. get_or (set l.right l.a v) k 0 ≡ right_of a.tables.now.perms.now a.tables.now.n_satom a.tables.now.p2s.now a.tables.now.s2pp.now a.sent.now a.s k) l.a
          (λ k b. get_or-set_other l.right l.a k v 0 (λ q. omega arith) ∙ l.invariant.0 k b)
          (get_or-set_same l.right l.a v 0 h ∙ e),
      length-set l.right l.a v ∙ l.invariant.1,
    )

pub returns : goal.returns
returns c = (λ k h. c.loop-a.invariant.0 k (omega arith), c.loop-a.invariant.1)
