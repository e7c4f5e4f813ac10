use mathlib.Core.Bool.{true, false}
use Rattle.matching.specs.Slots.{slot_at, filled-stays-out}
use Rattle.matching.specs.Matching.{is_filled, takes, no_number_at}
use Rattle.distances.specs.Near.{is_near, is_none, near, distance}
use Rattle.matching.specs.Search.{tried_as, First}
use Rattle.matching.proofs.SearchLaws.{first-none, first-noted, filled-not-blank, near-tried, none_tried, taken_is, noted_is}
use Rattle.tables.proofs.Integers.{handed}
use borrow.Author.Count.{below_more}
use mathlib.Core.Path.{◌≡◌, sym, ap, ◌∙◌, subst}
use lib.ListN.{length}
use native.Mathlib.Omega.{arith}
use Prim.Native.Nat.{◌+◌}
use Rattle.matching.proofs.slots.find.Goals as goal

pub loop-j-init : goal.loop-j-init
loop-j-init c =
    let a = c.args in
    let b = c.requires.1 in (
      λ k h. filled-stays-out (near a.cell a.pos.now a.rot_pos.now) a.rot_atom.now a.i k (b.filled k h),
      first-none _ _ _ (λ k h. filled-not-blank (distance a.cell a.pos.now a.rot_pos.now) a.rot_atom.now a.i k (b.filled k h)),
    )

pub returns-then-is_near : goal.returns-then-is_near
returns-then-is_near c =
    let l = c.loop-j in
    let a = c.args in
    let dist = distance a.cell a.pos.now a.rot_pos.now in
    let slots = a.rot_atom.now in
    let e = handed (λ z. c.tried-d.result ≡ tried_as z (dist a.i l.j)) slots l.j (omega arith) c.tried-d.ensures in
    let t : takes (near a.cell a.pos.now a.rot_pos.now) slots a.i l.j ≡ true = sym (near-tried (is_filled (slot_at slots l.j)) (dist a.i l.j)) ∙ ap is_near (sym e) ∙ sym c.is_near.ensures ∙ c.if-is_near.true in
    let p = taken_is dist slots a.i l.j (omega arith) l.invariant.0 (λ _. t) in
    (p, noted_is dist slots a.i l.j l.none p (omega arith) l.invariant.1)

pub loop-j-preserved : goal.loop-j-preserved
loop-j-preserved c =
    let l = c.loop-j in
    let a = c.args in
    let dist = distance a.cell a.pos.now a.rot_pos.now in
    let slots = a.rot_atom.now in
    let e = handed (λ z. c.tried-d.result ≡ tried_as z (dist a.i l.j)) slots l.j (omega arith) c.tried-d.ensures in
    let t : takes (near a.cell a.pos.now a.rot_pos.now) slots a.i l.j ≡ false = sym (near-tried (is_filled (slot_at slots l.j)) (dist a.i l.j)) ∙ ap is_near (sym e) ∙ sym c.is_near.ensures ∙ c.if-is_near.false in
    let b : no_number_at dist slots a.i l.j ≡ is_none c.tried-d.result = sym (none_tried (is_filled (slot_at slots l.j)) (dist a.i l.j)) ∙ ap is_none (sym e) in
    let f = first-noted (no_number_at dist slots a.i) (length slots) l.j l.none l.invariant.1 c.tried-d.result b c.loop-j-test.true in
    (below_more _ l.j l.invariant.0 t, subst (First (no_number_at dist slots a.i) (length slots) (l.j + 1)) (sym c.noted-none.ensures) f)

pub returns : goal.returns
returns c =
    let l = c.loop-j in
    let a = c.args in
    let dist = distance a.cell a.pos.now a.rot_pos.now in
    let n = length a.rot_atom.now in
    let e : l.j ≡ n = omega arith in
    let p = taken_is dist a.rot_atom.now a.i n (omega arith) (rw e at l.invariant.0) (λ h. absurd (omega arith)) in
    (p, noted_is dist a.rot_atom.now a.i n l.none p (omega arith) (rw e at l.invariant.1))
