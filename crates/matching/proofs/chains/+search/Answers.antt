-- Each branch of the search by its law of specs/StepLaws.antt. Assumes nothing.
use Rattle.std.proofs.Common.{◌≡◌, ◌<◌, false, length, length-set, pos, refl, sym, ap, ◌∙◌, arith}
use Rattle.tables.specs.Conditions.{index_at}
use Rattle.distances.specs.Near.{near}
use Rattle.matching.specs.Slots.{slot_at}
use Rattle.matching.specs.Groups.{marked}
use Rattle.matching.specs.StepLaws.{filled_pos, free_neg, tried_shut, open_near, open_fresh, tried-free, deeper, tried-found, tried-stuck, trying, looked-more, searched-found}
use Rattle.matching.specs.Chains.{Tried}
use Rattle.matching.proofs.chains.+search.Goals as goal
use Rattle.matching.proofs.chains.+search.Goals.{then-is_open+else-not-filled_at+else-search, else-is_open}

pub returns-then-not-filled_at : goal.returns-then-not-filled_at
returns-then-not-filled_at t c =
    let a = c.args in
    let R = c.requires.ready in
    let l = c.loop-j in
    let h : l.j < length a.rot_atom.now = omega (arith, ap length l.invariant.0) in
    let T = trying _ _ a.rot_atom.now a.marks.now a.i a.left R l.marks l.j h l.invariant.1 in
    let o = rw l.invariant.0 at (sym c.is_open.ensures ∙ c.if-is_open.true) in
    let g = rw l.invariant.0 at (sym c.filled_at.ensures ∙ c.if-not-filled_at.true) in
    let n = open_near _ a.rot_atom.now l.marks a.i l.j o in
    let f = free_neg _ _ a.rot_atom.now T.homeless.partial l.j h g in
    let K = tried-free _ _ a.rot_atom.now l.marks a.i l.j a.left T n f in
    rw (c.give.ensures, l.invariant.0) (searched-found _ _ a.rot_atom.now a.marks.now a.i a.left R l.marks _ _ l.j l.invariant.1 K)

pub entry-k-requires : goal.entry-k-requires
entry-k-requires t c =
    let l = c.loop-j in
    (omega (arith, ap length l.invariant.0), filled_pos l.rot_atom l.j (sym c.filled_at.ensures ∙ c.if-not-filled_at.false))

pub overflow_sub-left : goal.overflow_sub-left
overflow_sub-left t c =
    let a = c.args in
    let l = c.loop-j in
    let h : l.j < length a.rot_atom.now = omega (arith, ap length l.invariant.0) in
    let T = trying _ _ a.rot_atom.now a.marks.now a.i a.left c.requires.ready l.marks l.j h l.invariant.1 in
    omega (arith, T.deep)

pub search-requires : goal.search-requires
search-requires t c =
    let a = c.args in
    let l = c.loop-j in
    let h : l.j < length a.rot_atom.now = omega (arith, ap length l.invariant.0) in
    let T = trying _ _ a.rot_atom.now a.marks.now a.i a.left c.requires.ready l.marks l.j h l.invariant.1 in
    let o = rw l.invariant.0 at (sym c.is_open.ensures ∙ c.if-is_open.true) in
    let g = rw l.invariant.0 at (sym c.filled_at.ensures ∙ c.if-not-filled_at.false) in
    let k = c.entry-k.result in
    let e : k ≡ index_at a.rot_atom.now l.j = rw l.invariant.0 at c.entry-k.ensures in
    let q : slot_at a.rot_atom.now l.j ≡ pos k = filled_pos a.rot_atom.now l.j g ∙ ap pos (sym e) in
    let n = open_near _ a.rot_atom.now l.marks a.i l.j o in
    let d = c.give-then-is_open in
    let u : length d.new.rot_atom ≡ length a.rot_atom.now = ap length d.ensures ∙ length-set l.rot_atom l.j (pos a.i) ∙ ap length l.invariant.0 in
    let m = ap (marked l.marks) e ∙ open_fresh _ a.rot_atom.now l.marks a.i l.j o g in
    let D = deeper _ _ a.rot_atom.now l.marks a.i l.j a.left T n k q m in
    (omega (arith, c.decreases, T.deep), (rw (u, d.ensures, l.invariant.0) D, (rw u c.requires.triples.0, c.requires.triples.1)))

pub returns-then-search : goal.returns-then-search
returns-then-search t c =
    let a = c.args in
    let R = c.requires.ready in
    let l = c.loop-j in
    let h : l.j < length a.rot_atom.now = omega (arith, ap length l.invariant.0) in
    let T = trying _ _ a.rot_atom.now a.marks.now a.i a.left R l.marks l.j h l.invariant.1 in
    let o = rw l.invariant.0 at (sym c.is_open.ensures ∙ c.if-is_open.true) in
    let g = rw l.invariant.0 at (sym c.filled_at.ensures ∙ c.if-not-filled_at.false) in
    let k = c.entry-k.result in
    let e : k ≡ index_at a.rot_atom.now l.j = rw l.invariant.0 at c.entry-k.ensures in
    let q : slot_at a.rot_atom.now l.j ≡ pos k = filled_pos a.rot_atom.now l.j g ∙ ap pos (sym e) in
    let n = open_near _ a.rot_atom.now l.marks a.i l.j o in
    let d = c.give-then-is_open in
    let u : length d.new.rot_atom ≡ length a.rot_atom.now = ap length d.ensures ∙ length-set l.rot_atom l.j (pos a.i) ∙ ap length l.invariant.0 in
    let K = tried-found _ _ a.rot_atom.now l.marks a.i l.j a.left T n k q _ _ (rw (u, d.ensures, l.invariant.0, c.if-search.true) at c.search.ensures) in
    searched-found _ _ a.rot_atom.now a.marks.now a.i a.left R l.marks _ _ l.j l.invariant.1 K

pub loop-j-preserved : goal.loop-j-preserved
loop-j-preserved t c =
    let a = c.args in
    let R = c.requires.ready in
    let l = c.loop-j in
    let h : l.j < length a.rot_atom.now = omega (arith, ap length l.invariant.0) in
    let T = trying _ _ a.rot_atom.now a.marks.now a.i a.left R l.marks l.j h l.invariant.1 in
    let K : Tried (near a.cell a.pos.now a.rot_pos.now) (length a.rot_atom.now) a.rot_atom.now l.marks a.i l.j false c.if-is_open.rot_atom c.if-is_open.marks = elim c.if-is_open.branch [
      | then-is_open+else-not-filled_at+else-search w ↦
          let o = rw l.invariant.0 at (sym c.is_open.ensures ∙ w.if-is_open.true) in
          let g = rw l.invariant.0 at (sym w.filled_at.ensures ∙ w.if-not-filled_at.false) in
          let k = w.entry-k.result in
          let e : k ≡ index_at a.rot_atom.now l.j = rw l.invariant.0 at w.entry-k.ensures in
          let q : slot_at a.rot_atom.now l.j ≡ pos k = filled_pos a.rot_atom.now l.j g ∙ ap pos (sym e) in
          let n = open_near _ a.rot_atom.now l.marks a.i l.j o in
          let d = w.give-then-is_open in
          let u : length d.new.rot_atom ≡ length a.rot_atom.now = ap length d.ensures ∙ length-set l.rot_atom l.j (pos a.i) ∙ ap length l.invariant.0 in
          rw (w.rot_atom-is, w.marks-is, w.give-then-is_open-2.ensures) (tried-stuck _ _ a.rot_atom.now l.marks a.i l.j a.left T n k q _ _ (rw (u, d.ensures, l.invariant.0, w.if-search.false) at w.search.ensures))
      | else-is_open w ↦
          let o = rw l.invariant.0 at (sym c.is_open.ensures ∙ w.if-is_open.false) in
          rw (w.rot_atom-is, w.marks-is, l.invariant.0) (tried_shut _ _ a.rot_atom.now l.marks a.i l.j a.left T o)
    ] in
    ((K.stuck refl).same, looked-more _ _ a.rot_atom.now a.marks.now a.i a.left R l.marks _ _ l.j l.invariant.1 K)
