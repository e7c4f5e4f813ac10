use Rattle.matching.specs.Slots.{all-filled, not-all-filled}
use Rattle.lists.specs.Cases.{lt_or_le}
use borrow.Author.Tests.{eq-eqb, ne_eqb}
use borrow.Author.Count.{below_none}
use lib.ListN.{length}
use mathlib.Core.Logic.{⊎_elim}
use native.Mathlib.Omega.{arith}
use mathlib.Core.Path.{◌≡◌, sym}
use Rattle.matching.proofs.slots.all_filled.Goals as goal

pub skip_filled-requires : goal.skip_filled-requires
skip_filled-requires c = record { there = omega arith; filled = below_none _ }

pub returns : goal.returns
returns c =
    let s = c.args.rot_atom.now in
    let n = c.skip_filled.result in
    let b = c.skip_filled.ensures.0 in
    ⊎_elim
    (λ h. rw (ne_eqb n (length s) (omega arith)) (sym (not-all-filled s n h (c.skip_filled.ensures.1 h))))
    (λ h. let e : n ≡ length s = omega (arith, b.there) in rw (eq-eqb n (length s) e) (sym (all-filled s n b e)))
    (lt_or_le n (length s))
