use native.Mathlib.Omega.{arith}
use Rattle.lists.specs.Tab.{is_tab}
use Rattle.transposes_fc4.specs.Rows.{taken_to, first_in_lem}
use Rattle.transposes_fc4.proofs.legs.pairs_by.Goals as goal

pub entry-requires : goal.entry-requires
entry-requires c =
    let l = c.loop-n in
    (c.requires.0, c.requires.1, rw c.first_pairs-first.ensures (first_in_lem l.n (omega arith)))

pub returns : goal.returns
unfolding taken_to
returns c =
    let l = c.loop-n in
    is_tab 0 54 _ l.m l.invariant.0 (λ j h. l.invariant.1 j (omega arith))
