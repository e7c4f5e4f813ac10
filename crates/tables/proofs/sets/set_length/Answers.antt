use mathlib.Core.Path.{sym, ap, ◌∙◌}
use Prim.Native.Nat.{suc, ◌+◌}
use native.Mathlib.Numerals.{add-one}
use native.Mathlib.Omega.{arith}
use Rattle.lists.specs.Digits.{times_power}
use Rattle.tables.specs.Lengths.{block_rooms, set_rooms}
use Rattle.tables.proofs.Rooms.{atoms-small, directions_fit}
use Rattle.tables.proofs.sets.set_length.Goals as goal

pub times_power-requires : goal.times_power-requires
times_power-requires c =
    let a = c.args in
    let p = c.requires in
    directions_fit c.set_blocks-blocks.result (a.k + 1) (rw (c.set_blocks-blocks.ensures, block_rooms a.first a.n a.k) (atoms-small a.n a.first a.k p.1 p.0 p.2)) (omega arith)

pub returns : goal.returns
returns c =
    let a = c.args in
    let b = c.set_blocks-blocks in
    c.times_power.ensures
    ∙ ap (λ j. times_power 3 j b.result) (add-one a.k)
    ∙ ap (times_power 3 (suc a.k)) (b.ensures ∙ block_rooms a.first a.n a.k)
    ∙ sym (set_rooms a.first a.n a.k)
