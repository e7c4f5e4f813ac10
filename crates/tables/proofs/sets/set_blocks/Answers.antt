use mathlib.Core.Path.{sym, ◌∙◌}
use Rattle.tables.specs.Lengths.{block_rooms}
use Rattle.tables.proofs.Rooms.{atoms-fit}
use Rattle.tables.proofs.sets.set_blocks.Goals as goal

pub times_power-requires : goal.times_power-requires
times_power-requires c = let a = c.args in let p = c.requires in atoms-fit a.n a.first a.k p.1 p.0 p.2

pub returns : goal.returns
returns c = let a = c.args in c.times_power.ensures ∙ sym (block_rooms a.first a.n a.k)
