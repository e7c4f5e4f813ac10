use mathlib.Core.Path.{refl}
use lib.ListN.{length}
use Rattle.places.specs.Places.{perms4, full_shifts}
use Rattle.fc4.specs.Mean24.{mean24}
use Rattle.acoustic.specs.Calls.{no_level, some_levels}
use Rattle.acoustic.specs.Fourth.{full_call}
use Rattle.acoustic.proofs.fourth_full.full_symmetrize.Goals as goal

pub returns-then-level-eq0 : goal.returns-then-level-eq0
returns-then-level-eq0 c = let a = c.args in no_level mean24 (full_shifts a.n) 3 perms4 a.fc4.now a.level c.if-level-eq0.true (full_call a.fc4.now a.done.now a.n (length a.fc4.now) refl c.requires.passes c.set_permutation_symmetry_fc4.ensures)

pub full_levels-requires : goal.full_levels-requires
full_levels-requires c = c.requires

pub returns : goal.returns
returns c = let a = c.args in some_levels mean24 (full_shifts a.n) 3 perms4 a.fc4.now a.level c.if-level-eq0.false c.full_levels.ensures
