use Rattle.places.specs.Places.{perms3, full_shifts}
use Rattle.orbits.specs.Symmetric.{mean6}
use Rattle.acoustic.specs.Calls.{no_level, some_levels, tiles_ready}
use Rattle.acoustic.proofs.third_full.full_symmetrize.Goals as goal

pub symmetrize-requires : goal.symmetrize-requires
symmetrize-requires c = tiles_ready c.args.n _ _ c.requires.0 c.requires.1

pub returns-then-level-eq0 : goal.returns-then-level-eq0
returns-then-level-eq0 c = let a = c.args in no_level mean6 (full_shifts a.n) 2 perms3 a.fc3.now a.level c.if-level-eq0.true c.symmetrize.ensures

pub full_levels-requires : goal.full_levels-requires
full_levels-requires c = (c.requires.0, c.requires.1)

pub returns : goal.returns
returns c = let a = c.args in some_levels mean6 (full_shifts a.n) 2 perms3 a.fc3.now a.level c.if-level-eq0.false c.full_levels.ensures
