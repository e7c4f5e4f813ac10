-- `distribute_fc3` (document 01, "Third and fourth order"). Definitions only.
use Rattle.std.specs.Prelude.{List, ℕ, ℤ, Float}
use Rattle.tables.specs.Answers.{Answer}
use Rattle.tables.specs.Limits.{limit3}
use Rattle.distribute.specs.Slab.{distribute_slab}

-- the set, target, source, the mapping, num_atom, the rotation, num_first: the answer and the set
abbrev pub distribute_fc3 : List Float → ℕ → ℕ → List ℤ → ℕ → List Float → ℕ → Answer × List Float
distribute_fc3 = distribute_slab limit3 2
