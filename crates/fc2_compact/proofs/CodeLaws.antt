-- The loops of the average pass make the set that Passes.antt says. Assumes nothing.
use Rattle.std.specs.Prelude.{◌≡◌, List, length, Float}
use Rattle.lists.specs.Tab.{times}
use Rattle.tables.specs.Compact.{ShiftTables, shifts_of}
use Rattle.fc2_compact.specs.Passes.{averaged_compact}
use Rattle.fc2_compact.specs.Visits.{average_visit, average_made}
use Rattle.fc2_compact.specs.Code.{Ready}

module _ {T : ShiftTables} (l : List Float) (r : Ready T (length l)) where
  pub average_all : times T.n_patom (λ p. times T.n_satom (average_visit (shifts_of T) p)) l ≡ averaged_compact (shifts_of T) l
  average_all = average_made (shifts_of T) r.rules l r.has
