use mathlib.Core.Path.{◌≡◌}
use lib.ListN.{length}
use Rattle.lists.specs.Tab.{tab}
use Rattle.roll.specs.Format.{in_fours}
use Rattle.roll.specs.Reading.{record_start}
use Rattle.roll.specs.Laid.{laid}
use Rattle.roll.proofs.append.lay_starts.Given as goal

abbrev pub invariant-loop-i : goal.invariant-loop-i
invariant-loop-i l = (length l.s ≡ length l.initial.s) × (l.at ≡ record_start l.initial.s l.i) × (l.s ≡ laid l.initial.s l.t (in_fours (tab l.i (record_start l.initial.s))))
