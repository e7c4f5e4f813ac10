use mathlib.Core.Path.{◌≡◌}
use mathlib.Core.List.{[]}
use lib.ListN.{get_or, replicate}
use lib.Ieee.{binary64, of_bits}
use Rattle.lists.specs.Tab.{times}
use Rattle.fc4.specs.Mean.{added_nine}
use Rattle.fc4.proofs.mean.nine_sums.Given as goal

abbrev pub invariant-loop-s : goal.invariant-loop-s
invariant-loop-s l =
    l.sums ≡ times l.s (λ s. added_nine s l.h (get_or l.g s [])) (replicate 9 (of_bits binary64 0))
