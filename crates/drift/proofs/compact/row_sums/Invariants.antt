use Prim.Native.Nat.{◌-◌, ◌≤◌}
use mathlib.Core.Path.{◌≡◌}
use mathlib.Core.List.{[], ◌∷◌}
use Rattle.lists.specs.Tab.{times}
use Rattle.blocks.specs.Block.{block}
use Rattle.lines.specs.Sums3x3.{more}
use Rattle.places.specs.ReadOuts.{stored_in}
use Rattle.drift.proofs.compact.row_sums.Given as goal

abbrev pub invariant-loop-j : goal.invariant-loop-j
invariant-loop-j l = (l.j ≤ l.tables.n_satom) × (l.sums ≡ times l.j (λ k t. more t (block 9 (stored_in l.tables.n_satom l.tables.s2pp.now l.tables.nsym_list.now l.tables.perms.now l.i (k ∷ [])) l.fc)) l.initial.sums)

abbrev pub decreases-loop-j : goal.decreases-loop-j
decreases-loop-j l = l.tables.n_satom - l.j
