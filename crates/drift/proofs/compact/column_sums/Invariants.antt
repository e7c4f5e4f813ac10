use Prim.Native.Nat.{◌-◌, ◌≤◌}
use mathlib.Core.Path.{◌≡◌}
use mathlib.Core.List.{[], ◌∷◌}
use Rattle.lists.specs.Tab.{times}
use Rattle.blocks.specs.Block.{block}
use Rattle.lines.specs.Sums3x3.{more}
use Rattle.places.specs.ReadOuts.{stored_in}
use Rattle.drift.proofs.compact.column_sums.Given as goal

abbrev pub invariant-loop-i : goal.invariant-loop-i
invariant-loop-i l = (l.i ≤ l.tables.n_satom) × (l.sums ≡ times l.i (λ k t. more t (block 9 (stored_in l.tables.n_satom l.tables.s2pp.now l.tables.nsym_list.now l.tables.perms.now k (l.j ∷ [])) l.fc)) l.initial.sums)

abbrev pub decreases-loop-i : goal.decreases-loop-i
decreases-loop-i l = l.tables.n_satom - l.i
