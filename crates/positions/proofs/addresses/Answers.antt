use mathlib.Core.Path.{refl}
use Rattle.lists.specs.Tab.{tab, tab_from}
use Rattle.lists.specs.Elements.{pick}
use Rattle.lists.specs.Digits.{horner, rest, digits}
use Rattle.places.specs.Permutations.{perms4}
use Rattle.blocks.specs.Permuted.{permuted}
use Rattle.positions.specs.Positions.{permutation_at, entry_of, address_table}
use Rattle.positions.proofs.addresses.Goals as goal

pub returns : goal.returns
unfolding address_table entry_of permutation_at permuted horner pick rest digits perms4 tab tab_from
returns c = refl
