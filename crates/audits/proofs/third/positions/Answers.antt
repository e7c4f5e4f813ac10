use mathlib.Core.Path.{refl}
use Rattle.lists.specs.Tab.{tab, tab_from}
use Rattle.lists.specs.Elements.{pick}
use Rattle.lists.specs.Digits.{times_power, horner, rest, digits}
use Rattle.blocks.specs.Permuted.{permuted}
use Rattle.places.specs.Places.{in_block}
use Rattle.places.specs.Permutations.{perms3}
use Rattle.audits.specs.Blocks.{position_table}
use Rattle.audits.proofs.third.positions.Goals as goal

pub returns : goal.returns
unfolding position_table permuted perms3 in_block times_power tab tab_from horner pick rest digits
returns c = refl
