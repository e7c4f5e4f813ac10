use Rattle.lists.specs.Digits.{horner}
use borrow.Author.Rules.{rules}
use Rattle.places.proofs.dir2.Goals as goal

pub returns : goal.returns
unfolding horner
returns c = search rules
