use Rattle.roll.specs.Reading.{size_at}
use borrow.Author.Rules.{rules}
use Rattle.roll.proofs.layout.record_end.Goals as goal

pub returns : goal.returns
unfolding size_at
returns c = search rules
