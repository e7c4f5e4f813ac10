use Rattle.tables.specs.Conditions.{index_at}
use Rattle.tables.proofs.Integers.{read_index}
use Rattle.tables.proofs.index.entry.Goals as goal

pub overflow_cast-result : goal.overflow_cast-result
unfolding index_at
overflow_cast-result c = (read_index _ (record { sfits = c.result-1.given }) c.requires.1).0

pub returns : goal.returns
unfolding index_at
returns c = (read_index _ (record { sfits = c.result-1.given }) c.requires.1).1
