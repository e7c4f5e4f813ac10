use Rattle.distances.specs.Near.{squares}
use Rattle.distances.proofs.Squares.{sum-plus}
use Rattle.distances.proofs.shorter.Goals as goal

pub root_below-requires : goal.root_below-requires
root_below-requires c = (sum-plus _ _ _, c.requires)

pub returns : goal.returns
unfolding squares
returns c = rw (c.root_below.ensures, c.dot-c.ensures, c.dot-b.ensures, c.dot-a.ensures)
