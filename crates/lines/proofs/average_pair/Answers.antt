use Rattle.lines.specs.Lines.{pair_at}
use Rattle.lines.proofs.average_pair.Goals as goal

pub returns : goal.returns
unfolding pair_at
returns c =
    rw (c.transposed9.ensures, c.write9.ensures, c.averaged-m.ensures, c.read9-other.ensures, c.read9-one.ensures) at c.write9-2.ensures
