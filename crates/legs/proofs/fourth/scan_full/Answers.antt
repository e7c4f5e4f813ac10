use Rattle.audits.specs.Guard.{part-counted, part-noughts}
use Rattle.legs.proofs.fourth.scan_full.Goals as goal

pub scan-requires : goal.scan-requires
scan-requires c =
    let n = c.args.n in
    rw (c.counted-numbers.ensures, part-counted 1024 n c.requires.1, part-noughts 1024 n c.requires.1) c.requires.0

pub returns : goal.returns
returns c =
    let n = c.args.n in
    rw (c.counted-numbers.ensures, part-counted 1024 n c.requires.1, part-noughts 1024 n c.requires.1) at c.scan.ensures
