use Prim.Native.Nat.{◌+◌, ◌*◌}
use mathlib.Core.Path.{ap, ◌∙◌}
use lib.ListN.{get_or}
use lib.Ieee.{nan}
use Rattle.audits.specs.Kernel.{there}
use Rattle.audits.proofs.kernel.read.Goals as goal

pub position-requires : goal.position-requires
position-requires c = (c.requires.1, c.requires.2, c.requires.3)

pub own-requires : goal.own-requires
own-requires c = rw c.position.ensures c.requires.4

pub returns : goal.returns
unfolding there
returns c =
    let a = c.args in
    c.own.ensures ∙ ap (λ p. get_or a.fc.now (get_or a.bs.now a.i 0 * a.width + p) nan) c.position.ensures
