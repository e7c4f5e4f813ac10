use Rattle.std.proofs.Common.{arith, ◌∙◌}
use lib.Seq.{ext_get_or}
use lib.Ieee.{nan}
use borrow.Author.Rules.{rules}
use Rattle.lists.proofs.copy_all.Goals as goal

pub returns : goal.returns
returns c =
    let l = c.loop-i in
    ext_get_or nan l.dst _ (l.auto.dst ∙ search rules) (λ k h. l.invariant k (omega (arith, l.auto.dst)))
