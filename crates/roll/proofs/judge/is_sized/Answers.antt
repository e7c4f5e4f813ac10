use Rattle.std.proofs.Common.{arith}
use borrow.Author.Tests.{lt-leb}
use Rattle.roll.specs.HoldingLaws.{sized_says, not-sized, sized-by, count_is, trailer_is}
use Rattle.roll.proofs.judge.is_sized.Goals as goal

pub returns-then-n-le1000 : goal.returns-then-n-le1000
returns-then-n-le1000 c =
    let b = c.args.b.now in
    sized-by b _ _ _ (omega arith) (omega arith) (omega arith) (count_is b c.count_in-n.ensures.0) (trailer_is b c.trailer_in-t.ensures.0) c.listed_at.ensures

pub returns-else-n-le1000 : goal.returns-else-n-le1000
returns-else-n-le1000 c =
    let b = c.args.b.now in
    let e = count_is b c.count_in-n.ensures.0 in
    rw (lt-leb c.count_in-n.result 1000 (omega arith)) (not-sized b (λ p. omega (arith, (sized_says b p).2, e)))
