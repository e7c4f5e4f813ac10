use native.Mathlib.Omega.{arith}
use lib.IntN.{pos}
use mir.Syntax.{w64}
use mir.ValLaws.{to_z-of_z}
use Rattle.tables.proofs.Loops.{told_range}
use Rattle.tables.proofs.index.all_below.Goals as goal

pub fours_below-requires : goal.fours_below-requires
fours_below-requires c = let n = c.args.n in to_z-of_z w64 (pos n) (record { sfits = omega (arith, c.if-n-lt4294967296.true) })

pub returns-then-n-lt4294967296 : goal.returns-then-n-lt4294967296
returns-then-n-lt4294967296 c = told_range c.args.n c.args.t.now _ c.fours_below.ensures

pub returns : goal.returns
returns c =
    let a = c.args in
    told_range a.n a.t.now _ (λ q k h. c.rest_below.ensures.0 q k (omega arith) h, λ f. c.rest_below.ensures.1 (λ k g h. f k h))
