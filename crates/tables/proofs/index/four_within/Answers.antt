use mathlib.Core.Bool.{true}
use mathlib.Core.Path.{◌≡◌, ◌∙◌}
use native.Mathlib.Omega.{arith}
use lib.ListN.{get_or}
use Rattle.tables.specs.Conditions.{below}
use lib.IntN.{pos}
use mir.Syntax.{w64}
use mir.ValLaws.{to_z-of_z}
use Rattle.tables.proofs.Loops.{four_tell}
use Rattle.tables.proofs.index.four_within.Goals as goal

pub within_at-p-requires : goal.within_at-p-requires
within_at-p-requires c = (to_z-of_z w64 c.args.m c.ranges.m ∙ c.requires.0, omega (arith, c.requires.1))

pub within_at-q-requires : goal.within_at-q-requires
within_at-q-requires c = (to_z-of_z w64 c.args.m c.ranges.m ∙ c.requires.0, omega (arith, c.requires.1))

pub within_at-r-requires : goal.within_at-r-requires
within_at-r-requires c = (to_z-of_z w64 c.args.m c.ranges.m ∙ c.requires.0, omega (arith, c.requires.1))

pub within_at-s-requires : goal.within_at-s-requires
within_at-s-requires c = (to_z-of_z w64 c.args.m c.ranges.m ∙ c.requires.0, omega (arith, c.requires.1))

pub returns : goal.returns
returns c =
    let a = c.args in
    four_tell (λ k. below a.n (get_or a.t.now k (pos 0)) ≡ true) a.i _ _ _ _ c.within_at-p.ensures c.within_at-q.ensures c.within_at-r.ensures c.within_at-s.ensures
