use native.Mathlib.Omega.{arith}
use borrow.Author.Tests.{not-true, not-false}
use Rattle.standing.proofs.EndLaws.{says_unknown, says_retired, says_current}
use Rattle.standing.proofs.follow.Goals as goal

pub look_up-f-requires : goal.look_up-f-requires
look_up-f-requires c = (c.requires.0, omega (arith, c.requires.1))

pub look_up-e-requires : goal.look_up-e-requires
look_up-e-requires c = (c.requires.0, omega (arith, c.requires.1))

pub end_of-last-requires : goal.end_of-last-requires
end_of-last-requires c = (c.requires.0, c.requires.1, c.requires.2)

pub returns-then-not-f : goal.returns-then-not-f
returns-then-not-f c =
    says_unknown c.args.b.now c.args.n c.args.x c.requires.0 c.requires.1 c.requires.3 c.look_up-f.ensures.notes (not-true _ c.if-not-f.true)

pub returns-then-e : goal.returns-then-e
returns-then-e c =
    says_retired c.args.b.now c.args.n c.args.x c.requires.0 c.requires.1 c.requires.3 c.look_up-f.ensures.notes (not-false _ c.if-not-f.false) c.end_of-last.ensures.0 c.look_up-e.ensures.notes c.if-e.true

pub returns-else-e : goal.returns-else-e
returns-else-e c =
    says_current c.args.b.now c.args.n c.args.x c.requires.0 c.requires.1 c.requires.3 c.look_up-f.ensures.notes (not-false _ c.if-not-f.false) c.end_of-last.ensures.0 c.look_up-e.ensures.notes c.if-e.false
