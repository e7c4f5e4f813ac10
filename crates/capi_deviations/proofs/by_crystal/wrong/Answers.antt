use mathlib.Core.Path.{refl}
use borrow.Author.Tests.{lt-ltb, le-ltb}
use Rattle.capi_deviations.proofs.by_crystal.wrong.Goals as goal

pub returns-then-num_rot-gt1024 : goal.returns-then-num_rot-gt1024
returns-then-num_rot-gt1024 c = rw (lt-ltb 1024 c.args.num_rot c.if-num_rot-gt1024.true) refl

pub returns : goal.returns
returns c = rw (le-ltb 1024 c.args.num_rot c.if-num_rot-gt1024.false) refl
