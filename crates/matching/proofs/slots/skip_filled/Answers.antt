use Rattle.matching.specs.Matching.{is_filled}
use Rattle.tables.proofs.Integers.{handed}
use borrow.Author.Count.{below_more}
use mathlib.Core.Path.{◌≡◌, sym, ◌∙◌}
use lib.ListN.{length}
use native.Mathlib.Omega.{arith}
use Rattle.matching.proofs.slots.skip_filled.Goals as goal

pub loop-k-preserved : goal.loop-k-preserved
loop-k-preserved c =
    let l = c.loop-k in
    let s = c.args.rot_atom.now in
    let e = handed (λ z. c.is_filled.result ≡ is_filled z) s l.k (omega arith) c.is_filled.ensures in
    record { there = omega arith; filled = below_more _ l.k l.invariant.filled (sym e ∙ c.if-not-is_filled.false) }

pub returns-then-not-is_filled : goal.returns-then-not-is_filled
returns-then-not-is_filled c =
    let l = c.loop-k in
    let s = c.args.rot_atom.now in
    let e = handed (λ z. c.is_filled.result ≡ is_filled z) s l.k (omega arith) c.is_filled.ensures in
    (l.invariant, λ h. sym e ∙ c.if-not-is_filled.true)

pub returns : goal.returns
returns c =
    let l = c.loop-k in
    let e : l.k ≡ length c.args.rot_atom.now = omega arith in
    (rw e at l.invariant, λ h. absurd (omega arith))
