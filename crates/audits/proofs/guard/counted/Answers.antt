use mathlib.Core.Path.{◌≡◌, refl}
use native.Mathlib.Omega.{arith}
use lib.IntN.{pos}
use lib.ListN.{length-set}
use mir.Syntax.{w64}
use mir.Val.{to_z}
use mir.ValLaws.{to_z_pos}
use borrow.Author.Count.{below_none}
use Rattle.lists.specs.Tab.{is_tab, fill_more}
use Rattle.audits.proofs.guard.counted.Goals as goal

pub loop-i-init : goal.loop-i-init
loop-i-init c = (refl, below_none _)

pub loop-i-preserved : goal.loop-i-preserved
loop-i-preserved c =
    let l = c.loop-i in
    let e : to_z w64 l.i ≡ pos l.i = to_z_pos w64 l.i (omega arith) in
    (simp length-set l.invariant.0, fill_more (pos 0) (λ k. pos k) l.t l.i _ (omega arith) e l.invariant.1)

pub returns : goal.returns
returns c =
    let l = c.loop-i in
    is_tab (pos 0) 1024 (λ k. pos k) l.t l.invariant.0 (λ j h. l.invariant.1 j (omega arith))
