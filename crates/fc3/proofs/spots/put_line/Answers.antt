use Prim.Native.Nat.{◌+◌, ◌*◌}
use native.Mathlib.Omega.{arith}
use mathlib.Core.Path.{◌≡◌, ap, ◌∙◌}
use mathlib.Core.List.{[], ◌∷◌}
use lib.ListN.{get_or}
use lib.Ieee.{nan}
use Rattle.lists.specs.Tab.{times_none, times_more}
use Rattle.places.specs.Permutations.{perms3}
use Rattle.orbits.specs.Groups.{spots}
use Rattle.orbits.specs.Spread.{set_all}
use Rattle.fc3.specs.Spread.{line_at, dirs_are}
use Rattle.fc3.specs.Coinciding.{flat}
use borrow.Author.Rules.{rules}
use Rattle.fc3.proofs.spots.put_line.Goals as goal

pub loop-n-init : goal.loop-n-init
loop-n-init c = (c.requires.0, times_none _ _)

pub offset_bounds-v-k : goal.offset_bounds-v-k
offset_bounds-v-k c =
    let t = c.loop-n in
    let (h0, h1, h2, h3) = c.requires in
    let (e, h) = dirs_are c.args.l c.args.m t.n h2 h3 (omega arith) c.dir3-k.ensures in
    search rules

pub bounds-v-k : goal.bounds-v-k
bounds-v-k c =
    let t = c.loop-n in
    let (h0, h1, h2, h3) = c.requires in
    let (e, h) = dirs_are c.args.l c.args.m t.n h2 h3 (omega arith) c.dir3-k.ensures in
    omega (arith, h)

pub loop-n-preserved : goal.loop-n-preserved
loop-n-preserved c =
    let l = c.loop-n in
    let (h0, h1, h2, h3) = c.requires in
    let (e, h) = dirs_are c.args.l c.args.m l.n h2 h3 (omega arith) c.dir3-k.ensures in
    let bs = c.args.s0 ∷ c.args.s1 ∷ c.args.s2 ∷ c.args.s3 ∷ c.args.s4 ∷ c.args.s5 ∷ [] in (
      c.put_spots.ensures.0,
      times_more l.n _ _ l.invariant.1
          (c.put_spots.ensures.1 ∙ ap (λ k. set_all (spots 2 perms3 bs ((c.args.l * 3 + c.args.m) * 3 + l.n)) (get_or c.args.v k nan) (flat l.group)) e),
    )

pub returns : goal.returns
unfolding line_at
returns c =
    let l = c.loop-n in
    let e : l.n ≡ 3 = omega arith in
    (l.invariant.0, l.invariant.1 ∙ rw e)
