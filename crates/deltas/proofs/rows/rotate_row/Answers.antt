use mathlib.Core.Path.{◌≡◌, refl, ◌∙◌}
use Prim.Native.Nat.{◌*◌}
use native.Mathlib.Omega.{arith}
use Rattle.lists.specs.Tab.{times_none, times_more}
use Rattle.deltas.specs.Guard.{few}
use Rattle.deltas.proofs.rows.rotate_row.Goals as goal

pub overflow_mul-n-end : goal.overflow_mul-n-end
overflow_mul-n-end g c = omega (arith, few c.requires.ready)

pub loop-n-init : goal.loop-n-init
loop-n-init g c = (omega arith, refl, times_none _ _)

pub add_pair-requires : goal.add_pair-requires
add_pair-requires g c =
    let l = c.loop-n in record { order = c.requires.order; ready = c.requires.ready; in_range = (c.requires.in_range.0, omega arith, l.invariant.1 ∙ c.requires.in_range.1) }

pub loop-n-preserved : goal.loop-n-preserved
loop-n-preserved g c =
    let w = c.add_pair in
    let l = c.loop-n in
    (omega arith, w.auto.res ∙ l.invariant.1, times_more l.n _ _ l.invariant.2 w.ensures)

pub returns : goal.returns
returns g c =
    let l = c.loop-n in
    let a = c.args in
    let e : l.n ≡ a.num_disp * a.num_site_sym = omega arith in
    l.invariant.2 ∙ rw e
