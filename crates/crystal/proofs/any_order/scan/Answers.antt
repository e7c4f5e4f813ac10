use Prim.Native.Nat.{suc}
use native.Mathlib.Omega.{arith}
use mathlib.Core.Path.{◌≡◌, ap, ◌∙◌}
use Rattle.lists.specs.Tab.{times, times_none, times_more}
use Rattle.lists.specs.Digits.{times_power}
use Rattle.tables.specs.Compact.{ShiftTables, shifts_of, given}
use Rattle.rotations.specs.Rotation.{coefficients}
use Rattle.crystal.specs.Laws.{operation_seen, sends, carts_inside}
use Rattle.crystal.proofs.SeenLaws.{operations_seen-w}
use Rattle.crystal.proofs.any_order.scan.Goals as goal

pub loop-r-init : goal.loop-r-init
loop-r-init g c = (omega arith, times_none _ _)

pub read9-requires : goal.read9-requires
read9-requires g c = carts_inside c.requires.1 c.loop-r.r c.loop-r-test.true

pub look_operation-seen-requires : goal.look_operation-seen-requires
look_operation-seen-requires g c =
    let h = c.loop-r-test.true in
    let k = c.requires.1.few in
    let w = g.met.O.Order.small.4 in
    (omega (arith, w), (c.requires.0, sends c.requires.1 c.loop-r.r h, omega (arith, h, k)))

pub loop-r-preserved : goal.loop-r-preserved
loop-r-preserved g c =
    let a = c.args in
    let l = c.loop-r in
    (omega arith, times_more l.r _ _ l.invariant.1 (c.look_operation-seen.ensures a.r_carts.now (c.coefficients.ensures ∙ ap (λ x. coefficients x (suc g.O.Order.RANK) g.row.N) c.read9.ensures)))

pub returns : goal.returns
returns g c =
    let a = c.args in
    let T : ShiftTables = given a.tables.now in
    let l = c.loop-r in
    let i : l.r ≡ a.num_rot = omega arith in
    operations_seen-w (shifts_of T) g.O.Order.RANK a.r_carts.now a.operations.now a.fc.now g.row.N g.met.O.Order.width a.num_rot
    (l.invariant.1 ∙ ap (λ k. times k (operation_seen (shifts_of T) g.O.Order.RANK a.r_carts.now a.operations.now a.fc.now g.row.N (times_power a.tables.now.n_satom g.O.Order.RANK a.tables.now.n_patom)) c.start-seen.result) i ∙ ap (times a.num_rot (operation_seen (shifts_of T) g.O.Order.RANK a.r_carts.now a.operations.now a.fc.now g.row.N (times_power a.tables.now.n_satom g.O.Order.RANK a.tables.now.n_patom))) c.start-seen.ensures)
