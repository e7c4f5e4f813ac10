use mathlib.Core.Path.{◌≡◌, sym, ap, ◌∙◌}
use mir.Val.{to_z, of_z}
use lib.Dec.{lit<}
use lib.IntN.{pos}
use mir.ValLaws.{to_z-of_z}
use mir.Syntax.{w64}
use Rattle.tables.specs.Compact.{given}
use Rattle.transposes_fc3.specs.Fc3Loops.{by_meaning, no_meaning}
use Rattle.transposes_fc3.proofs.transpose.Goals as goal

pub returns-then-t_type-eq0 : goal.returns-then-t_type-eq0
returns-then-t_type-eq0 c =
    let a = c.args in
    let T = given a.tables.now in
    let m : a.t_type ≡ pos 0 = sym (to_z-of_z w64 a.t_type c.ranges.t_type) ∙ ap (to_z w64) c.if-t_type-eq0.true in
    by_meaning a.half_shifts_stay T a.fc3.now c.requires 0 a.t_type (lit< tt) m c.slabs.ensures

pub returns-then-t_type-eq1 : goal.returns-then-t_type-eq1
returns-then-t_type-eq1 c =
    let a = c.args in
    let T = given a.tables.now in
    let m : a.t_type ≡ pos 1 = sym (to_z-of_z w64 a.t_type c.ranges.t_type) ∙ ap (to_z w64) c.if-t_type-eq1.true in
    by_meaning a.half_shifts_stay T a.fc3.now c.requires 1 a.t_type (lit< tt) m c.slabs-then-t_type-eq1.ensures

pub returns-then-t_type-eq2 : goal.returns-then-t_type-eq2
returns-then-t_type-eq2 c =
    let a = c.args in
    let T = given a.tables.now in
    let m : a.t_type ≡ pos 2 = sym (to_z-of_z w64 a.t_type c.ranges.t_type) ∙ ap (to_z w64) c.if-t_type-eq2.true in
    by_meaning a.half_shifts_stay T a.fc3.now c.requires 2 a.t_type (lit< tt) m c.slabs-then-t_type-eq2.ensures

pub returns-else-t_type-eq2 : goal.returns-else-t_type-eq2
returns-else-t_type-eq2 c =
    let a = c.args in
    no_meaning a.half_shifts_stay _ a.t_type a.fc3.now (λ e. c.if-t_type-eq0.false (ap (of_z w64) e)) (λ e. c.if-t_type-eq1.false (ap (of_z w64) e)) (λ e. c.if-t_type-eq2.false (ap (of_z w64) e))
