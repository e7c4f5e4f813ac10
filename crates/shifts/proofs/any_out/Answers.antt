use mathlib.Core.Bool.{◌||◌}
use borrow.Author.Tests.{not-true, not-false}
use Rattle.tables.specs.Conditions.{out_of_range}
use Rattle.tables.proofs.Loops.{told-no, told_yes}
use Rattle.lists.specs.Tests.{not-not, or-here, or-next}
use Rattle.shifts.proofs.any_out.Goals as goal

pub returns-then-not-all_below : goal.returns-then-not-all_below
returns-then-not-all_below c =
    let a = c.args in
    let o1 = out_of_range a.tables.now.n_satom a.tables.now.perms.now in
    let o2 = out_of_range a.tables.now.n_satom a.tables.now.p2s.now in
    let o3 = out_of_range a.tables.now.n_patom a.tables.now.s2pp.now in
    let o4 = out_of_range a.tables.now.num_trans a.tables.now.nsym_list.now in
    or-here o1 (o2 || (o3 || o4)) (not-false o1 (told-no c.all_below.ensures c.if-not-all_below.true-raw))

pub returns-then-not-all_below-2 : goal.returns-then-not-all_below-2
returns-then-not-all_below-2 c =
    let a = c.args in
    let o1 = out_of_range a.tables.now.n_satom a.tables.now.perms.now in
    let o2 = out_of_range a.tables.now.n_satom a.tables.now.p2s.now in
    let o3 = out_of_range a.tables.now.n_patom a.tables.now.s2pp.now in
    let o4 = out_of_range a.tables.now.num_trans a.tables.now.nsym_list.now in
    or-next o1 (o2 || (o3 || o4)) (not-true o1 (told_yes c.all_below.ensures c.if-not-all_below.false-raw)) (or-here o2 (o3 || o4) (not-false o2 (told-no c.all_below-2.ensures c.if-not-all_below-2.true-raw)))

pub returns-then-not-all_below-3 : goal.returns-then-not-all_below-3
returns-then-not-all_below-3 c =
    let a = c.args in
    let o1 = out_of_range a.tables.now.n_satom a.tables.now.perms.now in
    let o2 = out_of_range a.tables.now.n_satom a.tables.now.p2s.now in
    let o3 = out_of_range a.tables.now.n_patom a.tables.now.s2pp.now in
    let o4 = out_of_range a.tables.now.num_trans a.tables.now.nsym_list.now in
    or-next o1 (o2 || (o3 || o4)) (not-true o1 (told_yes c.all_below.ensures c.if-not-all_below.false-raw))
    (or-next o2 (o3 || o4) (not-true o2 (told_yes c.all_below-2.ensures c.if-not-all_below-2.false-raw)) (or-here o3 o4 (not-false o3 (told-no c.all_below-3.ensures c.if-not-all_below-3.true-raw))))

pub returns : goal.returns
returns c =
    let a = c.args in
    let o1 = out_of_range a.tables.now.n_satom a.tables.now.perms.now in
    let o2 = out_of_range a.tables.now.n_satom a.tables.now.p2s.now in
    let o3 = out_of_range a.tables.now.n_patom a.tables.now.s2pp.now in
    let o4 = out_of_range a.tables.now.num_trans a.tables.now.nsym_list.now in
    or-next o1 (o2 || (o3 || o4)) (not-true o1 (told_yes c.all_below.ensures c.if-not-all_below.false-raw))
    (or-next o2 (o3 || o4) (not-true o2 (told_yes c.all_below-2.ensures c.if-not-all_below-2.false-raw))
    (or-next o3 o4 (not-true o3 (told_yes c.all_below-3.ensures c.if-not-all_below-3.false-raw)) (not-not o4 c.all_below-4.ensures)))
