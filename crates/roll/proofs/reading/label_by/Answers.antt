use mathlib.Core.Path.{◌≡◌, ap, ◌∙◌}
use Prim.Native.Nat.{◌+◌, ◌-◌}
use native.Mathlib.Omega.{arith}
use lib.ListN.{take, drop, get_or}
use Rattle.std.proofs.Common.{sym}
use Rattle.roll.specs.StepLaws.{no_label, record_label, its_end, record_room}
use Rattle.roll.proofs.reading.label_by.Goals as goal

pub returns-then-not-holds_record : goal.returns-then-not-holds_record
returns-then-not-holds_record c =
    let a = c.args in
    no_label a.ok a.b.now a.at (sym c.if-not-holds_record.ensures)

pub overflow_add-from : goal.overflow_add-from
overflow_add-from c =
    let a = c.args in
    let H = sym c.if-not-holds_record.ensures in
    let room = record_room a.ok a.b.now a.at H c.requires in
    omega (arith, room.0, room.1)

pub record_end-end-requires : goal.record_end-end-requires
record_end-end-requires c =
    let a = c.args in
    let H = sym c.if-not-holds_record.ensures in
    let room = record_room a.ok a.b.now a.at H c.requires in
    omega (arith, room.0)

pub slice_bounds-result-count : goal.slice_bounds-result-count
slice_bounds-result-count c =
    let a = c.args in
    let H = sym c.if-not-holds_record.ensures in
    omega (arith, its_end a.ok a.b.now a.at H c.record_end-end.ensures)

pub slice_bounds-result-start : goal.slice_bounds-result-start
slice_bounds-result-start c =
    let a = c.args in
    let H = sym c.if-not-holds_record.ensures in
    omega (arith, its_end a.ok a.b.now a.at H c.record_end-end.ensures)

pub slice_bounds-result-end-2 : goal.slice_bounds-result-end-2
slice_bounds-result-end-2 c =
    let a = c.args in
    let H = sym c.if-not-holds_record.ensures in
    let room = record_room a.ok a.b.now a.at H c.requires in
    omega (arith, its_end a.ok a.b.now a.at H c.record_end-end.ensures, room.0, room.1)

pub returns : goal.returns
returns c =
    let a = c.args in
    let H = sym c.if-not-holds_record.ensures in
    let z = its_end a.ok a.b.now a.at H c.record_end-end.ensures in
    let e : c.record_end-end.result - (a.at + 10) ≡ get_or a.b.now (a.at + 9) 0 = omega (arith, z) in
    ap (λ n. take n (drop (a.at + 10) a.b.now)) e ∙ record_label a.ok a.b.now a.at H

pub holds_record-requires : goal.holds_record-requires
holds_record-requires c = c.requires
