use mathlib.Core.Path.{◌∙◌}
use native.Mathlib.Omega.{arith}
use Rattle.roll.specs.Format.{entry}
use Rattle.roll.specs.NumberLaws.{Bytes}
use Rattle.roll.specs.HoldingLaws.{at_least, within-limits, count-read, trailer_read}
use Rattle.roll.specs.AppendingLaws.{trailer_ready, new-roll}
use borrow.Author.Rules.{rules}
use Rattle.roll.proofs.append.add_record.Goals as goal

pub lay_record-requires : goal.lay_record-requires
lay_record-requires c =
    let H = c.requires.0 in
    let e = c.trailer_in-t.ensures.0 ∙ trailer_read c.args.lent.now c.args.count H in
    let L = within-limits c.args.lent.now c.args.count H in
    (omega (arith, L.2), c.requires.1)

pub lay_trailer-requires : goal.lay_trailer-requires
lay_trailer-requires c =
    let a = c.args in
    let H = c.requires.0 in
    let r = entry a.kind a.set a.earlier a.label.now in
    let B : Bytes a.lent.now = λ k. search rules in
    let n = c.count_in-n.ensures.0 ∙ count-read a.lent.now a.count H in
    let t = c.trailer_in-t.ensures.0 ∙ trailer_read a.lent.now a.count H in
    let L = within-limits a.lent.now a.count H in
    (trailer_ready a.lent.now a.count r H B c.requires.2 _ _ _ n t c.lay_record.ensures, omega (arith, L.2, c.lay_record.auto.s))

pub returns : goal.returns
returns c =
    let a = c.args in
    let H = c.requires.0 in
    let r = entry a.kind a.set a.earlier a.label.now in
    let B : Bytes a.lent.now = λ k. search rules in
    let n = c.count_in-n.ensures.0 ∙ count-read a.lent.now a.count H in
    let t = c.trailer_in-t.ensures.0 ∙ trailer_read a.lent.now a.count H in
    new-roll a.lent.now a.count r H B c.requires.2 _ _ _ n t c.lay_record.ensures _ c.lay_trailer.ensures

pub count_in-n-requires : goal.count_in-n-requires
count_in-n-requires c =
    (at_least c.args.lent.now c.args.count c.requires.0, omega arith)

pub trailer_in-t-requires : goal.trailer_in-t-requires
trailer_in-t-requires c =
    (at_least c.args.lent.now c.args.count c.requires.0, omega arith)
