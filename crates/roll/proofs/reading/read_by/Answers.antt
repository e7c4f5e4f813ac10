use mathlib.Core.Path.{sym, ◌∙◌}
use native.Mathlib.Omega.{arith}
use Rattle.roll.specs.HoldingLaws.{framed-sized}
use Rattle.roll.specs.StepLaws.{ends_in, read-not, read_record, read_end, read_none, its_trailer}
use Rattle.roll.proofs.reading.read_by.Goals as goal

pub returns-then-not-ok : goal.returns-then-not-ok
returns-then-not-ok c =
    let a = c.args in
    read-not a.ok a.b.now a.at c.if-not-ok.true

pub starts_at-requires : goal.starts_at-requires
starts_at-requires c = c.requires c.if-not-ok.false

pub record_at-requires : goal.record_at-requires
record_at-requires c =
    let a = c.args in
    let R = c.if-not-ok.false in
    omega (arith, ends_in a.b.now a.at (c.requires R) (sym c.starts_at.ensures ∙ c.if-starts_at.true))

pub returns-then-starts_at : goal.returns-then-starts_at
returns-then-starts_at c =
    let a = c.args in
    let R = c.if-not-ok.false in
    read_record a.ok a.b.now a.at R (sym c.starts_at.ensures ∙ c.if-starts_at.true) c.record_at.ensures

pub returns-then-at-trailer_in : goal.returns-then-at-trailer_in
returns-then-at-trailer_in c =
    let a = c.args in
    let R = c.if-not-ok.false in
    read_end a.ok a.b.now a.at R (sym c.starts_at.ensures ∙ c.if-starts_at.false) (c.if-at-trailer_in.true ∙ its_trailer a.b.now c.trailer_in.ensures.0)

pub returns : goal.returns
returns c =
    let a = c.args in
    let R = c.if-not-ok.false in
    read_none a.ok a.b.now a.at R (sym c.starts_at.ensures ∙ c.if-starts_at.false) (λ q. c.if-at-trailer_in.false (q ∙ sym (its_trailer a.b.now c.trailer_in.ensures.0)))

pub trailer_in-requires : goal.trailer_in-requires
trailer_in-requires c =
    let a = c.args in
    let R = c.if-not-ok.false in
    (omega (arith, (framed-sized a.b.now (c.requires R)).whole), omega arith)
