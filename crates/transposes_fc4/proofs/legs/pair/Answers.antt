use mathlib.Core.Path.{sym, ap, ◌∙◌}
use Rattle.tables.specs.Compact.{given}
use Rattle.orbits.specs.HalfShift.{rep-read}
use Rattle.transposes_fc4.specs.Loops.{plane4, pair-stays, pair-moves, pair_pos, pair-first, pair-second, pair_found}
use Rattle.transposes_fc4.proofs.legs.pair.Goals as goal

pub row_of-first-requires : goal.row_of-first-requires
row_of-first-requires c =
    pair_pos (given c.args.tables.now) c.args.q c.requires.1

pub column_of-second-requires : goal.column_of-second-requires
column_of-second-requires c =
    pair_pos (given c.args.tables.now) c.args.q c.requires.1

pub stays-requires : goal.stays-requires
stays-requires c =
    let T = given c.args.tables.now in record { sound = c.requires.0.sound; in_range = (rw c.row_of-first.ensures (pair-first T c.args.q c.requires.1), rw c.column_of-second.ensures (pair-second T c.args.q c.requires.1)) }

pub returns-then-stays : goal.returns-then-stays
returns-then-stays c =
    let T = given c.args.tables.now in
    let p = c.row_of-first.ensures in
    let j = c.column_of-second.ensures in
    pair-stays c.args.half_shifts_stay c.args.o.now T _ _ (rw p (pair-first T c.args.q c.requires.1)) (rw j (pair-second T c.args.q c.requires.1)) c.args.fc4.now
    (sym c.stays.ensures ∙ c.if-stays.true)
    ∙ ap (λ q. plane4 c.args.half_shifts_stay c.args.o.now T q c.args.fc4.now) (pair_found T c.args.q c.requires.1 p j)

pub p2s_at-i-requires : goal.p2s_at-i-requires
p2s_at-i-requires c =
    let T = given c.args.tables.now in
    let p = c.row_of-first in
    (rep-read T c.requires.0.sound p.result (rw p.ensures (pair-first T c.args.q c.requires.1))).0

pub plane-requires : goal.plane-requires
plane-requires c =
    let T = given c.args.tables.now in (
      record {
        trading = c.requires.0;
        first = rw c.row_of-first.ensures (pair-first T c.args.q c.requires.1);
        second = rw c.column_of-second.ensures (pair-second T c.args.q c.requires.1);
        rep = c.p2s_at-i.ensures;
      },
      c.requires.2,
    )

pub returns : goal.returns
returns c =
    let T = given c.args.tables.now in
    let p = c.row_of-first.ensures in
    let j = c.column_of-second.ensures in
    c.plane.ensures
    ∙ pair-moves c.args.half_shifts_stay c.args.o.now T _ _ (rw p (pair-first T c.args.q c.requires.1)) (rw j (pair-second T c.args.q c.requires.1)) c.args.fc4.now
    (sym c.stays.ensures ∙ c.if-stays.false)
    ∙ ap (λ q. plane4 c.args.half_shifts_stay c.args.o.now T q c.args.fc4.now) (pair_found T c.args.q c.requires.1 p j)
