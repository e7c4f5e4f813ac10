use mathlib.Core.Path.{sym, ◌∙◌}
use borrow.Author.Tests.{not-true, not-false, eqb-true, eqb-false}
use Rattle.orbits.specs.HalfShift.{rep-read, home_read, way_read, image-read, told-rep, told-apart, told, told-off, told-on}
use Rattle.orbits.proofs.half_shifts.stays.Goals as goal

pub returns-then-not-half_shifts_stay : goal.returns-then-not-half_shifts_stay
returns-then-not-half_shifts_stay c = let h = c.args.half_shifts_stay in told-off h _ (not-true h c.if-not-half_shifts_stay.true-raw)

pub p2s_at-i-requires : goal.p2s_at-i-requires
p2s_at-i-requires c =
    (rep-read _ c.requires.sound c.args.p.0 c.requires.in_range.0).0

pub returns-then-eq : goal.returns-then-eq
returns-then-eq c =
    told-on c.args.half_shifts_stay _ (not-false c.args.half_shifts_stay c.if-not-half_shifts_stay.false-raw) (told-rep _ c.requires.sound c.args.p.0 c.args.j.0 c.requires.in_range.0 c.requires.in_range.1 _ c.p2s_at-i.ensures (eqb-true _ _ (sym c.eq.ensures ∙ c.if-eq.true)))

pub s2pp_at-home-requires : goal.s2pp_at-home-requires
s2pp_at-home-requires c =
    home_read _ c.requires.sound c.args.p.0 c.args.j.0 c.requires.in_range.0 c.requires.in_range.1

pub returns-then-ne : goal.returns-then-ne
returns-then-ne c =
    told-on c.args.half_shifts_stay _ (not-false c.args.half_shifts_stay c.if-not-half_shifts_stay.false-raw) (told-apart _ c.requires.sound c.args.p.0 c.args.j.0 c.requires.in_range.0 c.requires.in_range.1 _ c.s2pp_at-home.ensures (eqb-false _ _ (not-true _ (sym c.ne.ensures ∙ c.if-ne.true))))

pub nsym_at-row-requires : goal.nsym_at-row-requires
nsym_at-row-requires c =
    way_read _ c.requires.sound c.args.p.0 c.args.j.0 c.requires.in_range.0 c.requires.in_range.1

pub perms_at-image-requires : goal.perms_at-image-requires
perms_at-image-requires c =
    image-read _ c.requires.sound c.args.p.0 c.args.j.0 c.requires.in_range.0 c.requires.in_range.1 _ _ c.nsym_at-row.ensures c.p2s_at-i.ensures

pub returns : goal.returns
returns c =
    told-on c.args.half_shifts_stay _ (not-false c.args.half_shifts_stay c.if-not-half_shifts_stay.false-raw)
    (c.eq-2.ensures ∙ told _ c.requires.sound c.args.p.0 c.args.j.0 c.requires.in_range.0 c.requires.in_range.1 _ _ _ _ c.p2s_at-i.ensures (eqb-false _ _ (sym c.eq.ensures ∙ c.if-eq.false)) c.s2pp_at-home.ensures (eqb-true _ _ (not-false _ (sym c.ne.ensures ∙ c.if-ne.false))) c.nsym_at-row.ensures c.perms_at-image.ensures)
