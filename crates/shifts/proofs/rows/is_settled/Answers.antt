use mathlib.Core.Bool.{true≢false}
use mathlib.Core.Path.{refl, sym}
use native.Mathlib.Omega.{arith}
use Rattle.lists.specs.Tests.{not-both}
use Rattle.shifts.proofs.Generators.{right-below, commutes-same}
use Rattle.shifts.proofs.rows.is_settled.Goals as goal

pub bounds-gens-s : goal.bounds-gens-s
bounds-gens-s c = omega (arith, c.requires.0.rows.shifts, c.requires.1)

pub returns-then-gens-s-eq0 : goal.returns-then-gens-s-eq0
returns-then-gens-s-eq0 c = (c.requires.2, (λ _ p. absurd (p c.if-gens-s-eq0.true), λ _. refl))

pub keeps_rows-requires : goal.keeps_rows-requires
keeps_rows-requires c = (c.requires.0, c.requires.1)

pub returns-then-not-keeps_rows : goal.returns-then-not-keeps_rows
returns-then-not-keeps_rows c = (c.requires.2, (λ q. absurd (true≢false (sym q)), λ f. absurd (not-both (c.keeps_rows.ensures.1 (f c.if-gens-s-eq0.false).0) c.if-not-keeps_rows.true)))

pub shift_right-requires : goal.shift_right-requires
shift_right-requires c = c.requires

pub all_commute-requires : goal.all_commute-requires
all_commute-requires c =
    (c.requires.0.rows, λ a ha. rw (c.shift_right.ensures.0 a ha) (right-below c.requires.0 c.args.s c.requires.1 a ha))

pub returns : goal.returns
returns c =
    let R = c.requires.0.rows in
    let e = c.shift_right.ensures.0 in (
      c.shift_right.ensures.1,
      (
        λ q p. (c.keeps_rows.ensures.0 c.if-not-keeps_rows.false, λ g hg z. commutes-same R _ _ e g hg (c.all_commute.ensures.0 q g hg z)),
        λ f. c.all_commute.ensures.1 (λ g hg z. commutes-same R _ _ (λ a ha. sym (e a ha)) g hg ((f c.if-gens-s-eq0.false).1 g hg z)),
      ),
    )
