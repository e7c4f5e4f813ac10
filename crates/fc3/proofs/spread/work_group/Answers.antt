use mathlib.Core.Path.{refl, ap, ◌∙◌}
use mathlib.Core.List.{[], ◌∷◌}
use Rattle.places.specs.Permutations.{perms3}
use Rattle.orbits.specs.Groups.{spread_block}
use Rattle.fc3.specs.Repeated.{Pairs}
use Rattle.fc3.proofs.spread.work_group.Goals as goal

pub work_distinct-requires : goal.work_distinct-requires
work_distinct-requires c = (c.requires, c.distinct.ensures c.if-distinct.true)

pub work_first_two-requires : goal.work_first_two-requires
work_first_two-requires c =
    let a = c.args in
    let r : Pairs a.b0 a.b2 a.b1 a.b3 a.b4 a.b5 = c.pairs.ensures c.if-pairs.true in
    (rw (r.0, r.1, r.2) at c.requires, r.3)

pub returns-then-pairs : goal.returns-then-pairs
returns-then-pairs c =
    let a = c.args in
    let r : Pairs a.b0 a.b2 a.b1 a.b3 a.b4 a.b5 = c.pairs.ensures c.if-pairs.true in
    c.work_first_two.ensures ∙ rw (r.0, r.1, r.2) refl

pub work_last_two-requires : goal.work_last_two-requires
work_last_two-requires c =
    let a = c.args in
    let r : Pairs a.b0 a.b1 a.b2 a.b4 a.b3 a.b5 = c.pairs-2.ensures c.if-pairs-2.true in
    (rw (r.0, r.1, r.2) at c.requires, r.3)

pub returns-then-pairs-2 : goal.returns-then-pairs-2
returns-then-pairs-2 c =
    let a = c.args in
    let r : Pairs a.b0 a.b1 a.b2 a.b4 a.b3 a.b5 = c.pairs-2.ensures c.if-pairs-2.true in
    c.work_last_two.ensures ∙ rw (r.0, r.1, r.2) refl

pub returns : goal.returns
returns c =
    let a = c.args in
    c.put_positions.ensures ∙ ap (λ v. spread_block 2 perms3 (a.b0 ∷ a.b1 ∷ a.b2 ∷ a.b3 ∷ a.b4 ∷ a.b5 ∷ []) v a.fc3.now) c.any_means-v.ensures
