use Rattle.std.proofs.Common.{ℕ, ◌+◌, ◌<◌, Bool, arith, cond, Some, None, ap, subst, ◌∙◌}
use Rattle.roll.specs.Reading.{entry_at}
use Rattle.roll.specs.NumberLaws.{four-small}
use Rattle.standing.proofs.replacer.Goals as goal

pub returns-then-replaces_at : goal.returns-then-replaces_at
unfolding entry_at
returns-then-replaces_at c =
    let m = (entry_at c.args.b.now c.args.at).number in (
      ap Some c.set_at.ensures.0 ∙ ap (λ (t : Bool). cond t (Some m) None) c.if-replaces_at.ensures,
      subst (λ (k : ℕ). k < 4294967296) c.set_at.ensures.0 c.set_at.ensures.1,
    )

pub returns-else-replaces_at : goal.returns-else-replaces_at
unfolding entry_at
returns-else-replaces_at c =
    let m = (entry_at c.args.b.now c.args.at).number in (
      ap (λ (t : Bool). cond t (Some m) None) c.if-replaces_at.ensures,
      four-small c.args.b.now (c.args.at + 1) (λ i. omega (arith, c.type_inv.b i)),
    )
