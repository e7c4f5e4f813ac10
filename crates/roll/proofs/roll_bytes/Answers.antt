use Rattle.std.proofs.Common.{List, ℕ, Bor, refl, ap, ◌∙◌}
use Rattle.roll.specs.HoldingLaws.{bytes_past, bytes-there}
use Rattle.roll.proofs.Parts.{part_or_none}
use Rattle.roll.proofs.roll_bytes.Goals as goal

pub returns : goal.returns
returns c =
    let s = c.args.lent.now in
    let n = c.args.count in
    ap (λ (x : Bor (List ℕ)). x.now) c.unwrap_or.ensures ∙ part_or_none s n c.get.result _ refl (bytes_past s n) (bytes-there s n) c.get.ensures.lookup.0
