use Rattle.std.proofs.Common.{◌≡◌, ◌∙◌, fold, rules}
use Rattle.std.specs.Float.{nan, binary64}
use Rattle.std.specs.Prelude.{to_bits}
use Rattle.replays.specs.Words.{mixed}
use Rattle.replays.proofs.FoldLaws.{fold-times}
use Rattle.replays.proofs.values.mix_floats.Goals as goal

pub returns : goal.returns
returns c =
    let a = c.args in
    let e : c.fold.result ≡ fold (λ h x. mixed h (to_bits binary64 x)) a.h a.s.now = search rules in
    e ∙ fold-times nan (λ h x. mixed h (to_bits binary64 x)) a.h a.s.now
