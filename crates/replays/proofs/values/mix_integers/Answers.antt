use Rattle.std.proofs.Common.{◌≡◌, ◌∙◌, fold, pos, of_z, w64, rules}
use Rattle.replays.specs.Words.{mixed}
use Rattle.replays.proofs.FoldLaws.{fold-times}
use Rattle.replays.proofs.values.mix_integers.Goals as goal

pub returns : goal.returns
returns c =
    let a = c.args in
    let e : c.fold.result ≡ fold (λ h x. mixed h (of_z w64 x)) a.h a.s.now = search rules in
    e ∙ fold-times (pos 0) (λ h x. mixed h (of_z w64 x)) a.h a.s.now
