use Rattle.std.proofs.Common.{◌≡◌, ◌∙◌, fold, rules}
use Rattle.replays.specs.Words.{mixed}
use Rattle.replays.proofs.FoldLaws.{fold-times}
use Rattle.replays.proofs.values.mix_bytes.Goals as goal

pub returns : goal.returns
returns c =
    let a = c.args in
    let e : c.fold.result ≡ fold (mixed) a.h a.s.now = search rules in
    e ∙ fold-times 0 (mixed) a.h a.s.now
