use Rattle.std.proofs.Common.{length, refl, ◌∙◌, arith}
use Rattle.std.proofs.lemmas.Slice.{put_mid-paste}
use Rattle.roll.specs.Laid.{paste_laid}
use Rattle.roll.proofs.lay.lay.Goals as goal

pub returns : goal.returns
returns c =
    let a = c.args in
    put_mid-paste a.at _ a.s.now _ a.src.now (length a.src.now) c.copy_from_slice.ensures.after (omega arith) refl
    ∙ paste_laid a.s.now a.at a.src.now
