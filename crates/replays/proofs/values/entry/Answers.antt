use Rattle.std.proofs.Common.{ap, ◌∙◌, w64, to_z}
use mir.ValLaws.{to_z-of_z}
use Rattle.replays.specs.Words.{word_of}
use Rattle.replays.proofs.values.entry.Goals as goal

pub returns : goal.returns
returns c =
    let r = c.args.r.now in
    to_z-of_z w64 _ (record { sfits = c.integer.type_inv }) ∙ c.integer.ensures ∙ ap (to_z w64) (c.word_of.ensures ∙ ap (word_of r) c.after.ensures)
