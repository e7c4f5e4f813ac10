use Rattle.replays.specs.Tally.{compare}
use Rattle.replays.proofs.Tally.compared.Goals as goal

pub returns : goal.returns
unfolding compare
returns c =
    rw (c.tallied.ensures, c.mix_words-sum.ensures, c.mix_numbers-head.ensures, c.mix.ensures, c.word_of.ensures, c.different-d.ensures)
