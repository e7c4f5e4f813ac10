use Rattle.roll.specs.StoringLaws.{trailer_stored}
use Rattle.roll.proofs.append.lay_trailer.Goals as goal

pub returns : goal.returns
returns c =
    let at = c.listed_at-place.ensures in
    trailer_stored c.args.s.now _ _ _ c.args.n c.args.t _ c.requires.1 at c.lay_starts.ensures c.lay_four.ensures c.lay_four-2.ensures
