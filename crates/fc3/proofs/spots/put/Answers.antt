use mathlib.Core.Path.{ap, ◌∙◌}
use Prim.Native.Nat.{◌+◌, ◌*◌}
use lib.ListN.{set}
use Rattle.fc3.specs.Spread.{dirs_are}
use Rattle.fc3.specs.Coinciding.{flat, six-set, flat-set}
use borrow.Author.Rules.{rules}
use Rattle.fc3.proofs.spots.put.Goals as goal

pub offset_bounds-group-at : goal.offset_bounds-group-at
offset_bounds-group-at c =
    let (h0, h1, h2, h3, h4) = c.requires in
    let (e, h) = dirs_are c.args.l c.args.m c.args.n h2 h3 h4 c.dir3-at.ensures in
    search rules

pub bounds-group-at : goal.bounds-group-at
bounds-group-at c =
    let (h0, h1, h2, h3, h4) = c.requires in
    let (e, h) = dirs_are c.args.l c.args.m c.args.n h2 h3 h4 c.dir3-at.ensures in
    h

pub returns : goal.returns
returns c =
    let (h0, h1, h2, h3, h4) = c.requires in
    let (e, h) = dirs_are c.args.l c.args.m c.args.n h2 h3 h4 c.dir3-at.ensures in
    let g = c.args.group.now in (
      six-set g c.args.s c.dir3-at.result c.args.x h0 h1 h,
      flat-set g c.args.s c.dir3-at.result c.args.x h0 h1 h ∙ ap (λ k. set (flat g) (c.args.s * 27 + k) c.args.x) e,
    )
