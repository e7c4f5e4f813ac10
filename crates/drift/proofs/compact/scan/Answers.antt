use mathlib.Core.Path.{ap, ◌∙◌}
use Rattle.places.specs.ReadOuts.{stored_in}
use Rattle.drift.specs.CompactLaws.{look_rows, look_compact_columns}
use Rattle.drift.proofs.compact.scan.Goals as goal

pub look_rows-rows-requires : goal.look_rows-rows-requires
look_rows-rows-requires c = c.requires

pub look_columns-requires : goal.look_columns-requires
look_columns-requires c = c.requires

pub returns : goal.returns
returns c =
    let a = c.args in
    let f = stored_in a.tables.now.n_satom a.tables.now.s2pp.now a.tables.now.nsym_list.now a.tables.now.perms.now in
    c.look_columns.ensures ∙ ap (look_compact_columns a.fc.now f a.tables.now.n_satom) (c.look_rows-rows.ensures ∙ ap (look_rows a.fc.now f a.tables.now.n_satom) c.start.ensures)
