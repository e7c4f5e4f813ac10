use native.Mathlib.Omega.{arith}
use mathlib.Core.Path.{ap, ◌∙◌}
use Rattle.drift.specs.Loops.{look_lines, scanned}
use Rattle.drift.specs.Rows.{rows_stand, columns_stand}
use Rattle.drift.proofs.full.scan_small.Goals as goal

pub look_lines-rows-requires : goal.look_lines-rows-requires
look_lines-rows-requires c = let z = c.requires in (z.small, omega arith, λ i h. rows_stand z i h)

pub look_lines-requires : goal.look_lines-requires
look_lines-requires c = let z = c.requires in (z.small, z.small, λ i h. columns_stand z i h)

pub returns : goal.returns
unfolding scanned
returns c =
    let a = c.args in
    c.look_lines.ensures
    ∙ ap (look_lines a.n 1 a.n a.n a.fc.now) (c.look_lines-rows.ensures ∙ ap (look_lines 0 a.n 1 a.n a.fc.now) c.start.ensures)
