-- The starred sheets of document 01 together: `Sheets` of specs/Sheets.antt, proved. Assumes nothing.
use Rattle.std.specs.Prelude.{replicate}
use Rattle.std.proofs.Common.{ap, ◌∙◌}
use Rattle.std.specs.Float.Ieee.{round, of_bits, neg}
use Rattle.common.specs.Sheets as rounding
use Rattle.matching.specs.Sheets as matching
use Rattle.fc2.specs.FullSheets as second
use Rattle.laws.specs.Sheets.{Sheets, three_atoms, two_atoms, six_positions, block_at, mean_backwards, one-group, one-to-six, one-atom, pass, type_0, type_0_blocks}

-- ---- all of them

-- the sheets of the other crates have their numbers as bits
pub sheets : Sheets
unfolding of_bits round neg
sheets = record {
  sheet1 = rounding.sheet1;
  sheet2 = rounding.sheet2;
  sheet3 = λ set level e h. second.sheet3 level set h e;
  sheet4 = λ set e g. second.sheet4 set e g;
  sheet5 = λ set e h.
      let c = one-atom set e in
      (ap (λ r. r.0) c, ap (λ r. six_positions r.1) c ∙ one-group set ∙ ap (λ l. replicate 6 (mean_backwards l)) h ∙ one-to-six);
  sheet6 = λ set work e f.
      let c = type_0 three_atoms 243 3 set work pass.0 e f in
      (ap (λ r. r.0) c, ap (λ r. block_at 3 0 1 2 r.1) c ∙ (type_0_blocks set).0);
  sheet7 = λ set work e f.
      let c = type_0 two_atoms 108 2 set work pass.1 e f in
      (ap (λ r. r.0) c, ap (λ r. block_at 2 0 1 0 r.1) c ∙ (type_0_blocks set).1, ap (λ r. block_at 2 0 1 1 r.1) c ∙ (type_0_blocks set).2);
  sheet8 = (matching.no-positions, matching.on-itself, matching.at_zero);
  sheet9 = matching.two-positions;
}
