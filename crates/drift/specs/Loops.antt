-- What the functions compute, as their loops run. Definitions only.
use Rattle.std.specs.Prelude.{List, ℕ, ◌+◌, ◌*◌, Float}
use Rattle.lists.specs.Tab.{times}
use Rattle.lines.specs.Sums3x3.{Sums, zeros, sum_in}
use Rattle.lines.specs.Lines.{line_sums}
use Rattle.drift.specs.declared.DriftReport.{DriftReport}
use Rattle.reports.specs.declared.seen.Seen.{Seen}
use Rattle.drift.specs.Drift.{report_at, still_report}
use Rattle.reports.specs.Loops.{look, nothing_seen, concluded_by}

-- the nine sums of line q are looked at
unfoldable pub look_line : ℕ → Sums → Seen → Seen
look_line q s c = times 9 (λ p. look (q * 9 + p) (sum_in s p)) c

-- n lines, the first of them line `first`; line i begins with block i * apart, and its n blocks stand `step` apart
unfoldable pub look_lines : ℕ → ℕ → ℕ → ℕ → List Float → Seen → Seen
look_lines first apart step n xs c = times n (λ i. look_line (first + i) (line_sums (i * apart) step n xs zeros)) c

-- the rows, and then the columns
unfoldable pub scanned : ℕ → List Float → Seen
scanned n xs = look_lines n 1 n n xs (look_lines 0 n 1 n xs nothing_seen)

abbrev pub concluded : ℕ → Seen → DriftReport
concluded n c = concluded_by still_report (report_at n) c
