-- What the functions compute, number after number. Definitions only.
use Rattle.std.specs.Prelude.{true, false, cond, ℕ, ◌+◌, List, length, get_or, Float}
use Rattle.std.specs.Float.{nan, binary64}
use Rattle.std.specs.Float.Ieee.{lt, ne, eq, sub}
use Rattle.lists.specs.Tab.{times}
use Rattle.lists.specs.Floats.{plus_zero}
use Rattle.reports.specs.declared.Deviation.{Deviation}
use Rattle.reports.specs.declared.Deviation.TheVariants.{Still, Worst, NoNumber}
use Rattle.reports.specs.declared.Report.{Report}
use Rattle.reports.specs.declared.seen.Seen.{Seen}
use Rattle.reports.specs.Report.{absolute, report_at}

-- number r of the family, x, is looked at
abbrev pub look : ℕ → Float → Seen → Seen
look r x c =
    cond (ne x x)
    (cond c.none c (record { none = true; first = r; worst = c.worst; at = c.at }))
    (cond (lt c.worst (absolute x)) (record { none = c.none; first = c.first; worst = absolute x; at = r }) c)

abbrev pub nothing_seen : Seen
nothing_seen = record { none = false; first = 0; worst = plus_zero; at = 0 }

-- the numbers f 0, .., f (n - 1), which are numbers `first`, `first` + 1, .. of the family
unfoldable pub look_at : ℕ → ℕ → (ℕ → Float) → Seen → Seen
look_at first n f c = times n (λ k. look (first + k) (f k)) c

-- the numbers of a slice; those of one minus those of another
abbrev pub look_numbers : ℕ → List Float → Seen → Seen
look_numbers first x c = look_at first (length x) (λ k. get_or x k nan) c

abbrev pub look_differences : ℕ → List Float → List Float → Seen → Seen
look_differences first x y c = look_at first (length x) (λ k. sub binary64 (get_or x k nan) (get_or y k nan)) c

-- what is concluded from what was seen, whatever was looked at; `at` makes the report
abbrev pub concluded_by : {R : Type 0} → R → (Deviation → ℕ → R) → Seen → R
concluded_by still at c = cond c.none (at NoNumber c.first) (cond (eq c.worst plus_zero) still (at (Worst c.worst) c.at))

abbrev pub concluded : Seen → Report
concluded c = concluded_by (report_at Still 0) report_at c
