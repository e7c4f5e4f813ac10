-- The text of the reports. Assumes nothing.
use Rattle.std.specs.Prelude.{ℕ, List, [], ◌∷◌, ◌++◌, slice_index, codes}
use Rattle.std.specs.Fmt.{decimal}
use Rattle.replays.specs.declared.Tally.{Tally}

-- a line: its name, the number, the line's end
abbrev pub line_text : List ℕ → ℕ → List ℕ
line_text name n = name ++ (decimal n ++ (10 ∷ []))

-- the first line of a report
abbrev pub first_line_text : List ℕ → ℕ → ℕ → List ℕ
first_line_text title seen differ =
    title ++ (codes ": " ++ (decimal seen ++ (codes " compared, " ++ (decimal differ ++ (codes " differ" ++ (10 ∷ []))))))

-- the report, of which `well` calls ended well
unfoldable pub report_text : List ℕ → Tally → ℕ → List ℕ
report_text title t well =
    first_line_text title t.seen t.differ
    ++ (line_text (codes "ended well: ") well
    ++ (line_text (codes "refused, 1: ") (slice_index t.answers 1)
    ++ (line_text (codes "refused, 2: ") (slice_index t.answers 2)
    ++ (line_text (codes "refused, 3: ") (slice_index t.answers 3)
    ++ (line_text (codes "refused, 4: ") (slice_index t.answers 4)
    ++ (line_text (codes "refused, 5: ") (slice_index t.answers 5)
    ++ (line_text (codes "refused, 6: ") (slice_index t.answers 6)
    ++ line_text (codes "checksum ") t.sum)))))))
