-- Row sums of a full second-order set (document 02, A.10): what the two calls answer and what they leave. Definitions only.
use Rattle.std.specs.Prelude.{Ok, not, ◌&&◌, ◌||◌, List, [], ◌∷◌, ℕ, ◌+◌, ◌*◌, ◌/◌, ◌%◌, leb, length, get_or, Float}
use Rattle.std.specs.Float.{nan}
use Rattle.lists.specs.Tab.{tab}
use Rattle.tables.specs.Answers.{Answer}
use Rattle.tables.specs.declared.Refusal.TheVariants.{IndexOutOfRange, OffGrid}
use Rattle.tables.specs.Answers.{after, refuse_if, and_then}
use Rattle.tables.specs.Full.{judged_full}
use Rattle.tables.specs.Limits.{limit2}
use Rattle.blocks.specs.Block.{block, put_block}
use Rattle.blocks.specs.Block9.{nine}
use Rattle.lines.specs.Sums3x3.{Sums, sum_in}
use Rattle.grid.specs.Grid.{nine_on_grid}
use Rattle.grid.specs.Sums.{pass_over}
use Rattle.grid.specs.Edits.{edited}

-- number k of block (i, j) of a full set of n atoms
abbrev pub block_entry : ℕ → List Float → ℕ → ℕ → ℕ → Float
block_entry n set i k j = get_or set ((i * n + j) * 9 + k) nan

-- a fresh pass: sum k of atom i is that of number k of its blocks, over the second atom, from 0.0 and rising
unfoldable pub row_sums : ℕ → List Float → List Float
row_sums n set = tab (n * 9) (λ q. pass_over n (block_entry n set (q / 9) (q % 9)))

-- 3 by 3 sums as nine numbers, row after row
abbrev pub flat_sums : Sums → List Float
flat_sums s = nine (λ p. sum_in s p)

-- nine sums after an edit: each less the old number, plus the new
abbrev pub corrected : List Float → List Float → List Float → List Float
corrected s old new = nine (λ p. edited (get_or s p nan) (get_or old p nan) (get_or new p nan))

-- ---- what is refused

-- 1 and 2: a full set of n atoms, and nine sums for each
abbrev pub judged_sums : ℕ → ℕ → ℕ → Answer
judged_sums lenSet lenSums n = judged_full limit2 1 lenSet ((lenSums, n * 9) ∷ []) n

-- 3: i or j is not below the count; 10: an entry of the old block or of the incoming one is off the grid
unfoldable pub judged_block : List Float → List Float → ℕ → ℕ → ℕ → Answer
judged_block set new i j n =
    refuse_if (leb n i || leb n j) IndexOutOfRange
    (refuse_if (not (nine_on_grid (block 9 (i * n + j) set) && nine_on_grid new)) OffGrid (Ok tt))

unfoldable pub judged_replace : List Float → ℕ → List Float → ℕ → ℕ → ℕ → Answer
judged_replace set lenSums new i j n = and_then (judged_sums (length set) lenSums n) (judged_block set new i j n)

-- ---- the calls

unfoldable pub row_sums_fc2 : List Float → List Float → ℕ → Answer × List Float
row_sums_fc2 sums set n = let a = judged_sums (length set) (length sums) n in (a, after a (row_sums n set) sums)

-- block (i, j) is the new one, and the nine sums of atom i follow; all others stay
unfoldable pub replaced : List Float → List Float → List Float → ℕ → ℕ → ℕ → List Float × List Float
replaced set sums new i j n =
    let b = i * n + j in
    (put_block 9 b new set, put_block 9 i (corrected (block 9 i sums) (block 9 b set) new) sums)

unfoldable pub replace_block : List Float → List Float → List Float → ℕ → ℕ → ℕ → Answer × List Float × List Float
replace_block set sums new i j n =
    let a = judged_replace set (length sums) new i j n in
    let r = replaced set sums new i j n in
    (a, after a r.0 set, after a r.1 sums)
