-- What the functions of full.rt compute, as their loops run. Definitions only.
use Rattle.std.specs.Prelude.{List, [], cond, ℕ, ◌+◌, ◌*◌, ◌/◌, ◌%◌, eqb, get_or, replicate, Float}
use Rattle.std.specs.Float.{nan, binary64}
use Rattle.std.specs.Float.Ieee.{add}
use Rattle.lists.specs.Tab.{tab, times}
use Rattle.blocks.specs.Block.{block, put_block}
use Rattle.lines.specs.Sums3x3.{Sums, more, scaled, zeros, half}
use Rattle.blocks.specs.Block9.{nine, across_diagonal}
use Rattle.lines.specs.Lines.{less_at, line_drift, row_drifts, pair_at, balances}

unfoldable pub columns : ℕ → Float → List Float → List Float
columns n x = times n (λ j. line_drift j n n x)

-- Eight columns at a time. Eight sums and the eight blocks from block b on; the sums times x; the eight blocks less the eight drifts d.
unfoldable pub added8 : List Sums → ℕ → List Float → List Sums
added8 s b xs = tab 8 (λ c. more (get_or s c []) (block 9 (b + c) xs))

unfoldable pub scaled8 : List Sums → Float → List Sums
scaled8 s x = tab 8 (λ c. scaled (get_or s c []) x)

unfoldable pub less8 : List Sums → ℕ → List Float → List Float
less8 d b xs = times 8 (λ c. less_at (get_or d c []) (b + c)) xs

-- the sums of columns j to j + 7 over the first i rows; those columns less d in the first i rows; less their drift
unfoldable pub panel_sums : ℕ → ℕ → ℕ → List Float → List Sums
panel_sums n j i xs = times i (λ a s. added8 s (a * n + j) xs) (replicate 8 zeros)

unfoldable pub panel_less : ℕ → ℕ → List Sums → ℕ → List Float → List Float
panel_less n j d i xs = times i (λ a. less8 d (a * n + j)) xs

unfoldable pub panel_drift : ℕ → ℕ → Float → List Float → List Float
panel_drift n j x xs = panel_less n j (scaled8 (panel_sums n j n xs) x) n xs

-- the mean of an on-site block and itself transposed: its own diagonal stays
abbrev pub evened : List Float → List Float
evened b = nine (λ p. cond (eqb (p / 3) (p % 3)) (get_or b p nan) (half (add binary64 (get_or b p nan) (get_or b (across_diagonal p) nan))))

unfoldable pub own_at : ℕ → List Float → List Float
own_at b xs = put_block 9 b (evened (block 9 b xs)) xs

-- atom i with the atoms before it, and with itself
unfoldable pub pairs_before : ℕ → ℕ → List Float → List Float
pairs_before n i xs = times i (λ j. pair_at (j * n + i) (i * n + j)) xs

unfoldable pub pairs : ℕ → List Float → List Float
pairs n = times n (λ i xs. own_at (i * n + i) (pairs_before n i xs))

-- the on-site blocks: of row i the block of atom i
unfoldable pub diagonals : ℕ → List Float → List Float
diagonals n = balances n n (λ i. i)

unfoldable pub swept : ℕ → Float → List Float → List Float
swept n x xs = pairs n (row_drifts n n x (columns n x xs))

unfoldable pub worked : ℕ → ℕ → Float → List Float → List Float
worked n level x xs = diagonals n (times level (λ _. swept n x) xs)
