-- The full symmetrizer of second order (document 01, "Second order"; `perm_trans_symmetrize_fc`), each number by its own formula.
-- A full set is a compact one whose atoms all represent themselves (`whole n`): it has a block of 9 numbers for each pair of atoms i and j, and a
-- place of it is atom i with direction k and atom j with direction l. Definitions only.
use Rattle.std.specs.Prelude.{List, [], ◌∷◌, cond, ◌&&◌, ℕ, eqb, length, get_or, Float}
use Rattle.std.specs.Float.{nan, binary64}
use Rattle.std.specs.Float.Ieee.{add, sub, mul, neg}
use Rattle.lists.specs.Tab.{times}
use Rattle.tables.specs.Answers.{Answer}
use Rattle.tables.specs.declared.Refusal.TheVariants.{CountAboveLimit}
use Rattle.tables.specs.Answers.{after, refuse_if}
use Rattle.tables.specs.Conditions.{any_above}
use Rattle.tables.specs.Full.{judged_full}
use Rattle.tables.specs.Limits.{limit2, limit_level}
use Rattle.places.specs.Places.{atom, dir, at, fill as fillPlaces}
use Rattle.places.specs.WholeLaws.{full_shifts}
use Rattle.lists.specs.Floats.{plus_zero}
use Rattle.lines.specs.Sums3x3.{half, inverse}

-- the set of n × n blocks whose number for atoms i and j and directions k and l is f i j k l
unfoldable pub fill_full : ℕ → (ℕ → ℕ → ℕ → ℕ → Float) → List Float
fill_full n f = fillPlaces (full_shifts n) 1 (λ ys. let x = get_or ys 0 (0, 0) in let y = get_or ys 1 (0, 0) in f (atom x) (atom y) (dir x) (dir y))

-- the number of a set for atoms i and j and directions k and l
unfoldable pub full_entry : ℕ → List Float → ℕ → ℕ → ℕ → ℕ → Float
full_entry n xs i j k l = at nan (full_shifts n) xs ((i, k) ∷ (j, l) ∷ [])

-- the sums over the first atom, over the second atom, and off-site over the second atom, without the first itself: from 0.0, rising
unfoldable pub column_sum : ℕ → List Float → ℕ → ℕ → ℕ → Float
column_sum n xs j k l = times n (λ i s. add binary64 s (full_entry n xs i j k l)) plus_zero

unfoldable pub row_sum : ℕ → List Float → ℕ → ℕ → ℕ → Float
row_sum n xs i k l = times n (λ j s. add binary64 s (full_entry n xs i j k l)) plus_zero

unfoldable pub off_site_sum : ℕ → List Float → ℕ → ℕ → ℕ → Float
off_site_sum n xs i k l = times n (λ j s. cond (eqb i j) s (add binary64 s (full_entry n xs i j k l))) plus_zero

-- each number less the drift of its column, and of its row
unfoldable pub without_column_drift : ℕ → List Float → List Float
without_column_drift n xs = fill_full n (λ i j k l. sub binary64 (full_entry n xs i j k l) (mul binary64 (column_sum n xs j k l) (inverse n)))

unfoldable pub without_row_drift : ℕ → List Float → List Float
without_row_drift n xs = fill_full n (λ i j k l. sub binary64 (full_entry n xs i j k l) (mul binary64 (row_sum n xs i k l) (inverse n)))

-- Each number becomes the mean with its counterpart, atoms and directions exchanged; one that is its own counterpart stays.
-- A sum of two commutes, so it does not matter which of the two comes first.
unfoldable pub pair_averages : ℕ → List Float → List Float
pair_averages n xs =
    fill_full n (λ i j k l. cond (eqb i j && eqb k l) (full_entry n xs i j k l) (half (add binary64 (full_entry n xs i j k l) (full_entry n xs j i l k))))

-- the on-site blocks anew by the acoustic sum rule, from -(sums + transposed sums) / 2
unfoldable pub on_site_blocks : ℕ → List Float → List Float
on_site_blocks n xs =
    fill_full n (λ i j k l. cond (eqb i j) (half (neg (add binary64 (off_site_sum n xs i k l) (off_site_sum n xs i l k)))) (full_entry n xs i j k l))

-- one level, and the whole of it
unfoldable pub one_level : ℕ → List Float → List Float
one_level n xs = pair_averages n (without_row_drift n (without_column_drift n xs))

unfoldable pub symmetrized_full : ℕ → ℕ → List Float → List Float
symmetrized_full n level xs = on_site_blocks n (times level (λ _. one_level n) xs)

-- what is refused: more than 1,024 atoms or 1,000 levels; a set of another length than a full set's
abbrev pub judged_full_levels : ℕ → ℕ → ℕ → Answer
judged_full_levels len n level = refuse_if (any_above limit_level (level ∷ [])) CountAboveLimit (judged_full limit2 1 len [] n)

-- the call: what it answers, and the set that it leaves
unfoldable pub perm_trans_symmetrize_fc : List Float → ℕ → ℕ → Answer × List Float
perm_trans_symmetrize_fc xs n level =
    let a = judged_full_levels (length xs) n level in
    (a, after a (symmetrized_full n level xs) xs)
