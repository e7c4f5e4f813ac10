-- Where two positions of the means of a group go to one place, because two of its atoms are the same, the later one holds. Assumes nothing.
use Rattle.std.specs.Prelude.{List, [], ◌∷◌, ℕ, Float}
use Rattle.blocks.specs.Permuted.{gathered}

-- the later one of positions (l, m, n) and (m, l, n), and of (l, m, n) and (l, n, m)
abbrev pub later_mln : List ℕ
later_mln = 0 ∷ 1 ∷ 2 ∷ 9 ∷ 10 ∷ 11 ∷ 18 ∷ 19 ∷ 20 ∷ 9 ∷ 10 ∷ 11 ∷ 12 ∷ 13 ∷ 14 ∷ 21 ∷ 22 ∷ 23 ∷ 18 ∷ 19 ∷ 20 ∷ 21 ∷ 22 ∷ 23 ∷ 24 ∷ 25 ∷ 26 ∷ []

abbrev pub later_lnm : List ℕ
later_lnm = 0 ∷ 3 ∷ 6 ∷ 3 ∷ 4 ∷ 7 ∷ 6 ∷ 7 ∷ 8 ∷ 9 ∷ 12 ∷ 15 ∷ 12 ∷ 13 ∷ 16 ∷ 15 ∷ 16 ∷ 17 ∷ 18 ∷ 21 ∷ 24 ∷ 21 ∷ 22 ∷ 25 ∷ 24 ∷ 25 ∷ 26 ∷ []

-- the latest one of all six permutations of a position
abbrev pub later_all : List Float → List Float
later_all v = gathered (gathered (gathered v later_mln) later_lnm) later_mln
