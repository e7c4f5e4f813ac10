-- Blocks of nine numbers as whole values: what is done with them, and their laws place by place. Assumes nothing.
use Rattle.std.specs.Prelude.{◌≡◌, refl, List, [], ◌∷◌, ℕ, ◌+◌, ◌*◌, ◌/◌, ◌%◌, ◌<◌, pos, get_or, replicate, Float}
use Rattle.std.proofs.Common.{sym, ap, ◌∙◌, mod-lt, div-add-mod', arith, lit<}
use Rattle.std.specs.Float.{nan, binary64}
use Rattle.std.specs.Float.Ieee.{add, sub, mul, div, neg, of_int, of_bits}
use Rattle.lists.specs.Floats.{add_commutes}
use Rattle.lists.specs.Tab.{tab, tab_from, get_or-tab}
use Rattle.lists.specs.Floats.{plus_zero}
use Rattle.blocks.specs.Block.{block, get_or-block}
use Rattle.blocks.specs.Block9.{nine, across_diagonal, transposed9}

-- half of a number
abbrev pub half : Float → Float
half x = div binary64 x (of_bits binary64 0x4000_0000_0000_0000)

-- 1 / n, with which a sum is multiplied to be a drift
unfoldable pub inverse : ℕ → Float
inverse n = div binary64 (of_bits binary64 0x3FF0_0000_0000_0000) (of_int binary64 (pos n))

-- two blocks, number by number
abbrev pub added : List Float → List Float → List Float
added s b = nine (λ p. add binary64 (get_or s p nan) (get_or b p nan))

-- A 3 by 3 matrix of sums holds a row for each first direction. Its numbers count as a block's do: number p stands in row p / 3 at p % 3.
abbrev pub Sums : Type 0
Sums = List (List Float)

abbrev pub matrix : (ℕ → Float) → Sums
matrix f = (f 0 ∷ f 1 ∷ f 2 ∷ []) ∷ (f 3 ∷ f 4 ∷ f 5 ∷ []) ∷ (f 6 ∷ f 7 ∷ f 8 ∷ []) ∷ []

abbrev pub sum_in : Sums → ℕ → Float
sum_in s p = get_or (get_or s (p / 3) []) (p % 3) nan

abbrev pub zeros : Sums
zeros = replicate 3 (replicate 3 plus_zero)

-- sums and a block more; sums times x; a block less a drift
abbrev pub more : Sums → List Float → Sums
more s b = matrix (λ p. add binary64 (sum_in s p) (get_or b p nan))

abbrev pub scaled : Sums → Float → Sums
scaled s x = matrix (λ p. mul binary64 (sum_in s p) x)

abbrev pub less : List Float → Sums → List Float
less b d = nine (λ p. sub binary64 (get_or b p nan) (sum_in d p))

-- the mean of a block and another one transposed
abbrev pub averaged : List Float → List Float → List Float
averaged a b = nine (λ p. half (add binary64 (get_or a p nan) (get_or b (across_diagonal p) nan)))

-- the on-site block by the acoustic sum rule: -(s + s transposed) / 2
abbrev pub balance : Sums → List Float
balance s = nine (λ p. half (neg (add binary64 (sum_in s p) (sum_in s (across_diagonal p)))))

-- the mean transposed is that of the two exchanged
pub transposed-averaged : (a b : List Float) → transposed9 (averaged a b) ≡ averaged b a
transposed-averaged a b =
    rw (
      add_commutes binary64 (get_or a 0 nan) (get_or b 0 nan),
      add_commutes binary64 (get_or a 3 nan) (get_or b 1 nan),
      add_commutes binary64 (get_or a 6 nan) (get_or b 2 nan),
      add_commutes binary64 (get_or a 1 nan) (get_or b 3 nan),
      add_commutes binary64 (get_or a 4 nan) (get_or b 4 nan),
      add_commutes binary64 (get_or a 7 nan) (get_or b 5 nan),
      add_commutes binary64 (get_or a 2 nan) (get_or b 6 nan),
      add_commutes binary64 (get_or a 5 nan) (get_or b 7 nan),
      add_commutes binary64 (get_or a 8 nan) (get_or b 8 nan),
    ) refl

-- ---- place by place

nine-tab : (f : ℕ → Float) → nine f ≡ tab 9 f
unfolding tab tab_from
nine-tab f = refl

pub get_or-nine : (f : ℕ → Float) (p : ℕ) → p < 9 → get_or (nine f) p nan ≡ f p
get_or-nine f p h = ap (λ l. get_or l p nan) (nine-tab f) ∙ get_or-tab 9 f p nan h

matrix-tab : (f : ℕ → Float) → matrix f ≡ tab 3 (λ k. tab 3 (λ l. f (k * 3 + l)))
unfolding tab tab_from
matrix-tab f = refl

pub sum_in_lem : (f : ℕ → Float) (p : ℕ) → p < 9 → sum_in (matrix f) p ≡ f p
sum_in_lem f p h =
    ap (λ s. sum_in s p) (matrix-tab f)
    ∙ ap (λ r. get_or r (p % 3) nan) (get_or-tab 3 (λ k. tab 3 (λ l. f (k * 3 + l))) (p / 3) [] (omega arith))
    ∙ get_or-tab 3 (λ l. f (p / 3 * 3 + l)) (p % 3) nan (mod-lt p (lit< tt))
    ∙ ap f (div-add-mod' p 3)

-- the place q is number q % 9 of block q / 9
pub in_nine : (q : ℕ) → q % 9 < 9
in_nine q = mod-lt q (lit< tt)

pub own-place : (q b : ℕ) → q / 9 ≡ b → b * 9 + q % 9 ≡ q
own-place q b e = ap (λ n. n * 9 + q % 9) (sym e) ∙ div-add-mod' q 9

pub block_at : (b : ℕ) (xs : List Float) (q : ℕ) → q / 9 ≡ b → get_or (block 9 b xs) (q % 9) nan ≡ get_or xs q nan
block_at b xs q e = get_or-block 9 b xs (q % 9) (in_nine q) ∙ ap (λ n. get_or xs n nan) (own-place q b e)

pub transposed-below : (p : ℕ) → p < 9 → across_diagonal p < 9
transposed-below p h = omega arith

pub transposed-twice : (p : ℕ) → p < 9 → across_diagonal (across_diagonal p) ≡ p
transposed-twice p h = omega arith
