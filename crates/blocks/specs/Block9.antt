-- Nine numbers as a block: written out, transposed, and three blocks of nine as one of 27. Assumes nothing.
use Rattle.std.specs.Prelude.{◌≡◌, refl, List, [], ◌∷◌, ℕ, ◌+◌, ◌*◌, ◌/◌, ◌%◌, get_or, Float}
use Rattle.std.proofs.Common.{ap, arith}
use Rattle.std.specs.Float.{nan}
use Rattle.lists.specs.Tab.{tab, tab_from, tab_ext}
use Rattle.blocks.specs.Block.{block}

-- nine numbers, a block's
abbrev pub nine : (ℕ → Float) → List Float
nine f = f 0 ∷ f 1 ∷ f 2 ∷ f 3 ∷ f 4 ∷ f 5 ∷ f 6 ∷ f 7 ∷ f 8 ∷ []

-- the place of row a, column b holds in the transposed block what stood at row b, column a
abbrev pub across_diagonal : ℕ → ℕ
across_diagonal p = p % 3 * 3 + p / 3

-- a 3 by 3 block or matrix with rows and columns exchanged
abbrev pub transposed9 : List Float → List Float
transposed9 b = nine (λ p. get_or b (across_diagonal p) nan)

-- the nine numbers of x and then those of l
abbrev pub nine_then : List Float → List Float → List Float
nine_then x l = get_or x 0 nan ∷ get_or x 1 nan ∷ get_or x 2 nan ∷ get_or x 3 nan ∷ get_or x 4 nan ∷ get_or x 5 nan ∷ get_or x 6 nan ∷ get_or x 7 nan ∷ get_or x 8 nan ∷ l

-- three blocks of nine as one of 27
abbrev pub joined27 : List Float → List Float → List Float → List Float
joined27 x y z = nine_then x (nine_then y (nine_then z []))

joined-tab : (f : ℕ → Float) → joined27 (tab 9 (λ k. f (0 + k))) (tab 9 (λ k. f (9 + k))) (tab 9 (λ k. f (18 + k))) ≡ tab 27 f
unfolding tab tab_from
joined-tab f = refl

-- blocks 3 b, 3 b + 1 and 3 b + 2 of nine are block b of 27
pub joined-block : {x y z : List Float} (b : ℕ) (xs : List Float) → x ≡ block 9 (b * 3) xs → y ≡ block 9 (b * 3 + 1) xs → z ≡ block 9 (b * 3 + 2) xs
    → joined27 x y z ≡ block 27 b xs
unfolding block
joined-block b xs ex ey ez =
    let f : ℕ → Float = λ k. get_or xs (b * 27 + k) nan in
    let part : (i d : ℕ) → i * 9 ≡ b * 27 + d → tab 9 (λ k. get_or xs (i * 9 + k) nan) ≡ tab 9 (λ k. f (d + k)) = λ i d e.
    tab_ext nan 9 _ _ (λ k h. ap (λ q. get_or xs q nan) (moved i d k e)) in
    let e0 : b * 3 * 9 ≡ b * 27 + 0 = omega arith in
    let e1 : (b * 3 + 1) * 9 ≡ b * 27 + 9 = omega arith in
    let e2 : (b * 3 + 2) * 9 ≡ b * 27 + 18 = omega arith in
    rw (ex, ey, ez, part (b * 3) 0 e0, part (b * 3 + 1) 9 e1, part (b * 3 + 2) 18 e2) (joined-tab f)
  where
    moved : (i d k : ℕ) → i * 9 ≡ b * 27 + d → i * 9 + k ≡ b * 27 + (d + k)
    moved i d k e = omega arith
