-- The 27 numbers of a block with their directions permuted, written out and by their rule. Assumes nothing.
use Rattle.std.specs.Prelude.{◌≡◌, List, [], ◌∷◌, ℕ, zero, suc, Float}
use Rattle.std.proofs.Math.Path.{refl, ap}
use Rattle.std.proofs.Common.{◌∙◌}
use Rattle.std.proofs.Math.ListN.{get_or}
use Rattle.std.specs.Float.Ieee.{nan}
use Rattle.lists.specs.Tab.{tab, tab_from}
use Rattle.lists.specs.Elements.{pick}
use Rattle.lists.specs.Digits.{horner, rest, digits}

-- where position k of a block of m + 1 legs stands once its directions are taken in the order σ
unfoldable pub permuted : ℕ → List ℕ → ℕ → ℕ
permuted m σ k = horner 3 0 (pick 0 σ (digits 3 (suc m) k))

-- a block of w numbers whose position k holds what stood at position τ k: with τ = permuted m σ its directions are permuted
unfoldable pub permuted_block : ℕ → (ℕ → ℕ) → List Float → List Float
permuted_block w τ v = tab w (λ k. get_or v (τ k) nan)

-- the numbers of v at the places ks
abbrev pub gathered : List Float → List ℕ → List Float
gathered v [] = []
gathered v (k ∷ ks) = get_or v k nan ∷ gathered v ks

pub gathered-tab : (v : List Float) (n : ℕ) (f : ℕ → ℕ) → gathered v (tab n f) ≡ tab n (λ k. get_or v (f k) nan)
unfolding tab
gathered-tab v n f = from 0 n
  where
    from : (i n : ℕ) → gathered v (tab_from i n f) ≡ tab_from i n (λ k. get_or v (f k) nan)
    from i zero = unfold tab_from in refl
    from i (suc n) = unfold tab_from in ap (λ l. get_or v (f i) nan ∷ l) (from (suc i) n)

-- (l, m, n) at (l, n, m), and so on: the places of the 27 numbers
abbrev pub lnm : List ℕ
lnm = 0 ∷ 3 ∷ 6 ∷ 1 ∷ 4 ∷ 7 ∷ 2 ∷ 5 ∷ 8 ∷ 9 ∷ 12 ∷ 15 ∷ 10 ∷ 13 ∷ 16 ∷ 11 ∷ 14 ∷ 17 ∷ 18 ∷ 21 ∷ 24 ∷ 19 ∷ 22 ∷ 25 ∷ 20 ∷ 23 ∷ 26 ∷ []

abbrev pub mln : List ℕ
mln = 0 ∷ 1 ∷ 2 ∷ 9 ∷ 10 ∷ 11 ∷ 18 ∷ 19 ∷ 20 ∷ 3 ∷ 4 ∷ 5 ∷ 12 ∷ 13 ∷ 14 ∷ 21 ∷ 22 ∷ 23 ∷ 6 ∷ 7 ∷ 8 ∷ 15 ∷ 16 ∷ 17 ∷ 24 ∷ 25 ∷ 26 ∷ []

abbrev pub mnl : List ℕ
mnl = 0 ∷ 3 ∷ 6 ∷ 9 ∷ 12 ∷ 15 ∷ 18 ∷ 21 ∷ 24 ∷ 1 ∷ 4 ∷ 7 ∷ 10 ∷ 13 ∷ 16 ∷ 19 ∷ 22 ∷ 25 ∷ 2 ∷ 5 ∷ 8 ∷ 11 ∷ 14 ∷ 17 ∷ 20 ∷ 23 ∷ 26 ∷ []

abbrev pub nlm : List ℕ
nlm = 0 ∷ 9 ∷ 18 ∷ 1 ∷ 10 ∷ 19 ∷ 2 ∷ 11 ∷ 20 ∷ 3 ∷ 12 ∷ 21 ∷ 4 ∷ 13 ∷ 22 ∷ 5 ∷ 14 ∷ 23 ∷ 6 ∷ 15 ∷ 24 ∷ 7 ∷ 16 ∷ 25 ∷ 8 ∷ 17 ∷ 26 ∷ []

abbrev pub nml : List ℕ
nml = 0 ∷ 9 ∷ 18 ∷ 3 ∷ 12 ∷ 21 ∷ 6 ∷ 15 ∷ 24 ∷ 1 ∷ 10 ∷ 19 ∷ 4 ∷ 13 ∷ 22 ∷ 7 ∷ 16 ∷ 25 ∷ 2 ∷ 11 ∷ 20 ∷ 5 ∷ 14 ∷ 23 ∷ 8 ∷ 17 ∷ 26 ∷ []

-- they are what the order of the legs says
pub lnm_is : (v : List Float) → gathered v lnm ≡ tab 27 (λ k. get_or v (permuted 2 (0 ∷ 2 ∷ 1 ∷ []) k) nan)
lnm_is v = ap (gathered v) places ∙ gathered-tab v 27 (permuted 2 (0 ∷ 2 ∷ 1 ∷ []))
  where
    places : lnm ≡ tab 27 (permuted 2 (0 ∷ 2 ∷ 1 ∷ []))
    places = unfold tab tab_from permuted horner pick rest digits in refl

pub mln_is : (v : List Float) → gathered v mln ≡ tab 27 (λ k. get_or v (permuted 2 (1 ∷ 0 ∷ 2 ∷ []) k) nan)
mln_is v = ap (gathered v) places ∙ gathered-tab v 27 (permuted 2 (1 ∷ 0 ∷ 2 ∷ []))
  where
    places : mln ≡ tab 27 (permuted 2 (1 ∷ 0 ∷ 2 ∷ []))
    places = unfold tab tab_from permuted horner pick rest digits in refl

pub mnl_is : (v : List Float) → gathered v mnl ≡ tab 27 (λ k. get_or v (permuted 2 (1 ∷ 2 ∷ 0 ∷ []) k) nan)
mnl_is v = ap (gathered v) places ∙ gathered-tab v 27 (permuted 2 (1 ∷ 2 ∷ 0 ∷ []))
  where
    places : mnl ≡ tab 27 (permuted 2 (1 ∷ 2 ∷ 0 ∷ []))
    places = unfold tab tab_from permuted horner pick rest digits in refl

pub nlm_is : (v : List Float) → gathered v nlm ≡ tab 27 (λ k. get_or v (permuted 2 (2 ∷ 0 ∷ 1 ∷ []) k) nan)
nlm_is v = ap (gathered v) places ∙ gathered-tab v 27 (permuted 2 (2 ∷ 0 ∷ 1 ∷ []))
  where
    places : nlm ≡ tab 27 (permuted 2 (2 ∷ 0 ∷ 1 ∷ []))
    places = unfold tab tab_from permuted horner pick rest digits in refl

pub nml_is : (v : List Float) → gathered v nml ≡ tab 27 (λ k. get_or v (permuted 2 (2 ∷ 1 ∷ 0 ∷ []) k) nan)
nml_is v = ap (gathered v) places ∙ gathered-tab v 27 (permuted 2 (2 ∷ 1 ∷ 0 ∷ []))
  where
    places : nml ≡ tab 27 (permuted 2 (2 ∷ 1 ∷ 0 ∷ []))
    places = unfold tab tab_from permuted horner pick rest digits in refl
