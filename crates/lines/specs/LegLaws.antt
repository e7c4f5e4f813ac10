-- Sets of second order by the numbers of their places: place q is number q % 9 of block q / 9, which is that of atom q / 9 / n_satom of the
-- first leg and atom q / 9 % n_satom of the second. Assumes nothing.
use Rattle.std.specs.Prelude.{◌≡◌, List, [], ◌∷◌, ℕ, ◌+◌, ◌*◌, ◌/◌, ◌%◌, ◌<◌, Float}
use Rattle.std.proofs.Math.Path.{ap}
use Rattle.std.proofs.Common.{ap₂, ◌∙◌, div-add-mod', arith}
use Rattle.std.proofs.Math.Nat.{div-div-eq-div-mul}
use Rattle.std.proofs.Math.ListN.{get_or}
use Rattle.std.specs.Float.{nan}
use Rattle.lists.specs.Tab.{tab, tab_ext}
use Rattle.lists.specs.Digits.{horner, rest, digits}
use Rattle.tables.specs.Shifts.{Shifts}
use Rattle.places.specs.Places.{Leg, at, place, legs_of, fill}
use Rattle.places.specs.Addresses.{size2, address2-block}

place_is : (S : Shifts) (q : ℕ) → place S 1 q ≡ (q / 9 / S.n_satom, q % 9 / 3) ∷ (q / 9 % S.n_satom, q % 9 % 3) ∷ []
unfolding place legs_of rest digits
place_is S q =
    let a : q / 3 / 3 ≡ q / 9 = div-div-eq-div-mul q 3 3 in
    let b : q / 3 % 3 ≡ q % 9 / 3 = omega arith in
    let c : q % 3 ≡ q % 9 % 3 = omega arith in
    rw (a, b, c)

-- a set that is given place by place
pub fill_is : (S : Shifts) (f : List Leg → Float) (g : ℕ → Float)
    → ((q : ℕ) → q < S.n_patom * S.n_satom * 9 → f ((q / 9 / S.n_satom, q % 9 / 3) ∷ (q / 9 % S.n_satom, q % 9 % 3) ∷ []) ≡ g q)
    → fill S 1 f ≡ tab (S.n_patom * S.n_satom * 9) g
unfolding fill
fill_is S f g h =
    ap (λ s. tab s (λ q. f (place S 1 q))) (size2 S)
    ∙ tab_ext nan (S.n_patom * S.n_satom * 9) (λ q. f (place S 1 q)) g (λ q l. ap f (place_is S q) ∙ h q l)

module _ (S : Shifts) (set : List Float) where
  pub at_is : (p k j l : ℕ) → at nan S set ((p, k) ∷ (j, l) ∷ []) ≡ get_or set ((p * S.n_satom + j) * 9 + (k * 3 + l)) nan
  unfolding at horner
  at_is p k j l = ap (λ q. get_or set q nan) (address2-block S p j 0 0 k l 0 0)

  -- the number at its own place
  pub own_at : (q : ℕ) → at nan S set ((q / 9 / S.n_satom, q % 9 / 3) ∷ (q / 9 % S.n_satom, q % 9 % 3) ∷ []) ≡ get_or set q nan
  own_at q =
      at_is (q / 9 / S.n_satom) (q % 9 / 3) (q / 9 % S.n_satom) (q % 9 % 3)
      ∙ ap (λ k. get_or set k nan) (ap₂ (λ b p. b * 9 + p) (div-add-mod' (q / 9) S.n_satom) (div-add-mod' (q % 9) 3) ∙ div-add-mod' q 9)
