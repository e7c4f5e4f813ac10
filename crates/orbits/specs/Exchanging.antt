-- The permutation that exchanges two legs, chosen by their numbers, at every rank. Assumes nothing.
use Rattle.std.specs.Prelude.{◌≡◌, refl, cond, ℕ, zero, suc, ◌+◌, ◌<◌, List, length, eqb}
use Rattle.std.proofs.Common.{sym, ◌∙◌, eq-eqb, ne_eqb}
use Rattle.std.proofs.Math.Path.{ap}
use Rattle.std.proofs.Math.Decide.{ℕ_discrete}
use native.Mathlib.Omega.{arith}
use Rattle.std.proofs.Math.ListN.{get_or}
use Rattle.lists.specs.Tab.{tab, tab_from, length-tab, get_or-tab, is_tab}
use Rattle.lists.specs.Elements.{Below, pick, length-pick, get_d_map, pick-pick, straight, pick-straight}
use Rattle.places.specs.Places.{Leg}
use Rattle.places.specs.Permutations.{permute_legs, Permutation}

-- the leg that comes to stand at leg k
unfoldable pub partner : ℕ → ℕ → ℕ → ℕ
partner u v k = cond (eqb k u) v (cond (eqb k v) u k)

-- the permutation of m + 1 legs
unfoldable pub exchanging : ℕ → ℕ → ℕ → List ℕ
exchanging m u v = tab (suc m) (partner u v)

-- ---- laws

pub partner-below : (n u v k : ℕ) → u < n → v < n → k < n → partner u v k < n
unfolding partner
partner-below n u v k hu hv hk = go (ℕ_discrete k u) (ℕ_discrete k v)
  where
    go : Dec (k ≡ u) → Dec (k ≡ v) → cond (eqb k u) v (cond (eqb k v) u k) < n
    go (yes e) d = rw (eq-eqb k u e) hv
    go (no e) (yes d) = rw (ne_eqb k u e, eq-eqb k v d) hu
    go (no e) (no d) = rw (ne_eqb k u e, ne_eqb k v d) hk

-- at the legs themselves, and elsewhere
pub partner-one : (u v k : ℕ) → k ≡ u → partner u v k ≡ v
unfolding partner
partner-one u v k e = rw (eq-eqb k u e)

pub partner-two : (u v k : ℕ) → (k ≡ u → ⊥) → k ≡ v → partner u v k ≡ u
unfolding partner
partner-two u v k n e = rw (ne_eqb k u n, eq-eqb k v e)

pub partner_else : (u v k : ℕ) → (k ≡ u → ⊥) → (k ≡ v → ⊥) → partner u v k ≡ k
unfolding partner
partner_else u v k n e = rw (ne_eqb k u n, ne_eqb k v e)

pub partner-undo : (u v k : ℕ) → partner u v (partner u v k) ≡ k
partner-undo u v k = go (ℕ_discrete k u) (ℕ_discrete k v) (ℕ_discrete v u)
  where
    go : Dec (k ≡ u) → Dec (k ≡ v) → Dec (v ≡ u) → partner u v (partner u v k) ≡ k
    go (yes e) d (yes f) = ap (partner u v) (partner-one u v k e) ∙ partner-one u v v f ∙ f ∙ sym e
    go (yes e) d (no f) = ap (partner u v) (partner-one u v k e) ∙ partner-two u v v f refl ∙ sym e
    go (no e) (yes d) f = ap (partner u v) (partner-two u v k e d) ∙ partner-one u v u refl ∙ sym d
    go (no e) (no d) f = ap (partner u v) (partner_else u v k e d) ∙ partner_else u v k e d

-- equal legs: nothing is exchanged
pub partner-same : (u v k : ℕ) → u ≡ v → partner u v k ≡ k
partner-same u v k e = go (ℕ_discrete k u) (ℕ_discrete k v)
  where
    go : Dec (k ≡ u) → Dec (k ≡ v) → partner u v k ≡ k
    go (yes f) d = partner-one u v k f ∙ sym e ∙ sym f
    go (no f) (yes d) = absurd (f (d ∙ sym e))
    go (no f) (no d) = partner_else u v k f d

below-tab : (b i n : ℕ) (f : ℕ → ℕ) → ((k : ℕ) → k < n → f (i + k) < b) → Below b (tab_from i n f)
unfolding tab_from
below-tab b i zero f g = tt
below-tab b i (suc n) f g =
    let e : i + 0 ≡ i = omega arith in
    (rw e at (g 0 (omega arith)), below-tab b (suc i) n f (λ k l. let e : i + suc k ≡ suc i + k = omega arith in rw e at (g (suc k) (omega arith))))

module _ (m u v : ℕ) where
  pub length-exchanging : length (exchanging m u v) ≡ suc m
  unfolding exchanging
  length-exchanging = length-tab (suc m) (partner u v)

  exchanging-below : u < suc m → v < suc m → Below (suc m) (exchanging m u v)
  unfolding exchanging tab
  exchanging-below hu hv = below-tab (suc m) 0 (suc m) (partner u v) (λ k h. let e : 0 + k ≡ k = omega arith in rw e (partner-below (suc m) u v k hu hv h))

  pub exchanging_permutes : u < suc m → v < suc m → Permutation m (exchanging m u v)
  exchanging_permutes hu hv = (length-exchanging, exchanging-below hu hv)

  undone-at : u < suc m → v < suc m → (k : ℕ) → k < suc m → get_or (pick 0 (exchanging m u v) (exchanging m u v)) k 0 ≡ k
  unfolding pick exchanging
  undone-at hu hv k h =
      get_d_map (λ k. get_or (tab (suc m) (partner u v)) k 0) (tab (suc m) (partner u v)) k 0 0 (rw (length-tab (suc m) (partner u v)) h)
      ∙ ap (λ k. get_or (tab (suc m) (partner u v)) k 0) (get_or-tab (suc m) (partner u v) k 0 h)
      ∙ get_or-tab (suc m) (partner u v) (partner u v k) 0 (partner-below (suc m) u v k hu hv h) ∙ partner-undo u v k

  pub exchanging-undone : u < suc m → v < suc m → pick 0 (exchanging m u v) (exchanging m u v) ≡ straight (suc m)
  unfolding straight
  exchanging-undone hu hv =
      is_tab 0 (suc m) (λ k. k) (pick 0 (exchanging m u v) (exchanging m u v)) (length-pick 0 (exchanging m u v) (exchanging m u v) ∙ length-exchanging) (undone-at hu hv)

  pub exchanging-twice : u < suc m → v < suc m → (xs : List Leg) → length xs ≡ suc m → permute_legs (exchanging m u v) (permute_legs (exchanging m u v) xs) ≡ xs
  exchanging-twice hu hv xs l =
      let o = exchanging_permutes hu hv in
      pick-pick (0, 0) (exchanging m u v) (exchanging m u v) xs (rw o.0 o.1) ∙ ap (λ o. permute_legs o xs) (exchanging-undone hu hv) ∙ pick-straight (0, 0) (suc m) xs l

  pub exchanging-same : u ≡ v → exchanging m u v ≡ straight (suc m)
  unfolding straight exchanging
  exchanging-same e = is_tab 0 (suc m) (λ k. k) (tab (suc m) (partner u v)) (length-tab (suc m) (partner u v)) (λ k h. get_or-tab (suc m) (partner u v) k 0 h ∙ partner-same u v k e)

-- the permutation that changes nothing
pub straight_permutes : (m : ℕ) → Permutation m (straight (suc m))
straight_permutes m = rw (exchanging-same m 0 0 refl) at (exchanging_permutes m 0 0 (omega arith) (omega arith))
