-- A compact set with its legs permuted: what every transpose leaves, at every rank. Assumes nothing.
use Rattle.std.specs.Prelude.{◌≡◌, Bool, not, ◌&&◌, length, get_or, eqb}
use Rattle.std.proofs.Common.{sym, ◌∙◌, suc-ne-zero}
use Rattle.std.proofs.Math.Path.{ap}
use Rattle.std.proofs.Math.Bool.{true, false, cond}
use Prim.Native.Nat.{ℕ, zero, suc, ◌<◌}
use mathlib.Core.List.{List, [], ◌∷◌}
use Rattle.std.proofs.lemmas.Bool.{not-true}
use Rattle.lists.specs.Tests.{not-both, refuted, says}
use Rattle.lists.specs.Elements.{all-at, pick-map, straight}
use Rattle.tables.specs.Shifts.{Shifts, Laws, NoHalfShift, row, p2s_at, nsym_at, is_null, swaps-null}
use Rattle.places.specs.Places.{Leg, atom, dir, Fit, Legs, Place, shift, stored, legs_at, at, fill, size, length-fill, stored-shift, opened_stored}
use Rattle.places.specs.Permutations.{taken_legs}
pub use Rattle.places.specs.Permutations.{permute_legs, Permutation}

-- ---- the set moved by a permutation of the legs: the true transpose

-- the place whose number comes to stand at ys
unfoldable pub source : Shifts → List ℕ → List Leg → List Leg
source S σ ys = stored S (permute_legs σ (legs_at S ys))

module _ {A : Type 0} (z : A) where
  unfoldable pub moved : Shifts → ℕ → List ℕ → List A → List A
  moved S m σ set = fill S m (λ ys. at z S set (source S σ ys))

-- ---- the Rust's transposes: what they leave where a half shift exchanges the atoms is not the true transpose

-- The block stays (document 01): row nsym_list[j] exchanges atom j with p2s[p] and is not the identity.
unfoldable pub stays : Shifts → ℕ → ℕ → Bool
stays S p j = not (is_null S (nsym_at S j)) && (eqb (row S (nsym_at S j) j) (p2s_at S p) && eqb (row S (nsym_at S j) (p2s_at S p)) j)

-- The permutation of the legs that type t of third order is: it exchanges legs 0 and 1, 0 and 2, or 1 and 2; other types change
-- nothing. Document 01 calls it the order that a list of transposes spells.
unfoldable pub order : ℕ → List ℕ
order zero = 1 ∷ 0 ∷ 2 ∷ []
order (suc zero) = 2 ∷ 1 ∷ 0 ∷ []
order (suc (suc zero)) = 0 ∷ 2 ∷ 1 ∷ []
order (suc (suc (suc t))) = straight 3

-- the same at fourth order, where only type 0 has a meaning: pairs 0 and 1
unfoldable pub order4 : ℕ → List ℕ
order4 zero = 1 ∷ 0 ∷ 2 ∷ 3 ∷ []
order4 (suc t) = straight 4

-- and at second order
abbrev pub order2 : List ℕ
order2 = 1 ∷ 0 ∷ []

module _ {A : Type 0} (z : A) where
  -- leg 0 trades with leg k, but the blocks that stay
  unfoldable pub traded : Shifts → ℕ → ℕ → List ℕ → List A → List A
  traded S m k σ set =
      fill S m (λ ys. cond (stays S (atom (get_or ys 0 (0, 0))) (atom (get_or ys k (0, 0)))) (at z S set ys) (at z S set (source S σ ys)))

  -- transpose_compact_fc3
  unfoldable pub transposed : Shifts → ℕ → List A → List A
  transposed S zero set = traded S 2 1 (order 0) set
  transposed S (suc zero) set = traded S 2 2 (order 1) set
  transposed S (suc (suc zero)) set = moved z S 2 (order 2) set
  transposed S (suc (suc (suc t))) set = set

  -- transpose_compact_fc4
  unfoldable pub transposed4 : Shifts → ℕ → List A → List A
  transposed4 S zero set = traded S 3 1 (order4 0) set
  transposed4 S (suc t) set = set

  -- the transpose of second order
  unfoldable pub transposed2 : Shifts → List A → List A
  transposed2 S set = traded S 1 1 order2 set

-- ---- laws

module _ {A : Type 0} (z : A) (S : Shifts) where
  pub length_moved : (m : ℕ) (σ : List ℕ) (set : List A) → length (moved z S m σ set) ≡ size S m
  unfolding moved
  length_moved m σ set = length-fill S m _

module _ (S : Shifts) (L : Laws S) where
  -- to permute the place is to permute the legs
  pub source-stored : (m : ℕ) (σ : List ℕ) (xs : List Leg) → Permutation m σ → Legs S m xs → source S σ (stored S xs) ≡ stored S (permute_legs σ xs)
  unfolding source
  source-stored m σ [] o p = absurd (suc-ne-zero _ (sym p.0))
  source-stored m σ (x ∷ xs) o p =
      let t = nsym_at S (atom x) in
      let hx = p.1.0.0 in
      let e : permute_legs σ (shift S t (x ∷ xs)) ≡ shift S t (permute_legs σ (x ∷ xs)) =
      unfold shift in pick-map (0, 0) (0, 0) (λ x. (row S t (atom x), dir x)) σ (x ∷ xs) (rw p.0 o.1) in
      ap (λ l. stored S (permute_legs σ l)) (opened_stored S L x xs hx)
      ∙ ap (stored S) e ∙ stored-shift S L t (permute_legs σ (x ∷ xs)) (L.nsym_below (atom x) hx) (taken_legs S m σ (x ∷ xs) o p).1

  -- without half shifts no block stays
  pub none_stays : NoHalfShift S → (p j : ℕ) → p < S.n_patom → j < S.n_satom → stays S p j ≡ false
  unfolding stays is_null
  none_stays nh p j hp hj =
      refuted (stays S p j) (λ e.
      let (n, (a, b)) = simp says at e in
      let null : is_null S (nsym_at S j) ≡ true = simp says (λ c hc. swaps-null S L nh (nsym_at S j) j (p2s_at S p) (L.nsym_below j hj) hj a b c hc) in
      not-both null (not-true (is_null S (nsym_at S j)) n))

  -- ---- the atoms of a place's legs

  pub place-first : (m : ℕ) (ys : List Leg) → Place S m ys → atom (get_or ys 0 (0, 0)) < S.n_patom
  place-first m [] p = absurd p
  place-first m (y ∷ ys) p = p.1

  pub place_other : (m k : ℕ) (ys : List Leg) → k < m → Place S m ys → atom (get_or ys (suc k) (0, 0)) < S.n_satom
  place_other m k [] h p = absurd p
  place_other m k (y ∷ ys) h p = (all-at (Fit S) ys k (0, 0) p.3 (rw p.0 h)).0
