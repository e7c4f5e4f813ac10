-- The transposes are blocks worked over with their counterparts: `moved` for every block, `traded` for all but those that stay.
-- Assumes nothing.
use Rattle.std.specs.Prelude.{◌≡◌, Bool, false, not}
use Rattle.std.proofs.Math.Path.{refl, sym, ap, ap₂}
use Rattle.std.proofs.Common.{◌∙◌, suc-ne-zero, arith}
use Rattle.std.proofs.Math.Bool.{true, cond}
use Prim.Native.Nat.{ℕ, suc, ◌<◌}
use Rattle.std.proofs.Math.Dec.{eqb}
use mathlib.Core.List.{List, [], ◌∷◌, map}
use Rattle.std.proofs.Math.ListN.{length, get_or, length-map}
use borrow.Author.Tests.{eqb-true, eq-eqb, not-true}
use Rattle.lists.specs.Tests.{same_test, refuted, both, not-both, every, every-at, says}
use Rattle.lists.specs.Tab.{tab_ext, times}
use Rattle.lists.specs.Elements.{all-at, all_map, Below, pick, get_d_map, length-pick, all-pick}
use Rattle.lists.specs.Digits.{horner, times_power, rest, digits, rest_horner, digits-horner, rest_below, digits-below, length_digits}
use Rattle.tables.specs.Shifts.{Shifts, Laws, row, p2s_at, s2pp_at, nsym_at, is_null, nsym_p2s}
use Rattle.places.specs.Places.{Leg, atom, Place, at, fill, size, place, place-place, atoms-below}
use Rattle.places.specs.Permutations.{permute_legs, Permutation}
use Rattle.places.specs.Moves.{source, moved, stays, traded}
use Rattle.orbits.specs.Blockwise.{block_atoms, stored_atoms, opened_atoms, atoms_at}
use Rattle.orbits.specs.Counterparts.{visit, loop_leaves}
use Rattle.orbits.specs.Transposed.{counterpart, blocks_by, size_blocks, counterpart-below, counterpart-undo, paired, worked_is}

-- the number of the counterpart takes the place of one's own
abbrev pub the_other : {A : Type 0} → A → A → A
the_other x y = y

abbrev pub never : ℕ → Bool
never b = false

-- block b stays where leg i + 1 trades with leg 0
unfoldable pub stays_at : Shifts → ℕ → ℕ → ℕ → Bool
stays_at S m i b = stays S (rest S.n_satom m b) (get_or (digits S.n_satom m b) i 0)

-- σ exchanges leg 0 with leg i + 1
pub record Trades (m i : ℕ) (σ : List ℕ) : Type 0 where
  pub is_order : Permutation m σ
  pub leg : i < m
  pub first : get_or σ 0 0 ≡ suc i
  pub second : get_or σ (suc i) 0 ≡ 0
  pub twice : (xs : List Leg) → length xs ≡ suc m → permute_legs σ (permute_legs σ xs) ≡ xs

module _ (S : Shifts) (L : Laws S) where
  -- ---- every block

  module _ (m : ℕ) (σ : List ℕ) (o : Permutation m σ) (twice : (xs : List Leg) → length xs ≡ suc m → permute_legs σ (permute_legs σ xs) ≡ xs) {A : Type 0} (z : A) where
    pub moves : (old : List A) → length old ≡ size S m → times (times_power S.n_satom m S.n_patom) (visit z the_other (blocks_by S m σ never)) old ≡ moved z S m σ old
    unfolding moved
    moves old e =
        loop_leaves z the_other (blocks_by S m σ never) (paired S L m σ o twice z the_other never (λ b h. refl)) old (e ∙ size_blocks S m)
        ∙ worked_is S L m σ o twice z the_other never old

  -- ---- all but those that stay

  -- a pair that stays is its own counterpart
  stays-own : (p j : ℕ) → p < S.n_patom → j < S.n_satom → stays S p j ≡ true → (s2pp_at S j ≡ p) × (row S (nsym_at S j) (p2s_at S p) ≡ j)
  unfolding stays
  stays-own p j hp hj e =
      let (n, (u, v)) = simp says at e in
      (sym (L.s2pp-p2s (s2pp_at S j) (L.s2pp-below j hj)) ∙ ap (s2pp_at S) (sym (L.nsym_lands_lem j hj) ∙ u) ∙ L.s2pp-p2s p hp, v)

  -- how a program tells it: j is not p's representative, but belongs to p, and its row sends p's representative to j
  rep-moves : (p : ℕ) → p < S.n_patom → stays S p (p2s_at S p) ≡ true → ⊥
  unfolding stays is_null
  rep-moves p hp e =
      let (n, r) = simp says at e in
      let null : every S.n_satom (λ a. eqb (row S (nsym_at S (p2s_at S p)) a) a) ≡ true = simp says (λ a ha. nsym_p2s S L p a hp ha) in
      not-both null (not-true (every S.n_satom (λ a. eqb (row S (nsym_at S (p2s_at S p)) a) a)) n)

  stays_by : (p j : ℕ) → p < S.n_patom → j < S.n_satom → (p2s_at S p ≡ j → ⊥) → s2pp_at S j ≡ p → row S (nsym_at S j) (p2s_at S p) ≡ j → stays S p j ≡ true
  unfolding stays is_null
  stays_by p j hp hj n e f =
      let lands : row S (nsym_at S j) j ≡ p2s_at S p = L.nsym_lands_lem j hj ∙ ap (p2s_at S) e in
      both (not (every S.n_satom (λ a. eqb (row S (nsym_at S j) a) a))) _
      (rw (refuted (every S.n_satom (λ a. eqb (row S (nsym_at S j) a) a)) (λ t. n (sym lands ∙ eqb-true (row S (nsym_at S j) j) j (every-at S.n_satom (λ a. eqb (row S (nsym_at S j) a) a) t j hj)))))
      (both (eqb (row S (nsym_at S j) j) (p2s_at S p)) (eqb (row S (nsym_at S j) (p2s_at S p)) j) (eq-eqb (row S (nsym_at S j) j) (p2s_at S p) lands) (eq-eqb (row S (nsym_at S j) (p2s_at S p)) j f))

  pub stays-rep : (p j : ℕ) → p < S.n_patom → p2s_at S p ≡ j → stays S p j ≡ false
  stays-rep p j hp e = refuted (stays S p j) (λ t. rep-moves p hp (rw e t))

  pub stays-apart : (p j : ℕ) → p < S.n_patom → j < S.n_satom → (s2pp_at S j ≡ p → ⊥) → stays S p j ≡ false
  stays-apart p j hp hj n = refuted (stays S p j) (λ t. n (stays-own p j hp hj t).0)

  pub stays-told : (p j : ℕ) → p < S.n_patom → j < S.n_satom → (p2s_at S p ≡ j → ⊥) → s2pp_at S j ≡ p → eqb (row S (nsym_at S j) (p2s_at S p)) j ≡ stays S p j
  stays-told p j hp hj n e =
      same_test (eqb (row S (nsym_at S j) (p2s_at S p)) j) (stays S p j)
      (λ t. stays_by p j hp hj n e (eqb-true (row S (nsym_at S j) (p2s_at S p)) j t))
      (λ t. eq-eqb (row S (nsym_at S j) (p2s_at S p)) j (stays-own p j hp hj t).1)

  module _ (m i : ℕ) (σ : List ℕ) (T : Trades m i σ) where
    -- the atoms of block b that matter: its first, and that of leg i + 1
    abbrev first : ℕ → ℕ
    first b = rest S.n_satom m b

    abbrev partner : ℕ → ℕ
    partner b = get_or (digits S.n_satom m b) i 0

    module _ (b : ℕ) (h : b < times_power S.n_satom m S.n_patom) where
      hp : first b < S.n_patom
      hp = rest_below S.n_satom m S.n_patom b h

      hds : Below S.n_satom (digits S.n_satom m b)
      hds = digits-below S.n_satom m S.n_patom b h

      hj : partner b < S.n_satom
      hj = all-at (λ k. k < S.n_satom) (digits S.n_satom m b) i 0 hds (rw (length_digits S.n_satom m b) T.leg)

      -- the legs' atoms permuted by σ: leg i + 1 first, and leg 0's representative at i + 1
      abbrev atoms : List ℕ
      atoms = pick 0 σ (opened_atoms S (atoms_at S m b))

      atoms-length : length atoms ≡ suc m
      atoms-length = length-pick 0 σ (opened_atoms S (atoms_at S m b)) ∙ T.is_order.0

      opened_length : length (opened_atoms S (atoms_at S m b)) ≡ suc m
      unfolding opened_atoms atoms_at
      opened_length = ap suc (length_digits S.n_satom m b)

      atoms-fit : Below S.n_satom atoms
      unfolding opened_atoms atoms_at
      atoms-fit = all-pick 0 (λ k. k < S.n_satom) σ (opened_atoms S (atoms_at S m b)) (rw opened_length T.is_order.1) (L.p2s-below (first b) hp, hds)

      atoms-first : get_or atoms 0 0 ≡ partner b
      unfolding pick opened_atoms atoms_at
      atoms-first = get_d_map (λ k. get_or (opened_atoms S (atoms_at S m b)) k 0) σ 0 0 0 (rw T.is_order.0 (omega arith)) ∙ ap (λ k. get_or (opened_atoms S (atoms_at S m b)) k 0) T.first

      atoms-partner : get_or atoms (suc i) 0 ≡ p2s_at S (first b)
      unfolding pick opened_atoms atoms_at
      atoms-partner =
          let t = T.leg in
          get_d_map (λ k. get_or (opened_atoms S (atoms_at S m b)) k 0) σ (suc i) 0 0 (rw T.is_order.0 (omega arith)) ∙ ap (λ k. get_or (opened_atoms S (atoms_at S m b)) k 0) T.second

      -- first atom and leg i + 1 of the counterpart
      pub of_counterpart : (first (counterpart S m σ b) ≡ s2pp_at S (partner b)) × (partner (counterpart S m σ b) ≡ row S (nsym_at S (partner b)) (p2s_at S (first b)))
      unfolding counterpart
      of_counterpart = go atoms atoms-length atoms-fit atoms-first atoms-partner
        where
          spelled : (x : ℕ) (xs : List ℕ) → length xs ≡ m → Below S.n_satom (x ∷ xs) → x ≡ partner b → get_or xs i 0 ≡ p2s_at S (first b)
              → (first (block_atoms S (stored_atoms S (x ∷ xs))) ≡ s2pp_at S (partner b)) × (partner (block_atoms S (stored_atoms S (x ∷ xs))) ≡ row S (nsym_at S (partner b)) (p2s_at S (first b)))
          spelled x xs l f u v =
              let ys = map (row S (nsym_at S x)) xs in
              let ly : length ys ≡ m = length-map xs _ ∙ l in
              let by : Below S.n_satom ys = all_map (λ k. k < S.n_satom) (λ k. k < S.n_satom) (row S (nsym_at S x)) xs (λ k hk. L.row_below (nsym_at S x) k (L.nsym_below x f.0) hk) f.1 in
              let e : block_atoms S (stored_atoms S (x ∷ xs)) ≡ horner S.n_satom (s2pp_at S x) ys = unfold block_atoms stored_atoms in refl in (
                ap first e ∙ (rw ly at (rest_horner S.n_satom (s2pp_at S x) ys by)) ∙ ap (s2pp_at S) u,
                ap partner e ∙ ap (λ l. get_or l i 0) (rw ly at (digits-horner S.n_satom (s2pp_at S x) ys by))
                    ∙ get_d_map (row S (nsym_at S x)) xs i 0 0 (rw l T.leg) ∙ ap₂ (λ a k. row S (nsym_at S a) k) u v,
              )

          go : (xs : List ℕ) → length xs ≡ suc m → Below S.n_satom xs → get_or xs 0 0 ≡ partner b → get_or xs (suc i) 0 ≡ p2s_at S (first b)
              → (first (block_atoms S (stored_atoms S xs)) ≡ s2pp_at S (partner b)) × (partner (block_atoms S (stored_atoms S xs)) ≡ row S (nsym_at S (partner b)) (p2s_at S (first b)))
          go [] l f u v = absurd (suc-ne-zero _ (sym l))
          go (x ∷ xs) l f u v = spelled x xs (omega arith) f u v

    -- a block stays where its counterpart does
    pub stays-both : (b : ℕ) → b < times_power S.n_satom m S.n_patom → stays_at S m i (counterpart S m σ b) ≡ stays_at S m i b
    unfolding stays_at
    stays-both b h =
        let c = counterpart S m σ b in
        let hc = counterpart-below S L m σ T.is_order b h in
        let (f, g) = of_counterpart b h in
        let (u, v) = of_counterpart c hc in
        let back = counterpart-undo S L m σ T.is_order T.twice b h in
        same_test (stays S (first c) (partner c)) (stays S (first b) (partner b))
        (λ e.
        let (p, q) = stays-own (first c) (partner c) (hp c hc) (hj c hc) e in
        let fb : first c ≡ first b = sym p ∙ sym u ∙ ap first back in
        let pb : partner c ≡ partner b = sym q ∙ sym v ∙ ap partner back in
        rw (fb, pb) at e)
        (λ e.
        let (p, q) = stays-own (first b) (partner b) (hp b h) (hj b h) e in
        rw (f ∙ p, g ∙ q) e)

    -- where the blocks stay, said of places
    stays-place : (ys : List Leg) → Place S m ys → stays_at S m i (block_atoms S (map atom ys)) ≡ stays S (atom (get_or ys 0 (0, 0))) (atom (get_or ys (suc i) (0, 0)))
    unfolding stays_at block_atoms
    stays-place [] p = absurd p
    stays-place (y ∷ ys) p =
        let ks = map atom ys in
        let l : length ks ≡ m = length-map ys atom ∙ p.0 in
        let b = atoms-below S m ys p.3 in
        ap₂ (stays S)
        (rw l at (rest_horner S.n_satom (atom y) ks b))
        (ap (λ l. get_or l i 0) (rw l at (digits-horner S.n_satom (atom y) ks b)) ∙ get_d_map atom ys i (0, 0) 0 (rw p.0 T.leg))

    module _ {A : Type 0} (z : A) where
      pub trades : (old : List A) → length old ≡ size S m
          → times (times_power S.n_satom m S.n_patom) (visit z the_other (blocks_by S m σ (stays_at S m i))) old ≡ traded z S m (suc i) σ old
      unfolding traded fill
      trades old e =
          loop_leaves z the_other (blocks_by S m σ (stays_at S m i)) (paired S L m σ T.is_order T.twice z the_other (stays_at S m i) stays-both) old (e ∙ size_blocks S m)
          ∙ worked_is S L m σ T.is_order T.twice z the_other (stays_at S m i) old
          ∙ tab_ext z (size S m) _ _ (λ q h.
          ap (λ s. cond s (at z S old (place S m q)) (at z S old (source S σ (place S m q)))) (stays-place (place S m q) (place-place S m q h)))
