-- Lists of calls that each permute the legs: what the whole list leaves is told by the order that it spells (document 01's word for the
-- permutation that the calls make together). For any calls and any rank. Assumes nothing.
use Rattle.std.specs.Prelude.{◌≡◌, refl, ℕ, suc, ◌<◌, length}
use Rattle.std.proofs.Common.{sym, ◌∙◌}
use Rattle.std.proofs.Math.Path.{ap}
use mathlib.Core.List.{List, [], ◌∷◌}
use Rattle.tables.specs.Shifts.{Shifts}
use Rattle.lists.specs.Elements.{All, pick, pick-pick, length-pick, all-pick}
use Rattle.places.specs.Places.{Leg, Legs, read_out, size}
use Rattle.places.specs.Permutations.{permute_legs, Permutation, taken_legs}

-- ---- any calls

-- What is asked of one call: it leaves the set's numbers at the legs permuted by σ, and σ undoes itself.
pub record Step {A : Type 0} (z : A) (S : Shifts) (m : ℕ) (σ : List ℕ) (f : List A → List A) : Type 0 where
  pub is_permutation : Permutation m σ
  pub twice : (xs : List Leg) → Legs S m xs → permute_legs σ (permute_legs σ xs) ≡ xs
  pub keeps : (set : List A) → length set ≡ size S m → length (f set) ≡ size S m
  pub reads : (set : List A) (xs : List Leg) → length set ≡ size S m → Legs S m xs → read_out z S (f set) xs ≡ read_out z S set (permute_legs σ xs)

-- what the calls leave
unfoldable pub leaves : {A C : Type 0} → (C → List A → List A) → List C → List A → List A
leaves run [] set = set
leaves run (c ∷ cs) set = leaves run cs (run c set)

-- the order that they spell, from o on: each exchanges o's numbers as it exchanges legs
unfoldable pub spells : {C : Type 0} → (C → List ℕ) → List C → List ℕ → List ℕ
spells permute [] o = o
spells permute (c ∷ cs) o = spells permute cs (pick 0 (permute c) o)

-- legs 0 and 1, and then legs 1 and 2
pub spells-two : spells (λ (o : List ℕ). o) ((1 ∷ 0 ∷ 2 ∷ []) ∷ (0 ∷ 2 ∷ 1 ∷ []) ∷ []) (0 ∷ 1 ∷ 2 ∷ []) ≡ 1 ∷ 2 ∷ 0 ∷ []
unfolding spells pick
spells-two = refl

module _ {A C : Type 0} (z : A) (S : Shifts) (m : ℕ) (permute : C → List ℕ) (run : C → List A → List A) where
  -- each call of the list is such a step
  abbrev pub Steps : List C → Type 0
  Steps cs = All (λ c. Step z S m (permute c) (run c)) cs

  -- o is a permutation by which every choice of legs is reached
  pub record Onto (o : List ℕ) : Type 0 where
    pub is_permutation : Permutation m o
    pub onto : (ys : List Leg) → Legs S m ys → (xs : List Leg) × Legs S m xs × (permute_legs o xs ≡ ys)

  next : (c : C) (o : List ℕ) → Step z S m (permute c) (run c) → Onto o → Onto (pick 0 (permute c) o)
  next c o s h = record {
    is_permutation = (length-pick 0 (permute c) o ∙ s.is_permutation.0, all-pick 0 (λ k. k < suc m) (permute c) o (rw h.is_permutation.0 s.is_permutation.1) h.is_permutation.1);
    onto = λ ys p.
        let (xs, q, e) = h.onto (permute_legs (permute c) ys) (taken_legs S m (permute c) ys s.is_permutation p) in
        (xs, q, sym (pick-pick (0, 0) (permute c) o xs (rw h.is_permutation.0 s.is_permutation.1)) ∙ ap (permute_legs (permute c)) e ∙ s.twice ys p);
  }

  pub ends : (cs : List C) (o : List ℕ) → Steps cs → Onto o → Onto (spells permute cs o)
  unfolding spells
  ends [] o s h = h
  ends (c ∷ cs) o s h = ends cs (pick 0 (permute c) o) s.1 (next c o s.0 h)

  pub keeps-length : (cs : List C) (set : List A) → Steps cs → length set ≡ size S m → length (leaves run cs set) ≡ size S m
  unfolding leaves
  keeps-length [] set s l = l
  keeps-length (c ∷ cs) set s l = keeps-length cs (run c set) s.1 (s.0.keeps set l)

  -- The number that stood at the legs stands at the legs in the order that the list spells.
  pub stands : (cs : List C) (o : List ℕ) (start set : List A) → Steps cs → Onto o → length set ≡ size S m
      → ((xs : List Leg) → Legs S m xs → read_out z S set (permute_legs o xs) ≡ read_out z S start xs)
      → (xs : List Leg) → Legs S m xs → read_out z S (leaves run cs set) (permute_legs (spells permute cs o) xs) ≡ read_out z S start xs
  unfolding leaves spells
  stands [] o start set s h l e = e
  stands (c ∷ cs) o start set s h l e =
      stands cs (pick 0 (permute c) o) start (run c set) s.1 (next c o s.0 h) (s.0.keeps set l) (λ xs p.
      let q = taken_legs S m o xs h.is_permutation p in
      let r = taken_legs S m (permute c) (permute_legs o xs) s.0.is_permutation q in
      ap (read_out z S (run c set)) (sym (pick-pick (0, 0) (permute c) o xs (rw h.is_permutation.0 s.0.is_permutation.1)))
      ∙ s.0.reads set (permute_legs (permute c) (permute_legs o xs)) l r
      ∙ ap (read_out z S set) (s.0.twice (permute_legs o xs) q) ∙ e xs p)
