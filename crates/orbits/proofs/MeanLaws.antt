-- The symmetrized set holds the mean of document 01: the theorem `symmetrized_is_mean`. Assumes nothing.
use Rattle.std.specs.Prelude.{◌≡◌, ℕ, suc, ◌/◌}
use Rattle.std.proofs.Math.Path.{sym, ap}
use Rattle.std.proofs.Common.{◌∙◌}
use mathlib.Core.List.{List, map}
use Rattle.std.proofs.Math.ListN.{get_or}
use Rattle.lists.specs.Members.{In, in_map, map_in}
use Rattle.lists.specs.Elements.{straight}
use Rattle.tables.specs.Shifts.{Shifts, Laws}
use Rattle.places.specs.Places.{Leg, Legs, stored, legs_at, address, place, at, read_out, place-address, stored-place}
use Rattle.places.proofs.PlacesLaws.{read_out-fill}
use Rattle.places.specs.Permutations.{permute_legs, taken_legs, Group}
use Rattle.orbits.specs.Blockwise.{in_block}
use Rattle.orbits.specs.Symmetric.{images, leader, mean_at, symmetrized, images-stored}
use Rattle.orbits.proofs.SymmetricLaws.{leader_in, leader-first, leader-last}
use Rattle.orbits.specs.Mean.{stands_at, IsMean, fuse}

module _ {A : Type 0} (z : A) (mean : List A → A) (S : Shifts) (L : Laws S) (m : ℕ) (os : List (List ℕ)) (G : Group m os) (old : List A) (xs : List Leg) (p : Legs S m xs) where
  abbrev qs : List ℕ
  qs = images S os xs

  abbrev q : ℕ
  q = leader (in_block m) qs

  member : (σ : List ℕ) → In σ os → In (stands_at S (permute_legs σ xs)) qs
  member σ s = unfold images in in_map (λ σ. address S (stored S (permute_legs σ xs))) os σ s

  start : In (stands_at S (permute_legs (straight (suc m)) xs)) qs
  start = member (straight (suc m)) G.plain

  found : (τ : List ℕ) × In τ os × (q ≡ stands_at S (permute_legs τ xs))
  found =
      let i = leader_in (in_block m) qs (stands_at S (permute_legs (straight (suc m)) xs)) start in
      unfold images in map_in (λ σ. address S (stored S (permute_legs σ xs))) os q i

  at-mean : (ys : List Leg) → images S os (legs_at S (place S m (stands_at S ys))) ≡ images S os ys
      → mean_at z mean S m os old (stands_at S ys) ≡ mean (map (λ r. get_or old r z) (images S os ys))
  unfolding mean_at
  at-mean ys w = ap (λ l. mean (map (λ r. get_or old r z) l)) w

  worth : (τ : List ℕ) → In τ os → q ≡ stands_at S (permute_legs τ xs)
      → read_out z S (symmetrized z mean S m os old) xs ≡ mean (map (λ σ. read_out z S old (permute_legs σ (permute_legs τ xs))) os)
  worth τ t e =
      let ys = permute_legs τ xs in
      let hy = taken_legs S m τ xs (G.each τ t) p in
      let v : read_out z S (symmetrized z mean S m os old) xs ≡ mean_at z mean S m os old q =
      unfold symmetrized in
      (read_out-fill S L z m (λ ys. mean_at z mean S m os old (leader (in_block m) (images S os (legs_at S ys)))) xs p
      ∙ ap (λ l. mean_at z mean S m os old (leader (in_block m) l)) (images-stored S L m os G xs p)) in
      let w : images S os (legs_at S (place S m (stands_at S ys))) ≡ images S os ys =
      ap (λ y. images S os (legs_at S y)) (place-address S m (stored S ys) (stored-place S L m ys hy)) ∙ images-stored S L m os G ys hy in
      let r = at-mean ys w in
      let s : map (λ r. get_or old r z) (images S os ys) ≡ map (λ σ. read_out z S old (permute_legs σ ys)) os =
      unfold images read_out at in fuse (λ r. get_or old r z) (λ σ. address S (stored S (permute_legs σ ys))) os in
      v ∙ ap (mean_at z mean S m os old) e ∙ r ∙ ap mean s

  pub symmetrized_is_mean : IsMean z mean S m os old (symmetrized z mean S m os old) xs
  symmetrized_is_mean =
      let (τ, t, e) = found in
      record {
        τ = τ;
        is_one = t;
        first_member = λ σ s. rw (← e) (leader-first (in_block m) qs (stands_at S (permute_legs (straight (suc m)) xs)) start (stands_at S (permute_legs σ xs)) (member σ s));
        last_writer = λ σ s f. rw (← e) (leader-last (in_block m) qs (stands_at S (permute_legs (straight (suc m)) xs)) start (stands_at S (permute_legs σ xs)) (member σ s) (f ∙ ap (λ a. a / in_block m) (sym e)));
        value = worth τ t e;
      }
