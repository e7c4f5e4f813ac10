-- The mean of document 01, said by the read-out alone: `IsMean`; the theorem `symmetrized_is_mean` stands in proofs/MeanLaws.antt. The first member of a
-- group that the loops come to works the group out; of several values written to one place the last one counts. Assumes nothing.
use Rattle.std.specs.Prelude.{◌≡◌, refl, ℕ, ◌/◌, ◌≤◌}
use Rattle.std.proofs.Math.Path.{sym, ap}
use Rattle.std.proofs.Common.{◌∙◌, le_antisymm}
use mathlib.Core.List.{List, [], ◌∷◌, map}
use Rattle.std.proofs.Math.ListN.{get_or}
use Rattle.lists.specs.Members.{In}
use Rattle.tables.specs.Shifts.{Shifts, Laws}
use Rattle.places.specs.Places.{Leg, Legs, stored, legs_at, address, place, at, read_out, place-address, stored-place}
use Rattle.places.specs.Permutations.{permute_legs, taken_legs, Group}
use Rattle.orbits.specs.Blockwise.{in_block}
use Rattle.orbits.specs.Symmetric.{images, images-stored}

-- the address at which the number for the legs stands, and the block in which it lies; blocks and addresses rise in loop order
abbrev pub stands_at : Shifts → List Leg → ℕ
stands_at S xs = address S (stored S xs)

abbrev pub block_of : Shifts → ℕ → List Leg → ℕ
block_of S m xs = stands_at S xs / in_block m

-- Of a set that was old and is new, over the tables S, with m + 1 legs and their permutations os: what it reads out at the legs xs is the mean.
-- τ is the permutation that the mean is worked out from.
pub record IsMean {A : Type 0} (z : A) (mean : List A → A) (S : Shifts) (m : ℕ) (os : List (List ℕ)) (old new : List A) (xs : List Leg) : Type 0 where
  pub τ : List ℕ
  pub is_one : In τ os
  -- no permutation of the legs has its number in an earlier block
  pub first_member : (σ : List ℕ) → In σ os → block_of S m (permute_legs τ xs) ≤ block_of S m (permute_legs σ xs)
  -- and of those in that block none has it later
  pub last_writer : (σ : List ℕ) → In σ os → block_of S m (permute_legs σ xs) ≡ block_of S m (permute_legs τ xs) → stands_at S (permute_legs σ xs) ≤ stands_at S (permute_legs τ xs)
  -- the value is the mean of what the old set read out at all permutations of the legs so permuted
  pub value : read_out z S new xs ≡ mean (map (λ σ. read_out z S old (permute_legs σ (permute_legs τ xs))) os)

-- ---- laws

pub fuse : {A B C : Type 0} (f : B → C) (g : A → B) (l : List A) → map f (map g l) ≡ map (λ x. f (g x)) l
fuse f g [] = refl
fuse f g (x ∷ xs) = ap (λ l. f (g x) ∷ l) (fuse f g xs)

module _ {A : Type 0} (z : A) (mean : List A → A) (S : Shifts) (L : Laws S) (m : ℕ) (os : List (List ℕ)) (G : Group m os) (old : List A) (xs : List Leg) (p : Legs S m xs) where
  -- what the old set read out at all permutations of the legs permuted by τ is told by the address of those legs
  reads_at : (τ : List ℕ) → In τ os
      → map (λ σ. read_out z S old (permute_legs σ (permute_legs τ xs))) os ≡ map (λ r. get_or old r z) (images S os (legs_at S (place S m (stands_at S (permute_legs τ xs)))))
  reads_at τ t =
      let ys = permute_legs τ xs in
      let hy = taken_legs S m τ xs (G.each τ t) p in
      let w : images S os (legs_at S (place S m (stands_at S ys))) ≡ images S os ys =
      ap (λ y. images S os (legs_at S y)) (place-address S m (stored S ys) (stored-place S L m ys hy)) ∙ images-stored S L m os G ys hy in
      let s : map (λ r. get_or old r z) (images S os ys) ≡ map (λ σ. read_out z S old (permute_legs σ ys)) os =
      unfold images read_out at in fuse (λ r. get_or old r z) (λ σ. address S (stored S (permute_legs σ ys))) os in
      sym s ∙ ap (λ l. map (λ r. get_or old r z) l) (sym w)

  -- `IsMean` leaves nothing open: two sets that both hold the mean of the old one at the legs read out the same there
  pub mean_unique : (new other : List A) → IsMean z mean S m os old new xs → IsMean z mean S m os old other xs → read_out z S new xs ≡ read_out z S other xs
  mean_unique new other h k =
      let b : block_of S m (permute_legs h.τ xs) ≡ block_of S m (permute_legs k.τ xs) = le_antisymm (h.first_member k.τ k.is_one) (k.first_member h.τ h.is_one) in
      let e : stands_at S (permute_legs h.τ xs) ≡ stands_at S (permute_legs k.τ xs) =
      le_antisymm (k.last_writer h.τ h.is_one b) (h.last_writer k.τ k.is_one (sym b)) in
      h.value
      ∙ ap mean (reads_at h.τ h.is_one ∙ ap (λ q. map (λ r. get_or old r z) (images S os (legs_at S (place S m q)))) e ∙ sym (reads_at k.τ k.is_one))
      ∙ sym k.value
