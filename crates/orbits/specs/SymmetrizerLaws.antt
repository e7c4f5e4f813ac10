-- The groups of `Spread` at the addresses of a compact set. That the loop leaves the symmetrized set stands in proofs/SymmetrizesLaws.antt. Assumes nothing.
use Rattle.std.specs.Prelude.{◌≡◌, ℕ, suc, ◌/◌, ◌<◌, List, map}
use Rattle.std.proofs.Math.Path.{sym, ap}
use Rattle.std.proofs.Common.{◌∙◌, lit<}
use Rattle.tables.specs.Shifts.{Shifts, Laws}
use Rattle.lists.specs.Elements.{pick, pick-map, straight, pick-straight}
use Rattle.lists.specs.Digits.{times_power, room-mul, room_is_pos}
use Rattle.lists.specs.Members.{In, in_map, map_in}
use Rattle.places.specs.Places.{atom, Legs, Place, stored, legs_at, address, place, size, size_rooms, stored-place, stored_opened, opened_legs, place-place, address-place, place-address, address_below}
use Rattle.places.specs.Permutations.{permute_legs, taken_legs, Group}
use Rattle.orbits.specs.Blockwise.{in_block, block_atoms, stored_atoms, opened_atoms, atoms-stored, atoms_opened, address-block, atoms-place}
use Rattle.orbits.specs.Symmetric.{images, images-sub, images_sup, images-stored}
use Rattle.orbits.specs.Spread.{Groups, Orbits}

module _ (S : Shifts) (L : Laws S) (m : ℕ) (os : List (List ℕ)) (G : Group m os) where
  abbrev pub imgs : ℕ → List ℕ
  imgs q = images S os (legs_at S (place S m q))

  legs_at_lem : (q : ℕ) → q < size S m → Legs S m (legs_at S (place S m q))
  legs_at_lem q h = opened_legs S L m (place S m q) (place-place S m q h)

  -- an image is the address of the stored legs in some permutation
  image_of_lem : (q r : ℕ) → In r (imgs q) → (σ : List ℕ) × In σ os × (r ≡ address S (stored S (permute_legs σ (legs_at S (place S m q)))))
  unfolding images
  image_of_lem q r i = map_in (λ σ. address S (stored S (permute_legs σ (legs_at S (place S m q))))) os r i

  image_in : (q : ℕ) (σ : List ℕ) → In σ os → In (address S (stored S (permute_legs σ (legs_at S (place S m q))))) (imgs q)
  unfolding images
  image_in q σ s = in_map (λ σ. address S (stored S (permute_legs σ (legs_at S (place S m q))))) os σ s

  image-place : (q : ℕ) (σ : List ℕ) → q < size S m → In σ os → Place S m (stored S (permute_legs σ (legs_at S (place S m q))))
  image-place q σ h s = stored-place S L m (permute_legs σ (legs_at S (place S m q))) (taken_legs S m σ (legs_at S (place S m q)) (G.each σ s) (legs_at_lem q h))

  -- the images of an image: those of the permuted legs
  imgs-image : (q : ℕ) (σ : List ℕ) → q < size S m → In σ os
      → imgs (address S (stored S (permute_legs σ (legs_at S (place S m q))))) ≡ images S os (permute_legs σ (legs_at S (place S m q)))
  imgs-image q σ h s =
      ap (λ ys. images S os (legs_at S ys)) (place-address S m (stored S (permute_legs σ (legs_at S (place S m q)))) (image-place q σ h s))
      ∙ images-stored S L m os G (permute_legs σ (legs_at S (place S m q))) (taken_legs S m σ (legs_at S (place S m q)) (G.each σ s) (legs_at_lem q h))

  block-image : (q r : ℕ) (σ : List ℕ) → q < size S m → r < size S m → In σ os → q / in_block m ≡ r / in_block m
      → address S (stored S (permute_legs σ (legs_at S (place S m q)))) / in_block m ≡ address S (stored S (permute_legs σ (legs_at S (place S m r)))) / in_block m
  block-image q r σ hq hr s e =
      let b : (q : ℕ) → q < size S m → address S (stored S (permute_legs σ (legs_at S (place S m q)))) / in_block m
      ≡ block_atoms S (stored_atoms S (pick 0 σ (opened_atoms S (map atom (place S m q))))) =
      λ q h.
      address-block S m (stored S (permute_legs σ (legs_at S (place S m q)))) (image-place q σ h s)
      ∙ ap (block_atoms S) (atoms-stored S (permute_legs σ (legs_at S (place S m q)))
      ∙ ap (stored_atoms S) (sym (pick-map (0, 0) 0 atom σ (legs_at S (place S m q)) (rw (legs_at_lem q h).0 (G.each σ s).1))
      ∙ ap (pick 0 σ) (atoms_opened S (place S m q)))) in
      b q hq ∙ ap (λ l. block_atoms S (stored_atoms S (pick 0 σ (opened_atoms S l)))) (atoms-place S m q r e) ∙ sym (b r hr)

  abbrev pub groups : Groups
  groups = record { N = size S m; B = times_power S.n_satom m S.n_patom; c = in_block m; imgs = imgs }

  pub orbits : Orbits groups
  orbits = record {
    pos = unfold in_block in room_is_pos 3 (suc m) 1 (lit< tt) (lit< tt);
    whole = unfold in_block in size_rooms S m ∙ room-mul 3 (suc m) (times_power S.n_satom m S.n_patom);
    own = λ q h.
        let e : address S (stored S (permute_legs (straight (suc m)) (legs_at S (place S m q)))) ≡ q =
        ap (λ xs. address S (stored S xs)) (pick-straight (0, 0) (suc m) (legs_at S (place S m q)) (legs_at_lem q h).0)
        ∙ ap (address S) (stored_opened S L m (place S m q) (place-place S m q h)) ∙ address-place S m q h in
        rw e at (image_in q (straight (suc m)) G.plain);
    inside = λ q r h i. let (σ, s, e) = image_of_lem q r i in rw e (address_below S m (stored S (permute_legs σ (legs_at S (place S m q)))) (image-place q σ h s));
    there = λ q r h i. let (σ, s, e) = image_of_lem q r i in rw (e, imgs-image q σ h s) (images-sub S L m os G σ (legs_at S (place S m q)) s (legs_at_lem q h));
    back = λ q r h i. let (σ, s, e) = image_of_lem q r i in rw (e, imgs-image q σ h s) (images_sup S L m os G σ (legs_at S (place S m q)) s (legs_at_lem q h));
    blocks = λ q r hq hr e b i.
        let (a, j, f) = map_in (λ a. a / in_block m) (imgs q) b i in
        let (σ, s, g) = image_of_lem q a j in
        rw (f, g, block-image q r σ hq hr s e)
        (in_map (λ a. a / in_block m) (imgs r) (address S (stored S (permute_legs σ (legs_at S (place S m r))))) (image_in r σ s));
  }
