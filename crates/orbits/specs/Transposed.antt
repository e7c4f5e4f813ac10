-- Transposes block by block: where two legs trade, each block has a counterpart, and the places of the one stand permuted in the other.
-- For any permutation of the legs that undoes itself, at every rank. Assumes nothing.
use Rattle.std.specs.Prelude.{◌≡◌, Bool, false, List, map, get_or}
use Rattle.std.proofs.Math.Path.{refl, sym, ap, ap₂}
use Rattle.std.proofs.Common.{◌∙◌, subst, mod-lt, mul-div_cancel, mul-lt-mul_of_pos_right, lit<}
use Rattle.std.proofs.Math.Bool.{cond}
use Prim.Native.Nat.{ℕ, suc, ◌+◌, ◌*◌, ◌/◌, ◌%◌, ◌<◌}
use Rattle.std.proofs.Math.ListN.{length}
use Rattle.lists.specs.Tab.{tab, tab_ext}
use Rattle.lists.specs.Elements.{Below, pick, pick-map, length-pick, all-pick}
use Rattle.lists.specs.Digits.{quotient, horner, times_power, digits, room-mul, room_is_pos, length_digits, digits-below, digits_mod, horner-split, horner-zero}
use Rattle.tables.specs.Shifts.{Shifts, Laws}
use Rattle.places.specs.Places.{Leg, atom, dir, Legs, Place, stored, legs_at, address, place, at, fill, size, size_rooms, stored-place, stored_opened, opened_legs, place-place, address-place, place-address, address_below}
use Rattle.places.specs.Permutations.{permute_legs, Permutation, taken_legs}
use Rattle.places.specs.Moves.{source, source-stored}
use Rattle.blocks.specs.Permuted.{permuted}
use Rattle.orbits.specs.Blockwise.{in_block, block_atoms, stored_atoms, opened_atoms, atoms_at, atoms-stored, atoms_opened, atoms_of_lem, dirs_stored, dirs_opened, dirs_of, address_is, address-block, block-below}
use Rattle.orbits.specs.Counterparts.{Blocks, Paired, across, joined, all_worked}

-- the block that trades with block b: its atoms permuted by σ
unfoldable pub counterpart : Shifts → ℕ → List ℕ → ℕ → ℕ
unfolding block_atoms stored_atoms opened_atoms atoms_at
counterpart S m σ b = block_atoms S (stored_atoms S (pick 0 σ (opened_atoms S (atoms_at S m b))))

abbrev pub blocks_by : Shifts → ℕ → List ℕ → (ℕ → Bool) → Blocks
blocks_by S m σ stay = record { B = times_power S.n_satom m S.n_patom; c = in_block m; other = counterpart S m σ; permuted = permuted m σ; stays = stay }

pub size_blocks : (S : Shifts) (m : ℕ) → size S m ≡ times_power S.n_satom m S.n_patom * in_block m
unfolding in_block
size_blocks S m = size_rooms S m ∙ room-mul 3 (suc m) (times_power S.n_satom m S.n_patom)

pub in_block_pos : (m : ℕ) → 0 < in_block m
unfolding in_block
in_block_pos m = room_is_pos 3 (suc m) 1 (lit< tt) (lit< tt)

pub permuted_is_below : (m : ℕ) (σ : List ℕ) (k : ℕ) → Permutation m σ → k < in_block m → permuted m σ k < in_block m
unfolding permuted in_block
permuted_is_below m σ k o h =
    let ds = digits 3 (suc m) k in
    let b : Below 3 ds = digits-below 3 (suc m) 1 k h in
    let l : length ds ≡ suc m = length_digits 3 (suc m) k in
    subst (λ n. horner 3 0 (pick 0 σ ds) < times_power 3 n 1) (length-pick 0 σ ds ∙ o.0) (horner-zero 3 (pick 0 σ ds) (all-pick 0 (λ d. d < 3) σ ds (rw l o.1) b))

-- the address that trades with q
abbrev π : Shifts → ℕ → List ℕ → ℕ → ℕ
π S m σ q = address S (source S σ (place S m q))

module _ (S : Shifts) (L : Laws S) (m : ℕ) (σ : List ℕ) (o : Permutation m σ) where
  legs_at_lem : (q : ℕ) → q < size S m → Legs S m (legs_at S (place S m q))
  legs_at_lem q h = opened_legs S L m (place S m q) (place-place S m q h)

  pub source-place : (ys : List Leg) → Place S m ys → Place S m (source S σ ys)
  unfolding source
  source-place ys p = stored-place S L m (permute_legs σ (legs_at S ys)) (taken_legs S m σ (legs_at S ys) o (opened_legs S L m ys p))

  π-below : (q : ℕ) → q < size S m → π S m σ q < size S m
  π-below q h = address_below S m (source S σ (place S m q)) (source-place (place S m q) (place-place S m q h))

  -- its atoms and its directions
  source-atoms : (q : ℕ) → q < size S m → map atom (source S σ (place S m q)) ≡ stored_atoms S (pick 0 σ (opened_atoms S (atoms_at S m (q / in_block m))))
  unfolding source atoms_at
  source-atoms q h =
      let ys = place S m q in
      atoms-stored S (permute_legs σ (legs_at S ys))
      ∙ ap (stored_atoms S) (sym (pick-map (0, 0) 0 atom σ (legs_at S ys) (rw (legs_at_lem q h).0 o.1)) ∙ ap (pick 0 σ) (atoms_opened S ys ∙ ap (opened_atoms S) (atoms_of_lem S m q)))

  source_dirs : (q : ℕ) → q < size S m → map dir (source S σ (place S m q)) ≡ pick 0 σ (digits 3 (suc m) q)
  unfolding source
  source_dirs q h =
      let ys = place S m q in
      dirs_stored S (permute_legs σ (legs_at S ys))
      ∙ sym (pick-map (0, 0) 0 dir σ (legs_at S ys) (rw (legs_at_lem q h).0 o.1)) ∙ ap (pick 0 σ) (dirs_opened S ys ∙ dirs_of S m q)

  -- THE POINT: the place that trades with q stands permuted in the counterpart of q's block
  pub across_is : (stay : ℕ → Bool) (q : ℕ) → q < size S m → across (blocks_by S m σ stay) q ≡ π S m σ q
  unfolding across counterpart permuted in_block
  across_is stay q h =
      let c = times_power 3 (suc m) 1 in
      let ds = pick 0 σ (digits 3 (suc m) q) in
      let b = block_atoms S (stored_atoms S (pick 0 σ (opened_atoms S (atoms_at S m (q / c))))) in
      let l : length ds ≡ suc m = length-pick 0 σ (digits 3 (suc m) q) ∙ o.0 in
      sym (address_is S m (source S σ (place S m q)) (source-place (place S m q) (place-place S m q h))
      ∙ ap₂ (λ ks ds. horner 3 (block_atoms S ks) ds) (source-atoms q h) (source_dirs q h)
      ∙ horner-split 3 b ds
      ∙ ap₂ (λ n e. b * times_power 3 n 1 + horner 3 0 (pick 0 σ e)) l (digits_mod 3 (suc m) q (lit< tt)))

  across-block : (stay : ℕ → Bool) (q : ℕ) → across (blocks_by S m σ stay) q / in_block m ≡ counterpart S m σ (q / in_block m)
  unfolding across
  across-block stay q = quotient (in_block m) (counterpart S m σ (q / in_block m)) (permuted m σ (q % in_block m)) (permuted_is_below m σ (q % in_block m) o (mod-lt q (in_block_pos m)))

  block_start : (b : ℕ) → b < times_power S.n_satom m S.n_patom → b * in_block m < size S m
  block_start b h = rw (size_blocks S m) (mul-lt-mul_of_pos_right h (in_block_pos m))

  other_of : (q : ℕ) → q < size S m → counterpart S m σ (q / in_block m) ≡ π S m σ q / in_block m
  other_of q h = sym (across-block (λ b. false) q) ∙ ap (λ x. x / in_block m) (across_is (λ b. false) q h)

  other_is : (b : ℕ) → b < times_power S.n_satom m S.n_patom → counterpart S m σ b ≡ π S m σ (b * in_block m) / in_block m
  other_is b h = ap (counterpart S m σ) (sym (mul-div_cancel b (in_block_pos m))) ∙ other_of (b * in_block m) (block_start b h)

  pub counterpart-below : (b : ℕ) → b < times_power S.n_satom m S.n_patom → counterpart S m σ b < times_power S.n_satom m S.n_patom
  counterpart-below b h = rw (other_is b h) (block-below S m (π S m σ (b * in_block m)) (π-below (b * in_block m) (block_start b h)))

-- a permutation that undoes itself
module _ (S : Shifts) (L : Laws S) (m : ℕ) (σ : List ℕ) (o : Permutation m σ) (twice : (xs : List Leg) → length xs ≡ suc m → permute_legs σ (permute_legs σ xs) ≡ xs) where
  source-undo : (ys : List Leg) → Place S m ys → source S σ (source S σ ys) ≡ ys
  source-undo ys p =
      let xs = legs_at S ys in
      let hx = opened_legs S L m ys p in
      let e : source S σ ys ≡ stored S (permute_legs σ xs) = unfold source in refl in
      ap (source S σ) e ∙ source-stored S L m σ (permute_legs σ xs) o (taken_legs S m σ xs o hx) ∙ ap (stored S) (twice xs hx.0) ∙ stored_opened S L m ys p

  π-undo : (q : ℕ) → q < size S m → π S m σ (π S m σ q) ≡ q
  π-undo q h =
      let p = place-place S m q h in
      ap (λ ys. address S (source S σ ys)) (place-address S m (source S σ (place S m q)) (source-place S L m σ o (place S m q) p))
      ∙ ap (address S) (source-undo (place S m q) p) ∙ address-place S m q h

  pub counterpart-undo : (b : ℕ) → b < times_power S.n_satom m S.n_patom → counterpart S m σ (counterpart S m σ b) ≡ b
  counterpart-undo b h =
      let q = b * in_block m in
      let hq = block_start S L m σ o b h in
      ap (counterpart S m σ) (other_is S L m σ o b h)
      ∙ other_of S L m σ o (π S m σ q) (π-below S L m σ o q hq) ∙ ap (λ x. x / in_block m) (π-undo q hq) ∙ mul-div_cancel b (in_block_pos m)

  module _ {A : Type 0} (z : A) (join : A → A → A) (stay : ℕ → Bool) where
    abbrev G : Blocks
    G = blocks_by S m σ stay

    pub paired : ((b : ℕ) → b < times_power S.n_satom m S.n_patom → stay (counterpart S m σ b) ≡ stay b) → Paired G
    paired same = record {
      pos = in_block_pos m;
      other-below = counterpart-below S L m σ o;
      other-undo = counterpart-undo;
      permuted-below = λ k h. permuted_is_below m σ k o h;
      stays-other = same;
    }

    -- every block worked over, place by place
    pub worked_is : (old : List A) → all_worked z join G old
        ≡ fill S m (λ ys. cond (stay (block_atoms S (map atom ys))) (at z S old ys) (join (at z S old ys) (at z S old (source S σ ys))))
    unfolding all_worked joined fill at
    worked_is old =
        ap (λ n. tab n (λ q. cond (stay (q / in_block m)) (get_or old q z) (join (get_or old q z) (get_or old (across G q) z)))) (sym (size_blocks S m))
        ∙ tab_ext z (size S m) _ _ (λ q h.
        let e : q / in_block m ≡ block_atoms S (map atom (place S m q)) = ap (λ r. r / in_block m) (sym (address-place S m q h)) ∙ address-block S m (place S m q) (place-place S m q h) in
        let f : q ≡ address S (place S m q) = sym (address-place S m q h) in
        ap₂ (λ b r. cond (stay b) (get_or old q z) (join (get_or old q z) (get_or old r z))) e (across_is S L m σ o stay q h)
        ∙ ap (λ r. cond (stay (block_atoms S (map atom (place S m q)))) (get_or old r z) (join (get_or old r z) (get_or old (π S m σ q) z))) f)
