-- The places of a set, for every rank at once (document 01, "Shift tables"): where each number stands, and what the read-out is.
-- A leg is an atom with a direction. A compact set of rank m + 1 holds one number for each place; a place is m + 1 legs, of which the first
-- has an atom of the primitive cell and the others have atoms of the supercell. Second, third and fourth order are m = 1, 2, 3.
-- The definitions come first, their laws below; Addresses.antt spells both out at second, third and fourth order. Assumes nothing.
use Rattle.std.specs.Prelude.{◌≡◌, get_or, replicate}
use Rattle.std.proofs.Math.Path.{refl, sym, ap, ap₂, subst}
use Rattle.std.proofs.Common.{◌∙◌, suc-ne-zero}
use Prim.Native.Nat.{ℕ, suc, ◌<◌}
use Rattle.std.proofs.Math.Nat.{suc_inj}
use mathlib.Core.List.{List, [], ◌∷◌, map}
use Rattle.std.proofs.Math.ListN.{length, length-map}
use Rattle.tables.specs.Lengths.{set_length, set_rooms}
use Rattle.tables.specs.Shifts.{Shifts, Laws, row, p2s_at, s2pp_at, nsym_at, nsym_shift, nsym_p2s}
use Rattle.lists.specs.Tab.{tab, length-tab}
use Rattle.lists.specs.Elements.{All, all_map, map_id, Below, pick, straight}
use Rattle.lists.specs.Digits.{horner, times_power, rest, digits, length_digits, digits-below, horner-digits, rest_below, horner-below, rest_horner, digits-horner}

abbrev pub Leg : Type 0
Leg = ℕ × ℕ

abbrev pub atom : Leg → ℕ
atom x = x.0

abbrev pub dir : Leg → ℕ
dir x = x.1

-- ---- the stored block of a read-out entry

-- all atoms sent along row t
unfoldable pub shift : Shifts → ℕ → List Leg → List Leg
shift S t xs = map (λ x. (row S t (atom x), dir x)) xs

-- Where the read-out has its number for atoms i, j, k: row nsym_list[i] takes i to the representative of s2pp[i], and j and k with it.
unfoldable pub stored : Shifts → List Leg → List Leg
stored S [] = []
stored S (x ∷ xs) = (s2pp_at S (atom x), dir x) ∷ shift S (nsym_at S (atom x)) xs

-- legs whose number stands at a place: the first atom is the primitive atom's representative, p2s[p]
unfoldable pub legs_at : Shifts → List Leg → List Leg
legs_at S [] = []
legs_at S (y ∷ ys) = (p2s_at S (atom y), dir y) ∷ ys

-- ---- the address rule: the atoms and then the directions, the first the slowest

unfoldable pub address : Shifts → List Leg → ℕ
address S [] = 0
address S (y ∷ ys) = horner 3 (horner S.n_satom (atom y) (map atom ys)) (dir y ∷ map dir ys)

-- how many numbers a set of rank m + 1 has
unfoldable pub size : Shifts → ℕ → ℕ
size S m = set_length S.n_patom S.n_satom m

-- legs from their atoms and their directions
unfoldable pub legs_of : List ℕ → List ℕ → List Leg
legs_of [] ds = []
legs_of (a ∷ ks) [] = []
legs_of (a ∷ ks) (d ∷ ds) = (a, d) ∷ legs_of ks ds

-- the place at an address
unfoldable pub place : Shifts → ℕ → ℕ → List Leg
place S m q =
    let b = rest 3 (suc m) q in
    legs_of (rest S.n_satom m b ∷ digits S.n_satom m b) (digits 3 (suc m) q)

-- ---- a set as a table over places; z is what a read past the set's end gives

module _ {A : Type 0} (z : A) where
  -- the number at a place
  unfoldable pub at : Shifts → List A → List Leg → A
  at S set ys = get_or set (address S ys) z

  -- the read-out's number for the legs
  unfoldable pub read_out : Shifts → List A → List Leg → A
  read_out S set xs = at S set (stored S xs)

-- the set that holds f's number at each place
unfoldable pub fill : {A : Type 0} → Shifts → ℕ → (List Leg → A) → List A
fill S m f = tab (size S m) (λ q. f (place S m q))

-- how many numbers a block of rank m + 1 has
unfoldable pub in_block : ℕ → ℕ
in_block m = times_power 3 (suc m) 1

-- A full set is a compact set over tables with one shift, the null shift: every atom is its own representative.
unfoldable pub full_shifts : ℕ → Shifts
full_shifts n = record { n_satom = n; n_patom = n; num_trans = 1; perms = straight n; p2s = straight n; s2pp = straight n; nsym_list = replicate n 0 }

-- ---- permutations of legs, as lists of positions

-- the legs permuted by σ
abbrev pub permute_legs : List ℕ → List Leg → List Leg
permute_legs σ xs = pick (0, 0) σ xs

-- the permutations of two, three and four legs, as the Rust lists them

-- (i, j), (j, i)
unfoldable pub perms2 : List (List ℕ)
perms2 = (0 ∷ 1 ∷ []) ∷ (1 ∷ 0 ∷ []) ∷ []

-- ijk, ikj, jik, jki, kij, kji: the terms of the six-term sum, first to last (fc3.rs)
unfoldable pub perms3 : List (List ℕ)
perms3 = (0 ∷ 1 ∷ 2 ∷ []) ∷ (0 ∷ 2 ∷ 1 ∷ []) ∷ (1 ∷ 0 ∷ 2 ∷ []) ∷ (1 ∷ 2 ∷ 0 ∷ []) ∷ (2 ∷ 0 ∷ 1 ∷ []) ∷ (2 ∷ 1 ∷ 0 ∷ []) ∷ []

-- PERMS24 (fc4.rs)
unfoldable pub perms4 : List (List ℕ)
perms4 =
    (0 ∷ 1 ∷ 2 ∷ 3 ∷ []) ∷ (0 ∷ 1 ∷ 3 ∷ 2 ∷ []) ∷ (0 ∷ 2 ∷ 1 ∷ 3 ∷ []) ∷ (0 ∷ 2 ∷ 3 ∷ 1 ∷ []) ∷ (0 ∷ 3 ∷ 1 ∷ 2 ∷ []) ∷ (0 ∷ 3 ∷ 2 ∷ 1 ∷ [])
    ∷ (1 ∷ 0 ∷ 2 ∷ 3 ∷ []) ∷ (1 ∷ 0 ∷ 3 ∷ 2 ∷ []) ∷ (1 ∷ 2 ∷ 0 ∷ 3 ∷ []) ∷ (1 ∷ 2 ∷ 3 ∷ 0 ∷ []) ∷ (1 ∷ 3 ∷ 0 ∷ 2 ∷ []) ∷ (1 ∷ 3 ∷ 2 ∷ 0 ∷ [])
    ∷ (2 ∷ 0 ∷ 1 ∷ 3 ∷ []) ∷ (2 ∷ 0 ∷ 3 ∷ 1 ∷ []) ∷ (2 ∷ 1 ∷ 0 ∷ 3 ∷ []) ∷ (2 ∷ 1 ∷ 3 ∷ 0 ∷ []) ∷ (2 ∷ 3 ∷ 0 ∷ 1 ∷ []) ∷ (2 ∷ 3 ∷ 1 ∷ 0 ∷ [])
    ∷ (3 ∷ 0 ∷ 1 ∷ 2 ∷ []) ∷ (3 ∷ 0 ∷ 2 ∷ 1 ∷ []) ∷ (3 ∷ 1 ∷ 0 ∷ 2 ∷ []) ∷ (3 ∷ 1 ∷ 2 ∷ 0 ∷ []) ∷ (3 ∷ 2 ∷ 0 ∷ 1 ∷ []) ∷ (3 ∷ 2 ∷ 1 ∷ 0 ∷ []) ∷ []

-- ---- which legs the laws are about

-- an atom of the supercell, and a direction
abbrev pub Fit : Shifts → Leg → Type 0
Fit S x = (atom x < S.n_satom) × (dir x < 3)

-- m + 1 legs for which the read-out is asked
abbrev pub Legs : Shifts → ℕ → List Leg → Type 0
Legs S m xs = (length xs ≡ suc m) × All (Fit S) xs

-- m + 1 legs that name a place of the set
abbrev pub Place : Shifts → ℕ → List Leg → Type 0
Place S m [] = ⊥
Place S m (y ∷ ys) = (length ys ≡ m) × (atom y < S.n_patom) × (dir y < 3) × All (Fit S) ys

-- ==== laws

-- ---- legs from two lists

length-legs_of : (ks ds : List ℕ) → length ks ≡ length ds → length (legs_of ks ds) ≡ length ks
unfolding legs_of
length-legs_of [] ds e = refl
length-legs_of (a ∷ ks) [] e = absurd (suc-ne-zero _ e)
length-legs_of (a ∷ ks) (d ∷ ds) e = ap suc (length-legs_of ks ds (suc_inj e))

pub atoms-legs_of : (ks ds : List ℕ) → length ks ≡ length ds → map atom (legs_of ks ds) ≡ ks
unfolding legs_of
atoms-legs_of [] ds e = refl
atoms-legs_of (a ∷ ks) [] e = absurd (suc-ne-zero _ e)
atoms-legs_of (a ∷ ks) (d ∷ ds) e = ap (λ l. a ∷ l) (atoms-legs_of ks ds (suc_inj e))

pub dirs_legs_of : (ks ds : List ℕ) → length ks ≡ length ds → map dir (legs_of ks ds) ≡ ds
unfolding legs_of
dirs_legs_of [] [] e = refl
dirs_legs_of [] (d ∷ ds) e = absurd (suc-ne-zero _ (sym e))
dirs_legs_of (a ∷ ks) [] e = absurd (suc-ne-zero _ e)
dirs_legs_of (a ∷ ks) (d ∷ ds) e = ap (λ l. d ∷ l) (dirs_legs_of ks ds (suc_inj e))

legs_of-both : (ys : List Leg) → legs_of (map atom ys) (map dir ys) ≡ ys
unfolding legs_of
legs_of-both [] = refl
legs_of-both (y ∷ ys) = ap (λ l. y ∷ l) (legs_of-both ys)

fit-legs_of : (S : Shifts) (ks ds : List ℕ) → Below S.n_satom ks → Below 3 ds → All (Fit S) (legs_of ks ds)
unfolding legs_of
fit-legs_of S [] ds p q = tt
fit-legs_of S (a ∷ ks) [] p q = tt
fit-legs_of S (a ∷ ks) (d ∷ ds) p q = ((p.0, q.0), fit-legs_of S ks ds p.1 q.1)

-- ---- addresses are in bounds, and one to one: address and place undo each other

module _ (S : Shifts) (m : ℕ) where
  pub atoms-below : (ys : List Leg) → All (Fit S) ys → Below S.n_satom (map atom ys)
  atoms-below ys p = all_map (Fit S) (λ k. k < S.n_satom) atom ys (λ x h. h.0) p

  pub dirs_below : (ys : List Leg) → All (Fit S) ys → Below 3 (map dir ys)
  dirs_below ys p = all_map (Fit S) (λ k. k < 3) dir ys (λ x h. h.1) p

  -- the number of places, factor by factor
  pub size_rooms : size S m ≡ times_power 3 (suc m) (times_power S.n_satom m S.n_patom)
  unfolding size
  size_rooms = set_rooms S.n_patom S.n_satom m

  pub address_below : (ys : List Leg) → Place S m ys → address S ys < size S m
  unfolding address
  address_below [] p = absurd p
  address_below (y ∷ ys) p =
      let h : horner S.n_satom (atom y) (map atom ys) < times_power S.n_satom m S.n_patom =
      subst (λ k. horner S.n_satom (atom y) (map atom ys) < times_power S.n_satom k S.n_patom) (length-map ys atom ∙ p.0)
      (horner-below S.n_satom S.n_patom (atom y) (map atom ys) p.1 (atoms-below ys p.3)) in
      let l : length (dir y ∷ map dir ys) ≡ suc m = ap suc (length-map ys dir ∙ p.0) in
      rw size_rooms (rw l at (horner-below 3 (times_power S.n_satom m S.n_patom) (horner S.n_satom (atom y) (map atom ys)) (dir y ∷ map dir ys) h (p.2, dirs_below ys p.3)))

  pub place-address : (ys : List Leg) → Place S m ys → place S m (address S ys) ≡ ys
  unfolding address place
  place-address [] p = absurd p
  place-address (y ∷ ys) p =
      let ds = dir y ∷ map dir ys in
      let b = horner S.n_satom (atom y) (map atom ys) in
      let q = horner 3 b ds in
      let ld : length ds ≡ suc m = ap suc (length-map ys dir ∙ p.0) in
      let la : length (map atom ys) ≡ m = length-map ys atom ∙ p.0 in
      let dd : Below 3 ds = (p.2, dirs_below ys p.3) in
      let da : Below S.n_satom (map atom ys) = atoms-below ys p.3 in
      let eb : rest 3 (suc m) q ≡ b = rw ld at (rest_horner 3 b ds dd) in
      let ed : digits 3 (suc m) q ≡ ds = rw ld at (digits-horner 3 b ds dd) in
      let ep : rest S.n_satom m b ≡ atom y = rw la at (rest_horner S.n_satom (atom y) (map atom ys) da) in
      let ea : digits S.n_satom m b ≡ map atom ys = rw la at (digits-horner S.n_satom (atom y) (map atom ys) da) in
      rw (eb, ed, ep, ea) (legs_of-both (y ∷ ys))

  pub place-place : (q : ℕ) → q < size S m → Place S m (place S m q)
  unfolding place legs_of digits
  place-place q l =
      let b = rest 3 (suc m) q in
      let h : q < times_power 3 (suc m) (times_power S.n_satom m S.n_patom) = rw size_rooms at l in
      let hb : b < times_power S.n_satom m S.n_patom = rest_below 3 (suc m) (times_power S.n_satom m S.n_patom) q h in
      let hd : Below 3 (digits 3 (suc m) q) = digits-below 3 (suc m) (times_power S.n_satom m S.n_patom) q h in (
        length-legs_of (digits S.n_satom m b) (digits 3 m q) (length_digits S.n_satom m b ∙ sym (length_digits 3 m q)) ∙ length_digits S.n_satom m b,
        rest_below S.n_satom m S.n_patom b hb,
        hd.0,
        fit-legs_of S (digits S.n_satom m b) (digits 3 m q) (digits-below S.n_satom m S.n_patom b hb) hd.1,
      )

  pub address-place : (q : ℕ) → q < size S m → address S (place S m q) ≡ q
  unfolding address place legs_of digits
  address-place q h =
      let b = rest 3 (suc m) q in
      let l : length (digits S.n_satom m b) ≡ length (digits 3 m q) = length_digits S.n_satom m b ∙ sym (length_digits 3 m q) in
      rw (atoms-legs_of (digits S.n_satom m b) (digits 3 m q) l, dirs_legs_of (digits S.n_satom m b) (digits 3 m q) l, horner-digits S.n_satom m b)
      (horner-digits 3 (suc m) q)

  pub length-fill : {A : Type 0} (f : List Leg → A) → length (fill S m f) ≡ size S m
  unfolding fill
  length-fill f = length-tab (size S m) (λ q. f (place S m q))

-- ---- shifts and places

module _ (S : Shifts) (L : Laws S) where
  shift-shift : (t i : ℕ) (xs : List Leg) → t < S.num_trans → i < S.n_satom → All (Fit S) xs → shift S (nsym_at S (row S t i)) (shift S t xs) ≡ shift S (nsym_at S i) xs
  unfolding shift
  shift-shift t i [] ht hi p = refl
  shift-shift t i (x ∷ xs) ht hi p =
      ap₂ ◌∷◌ (ap (λ a. (a, dir x)) (nsym_shift S L t i (atom x) ht hi p.0.0)) (shift-shift t i xs ht hi p.1)

  -- the number for the legs stands at one place, however they are shifted
  pub stored-shift : (t : ℕ) (xs : List Leg) → t < S.num_trans → All (Fit S) xs → stored S (shift S t xs) ≡ stored S xs
  unfolding stored shift
  stored-shift t [] ht p = refl
  stored-shift t (x ∷ xs) ht p = ap₂ ◌∷◌ (ap (λ a. (a, dir x)) (L.s2pp-row t (atom x) ht p.0.0)) (shift-shift t (atom x) xs ht p.0.0 p.1)

  -- to open the stored legs is to shift them
  pub opened_stored : (x : Leg) (xs : List Leg) → atom x < S.n_satom → legs_at S (stored S (x ∷ xs)) ≡ shift S (nsym_at S (atom x)) (x ∷ xs)
  unfolding legs_at stored shift
  opened_stored x xs h = rw (L.nsym_lands_lem (atom x) h)

  pub stored_opened : (m : ℕ) (ys : List Leg) → Place S m ys → stored S (legs_at S ys) ≡ ys
  unfolding legs_at stored shift
  stored_opened m [] p = absurd p
  stored_opened m (y ∷ ys) p =
      ap₂ ◌∷◌ (ap (λ a. (a, dir y)) (L.s2pp-p2s (atom y) p.1))
      (map_id (Fit S) (λ x. (row S (nsym_at S (p2s_at S (atom y))) (atom x), dir x)) ys (λ x h. ap (λ a. (a, dir x)) (nsym_p2s S L (atom y) (atom x) p.1 h.0)) p.3)

  -- legs name a place, and a place names legs
  pub stored-place : (m : ℕ) (xs : List Leg) → Legs S m xs → Place S m (stored S xs)
  unfolding stored shift
  stored-place m [] p = absurd (suc-ne-zero _ (sym p.0))
  stored-place m (x ∷ xs) p = (
    length-map xs _ ∙ suc_inj p.0,
    L.s2pp-below (atom x) p.1.0.0,
    p.1.0.1,
    all_map (Fit S) (Fit S) _ xs (λ y h. (L.row_below (nsym_at S (atom x)) (atom y) (L.nsym_below (atom x) p.1.0.0) h.0, h.1)) p.1.1,
  )

  pub opened_legs : (m : ℕ) (ys : List Leg) → Place S m ys → Legs S m (legs_at S ys)
  unfolding legs_at
  opened_legs m [] p = absurd p
  opened_legs m (y ∷ ys) p = (ap suc p.0, ((L.p2s-below (atom y) p.1, p.2), p.3))
