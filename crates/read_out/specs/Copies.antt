-- Blocks of the compact set copied to where they are read out, one loop for each atom, make the full set, at every rank. Assumes nothing.
use Rattle.std.specs.Prelude.{◌≡◌, ℤ, Float}
use Rattle.std.proofs.Math.Path.{sym, ap, ap₂, subst}
use Rattle.std.proofs.Common.{◌∙◌, mod-lt, div-add-mod'}
use mathlib.Core.List.{List, [], ◌∷◌, map}
use Prim.Native.Nat.{ℕ, zero, suc, ◌+◌, ◌*◌, ◌/◌, ◌%◌, ◌<◌}
use Rattle.std.proofs.Math.Nat.{mod-eq_of_lt}
use native.Mathlib.Omega.{arith}
use Rattle.std.proofs.Math.ListN.{length, get_or}
use Rattle.std.specs.Float.Ieee.{nan}
use Rattle.lists.specs.Tab.{times, is_tab, times_nest, times-same}
use Rattle.lists.specs.Stages.{Stage, next, stages}
use Rattle.lists.specs.Digits.{horner, times_power, rest, digits, quotient, remainder, rest_div, digits_mod, room-mul, length_digits, horner-digits, horner-split}
use Rattle.blocks.specs.Block.{block, put_block, length-put_block, get_or-block, put-inside, put-outside}
use Rattle.tables.specs.Conditions.{index_at, Readable}
use Rattle.tables.specs.Shifts.{Shifts, Laws}
use Rattle.tables.specs.Compact.{ShiftTables, shifts_of}
use Rattle.places.specs.Places.{Leg, atom, Legs, Place, stored, place, at, read_out, fill, size, place-place, stored-place}
use Rattle.places.specs.Addresses.{stored_block}
use Rattle.places.specs.ReadOuts.{stored_in_lem, stored-read}
use Rattle.places.specs.WholeLaws.{full_shifts}
use Rattle.orbits.specs.Blockwise.{in_block, block_atoms, stored_atoms, atoms-stored, dirs_stored, atoms_of_lem, dirs_of, address_is, block-below}
use Rattle.orbits.specs.Transposed.{size_blocks, in_block_pos}
use Rattle.read_out.specs.FullSet.{full_set}

-- ---- the loops of the program

-- Blocks of w numbers for d atoms more: `to` and `from` number the atoms before, in the full set and in the compact one. Row t of perms has the images.
unfoldable pub copy_legs : List ℤ → ℕ → ℕ → ℕ → ℕ → ℕ → ℕ → List Float → List Float → List Float
copy_legs perms n w t zero to from set full = put_block w to (block w from set) full
copy_legs perms n w t (suc d) to from set full = times n (λ k. copy_legs perms n w t d (to * n + k) (from * n + index_at perms (t * n + k)) set) full

-- every first atom: its m others follow row nsym_list[i] from s2pp[i] on
unfoldable pub copy_rows : List ℤ → List ℤ → List ℤ → ℕ → ℕ → ℕ → List Float → List Float → List Float
copy_rows s2pp nsym_list perms n w m set full = times n (λ i. copy_legs perms n w (index_at nsym_list i) m i (index_at s2pp i) set) full

-- row t holds n atoms
abbrev pub Along : ℕ → ℕ → List ℤ → Type 0
Along n t perms = (k : ℕ) → k < n → Readable perms (t * n + k) × (index_at perms (t * n + k) < n)

-- ---- block b of the full set

-- the block of the compact set that it is read from
unfoldable pub copy_source : Shifts → ℕ → ℕ → ℕ
copy_source S m b = stored_block S (rest S.n_satom m b) (digits S.n_satom m b)

unfoldable pub copy_at : Shifts → ℕ → ℕ → List Float → ℕ → List Float → List Float
copy_at S m w set b xs = put_block w b (block w (copy_source S m b) set) xs

-- ---- the loops as one loop over the blocks

module _ (n d k q : ℕ) (h : q < times_power n d 1) where
  rest_at : rest n d (k * times_power n d 1 + q) ≡ k
  rest_at = rest_div n d (k * times_power n d 1 + q) ∙ quotient (times_power n d 1) k q h

  digits-at : 0 < n → digits n d (k * times_power n d 1 + q) ≡ digits n d q
  digits-at p = digits_mod n d (k * times_power n d 1 + q) p ∙ ap (digits n d) (remainder (times_power n d 1) k q h)

module _ (perms : List ℤ) (n w t : ℕ) (set : List Float) where
  abbrev image : ℕ → ℕ
  image k = index_at perms (t * n + k)

  -- block q of those of d atoms more
  abbrev one : ℕ → ℕ → ℕ → ℕ → List Float → List Float
  one d to from q = put_block w (to * times_power n d 1 + q) (block w (horner n from (map image (digits n d q))) set)

  one_more : (d to from k q : ℕ) → k < n → q < times_power n d 1 → (y : List Float) → one d (to * n + k) (from * n + image k) q y ≡ one (suc d) to from (k * times_power n d 1 + q) y
  unfolding digits horner times_power
  one_more d to from k q hk hq y =
      let R = times_power n d 1 in
      let p : 0 < n = omega arith in
      let e : (to * n + k) * R + q ≡ to * times_power n d (1 * n) + (k * R + q) = rw (room-mul n d (1 * n)) (omega arith) in
      let r : rest n d (k * R + q) % n ≡ k = ap (λ x. x % n) (rest_at n d k q hq) ∙ mod-eq_of_lt hk in
      ap₂ (λ b s. put_block w b (block w s set) y) e
      (sym (ap₂ (λ x ds. horner n (from * n + image x) (map image ds)) r (digits-at n d k q hq p)))

  legs_flat : (d to from : ℕ) (full : List Float) → copy_legs perms n w t d to from set full ≡ times (times_power n d 1) (one d to from) full
  unfolding copy_legs times times_power digits horner
  legs_flat zero to from full = let e : to ≡ to * 1 + 0 = omega arith in ap (λ b. put_block w b (block w from set) full) e
  legs_flat (suc d) to from full =
      let R = times_power n d 1 in
      let e : n * R ≡ times_power n d (1 * n) = rw (room-mul n d (1 * n)) (omega arith) in
      times-same n (λ k. copy_legs perms n w t d (to * n + k) (from * n + image k) set) (λ k. times R (λ q. one (suc d) to from (k * R + q))) full
      (λ k hk y. legs_flat d (to * n + k) (from * n + image k) y
      ∙ times-same R (one d (to * n + k) (from * n + image k)) (λ q. one (suc d) to from (k * R + q)) y (λ q hq z. one_more d to from k q hk hq z))
      ∙ sym (times_nest n R (one (suc d) to from) full)
      ∙ ap (λ r. times r (one (suc d) to from) full) e

module _ (T : ShiftTables) (w m : ℕ) (set : List Float) where
  abbrev n : ℕ
  n = T.n_satom

  -- the block that the loops read is the stored one
  source_is : (i q : ℕ) → i < n → q < times_power n m 1
      → horner n (index_at T.s2pp i) (map (λ k. index_at T.perms (index_at T.nsym_list i * n + k)) (digits n m q)) ≡ copy_source (shifts_of T) m (i * times_power n m 1 + q)
  unfolding copy_source
  source_is i q hi hq =
      sym (stored-read n T.s2pp T.nsym_list T.perms i (digits n m q)) ∙ stored_in_lem T i (digits n m q)
      ∙ sym (ap₂ (stored_block (shifts_of T)) (rest_at n m i q hq) (digits-at n m i q hq (omega arith)))

  pub rows-flat : (full : List Float) → copy_rows T.s2pp T.nsym_list T.perms n w m set full ≡ times (times_power n m n) (copy_at (shifts_of T) m w set) full
  unfolding copy_rows copy_at
  rows-flat full =
      let R = times_power n m 1 in
      times-same n (λ i. copy_legs T.perms n w (index_at T.nsym_list i) m i (index_at T.s2pp i) set) (λ i. times R (λ q. copy_at (shifts_of T) m w set (i * R + q))) full
      (λ i hi y. legs_flat T.perms n w (index_at T.nsym_list i) set m i (index_at T.s2pp i) y
      ∙ times-same R (one T.perms n w (index_at T.nsym_list i) set m i (index_at T.s2pp i)) (λ q. copy_at (shifts_of T) m w set (i * R + q)) y
      (λ q hq z. ap (λ s. put_block w (i * R + q) (block w s set) z) (source_is i q hi hq)))
      ∙ sym (times_nest n R (copy_at (shifts_of T) m w set) full)
      ∙ ap (λ r. times r (copy_at (shifts_of T) m w set) full) (sym (room-mul n m n))

-- ---- an address in a block

same_rest : (x a b q : ℕ) → x + a ≡ q → x + b ≡ q → a ≡ b
same_rest x a b q e f = omega arith

in_block_lem : (m B q : ℕ) → horner 3 B (digits 3 (suc m) q) ≡ B * in_block m + q % in_block m
unfolding in_block
in_block_lem m B q =
    let ds = digits 3 (suc m) q in
    let c = times_power 3 (suc m) 1 in
    let l : length ds ≡ suc m = length_digits 3 (suc m) q in
    let e : q / c * c + horner 3 0 ds ≡ q =
    sym (horner-split 3 (q / c) ds ∙ ap (λ k. q / c * times_power 3 k 1 + horner 3 0 ds) l) ∙ ap (λ b. horner 3 b ds) (sym (rest_div 3 (suc m) q)) ∙ horner-digits 3 (suc m) q in
    let f : horner 3 0 ds ≡ q % c = same_rest (q / c * c) (horner 3 0 ds) (q % c) q e (div-add-mod' q c) in
    horner-split 3 B ds ∙ ap₂ (λ k x. B * times_power 3 k 1 + x) l f

-- ---- what the full set holds

module _ (S : Shifts) (L : Laws S) (m : ℕ) (set : List Float) where
  abbrev W : Shifts
  W = full_shifts S.n_satom

  place_legs : (ys : List Leg) → Place W m ys → Legs S m ys
  unfolding full_shifts
  place_legs [] p = absurd p
  place_legs (y ∷ ys) p = (ap suc p.0, ((p.1, p.2), p.3))

  source-atoms : (q : ℕ) → block_atoms S (stored_atoms S (map atom (place W m q))) ≡ copy_source S m (q / in_block m)
  unfolding block_atoms stored_atoms copy_source stored_block full_shifts
  source-atoms q = ap (λ ks. block_atoms S (stored_atoms S ks)) (atoms_of_lem W m q)

  pub number_at : (q : ℕ) → q < size W m → get_or set (copy_source S m (q / in_block m) * in_block m + q % in_block m) nan ≡ read_out nan S set (place W m q)
  unfolding read_out at
  number_at q h =
      let xs = place W m q in
      let p = stored-place S L m xs (place_legs xs (place-place W m q h)) in
      sym (ap (λ r. get_or set r nan)
      (address_is S m (stored S xs) p
      ∙ ap₂ (horner 3) (ap (block_atoms S) (atoms-stored S xs) ∙ source-atoms q) (dirs_stored S xs ∙ dirs_of W m q)
      ∙ in_block_lem m (copy_source S m (q / in_block m)) q))

  -- ---- THE COPIES MAKE THE FULL SET

  module _ (w : ℕ) (e : in_block m ≡ w) (full : List Float) (l : length full ≡ size W m) where
    abbrev key : ℕ → ℕ
    key q = q / w

    abbrev new : ℕ → Float
    new q = read_out nan S set (place W m q)

    wide : 0 < w
    wide = subst (λ (c : ℕ). 0 < c) e (in_block_pos m)

    turn : (b : ℕ) → b < times_power S.n_satom m S.n_satom → (ys : List Float) → Stage nan full key new b ys → Stage nan full key new (suc b) (copy_at S m w set b ys)
    unfolding copy_at
    turn b hb ys s =
        let v = block w (copy_source S m b) set in
        next nan full key new b ys (put_block w b v ys) s (length-put_block w b v ys)
        (λ q h g.
        let hq : q < size W m = rw l at h in
        put-inside w b v ys q (rw s.long h) g
        ∙ get_or-block w (copy_source S m b) set (q % w) (mod-lt q wide)
        ∙ ap (λ b. get_or set (copy_source S m b * w + q % w) nan) (sym g)
        ∙ subst (λ (c : ℕ). get_or set (copy_source S m (q / c) * c + q % c) nan ≡ read_out nan S set (place W m q)) e (number_at q hq))
        (λ q h g. put-outside w b v ys q (rw s.long h) g)

    block_of_lem : (q : ℕ) → q < size W m → q / w < times_power S.n_satom m S.n_satom
    unfolding full_shifts
    block_of_lem q h = subst (λ (c : ℕ). q / c < times_power S.n_satom m S.n_satom) e (block-below W m q h)

    pub copies_make : times (times_power S.n_satom m S.n_satom) (copy_at S m w set) full ≡ full_set nan S m set
    unfolding full_set fill
    copies_make =
        let s = stages nan full key new (times_power S.n_satom m S.n_satom) (copy_at S m w set) turn in
        is_tab nan (size W m) new (times (times_power S.n_satom m S.n_satom) (copy_at S m w set) full) (s.long ∙ l)
        (λ q h. let hx : q < length full = rw l h in s.made q hx (block_of_lem q h))
