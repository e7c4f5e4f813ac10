-- The loop over pairs of atoms makes the formula of the pair averages, and the loop over atoms that of the diagonal blocks. Assumes nothing.
use Rattle.std.specs.Prelude.{◌≡◌, ◌&&◌, ◌⊎◌, List, ℕ, suc, ◌+◌, ◌*◌, ◌/◌, ◌%◌, ◌<◌, ◌≤◌, min, max, Float}
use Rattle.std.proofs.Math.Path.{sym, ap, ap₂}
use Rattle.std.proofs.Common.{◌∙◌, inl, inr, ⊎_elim, div-add-mod', arith, eq-eqb, ne_eqb}
use Rattle.std.proofs.Math.Bool.{cond}
use Rattle.std.proofs.Math.Dec.{eqb}
use Rattle.std.proofs.Math.ListN.{length, get_or}
use Rattle.std.specs.Float.Ieee.{nan, add, neg, binary64}
use Rattle.lists.specs.Tab.{times, is_tab, tab_ext, times-same}
use Rattle.lists.specs.Cases.{eq_or_ne, lt_or_le}
use Rattle.lists.specs.Floats.{add_commutes}
use Rattle.lists.specs.Stages.{Stage, next, stages}
use Rattle.blocks.specs.Block.{block, put_block, length-put_block, put-inside, put-outside, block_of_lem, get_or-block}
use Rattle.lists.specs.Floats.{plus_zero}
use Rattle.lines.specs.Sums3x3.{half, averaged, get_or-nine, in_nine, own-place, block_at, transposed-below, transposed-twice}
use Rattle.blocks.specs.Block9.{across_diagonal, transposed9}
use Rattle.lines.specs.Lines.{pair_at, atom_i, atom_j, of_atoms, atoms_of_lem, atoms-at, place_in, atoms-below}
use Rattle.lines.specs.OtherLaws.{sum_but, balances_make}
use Rattle.fc2.specs.Full.{full_entry, off_site_sum, pair_averages, on_site_blocks}
use Rattle.fc2.specs.FullLoops.{evened, own_at, pairs_before, pairs, diagonals}
use Rattle.fc2.specs.FullPlaceLaws.{filled, entry-at, entry-own}

-- the mean of the number at place q and the counterpart in block b
abbrev mean : List Float → ℕ → ℕ → Float
mean xs b q = half (add binary64 (get_or xs q nan) (get_or xs (b * 9 + across_diagonal (q % 9)) nan))

-- ---- two blocks

module _ (a b : ℕ) (xs : List Float) where
  pub length-pair_at : length (pair_at a b xs) ≡ length xs
  unfolding pair_at
  length-pair_at = length-put_block 9 b _ _ ∙ length-put_block 9 a _ xs

  module _ (ne : a ≡ b → ⊥) (q : ℕ) (h : q < length xs) where
    abbrev m : List Float
    m = averaged (block 9 a xs) (block 9 b xs)

    m-at : (p : ℕ) → p < 9 → get_or m p nan ≡ half (add binary64 (get_or xs (a * 9 + p) nan) (get_or xs (b * 9 + across_diagonal p) nan))
    m-at p hp =
        get_or-nine (λ p. half (add binary64 (get_or (block 9 a xs) p nan) (get_or (block 9 b xs) (across_diagonal p) nan))) p hp
        ∙ ap half (ap₂ (add binary64) (get_or-block 9 a xs p hp) (get_or-block 9 b xs (across_diagonal p) (transposed-below p hp)))

    there : q < length (put_block 9 a m xs)
    there = rw (length-put_block 9 a m xs) h

    pub pair-first : q / 9 ≡ a → get_or (pair_at a b xs) q nan ≡ mean xs b q
    unfolding pair_at
    pair-first e =
        put-outside 9 b (transposed9 m) (put_block 9 a m xs) q there (λ g. ne (sym e ∙ g))
        ∙ put-inside 9 a m xs q h e ∙ m-at (q % 9) (in_nine q)
        ∙ ap (λ k. half (add binary64 (get_or xs k nan) (get_or xs (b * 9 + across_diagonal (q % 9)) nan))) (own-place q a e)

    pub pair-second : q / 9 ≡ b → get_or (pair_at a b xs) q nan ≡ mean xs a q
    unfolding pair_at
    pair-second e =
        let p = q % 9 in
        let hp = in_nine q in
        let w : b * 9 + across_diagonal (across_diagonal p) ≡ q = ap (λ k. b * 9 + k) (transposed-twice p hp) ∙ own-place q b e in
        put-inside 9 b (transposed9 m) (put_block 9 a m xs) q there e
        ∙ get_or-nine (λ p. get_or m (across_diagonal p) nan) p hp ∙ m-at (across_diagonal p) (transposed-below p hp)
        ∙ ap half (add_commutes binary64 (get_or xs (a * 9 + across_diagonal p) nan) (get_or xs (b * 9 + across_diagonal (across_diagonal p)) nan))
        ∙ ap (λ k. half (add binary64 (get_or xs k nan) (get_or xs (a * 9 + across_diagonal p) nan))) w

    pub pair_else : (q / 9 ≡ a → ⊥) → (q / 9 ≡ b → ⊥) → get_or (pair_at a b xs) q nan ≡ get_or xs q nan
    unfolding pair_at
    pair_else na nb = put-outside 9 b (transposed9 m) (put_block 9 a m xs) q there nb ∙ put-outside 9 a m xs q h na

module _ (b : ℕ) (xs : List Float) where
  pub length-own_at : length (own_at b xs) ≡ length xs
  unfolding own_at
  length-own_at = length-put_block 9 b _ xs

  module _ (q : ℕ) (h : q < length xs) where
    pub own_in : q / 9 ≡ b → get_or (own_at b xs) q nan ≡ cond (eqb (q % 9 / 3) (q % 9 % 3)) (get_or xs q nan) (mean xs b q)
    unfolding own_at
    own_in e =
        put-inside 9 b (evened (block 9 b xs)) xs q h e
        ∙ get_or-nine (λ p. cond (eqb (p / 3) (p % 3)) (get_or (block 9 b xs) p nan) (half (add binary64 (get_or (block 9 b xs) p nan) (get_or (block 9 b xs) (across_diagonal p) nan)))) (q % 9) (in_nine q)
        ∙ ap₂ (λ x y. cond (eqb (q % 9 / 3) (q % 9 % 3)) x (half (add binary64 x y))) (block_at b xs q e) (get_or-block 9 b xs (across_diagonal (q % 9)) (transposed-below (q % 9) (in_nine q)))

    pub own_out : (q / 9 ≡ b → ⊥) → get_or (own_at b xs) q nan ≡ get_or xs q nan
    unfolding own_at
    own_out n = put-outside 9 b (evened (block 9 b xs)) xs q h n

-- ---- blocks by their atoms

-- two atoms by the greater and the smaller
by_size : (i j x y : ℕ) → max x y ≡ i → min x y ≡ j → ((x ≡ j) × (y ≡ i)) ⊎ ((x ≡ i) × (y ≡ j))
by_size i j x y e g = ⊎_elim (λ (h : x < y). inl (omega arith, omega arith)) (λ (h : y ≤ x). inr (omega arith, omega arith)) (lt_or_le x y)

-- the counterpart of place q
abbrev mirror : ℕ → ℕ → ℕ
mirror n q = (atom_j n q * n + atom_i n q) * 9 + across_diagonal (q % 9)

-- ---- atom i with the atoms before it

module _ (n i : ℕ) (hi : i < n) (ys : List Float) (e : length ys ≡ n * n * 9) where
  -- which atom before i a place is reached with
  abbrev key_b : ℕ → ℕ
  key_b q = cond (eqb (max (atom_i n q) (atom_j n q)) i) (min (atom_i n q) (atom_j n q)) n

  abbrev new_b : ℕ → Float
  new_b q = half (add binary64 (get_or ys q nan) (get_or ys (mirror n q) nan))

  key-pair : (q : ℕ) → max (atom_i n q) (atom_j n q) ≡ i → key_b q ≡ min (atom_i n q) (atom_j n q)
  key-pair q g = rw (eq-eqb (max (atom_i n q) (atom_j n q)) i g)

  key-other : (q : ℕ) → (max (atom_i n q) (atom_j n q) ≡ i → ⊥) → key_b q ≡ n
  key-other q g = rw (ne_eqb (max (atom_i n q) (atom_j n q)) i g)

  -- the places of blocks (j, i) and (i, j) have the key j
  key_of : (x y j p : ℕ) → x < n → y < n → p < 9 → max x y ≡ i → min x y ≡ j → key_b ((x * n + y) * 9 + p) ≡ j
  key_of x y j p hx hy hp a b =
      let (u, v) = atoms-at n x y p hy hp in
      key-pair ((x * n + y) * 9 + p) (ap₂ max u v ∙ a) ∙ ap₂ min u v ∙ b

  -- and no others
  of_key : (q j : ℕ) → j < i → key_b q ≡ j → ((atom_i n q ≡ j) × (atom_j n q ≡ i)) ⊎ ((atom_i n q ≡ i) × (atom_j n q ≡ j))
  of_key q j hj g =
      ⊎_elim
      (λ (a : max (atom_i n q) (atom_j n q) ≡ i). by_size i j (atom_i n q) (atom_j n q) a (sym (key-pair q a) ∙ g))
      (λ (a : max (atom_i n q) (atom_j n q) ≡ i → ⊥). let b = key-other q a in absurd (omega arith))
      (eq_or_ne (max (atom_i n q) (atom_j n q)) i)

  pair-before : (j : ℕ) → j < i → (us : List Float) → Stage nan ys key_b new_b j us → Stage nan ys key_b new_b (suc j) (pair_at (j * n + i) (i * n + j) us)
  pair-before j hj us s =
      let a = j * n + i in
      let b = i * n + j in
      let hjn : j < n = omega arith in
      let ne : a ≡ b → ⊥ = λ g. let r = sym (block_of_lem n j i hi) ∙ ap (λ c. c / n) g ∙ block_of_lem n i j hjn in omega arith in
      next nan ys key_b new_b j us (pair_at a b us) s (length-pair_at a b us)
      (λ q h g.
      let hu : q < length us = rw s.long h in
      let p = across_diagonal (q % 9) in
      let hp : p < 9 = transposed-below (q % 9) (in_nine q) in
      let own : get_or us q nan ≡ get_or ys q nan = s.left q h (omega arith) in
      let u : get_or us (b * 9 + p) nan ≡ get_or ys (b * 9 + p) nan =
      s.left (b * 9 + p) (rw e (place_in n n i j p hi hjn hp)) (let k = key_of i j j p hi hjn hp (omega arith) (omega arith) in omega arith) in
      let v : get_or us (a * 9 + p) nan ≡ get_or ys (a * 9 + p) nan =
      s.left (a * 9 + p) (rw e (place_in n n j i p hjn hi hp)) (let k = key_of j i j p hjn hi hp (omega arith) (omega arith) in omega arith) in
      ⊎_elim
      (λ (w : (atom_i n q ≡ j) × (atom_j n q ≡ i)).
      pair-first a b us ne q hu (of_atoms n q j i w.0 w.1)
      ∙ ap half (ap₂ (add binary64) own (u ∙ ap (λ c. get_or ys (c * 9 + p) nan) (ap₂ (λ x y. x * n + y) (sym w.1) (sym w.0)))))
      (λ (w : (atom_i n q ≡ i) × (atom_j n q ≡ j)).
      pair-second a b us ne q hu (of_atoms n q i j w.0 w.1)
      ∙ ap half (ap₂ (add binary64) own (v ∙ ap (λ c. get_or ys (c * 9 + p) nan) (ap₂ (λ x y. x * n + y) (sym w.1) (sym w.0)))))
      (of_key q j hj g))
      (λ q h g.
      let hu : q < length us = rw s.long h in
      pair_else a b us ne q hu
      (λ w. let (x, y) = atoms_of_lem n q j i hi w in g (key-pair q (ap₂ max x y ∙ omega arith) ∙ ap₂ min x y ∙ omega arith))
      (λ w. let (x, y) = atoms_of_lem n q i j hjn w in g (key-pair q (ap₂ max x y ∙ omega arith) ∙ ap₂ min x y ∙ omega arith)))

  pub before_state : Stage nan ys key_b new_b i (pairs_before n i ys)
  unfolding pairs_before
  before_state = stages nan ys key_b new_b i (λ j. pair_at (j * n + i) (i * n + j)) pair-before

-- ---- all pairs

module _ (n : ℕ) (xs : List Float) (e : length xs ≡ n * n * 9) where
  -- a pair is reached with its greater atom
  abbrev key_p : ℕ → ℕ
  key_p q = max (atom_i n q) (atom_j n q)

  abbrev new_p : ℕ → Float
  new_p q =
      cond (eqb (atom_i n q) (atom_j n q) && eqb (q % 9 / 3) (q % 9 % 3)) (get_or xs q nan) (half (add binary64 (get_or xs q nan) (get_or xs (mirror n q) nan)))

  pairs_of : (i : ℕ) → i < n → (ys : List Float) → Stage nan xs key_p new_p i ys → Stage nan xs key_p new_p (suc i) (own_at (i * n + i) (pairs_before n i ys))
  pairs_of i hi ys s =
      let ws = pairs_before n i ys in
      let b = i * n + i in
      let t = before_state n i hi ys (s.long ∙ e) in
      next nan xs key_p new_p i ys (own_at b ws) s (length-own_at b ws ∙ t.long)
      (λ q h g.
      let hy : q < length ys = rw s.long h in
      let hw : q < length ws = rw t.long hy in
      let bel = atoms-below n n q (rw e at h) in
      let p = across_diagonal (q % 9) in
      let hp : p < 9 = transposed-below (q % 9) (in_nine q) in
      let own : get_or ys q nan ≡ get_or xs q nan = s.left q h (omega arith) in
      let mir : get_or ys (mirror n q) nan ≡ get_or xs (mirror n q) nan =
      s.left (mirror n q) (rw e (place_in n n (atom_j n q) (atom_i n q) p bel.1 bel.0 hp))
      (let (x, y) = atoms-at n (atom_j n q) (atom_i n q) p bel.0 hp in let z = ap₂ max x y in omega arith) in
      ⊎_elim
      (λ (w : atom_i n q ≡ atom_j n q).
      let wi : atom_i n q ≡ i = omega arith in
      let wj : atom_j n q ≡ i = omega arith in
      let at_b : q / 9 ≡ b = of_atoms n q i i wi wj in
      let back : b * 9 + p ≡ mirror n q = ap (λ c. c * 9 + p) (ap₂ (λ x y. x * n + y) (sym wj) (sym wi)) in
      let kq : get_or ws q nan ≡ get_or ys q nan = t.left q hy (let k = key-pair n i hi ys (s.long ∙ e) q g in omega arith) in
      let km : get_or ws (b * 9 + p) nan ≡ get_or ys (b * 9 + p) nan =
      t.left (b * 9 + p) (rw (s.long ∙ e) (place_in n n i i p hi hi hp)) (let k = key_of n i hi ys (s.long ∙ e) i i i p hi hi hp (omega arith) (omega arith) in omega arith) in
      rw (eq-eqb (atom_i n q) (atom_j n q) w)
      (own_in b ws q hw at_b
      ∙ ap₂ (λ x y. cond (eqb (q % 9 / 3) (q % 9 % 3)) x (half (add binary64 x y))) (kq ∙ own) (km ∙ ap (λ k. get_or ys k nan) back ∙ mir)))
      (λ (w : atom_i n q ≡ atom_j n q → ⊥).
      rw (ne_eqb (atom_i n q) (atom_j n q) w)
      (own_out b ws q hw (λ r. let (x, y) = atoms_of_lem n q i i hi r in w (x ∙ sym y))
      ∙ t.made q hy (let k = key-pair n i hi ys (s.long ∙ e) q g in omega arith)
      ∙ ap half (ap₂ (add binary64) own mir)))
      (eq_or_ne (atom_i n q) (atom_j n q)))
      (λ q h g.
      let hy : q < length ys = rw s.long h in
      let hw : q < length ws = rw t.long hy in
      own_out b ws q hw (λ r. let (x, y) = atoms_of_lem n q i i hi r in g (ap₂ max x y ∙ omega arith))
      ∙ t.left q hy (let k = key-other n i hi ys (s.long ∙ e) q g in omega arith))

  -- the counterpart, by atoms and directions
  entry-mirror : (q : ℕ) → full_entry n xs (atom_j n q) (atom_i n q) (q % 9 % 3) (q % 9 / 3) ≡ get_or xs (mirror n q) nan
  entry-mirror q = entry-at n xs (atom_j n q) (atom_i n q) (q % 9 % 3) (q % 9 / 3)

  pub pairs_make : pairs n xs ≡ pair_averages n xs
  unfolding pairs pair_averages
  pairs_make =
      let s = stages nan xs key_p new_p n (λ i ys. own_at (i * n + i) (pairs_before n i ys)) pairs_of in
      is_tab nan (n * n * 9) _ (times n (λ i ys. own_at (i * n + i) (pairs_before n i ys)) xs) (s.long ∙ e)
      (λ q h.
      let hx : q < length xs = rw e h in
      let bel = atoms-below n n q h in
      s.made q hx (omega arith)
      ∙ ap₂ (λ x y. cond (eqb (atom_i n q) (atom_j n q) && eqb (q % 9 / 3) (q % 9 % 3)) x (half (add binary64 x y))) (sym (entry-own n xs q)) (sym (entry-mirror q)))
      ∙ sym (filled n _)

-- ---- the diagonal blocks

module _ (n : ℕ) (xs : List Float) (e : length xs ≡ n * n * 9) where
  -- the sums by directions
  by_directions : (i k l : ℕ) → off_site_sum n xs i k l ≡ sum_but n xs i i (k * 3 + l)
  unfolding off_site_sum
  by_directions i k l = times-same n _ _ plus_zero (λ j hj s. ap (λ x. cond (eqb i j) s (add binary64 s x)) (entry-at n xs i j k l))

  sum-own : (q : ℕ) → off_site_sum n xs (atom_i n q) (q % 9 / 3) (q % 9 % 3) ≡ sum_but n xs (atom_i n q) (atom_i n q) (q % 9)
  sum-own q = by_directions (atom_i n q) (q % 9 / 3) (q % 9 % 3) ∙ ap (sum_but n xs (atom_i n q) (atom_i n q)) (div-add-mod' (q % 9) 3)

  sum-transposed : (q : ℕ) → off_site_sum n xs (atom_i n q) (q % 9 % 3) (q % 9 / 3) ≡ sum_but n xs (atom_i n q) (atom_i n q) (across_diagonal (q % 9))
  sum-transposed q = by_directions (atom_i n q) (q % 9 % 3) (q % 9 / 3)

  pub diagonals_make : diagonals n xs ≡ on_site_blocks n xs
  unfolding diagonals on_site_blocks
  diagonals_make =
      balances_make n n (λ i. i) (λ i h. h) xs e
      ∙ tab_ext nan (n * n * 9) _ _ (λ q h.
      ap₂ (cond (eqb (atom_i n q) (atom_j n q))) (ap₂ (λ x y. half (neg (add binary64 x y))) (sym (sum-own q)) (sym (sum-transposed q))) (sym (entry-own n xs q)))
      ∙ sym (filled n _)
