-- Why the loops over blocks take the drift of a leg off, for every rank at once; where their blocks lie; the guard's answers. Assumes nothing.
use Rattle.std.specs.Prelude.{◌≡◌, length, set}
use Rattle.std.proofs.Math.Path.{refl, sym, ap, ap₂}
use Rattle.std.proofs.Common.{◌∙◌, subst, div-add-mod', mod-lt, div-lt_iff_lt-mul, le_refl, suc-ne-zero, not-suc-le-zero, lit≤, get_or-set_other, length-set}
use mathlib.Core.List.{List, [], ◌∷◌}
use Prim.Native.Nat.{ℕ, zero, suc, ◌+◌, ◌*◌, ◌-◌, ◌/◌, ◌%◌, ◌≤◌, ◌<◌}
use Rattle.std.proofs.Math.Nat.{suc_inj}
use native.Mathlib.Omega.{arith}
use Rattle.std.proofs.Math.ListN.{get_or}
use Rattle.std.specs.Float.Ieee.{Float, nan, sub, mul, binary64}
use Rattle.lists.specs.Tab.{tab, get_or-tab, is_tab, tab_ext, fill_more, times, times_nest}
use Rattle.lists.specs.Stages.{Stage, next, stages}
use Rattle.lists.specs.Elements.{Below}
use Rattle.lists.specs.Digits.{horner, times_power, rest, digits, length_digits, digits-below, rest_below, horner-zero, in_row, quotient, remainder}
use Rattle.blocks.specs.Block.{block, put_block, length-block, length-put_block, get_or-block, put-inside, put-outside, block_of_lem, fits}
use Rattle.tables.specs.Shifts.{Shifts, Laws, p2s_at}
use Rattle.tables.specs.Limits.{limit3, limit4}
use Rattle.tables.specs.Conditions.{index_at}
use Rattle.tables.specs.Compact.{ShiftTables, shifts_of, TablesFit, p2s_is}
use Rattle.places.specs.Places.{size, in_block}
use Rattle.places.specs.ReadOuts.{stored_in, stored_in_lem}
use Rattle.orbits.specs.Transposed.{in_block_pos, size_blocks}
use Rattle.lines.specs.Sums3x3.{inverse}
use Rattle.read_out.specs.Blocks.{block_of}
use Rattle.audits.specs.Guard.{Ready, stored-within}
use Rattle.legs.specs.Laws.{block_sums, length-sums, leg_block, sum_is}
use Rattle.acoustic.specs.Acoustic.{atoms_of, without, drift_at, without_drift}

-- ---- a loop that changes every number of a slice: those before place k are changed

pub record Mapping (F : ℕ → Float → Float) (s₀ : List Float) (k : ℕ) (s : List Float) : Type 0 where
  pub within : k ≤ length s₀
  pub long : length s ≡ length s₀
  pub done : (j : ℕ) → j < k → get_or s j nan ≡ F j (get_or s₀ j nan)
  pub left : (j : ℕ) → k ≤ j → get_or s j nan ≡ get_or s₀ j nan

module _ (F : ℕ → Float → Float) (s₀ : List Float) where
  pub mapping_none : Mapping F s₀ 0 s₀
  mapping_none = record { within = omega arith; long = refl; done = λ j h. absurd (not-suc-le-zero h); left = λ j h. refl }

  pub mapping_more : (k : ℕ) (s : List Float) → k < length s₀ → Mapping F s₀ k s → Mapping F s₀ (k + 1) (set s k (F k (get_or s k nan)))
  mapping_more k s h a = record {
    within = omega arith;
    long = length-set s k _ ∙ a.long;
    done = fill_more nan (λ j. F j (get_or s₀ j nan)) s k _ (omega (arith, a.long, h)) (ap (F k) (a.left k (le_refl k))) a.done;
    left = λ j l. get_or-set_other s k j _ nan (λ g. omega (arith, g, l)) ∙ a.left j (omega (arith, l));
  }

  pub mapping_all : (k : ℕ) (s : List Float) → length s₀ ≤ k → Mapping F s₀ k s → s ≡ tab (length s₀) (λ j. F j (get_or s₀ j nan))
  mapping_all k s h a = is_tab nan (length s₀) _ s a.long (λ j l. a.done j (omega (arith, h, l)))

-- a block times x; a block less another
abbrev pub scaled : List Float → Float → List Float
scaled s x = tab (length s) (λ k. mul binary64 (get_or s k nan) x)

abbrev pub less : List Float → List Float → List Float
less s d = tab (length s) (λ k. sub binary64 (get_or s k nan) (get_or d k nan))

-- ---- a loop that writes block after block of a list of n blocks

module _ (w : ℕ) (hw : 0 < w) (n : ℕ) (xs : List Float) (l : length xs ≡ n * w) (new : ℕ → Float) (f : ℕ → List Float → List Float)
    (on : (b : ℕ) → b < n → (ys : List Float) → block w b ys ≡ block w b xs → (k : ℕ) → k < w → get_or (f b ys) k nan ≡ new (b * w + k)) where
  abbrev key : ℕ → ℕ
  key q = q / w

  same_block : (b : ℕ) → b < n → (ys : List Float) → Stage nan xs key new b ys → block w b ys ≡ block w b xs
  unfolding block
  same_block b hb ys s = tab_ext nan w _ _ (λ k hk. s.left (b * w + k) (rw l (in_row n w b k hb hk)) (let e = block_of_lem w b k hk in omega (arith, e)))

  turn : (b : ℕ) → b < n → (ys : List Float) → Stage nan xs key new b ys → Stage nan xs key new (suc b) (put_block w b (f b ys) ys)
  turn b hb ys s =
      next nan xs key new b ys (put_block w b (f b ys) ys) s (length-put_block w b (f b ys) ys)
      (λ q h g.
      put-inside w b (f b ys) ys q (rw s.long h) g ∙ on b hb ys (same_block b hb ys s) (q % w) (mod-lt q hw)
      ∙ ap new (ap (λ c. c * w + q % w) (sym g) ∙ div-add-mod' q w))
      (λ q h g. put-outside w b (f b ys) ys q (rw s.long h) g)

  pub blocks_make : times n (λ b ys. put_block w b (f b ys) ys) xs ≡ tab (n * w) new
  blocks_make =
      let s = stages nan xs key new n (λ b ys. put_block w b (f b ys) ys) turn in
      is_tab nan (n * w) new (times n (λ b ys. put_block w b (f b ys) ys) xs) (s.long ∙ l) (λ q h. s.made q (rw l h) ((div-lt_iff_lt-mul hw).1 h))

-- ---- the two loops of a leg

-- the atoms of block r of the other legs, as `leg_sum` numbers them
abbrev pub line_of : Shifts → ℕ → ℕ → ℕ
line_of S m r = horner S.n_satom 0 (atoms_of S (m - 1) r)

module _ (S : Shifts) (m leg : ℕ) where
  -- the stored block of the other legs of block b
  abbrev pub other_block : ℕ → ℕ
  other_block b = block_of S (without leg (atoms_of S m b))

  -- the drift of block r of the other legs, written to block r of the work slice
  abbrev pub drift_block : ℕ → List Float → Float → ℕ → List Float
  drift_block w set x r = scaled (block_sums w (leg_block S m leg (line_of S m r)) S.n_satom set) x

  unfoldable pub drift_put : ℕ → List Float → Float → ℕ → List Float → List Float
  drift_put w set x r = put_block w r (drift_block w set x r)

  -- block b less the drift of its other legs
  unfoldable pub less_at : ℕ → List Float → ℕ → List Float → List Float
  less_at w drift b ys = put_block w b (less (block w b ys) (block w (other_block b) drift)) ys

  -- all blocks of one row
  unfoldable pub row_less : ℕ → List Float → ℕ → List Float → List Float
  row_less w drift row ys = times S.n_satom (λ k. less_at w drift (row * S.n_satom + k)) ys

  module _ (old : List Float) where
    abbrev W : ℕ
    W = in_block m

    -- all drifts
    abbrev drifts : ℕ → List Float
    drifts R = tab (R * W) (λ z. drift_at S m leg old (z / W) (z % W))

    drift_is : (r k : ℕ) → k < W → get_or (drift_block W old (inverse S.n_satom) r) k nan ≡ drift_at S m leg old r k
    drift_is r k h =
        let b = block_sums W (leg_block S m leg (line_of S m r)) S.n_satom old in
        get_or-tab (length b) (λ k. mul binary64 (get_or b k nan) (inverse S.n_satom)) k nan (rw (length-sums W (leg_block S m leg (line_of S m r)) S.n_satom old) h)
        ∙ ap (λ s. mul binary64 s (inverse S.n_satom)) (sum_is S m old leg (line_of S m r) k h)

    drifts_make : (R : ℕ) (work : List Float) → length work ≡ R * W → times R (drift_put W old (inverse S.n_satom)) work ≡ drifts R
    unfolding drift_put
    drifts_make R work l =
        blocks_make W (in_block_pos m) R work l (λ z. drift_at S m leg old (z / W) (z % W)) (λ r _. drift_block W old (inverse S.n_satom) r)
        (λ r hr ys s k hk. drift_is r k hk ∙ sym (ap₂ (drift_at S m leg old) (quotient W r k hk) (remainder W r k hk)))

    less_make : (R B : ℕ) → B * W ≡ size S m → length old ≡ B * W → ((b : ℕ) → b < B → other_block b < R) → (drift : List Float) → drift ≡ drifts R
        → times B (less_at W drift) old ≡ without_drift S m leg old
    unfolding less_at without_drift
    less_make R B eB l below drift e =
        let new : ℕ → Float = λ q. sub binary64 (get_or old q nan) (drift_at S m leg old (other_block (q / W)) (q % W)) in
        let d : ℕ → List Float = λ b. block W (other_block b) drift in
        blocks_make W (in_block_pos m) B old l new (λ b ys. less (block W b ys) (d b))
        (λ b hb ys s k hk.
        let v = block W b ys in
        let at : get_or (d b) k nan ≡ drift_at S m leg old (other_block b) k =
        get_or-block W (other_block b) drift k hk ∙ ap (λ t. get_or t (other_block b * W + k) nan) e
        ∙ get_or-tab (R * W) (λ z. drift_at S m leg old (z / W) (z % W)) (other_block b * W + k) nan (in_row R W (other_block b) k (below b hb) hk)
        ∙ ap₂ (drift_at S m leg old) (quotient W (other_block b) k hk) (remainder W (other_block b) k hk) in
        get_or-tab (length v) (λ k. sub binary64 (get_or v k nan) (get_or (d b) k nan)) k nan (rw (length-block W b ys) hk)
        ∙ ap₂ (sub binary64) (ap (λ v. get_or v k nan) s ∙ get_or-block W b old k hk) at
        ∙ ap₂ (λ q z. sub binary64 (get_or old (b * W + k) nan) (drift_at S m leg old (other_block q) z)) (sym (quotient W b k hk)) (sym (remainder W b k hk)))
        ∙ ap (λ n. tab n new) eB

    -- both, with the width of a block as the program has it
    pub leg-made : (w R rows : ℕ) → W ≡ w → rows * S.n_satom * W ≡ size S m → length old ≡ size S m → ((b : ℕ) → b < rows * S.n_satom → other_block b < R)
        → (work : List Float) → length work ≡ R * W → {drift new : List Float}
        → drift ≡ times R (drift_put w old (inverse S.n_satom)) work → new ≡ times rows (row_less w drift) old → new ≡ without_drift S m leg old
    leg-made w R rows e eB l below work lw {drift} {new} ed en =
        let n = S.n_satom in
        let d : drift ≡ drifts R = ed ∙ ap (λ w. times R (drift_put w old (inverse n)) work) (sym e) ∙ drifts_make R work lw in
        en ∙ ap (λ w. times rows (row_less w drift) old) (sym e) ∙ nested rows drift
        ∙ less_make R (rows * n) eB (l ∙ sym eB) below drift d
      where
        nested : (rows : ℕ) (drift : List Float) → times rows (row_less W drift) old ≡ times (rows * S.n_satom) (less_at W drift) old
        nested rows drift = unfold row_less in sym (times_nest rows S.n_satom (less_at W drift) old)

-- ---- where the blocks lie

length_without : (leg a : ℕ) (ks : List ℕ) → leg ≤ length ks → length (without leg (a ∷ ks)) ≡ length ks
unfolding without
length_without zero a ks h = refl
length_without (suc leg) a [] h = absurd (not-suc-le-zero h)
length_without (suc leg) a (k ∷ ks) h = ap suc (length_without leg k ks (omega arith))

below-without : (n leg : ℕ) (ks : List ℕ) → Below n ks → Below n (without leg ks)
unfolding without
below-without n leg [] b = tt
below-without n zero (k ∷ ks) b = b.1
below-without n (suc leg) (k ∷ ks) b = (b.0, below-without n leg ks b.1)

-- the stored block of a list of atoms
list_below : (limit : ℕ) (T : ShiftTables) → limit ≤ 1024 → TablesFit limit T → (ks : List ℕ) (k : ℕ) → length ks ≡ suc k → Below T.n_satom ks
    → block_of (shifts_of T) ks < times_power T.n_satom k T.n_patom
unfolding block_of
list_below limit T h F [] k e b = absurd (suc-ne-zero _ (sym e))
list_below limit T h F (a ∷ js) k e b = rw (stored_in_lem T a js, suc_inj e) at (stored-within limit T h F a b.0 js b.1)

module _ (limit : ℕ) (T : ShiftTables) (h : limit ≤ 1024) (F : TablesFit limit T) (L : Laws (shifts_of T)) where
  abbrev S : Shifts
  S = shifts_of T

  atoms-below : (m b : ℕ) → b < times_power T.n_satom m T.n_patom → Below T.n_satom (atoms_of S m b)
  atoms-below m b hb = (L.p2s-below (rest T.n_satom m b) (rest_below T.n_satom m T.n_patom b hb), digits-below T.n_satom m T.n_patom b hb)

  pub line-below : (k r : ℕ) → r < times_power T.n_satom k T.n_patom → horner T.n_satom 0 (atoms_of S k r) < times_power T.n_satom (suc k) 1
  line-below k r hr =
      let xs = atoms_of S k r in
      let l : length xs ≡ suc k = ap suc (length_digits T.n_satom k r) in
      subst (λ (j : ℕ). horner T.n_satom 0 xs < times_power T.n_satom j 1) l (horner-zero T.n_satom xs (atoms-below k r hr))

  pub other-below : (k leg b : ℕ) → leg ≤ suc k → b < times_power T.n_satom (suc k) T.n_patom → other_block S (suc k) leg b < times_power T.n_satom k T.n_patom
  other-below k leg b hl hb =
      let ds = digits T.n_satom (suc k) b in
      let l = length_digits T.n_satom (suc k) b in
      list_below limit T h F (without leg (atoms_of S (suc k) b)) k
      (length_without leg (p2s_at S (rest T.n_satom (suc k) b)) ds (rw l hl) ∙ l)
      (below-without T.n_satom leg (atoms_of S (suc k) b) (atoms-below (suc k) b hb))

-- ---- what the loops have: a set that passed, and a work slice of a block for each block of one leg less

pub record Room (limit m lenSet lenDrift : ℕ) (T : ShiftTables) : Type 0 where
  pub ready : Ready limit m lenSet T
  pub room : lenDrift ≡ times_power T.n_satom (m - 1) T.n_patom * in_block m

pub drift_inside : (limit m lenSet lenDrift : ℕ) (T : ShiftTables) → Room limit m lenSet lenDrift T → (w : ℕ) → in_block m ≡ w → (r : ℕ)
    → r < times_power T.n_satom (m - 1) T.n_patom → r * w + w ≤ lenDrift
drift_inside limit m lenSet lenDrift T R w e r h =
    rw R.room (subst (λ (w : ℕ). r * w + w ≤ times_power T.n_satom (m - 1) T.n_patom * in_block m) e (fits (in_block m) r (times_power T.n_satom (m - 1) T.n_patom) h))

-- ---- third order

pub in27 : in_block 2 ≡ 27
unfolding in_block times_power
in27 = refl

pub rows2 : (n p : ℕ) → times_power n 1 p ≡ p * n
unfolding times_power
rows2 n p = refl

pub rows3 : (n p : ℕ) → times_power n 2 p ≡ p * n * n
unfolding times_power
rows3 n p = refl

module _ (T : ShiftTables) where
  abbrev n : ℕ
  n = T.n_satom

  abbrev F : ℕ → List ℕ → ℕ
  F = stored_in n T.s2pp T.nsym_list T.perms

  pub line3_is : (r : ℕ) {p i c t : ℕ} → p ≡ r / n → i ≡ index_at T.p2s p → c ≡ r % n → t ≡ i * n + c → t ≡ line_of (shifts_of T) 2 r
  unfolding horner rest digits
  line3_is r {p} {i} ep ei ec et =
      let z : i ≡ 0 * n + p2s_at (shifts_of T) (r / n) = ei ∙ p2s_is T p ∙ ap (p2s_at (shifts_of T)) ep ∙ none (p2s_at (shifts_of T) (r / n)) in
      et ∙ ap₂ (λ i c. i * n + c) z ec
    where
      none : (x : ℕ) → x ≡ 0 * n + x
      none x = omega arith

  module _ (i j k leg : ℕ) {q : ℕ} where
    pub other3_0 : leg ≡ 0 → q ≡ F j (k ∷ []) → q ≡ block_of (shifts_of T) (without leg (i ∷ j ∷ k ∷ []))
    unfolding block_of without
    other3_0 el e = e ∙ stored_in_lem T j (k ∷ []) ∙ rw el refl

    pub other3_1 : leg ≡ 1 → q ≡ F i (k ∷ []) → q ≡ block_of (shifts_of T) (without leg (i ∷ j ∷ k ∷ []))
    unfolding block_of without
    other3_1 el e = e ∙ stored_in_lem T i (k ∷ []) ∙ rw el refl

    pub other3_2 : leg ≡ 2 → q ≡ F i (j ∷ []) → q ≡ block_of (shifts_of T) (without leg (i ∷ j ∷ k ∷ []))
    unfolding block_of without
    other3_2 el e = e ∙ stored_in_lem T i (j ∷ []) ∙ rw el refl

  pub row3_is : (row k leg : ℕ) → k < n → {p i j q : ℕ} → p ≡ row / n → i ≡ index_at T.p2s p → j ≡ row % n → q ≡ block_of (shifts_of T) (without leg (i ∷ j ∷ k ∷ []))
      → q ≡ other_block (shifts_of T) 2 leg (row * n + k)
  unfolding rest digits
  row3_is row k leg hk {p} {i} {j} ep ei ej eq =
      let b = row * n + k in
      let u : row ≡ b / n = sym (quotient n row k hk) in
      let v : k ≡ b % n = sym (remainder n row k hk) in
      eq ∙ ap (λ ks. block_of (shifts_of T) (without leg ks))
      (three (ei ∙ p2s_is T p ∙ ap (p2s_at (shifts_of T)) (ep ∙ ap (λ x. x / n) u)) (ej ∙ ap (λ x. x % n) u) v)
    where
      three : {a b c a' b' c' : ℕ} → a ≡ a' → b ≡ b' → c ≡ c' → a ∷ b ∷ c ∷ [] ≡ a' ∷ b' ∷ c' ∷ []
      three e f g = cc

  -- one leg done
  pub leg3_made : (leg : ℕ) → leg ≤ 2 → (old work : List Float) → Room limit3 2 (length old) (length work) T → {drift new : List Float}
      → drift ≡ times (T.n_patom * n) (drift_put (shifts_of T) 2 leg 27 old (inverse n)) work → new ≡ times (T.n_patom * n) (row_less (shifts_of T) 2 leg 27 drift) old
      → new ≡ without_drift (shifts_of T) 2 leg old
  leg3_made leg hl old work R ed en =
      let P = T.n_patom in
      leg-made (shifts_of T) 2 leg old 27 (P * n) (P * n) in27 (ap (λ x. x * in_block 2) (sym (rows3 n P)) ∙ sym (size_blocks (shifts_of T) 2)) R.ready.set-length
      (λ b hb. rw (rows2 n P) at (other-below limit3 T (lit≤ tt) R.ready.fit R.ready.rules 1 leg b hl (rw (rows3 n P) hb)))
      work (R.room ∙ ap (λ x. x * in_block 2) (rows2 n P)) ed en

-- ---- fourth order

pub in81 : in_block 3 ≡ 81
unfolding in_block times_power
in81 = refl

pub rows4 : (n p : ℕ) → times_power n 3 p ≡ p * n * n * n
unfolding times_power
rows4 n p = refl

module _ (T : ShiftTables) where
  abbrev satoms : ℕ
  satoms = T.n_satom

  abbrev stored_at : ℕ → List ℕ → ℕ
  stored_at = stored_in satoms T.s2pp T.nsym_list T.perms

  pub line4_is : (r : ℕ) {pj p i j ij k t : ℕ} → pj ≡ r / satoms → p ≡ pj / satoms → i ≡ index_at T.p2s p → j ≡ pj % satoms → ij ≡ i * satoms + j → k ≡ r % satoms → t ≡ ij * satoms + k
      → t ≡ line_of (shifts_of T) 3 r
  unfolding horner rest digits
  line4_is r {pj} {p} {i} {j} eq ep ei ej eij ek et =
      let x = p2s_at (shifts_of T) (r / satoms / satoms) in
      let z : i ≡ 0 * satoms + x = ei ∙ p2s_is T p ∙ ap (p2s_at (shifts_of T)) (ep ∙ ap (λ y. y / satoms) eq) ∙ none x in
      et ∙ ap₂ (λ ij k. ij * satoms + k) (eij ∙ ap₂ (λ i j. i * satoms + j) z (ej ∙ ap (λ y. y % satoms) eq)) ek
    where
      none : (x : ℕ) → x ≡ 0 * satoms + x
      none x = omega arith

  module _ (i j k l leg : ℕ) {q : ℕ} where
    pub other4_0 : leg ≡ 0 → q ≡ stored_at j (k ∷ l ∷ []) → q ≡ block_of (shifts_of T) (without leg (i ∷ j ∷ k ∷ l ∷ []))
    unfolding block_of without
    other4_0 el e = e ∙ stored_in_lem T j (k ∷ l ∷ []) ∙ rw el refl

    pub other4_1 : leg ≡ 1 → q ≡ stored_at i (k ∷ l ∷ []) → q ≡ block_of (shifts_of T) (without leg (i ∷ j ∷ k ∷ l ∷ []))
    unfolding block_of without
    other4_1 el e = e ∙ stored_in_lem T i (k ∷ l ∷ []) ∙ rw el refl

    pub other4_2 : leg ≡ 2 → q ≡ stored_at i (j ∷ l ∷ []) → q ≡ block_of (shifts_of T) (without leg (i ∷ j ∷ k ∷ l ∷ []))
    unfolding block_of without
    other4_2 el e = e ∙ stored_in_lem T i (j ∷ l ∷ []) ∙ rw el refl

    pub other4_3 : leg ≡ 3 → q ≡ stored_at i (j ∷ k ∷ []) → q ≡ block_of (shifts_of T) (without leg (i ∷ j ∷ k ∷ l ∷ []))
    unfolding block_of without
    other4_3 el e = e ∙ stored_in_lem T i (j ∷ k ∷ []) ∙ rw el refl

  pub row4_is : (row l leg : ℕ) → l < satoms → {pj p i j k q : ℕ} → pj ≡ row / satoms → p ≡ pj / satoms → i ≡ index_at T.p2s p → j ≡ pj % satoms → k ≡ row % satoms
      → q ≡ block_of (shifts_of T) (without leg (i ∷ j ∷ k ∷ l ∷ [])) → q ≡ other_block (shifts_of T) 3 leg (row * satoms + l)
  unfolding rest digits
  row4_is row l leg hl {pj} {p} eq ep ei ej ek e =
      let b = row * satoms + l in
      let u : row ≡ b / satoms = sym (quotient satoms row l hl) in
      let v : l ≡ b % satoms = sym (remainder satoms row l hl) in
      let w : pj ≡ b / satoms / satoms = eq ∙ ap (λ x. x / satoms) u in
      e ∙ ap (λ ks. block_of (shifts_of T) (without leg ks))
      (four (ei ∙ p2s_is T p ∙ ap (p2s_at (shifts_of T)) (ep ∙ ap (λ x. x / satoms) w)) (ej ∙ ap (λ x. x % satoms) w) (ek ∙ ap (λ x. x % satoms) u) v)
    where
      four : {a b c d a' b' c' d' : ℕ} → a ≡ a' → b ≡ b' → c ≡ c' → d ≡ d' → a ∷ b ∷ c ∷ d ∷ [] ≡ a' ∷ b' ∷ c' ∷ d' ∷ []
      four e f g h = cc

  -- one leg done
  pub leg4_made : (leg : ℕ) → leg ≤ 3 → (old work : List Float) → Room limit4 3 (length old) (length work) T → {drift new : List Float}
      → drift ≡ times (T.n_patom * satoms * satoms) (drift_put (shifts_of T) 3 leg 81 old (inverse satoms)) work → new ≡ times (T.n_patom * satoms * satoms) (row_less (shifts_of T) 3 leg 81 drift) old
      → new ≡ without_drift (shifts_of T) 3 leg old
  leg4_made leg hl old work R ed en =
      let P = T.n_patom in
      leg-made (shifts_of T) 3 leg old 81 (P * satoms * satoms) (P * satoms * satoms) in81 (ap (λ x. x * in_block 3) (sym (rows4 satoms P)) ∙ sym (size_blocks (shifts_of T) 3)) R.ready.set-length
      (λ b hb. rw (rows3 satoms P) at (other-below limit4 T (lit≤ tt) R.ready.fit R.ready.rules 2 leg b hl (rw (rows4 satoms P) hb)))
      work (R.room ∙ ap (λ x. x * in_block 3) (rows3 satoms P)) ed en
