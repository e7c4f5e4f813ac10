-- The column drift as the code arranges it: eight columns at a time, whose blocks of a row stand side by side. Assumes nothing.
use Rattle.std.specs.Prelude.{◌≡◌, List, [], get_or, Float}
use Rattle.std.proofs.Math.Path.{refl, sym}
use Rattle.std.proofs.Common.{ap, ap₂, ◌∙◌, subst, ⊎_elim, mod-lt, mul-le-mul_right, arith, lit<}
use Prim.Native.Nat.{ℕ, zero, suc, ◌+◌, ◌*◌, ◌-◌, ◌/◌, ◌%◌, ◌<◌, ◌≤◌}
use Rattle.std.proofs.Math.ListN.{length}
use Rattle.std.proofs.lemmas.List.{get_or-replicate}
use Rattle.std.specs.Float.Ieee.{nan, add, sub, mul}
use Rattle.std.specs.Float.{binary64}
use Rattle.lists.specs.Tab.{times, times-same, is_tab, get_or-tab}
use Rattle.lists.specs.Cases.{lt_or_le, eq_or_ne}
use Rattle.lists.specs.Stages.{Stage}
use Rattle.blocks.specs.Block.{block}
use Rattle.lists.specs.Floats.{plus_zero}
use Rattle.lines.specs.Sums3x3.{Sums, zeros, sum_in, more, scaled, sum_in_lem}
use Rattle.lines.specs.Lines.{line_sums, less_at, line_drift, Sized, atom_i, atom_j, of_atoms, atoms-at, atoms-below, place_in, block_fits}
use Rattle.lines.specs.DriftLaws.{lines_make, line_taken, line-sum, zeros_in, length-less_at, less_in, less-out}
use Rattle.fc2.specs.FullLoops.{columns, added8, scaled8, less8, panel_sums, panel_less, panel_drift}
use Rattle.fc2.specs.FullDriftLaws.{by-columns}

-- ---- the sums of eight columns

-- sum c of the eight is that of column j + c
pub panel_sum : (n j i : ℕ) (xs : List Float) (c : ℕ) → c < 8 → get_or (panel_sums n j i xs) c [] ≡ line_sums (j + c) n i xs zeros
unfolding panel_sums line_sums added8 times
panel_sum n j zero xs c h = get_or-replicate 8 c zeros [] h
panel_sum n j (suc i) xs c h =
    let w : i * n + j + c ≡ j + c + i * n = omega arith in
    get_or-tab 8 (λ c. more (get_or (panel_sums n j i xs) c []) (block 9 (i * n + j + c) xs)) c [] h
    ∙ ap₂ (λ s b. more s (block 9 b xs)) (panel_sum n j i xs c h) w

-- the sum of column b at number p of its blocks
abbrev pub sum_of : ℕ → List Float → ℕ → ℕ → Float
sum_of n xs b p = times n (λ k t. add binary64 t (get_or xs ((b + k * n) * 9 + p) nan)) plus_zero

panel_drift_at : (n j : ℕ) (x : Float) (xs : List Float) (c p : ℕ) → c < 8 → p < 9
    → sum_in (get_or (scaled8 (panel_sums n j n xs) x) c []) p ≡ mul binary64 (sum_of n xs (j + c) p) x
unfolding scaled8
panel_drift_at n j x xs c p h hp =
    ap (λ s. sum_in s p) (get_or-tab 8 (λ c. scaled (get_or (panel_sums n j n xs) c []) x) c [] h ∙ ap (λ s. scaled s x) (panel_sum n j n xs c h))
    ∙ sum_in_lem (λ p. mul binary64 (sum_in (line_sums (j + c) n n xs zeros) p) x) p hp
    ∙ ap (λ t. mul binary64 t x)
    (line-sum (j + c) n n xs zeros p hp
    ∙ ap (λ z. times n (λ k t. add binary64 t (get_or xs ((j + c + k * n) * 9 + p) nan)) z) (zeros_in p hp))

-- ---- eight blocks less eight drifts

-- ys is xs with the first p of the drifts d taken from the blocks from block b on
record Less (d : List Sums) (b : ℕ) (xs : List Float) (p : ℕ) (ys : List Float) : Type 0 where
  pub long : length ys ≡ length xs
  pub on : (q : ℕ) → q < length xs → b ≤ q / 9 → q / 9 < b + p → get_or ys q nan ≡ sub binary64 (get_or xs q nan) (sum_in (get_or d (q / 9 - b) []) (q % 9))
  pub before : (q : ℕ) → q < length xs → q / 9 < b → get_or ys q nan ≡ get_or xs q nan
  pub after : (q : ℕ) → q < length xs → b + p ≤ q / 9 → get_or ys q nan ≡ get_or xs q nan

less_state : (d : List Sums) (b : ℕ) (xs : List Float) (p : ℕ) → Less d b xs p (times p (λ c. less_at (get_or d c []) (b + c)) xs)
unfolding times
less_state d b xs zero = record { long = refl; on = λ q h l u. absurd (omega arith); before = λ q h l. refl; after = λ q h l. refl }
less_state d b xs (suc p) =
    let s = less_state d b xs p in
    let ys = times p (λ c. less_at (get_or d c []) (b + c)) xs in
    record {
      long = length-less_at (get_or d p []) (b + p) ys ∙ s.long;
      on = λ q h l u.
          let hy : q < length ys = rw s.long h in
          ⊎_elim
          (λ (e : q / 9 ≡ b + p).
          let k : p ≡ q / 9 - b = omega arith in
          less_in (get_or d p []) (b + p) ys q hy e
          ∙ ap₂ (λ y c. sub binary64 y (sum_in (get_or d c []) (q % 9))) (s.after q h (omega arith)) k)
          (λ (e : q / 9 ≡ b + p → ⊥). less-out (get_or d p []) (b + p) ys q hy e ∙ s.on q h l (omega arith))
          (eq_or_ne (q / 9) (b + p));
      before = λ q h l.
          let hy : q < length ys = rw s.long h in
          less-out (get_or d p []) (b + p) ys q hy (λ e. omega arith) ∙ s.before q h l;
      after = λ q h l.
          let hy : q < length ys = rw s.long h in
          less-out (get_or d p []) (b + p) ys q hy (λ e. omega arith) ∙ s.after q h (omega arith);
    }

eight : (d : List Sums) (b : ℕ) (xs : List Float) → Less d b xs 8 (less8 d b xs)
unfolding less8
eight d b xs = less_state d b xs 8

-- ---- eight columns less eight drifts

-- ys is xs with d taken from columns j to j + 7 of the first i rows
record Taken (n j : ℕ) (d : List Sums) (xs : List Float) (i : ℕ) (ys : List Float) : Type 0 where
  pub long : length ys ≡ length xs
  pub on : (q : ℕ) → q < length xs → atom_i n q < i → j ≤ atom_j n q → atom_j n q < j + 8
      → get_or ys q nan ≡ sub binary64 (get_or xs q nan) (sum_in (get_or d (atom_j n q - j) []) (q % 9))
  pub below : (q : ℕ) → q < length xs → i ≤ atom_i n q → get_or ys q nan ≡ get_or xs q nan
  pub left : (q : ℕ) → q < length xs → atom_j n q < j → get_or ys q nan ≡ get_or xs q nan
  pub right : (q : ℕ) → q < length xs → j + 8 ≤ atom_j n q → get_or ys q nan ≡ get_or xs q nan

module _ (n j : ℕ) (d : List Sums) (xs : List Float) (e : length xs ≡ n * n * 9) (hj : j + 8 ≤ n) where
  module _ (i : ℕ) (q : ℕ) (h : q < length xs) where
    block_is : q / 9 ≡ atom_i n q * n + atom_j n q
    block_is = of_atoms n q (atom_i n q) (atom_j n q) refl refl

    b-below : atom_j n q < n
    b-below = (atoms-below n n q (subst (λ (x : ℕ). q < x) e h)).1

    row_before : atom_i n q < i → q / 9 < i * n + j
    row_before l = omega (arith, block_is, mul-le-mul_right n l, b-below)

    row-after : i < atom_i n q → i * n + j + 8 ≤ q / 9
    row-after l = omega (arith, block_is, mul-le-mul_right n l)

    row_same : atom_i n q ≡ i → q / 9 ≡ i * n + atom_j n q
    row_same g = block_is ∙ ap (λ a. a * n + atom_j n q) g

  -- what one row leaves alone in the columns before and after the panel
  module _ (i : ℕ) (ys zs : List Float) (ly : length ys ≡ length xs) (c : Less d (i * n + j) ys 8 zs) (q : ℕ) (h : q < length xs) where
    hy : q < length ys
    hy = rw ly h

    same_left : atom_j n q < j → get_or zs q nan ≡ get_or ys q nan
    same_left l =
        ⊎_elim
        (λ (g : i < atom_i n q). c.after q hy (row-after i q h g))
        (λ (g : atom_i n q ≤ i).
        ⊎_elim
        (λ (w : atom_i n q ≡ i). c.before q hy (omega (arith, row_same i q h w)))
        (λ (w : atom_i n q ≡ i → ⊥). c.before q hy (row_before i q h (omega arith)))
        (eq_or_ne (atom_i n q) i))
        (lt_or_le i (atom_i n q))

    same-right : j + 8 ≤ atom_j n q → get_or zs q nan ≡ get_or ys q nan
    same-right l =
        ⊎_elim
        (λ (g : i < atom_i n q). c.after q hy (row-after i q h g))
        (λ (g : atom_i n q ≤ i).
        ⊎_elim
        (λ (w : atom_i n q ≡ i). c.after q hy (omega (arith, row_same i q h w)))
        (λ (w : atom_i n q ≡ i → ⊥). c.before q hy (row_before i q h (omega arith)))
        (eq_or_ne (atom_i n q) i))
        (lt_or_le i (atom_i n q))

  taken_more : (i : ℕ) (ys zs : List Float) → Taken n j d xs i ys → Less d (i * n + j) ys 8 zs → Taken n j d xs (suc i) zs
  taken_more i ys zs s c =
      record {
        long = c.long ∙ s.long;
        on = λ q h l u v.
            let hy : q < length ys = rw s.long h in
            ⊎_elim
            (λ (w : atom_i n q ≡ i).
            let r = row_same i q h w in
            let k : q / 9 - (i * n + j) ≡ atom_j n q - j = omega arith in
            c.on q hy (omega arith) (omega arith)
            ∙ ap₂ (λ y m. sub binary64 y (sum_in (get_or d m []) (q % 9))) (s.below q h (omega arith)) k)
            (λ (w : atom_i n q ≡ i → ⊥). c.before q hy (row_before i q h (omega arith)) ∙ s.on q h (omega arith) u v)
            (eq_or_ne (atom_i n q) i);
        below = λ q h l.
            let hy : q < length ys = rw s.long h in
            c.after q hy (row-after i q h (omega arith)) ∙ s.below q h (omega arith);
        left = λ q h l. same_left i ys zs s.long c q h l ∙ s.left q h l;
        right = λ q h l. same-right i ys zs s.long c q h l ∙ s.right q h l;
      }

  taken : (i : ℕ) → Taken n j d xs i (panel_less n j d i xs)
  unfolding panel_less times
  taken zero = record { long = refl; on = λ q h l. absurd (omega arith); below = λ q h l. refl; left = λ q h l. refl; right = λ q h l. refl }
  taken (suc i) = taken_more i (panel_less n j d i xs) _ (taken i) (eight d (i * n + j) (panel_less n j d i xs))

-- ---- eight columns less their drift

-- ys is xs with their drift taken from columns j to j + 7
pub record Drifted (n j : ℕ) (x : Float) (xs ys : List Float) : Type 0 where
  pub long : length ys ≡ length xs
  pub on : (q : ℕ) → q < length xs → j ≤ atom_j n q → atom_j n q < j + 8
      → get_or ys q nan ≡ sub binary64 (get_or xs q nan) (mul binary64 (sum_of n xs (atom_j n q) (q % 9)) x)
  pub left : (q : ℕ) → q < length xs → atom_j n q < j → get_or ys q nan ≡ get_or xs q nan
  pub right : (q : ℕ) → q < length xs → j + 8 ≤ atom_j n q → get_or ys q nan ≡ get_or xs q nan

pub panel_drifted : (n j : ℕ) (x : Float) (xs : List Float) → length xs ≡ n * n * 9 → j + 8 ≤ n → Drifted n j x xs (panel_drift n j x xs)
unfolding panel_drift
panel_drifted n j x xs e hj =
    let T = taken n j (scaled8 (panel_sums n j n xs) x) xs e hj n in
    record {
      long = T.long;
      on = λ q h u v.
          let r : q % 9 < 9 = mod-lt q (lit< tt) in
          let k : j + (atom_j n q - j) ≡ atom_j n q = omega arith in
          T.on q h (atoms-below n n q (subst (λ (y : ℕ). q < y) e h)).0 u v
          ∙ ap (sub binary64 (get_or xs q nan))
          (panel_drift_at n j x xs (atom_j n q - j) (q % 9) (omega arith) r
          ∙ ap (λ b. mul binary64 (sum_of n xs b (q % 9)) x) k);
      left = T.left;
      right = T.right;
    }

-- ---- all columns

-- the first j columns have their drift taken
abbrev pub Columns : ℕ → Float → List Float → ℕ → List Float → Type 0
Columns n x xs = Stage nan xs (λ q. q / 9 % n) (λ q. sub binary64 (get_or xs q nan) (mul binary64 (sum_of n xs (q / 9 % n) (q % 9)) x))

module _ (n : ℕ) (x : Float) (xs : List Float) (e : length xs ≡ n * n * 9) where
  pub columns-none : Columns n x xs 0 xs
  columns-none = record { long = refl; made = λ q h l. absurd (omega arith); left = λ q h l. refl }

  -- a column that is not done yet has its sums still
  same_sum : (j : ℕ) (ys : List Float) → Columns n x xs j ys → (b p : ℕ) → b < n → j ≤ b → p < 9 → sum_of n ys b p ≡ sum_of n xs b p
  same_sum j ys s b p hb l hp =
      times-same n _ _ plus_zero (λ k hk t.
      let w : (b + k * n) * 9 + p ≡ (k * n + b) * 9 + p = omega arith in
      let i : (k * n + b) * 9 + p < length xs = rw e (place_in n n k b p hk hb hp) in
      let g : j ≤ atom_j n ((k * n + b) * 9 + p) = rw (atoms-at n k b p hb hp).1 l in
      ap (add binary64 t) (ap (λ y. get_or ys y nan) w ∙ s.left ((k * n + b) * 9 + p) i g ∙ ap (λ y. get_or xs y nan) (sym w)))

  pub columns_panel : (j : ℕ) (ys zs : List Float) → Columns n x xs j ys → Drifted n j x ys zs → Columns n x xs (j + 8) zs
  columns_panel j ys zs s d =
      record {
        long = d.long ∙ s.long;
        made = λ q h l.
            let hy : q < length ys = rw s.long h in
            ⊎_elim
            (λ (g : atom_j n q < j). d.left q hy g ∙ s.made q h g)
            (λ (g : j ≤ atom_j n q).
            d.on q hy g l
            ∙ ap₂ (λ y t. sub binary64 y (mul binary64 t x)) (s.left q h g)
            (same_sum j ys s (atom_j n q) (q % 9) (atoms-below n n q (subst (λ (y : ℕ). q < y) e h)).1 g (mod-lt q (lit< tt))))
            (lt_or_le (atom_j n q) j);
        left = λ q h l.
            let hy : q < length ys = rw s.long h in
            d.right q hy l ∙ s.left q h (omega arith);
      }

  pub columns-line : (j : ℕ) → j < n → (ys : List Float) → Columns n x xs j ys → Columns n x xs (j + 1) (line_drift j n n x ys)
  columns-line j h ys s =
      let w : suc j ≡ j + 1 = omega arith in
      subst (λ (i : ℕ). Columns n x xs i (line_drift j n n x ys)) w
      (line_taken n n n (λ j. j) (λ b. b % n) (λ b. b / n) (by-columns n) x xs e j h ys s)

  pub columns-all : (ys : List Float) → Columns n x xs n ys → ys ≡ columns n x xs
  unfolding columns
  columns-all ys s =
      is_tab nan (n * n * 9) _ ys (s.long ∙ e)
      (λ q h. let hx : q < length xs = rw e h in s.made q hx (atoms-below n n q h).1)
      ∙ sym (lines_make n n n (λ j. j) (λ b. b % n) (λ b. b / n) (by-columns n) x xs e)

-- ---- places of a panel

pub panel_fits : {n s : ℕ} → Sized n n s → (i j : ℕ) → i < n → j + 8 ≤ n → (i * n + j) * 9 + 72 ≤ s
panel_fits {n} {s} z i j hi hj = let h = block_fits z i (j + 7) hi (omega arith) in omega arith
