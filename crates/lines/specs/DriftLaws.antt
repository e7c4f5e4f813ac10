-- The loops over lines make the formula of the drifts: each number less the sum of its line times x. Assumes nothing.
use Rattle.std.specs.Prelude.{◌≡◌, List, Float}
use Rattle.std.proofs.Math.Path.{refl, ap, ap₂}
use Rattle.std.proofs.Common.{sym, ◌∙◌, div-add-mod', mod-lt, div-lt_iff_lt-mul, not-suc-le-zero, arith, lit<}
use Rattle.std.proofs.Math.Logic.{⊎_elim}
use Prim.Native.Nat.{ℕ, zero, suc, ◌+◌, ◌*◌, ◌/◌, ◌%◌, ◌<◌}
use Rattle.std.proofs.Math.ListN.{length, get_or}
use Rattle.std.specs.Float.Ieee.{nan, add, sub, mul, binary64}
use Rattle.lists.specs.Tab.{tab, times, is_tab, tab_ext, times-same}
use Rattle.lists.specs.Digits.{in_row, pos_of}
use Rattle.lists.specs.Cases.{eq_or_ne}
use Rattle.lists.specs.Stages.{Stage, next, stages}
use Rattle.blocks.specs.Block.{block, length-put_block, put-inside, put-outside, block_of_lem, get_or-block}
use Rattle.lists.specs.Floats.{plus_zero}
use Rattle.lines.specs.Sums3x3.{Sums, sum_in, scaled, less, zeros, get_or-nine, sum_in_lem, in_nine, block_at}
use Rattle.lines.specs.Lines.{line_sums, less_at, line_less, line_drift, row_drifts, atom_i}

-- ---- the sums of a line, number by number

pub line-sum : (a d c : ℕ) (xs : List Float) (s : Sums) (p : ℕ) → p < 9
    → sum_in (line_sums a d c xs s) p ≡ times c (λ k t. add binary64 t (get_or xs ((a + k * d) * 9 + p) nan)) (sum_in s p)
unfolding line_sums times
line-sum a d zero xs s p h = refl
line-sum a d (suc c) xs s p h =
    let t = line_sums a d c xs s in
    let b = block 9 (a + c * d) xs in
    sum_in_lem (λ p. add binary64 (sum_in t p) (get_or b p nan)) p h
    ∙ ap₂ (add binary64) (line-sum a d c xs s p h) (get_or-block 9 (a + c * d) xs p h)

pub zeros_in : (p : ℕ) → p < 9 → sum_in zeros p ≡ plus_zero
zeros_in p h = sum_in_lem (λ _. plus_zero) p h

-- ---- a line less a drift

pub length-less_at : (v : Sums) (b : ℕ) (xs : List Float) → length (less_at v b xs) ≡ length xs
unfolding less_at
length-less_at v b xs = length-put_block 9 b _ xs

pub length-line_less : (a d c : ℕ) (v : Sums) (xs : List Float) → length (line_less a d c v xs) ≡ length xs
unfolding line_less times
length-line_less a d zero v xs = refl
length-line_less a d (suc c) v xs = length-less_at v (a + c * d) (line_less a d c v xs) ∙ length-line_less a d c v xs

module _ (v : Sums) (b : ℕ) (xs : List Float) (q : ℕ) (h : q < length xs) where
  pub less_in : q / 9 ≡ b → get_or (less_at v b xs) q nan ≡ sub binary64 (get_or xs q nan) (sum_in v (q % 9))
  unfolding less_at
  less_in e =
      put-inside 9 b (less (block 9 b xs) v) xs q h e
      ∙ get_or-nine (λ p. sub binary64 (get_or (block 9 b xs) p nan) (sum_in v p)) (q % 9) (in_nine q)
      ∙ ap (λ x. sub binary64 x (sum_in v (q % 9))) (block_at b xs q e)

  pub less-out : (q / 9 ≡ b → ⊥) → get_or (less_at v b xs) q nan ≡ get_or xs q nan
  unfolding less_at
  less-out n = put-outside 9 b (less (block 9 b xs) v) xs q h n

module _ (a d : ℕ) (hd : 0 < d) (v : Sums) (xs : List Float) (q : ℕ) (h : q < length xs) where
  here : (c : ℕ) → q < length (line_less a d c v xs)
  here c = rw (length-line_less a d c v xs) h

  pub line-off : (c : ℕ) → ((m : ℕ) → m < c → q / 9 ≡ a + m * d → ⊥) → get_or (line_less a d c v xs) q nan ≡ get_or xs q nan
  unfolding line_less times
  line-off zero n = refl
  line-off (suc c) n = less-out v (a + c * d) (line_less a d c v xs) q (here c) (n c (omega arith)) ∙ line-off c (λ m l. n m (omega arith))

  apart : (m c : ℕ) → m < c → a + m * d ≡ a + c * d → ⊥
  apart m c l e = let g = in_row c d m 0 l hd in omega arith

  pub line_on : (c m : ℕ) → m < c → q / 9 ≡ a + m * d → get_or (line_less a d c v xs) q nan ≡ sub binary64 (get_or xs q nan) (sum_in v (q % 9))
  unfolding line_less times
  line_on zero m l e = absurd (not-suc-le-zero l)
  line_on (suc c) m l e =
      ⊎_elim
      (λ (g : m ≡ c).
      less_in v (a + c * d) (line_less a d c v xs) q (here c) (e ∙ ap (λ k. a + k * d) g)
      ∙ ap (λ x. sub binary64 x (sum_in v (q % 9))) (line-off c (λ k u w. apart k c u (sym w ∙ e ∙ ap (λ k. a + k * d) g))))
      (λ (g : m ≡ c → ⊥).
      less-out v (a + c * d) (line_less a d c v xs) q (here c) (λ w. apart m c (omega arith) (sym e ∙ w)) ∙ line_on c m (omega arith) e)
      (eq_or_ne m c)

-- ---- the drift of m lines of n blocks that make up the set: block b stands in line `line b`, at `index b` of it

pub record Lines (m n d : ℕ) (first line index : ℕ → ℕ) : Type 0 where
  pub step : 0 < n → 0 < d
  pub stands : (b : ℕ) → b < m * n → b ≡ first (line b) + index b * d
  pub index_below : (b : ℕ) → b < m * n → index b < n
  pub line-below : (b : ℕ) → b < m * n → line b < m
  pub of_line : (j k : ℕ) → j < m → k < n → line (first j + k * d) ≡ j
  pub in_set : (j k : ℕ) → j < m → k < n → first j + k * d < m * n

module _ (m n d : ℕ) (first line index : ℕ → ℕ) (L : Lines m n d first line index) (x : Float) (xs : List Float) (e : length xs ≡ m * n * 9) where
  -- the sum of line j at number p
  abbrev sum_of : ℕ → ℕ → Float
  sum_of j p = times n (λ k t. add binary64 t (get_or xs ((first j + k * d) * 9 + p) nan)) plus_zero

  abbrev new : ℕ → Float
  new q = sub binary64 (get_or xs q nan) (mul binary64 (sum_of (line (q / 9)) (q % 9)) x)

  abbrev key : ℕ → ℕ
  key q = line (q / 9)

  block-below : (q : ℕ) → q < length xs → q / 9 < m * n
  block-below q h = (div-lt_iff_lt-mul (lit< tt)).1 (rw e at h)

  -- line j less its drift, when the lines before it are done
  pub line_taken : (j : ℕ) → j < m → (ys : List Float) → Stage nan xs key new j ys → Stage nan xs key new (suc j) (line_drift (first j) d n x ys)
  unfolding line_drift
  line_taken j hj ys s =
      let v = scaled (line_sums (first j) d n ys zeros) x in
      next nan xs key new j ys (line_less (first j) d n v ys) s (length-line_less (first j) d n v ys)
      (λ q h g.
      let hy : q < length ys = rw s.long h in
      let b = block-below q h in
      let hd = L.step (pos_of n m (q / 9) b) in
      line_on (first j) d hd v ys q hy n (index (q / 9)) (L.index_below (q / 9) b)
      (L.stands (q / 9) b ∙ ap (λ k. first k + index (q / 9) * d) g)
      ∙ ap₂ (sub binary64) (s.left q h (omega arith))
      (sum_in_lem (λ p. mul binary64 (sum_in (line_sums (first j) d n ys zeros) p) x) (q % 9) (in_nine q)
      ∙ ap (λ t. mul binary64 t x)
      (line-sum (first j) d n ys zeros (q % 9) (in_nine q) ∙ ap (λ t. times n (λ k t. add binary64 t (get_or ys ((first j + k * d) * 9 + q % 9) nan)) t) (zeros_in (q % 9) (in_nine q))
      ∙ times-same n _ _ plus_zero (λ k hk t. ap (add binary64 t) (old k hk (q % 9) (in_nine q)))
      ∙ ap (λ l. sum_of l (q % 9)) (sym g))))
      (λ q h g.
      let hy : q < length ys = rw s.long h in
      let hd = L.step (pos_of n m (q / 9) (block-below q h)) in
      line-off (first j) d hd v ys q hy n (λ k l w. g (ap line w ∙ L.of_line j k hj l)))
    where
      old : (k : ℕ) → k < n → (p : ℕ) → p < 9 → get_or ys ((first j + k * d) * 9 + p) nan ≡ get_or xs ((first j + k * d) * 9 + p) nan
      old k hk p hp =
          let b = first j + k * d in
          let i : line ((b * 9 + p) / 9) ≡ j = ap line (block_of_lem 9 b p hp) ∙ L.of_line j k hj hk in
          s.left (b * 9 + p) (rw e (in_row (m * n) 9 b p (L.in_set j k hj hk) hp)) (omega arith)

  pub lines_make : times m (λ j. line_drift (first j) d n x) xs ≡ tab (m * n * 9) new
  lines_make =
      let s = stages nan xs key new m (λ j. line_drift (first j) d n x) line_taken in
      is_tab nan (m * n * 9) new (times m (λ j. line_drift (first j) d n x) xs) (s.long ∙ e)
      (λ q h. let hx : q < length xs = rw e h in s.made q hx (L.line-below (q / 9) (block-below q hx)))

-- ---- rows

by_rows : (m n : ℕ) → Lines m n 1 (λ i. i * n) (λ b. b / n) (λ b. b % n)
by_rows m n =
    record {
      step = λ h. lit< tt;
      stands = λ b h. let e = div-add-mod' b n in omega arith;
      index_below = λ b h. mod-lt b (pos_of n m b h);
      line-below = λ b h. (div-lt_iff_lt-mul (pos_of n m b h)).1 h;
      of_line = λ i k hi hk. let e : i * n + k * 1 ≡ i * n + k = omega arith in ap (λ b. b / n) e ∙ block_of_lem n i k hk;
      in_set = λ i k hi hk. let h = in_row m n i k hi hk in omega arith;
    }

-- the sum over the second atom, at number p of the blocks of row i
abbrev pub sum_row : ℕ → List Float → ℕ → ℕ → Float
sum_row n xs i p = times n (λ j s. add binary64 s (get_or xs ((i * n + j) * 9 + p) nan)) plus_zero

pub sum_row_lem : (n : ℕ) (xs : List Float) (i p : ℕ) → times n (λ k t. add binary64 t (get_or xs ((i * n + k * 1) * 9 + p) nan)) plus_zero ≡ sum_row n xs i p
sum_row_lem n xs i p =
    times-same n _ _ plus_zero (λ k hk t.
    let w : (i * n + k * 1) * 9 + p ≡ (i * n + k) * 9 + p = omega arith in
    ap (λ r. add binary64 t (get_or xs r nan)) w)

-- the nine sums of row i
pub row-sums : (n : ℕ) (xs : List Float) (i p : ℕ) → p < 9 → sum_in (line_sums (i * n) 1 n xs zeros) p ≡ sum_row n xs i p
row-sums n xs i p h =
    line-sum (i * n) 1 n xs zeros p h
    ∙ ap (λ z. times n (λ k t. add binary64 t (get_or xs ((i * n + k * 1) * 9 + p) nan)) z) (zeros_in p h)
    ∙ sum_row_lem n xs i p

pub rows_make : (m n : ℕ) (x : Float) (xs : List Float) → length xs ≡ m * n * 9
    → row_drifts m n x xs ≡ tab (m * n * 9) (λ q. sub binary64 (get_or xs q nan) (mul binary64 (sum_row n xs (atom_i n q) (q % 9)) x))
unfolding row_drifts
rows_make m n x xs e =
    lines_make m n 1 (λ i. i * n) (λ b. b / n) (λ b. b % n) (by_rows m n) x xs e
    ∙ tab_ext nan (m * n * 9) _ _ (λ q h. ap (λ t. sub binary64 (get_or xs q nan) (mul binary64 t x)) (sum_row_lem n xs (atom_i n q) (q % 9)))
