-- The rows of the result: what each pair leaves of them, and that all of them are the result (specs/Rows.antt). Assumes nothing.
use Rattle.std.specs.Prelude.{◌≡◌, length, replicate}
use Rattle.std.proofs.Math.Path.{sym, ap, ap₂}
use Rattle.std.proofs.Common.{◌∙◌, subst, ⊎_elim, div-lt_iff_lt-mul, mul_comm, pow-suc}
use mathlib.Core.List.{List}
use Prim.Native.Nat.{ℕ, suc, ◌+◌, ◌*◌, ◌/◌, ◌%◌, ◌^◌, ◌<◌, ◌≤◌}
use Rattle.std.proofs.Math.Nat.{mod-lt}
use native.Mathlib.Omega.{arith}
use Rattle.std.proofs.Math.ListN.{get_or, length-replicate, get_or-replicate}
use Rattle.std.specs.Float.Ieee.{Float, nan, add, mul, binary64}
use Rattle.lists.specs.Tab.{is_tab, times}
use Rattle.lists.specs.Cases.{eq_or_ne, lt_or_le}
use Rattle.tables.specs.Lengths.{set_length, slab_length}
use Rattle.lists.specs.Floats.{plus_zero}
use Rattle.deltas.specs.RotateDelta.{Deltas, delta_total, rotated_delta, summed, number_in, number, rotated_deltas}
use Rattle.deltas.specs.Rows.{column, pair_share, add_pair, times-keeps, in_column, length-share, share-here, share-elsewhere}

-- ---- all rows: k blocks in each

module _ (D : Deltas) (m k size : ℕ) (pos : 0 < 3 ^ m) where
  abbrev w : ℕ
  w = 3 ^ m

  -- number q of the result after t pairs
  abbrev up_to : ℕ → ℕ → Float
  up_to t q = number_in D m t (q / (3 * w)) (q % (3 * w))

  -- row i is reached: n pairs are added to all its blocks, and pair n to its first j
  pub record Passed (i n j : ℕ) (fc : List Float) : Type 0 where
    pub len : length fc ≡ size
    pub before : (q : ℕ) → q < size → q / (3 * w) < i * k → get_or fc q nan ≡ up_to (delta_total D) q
    pub done : (q : ℕ) → q < size → i * k ≤ q / (3 * w) → q / (3 * w) < i * k + j → get_or fc q nan ≡ up_to (suc n) q
    pub todo : (q : ℕ) → q < size → i * k + j ≤ q / (3 * w) → q / (3 * w) < i * k + k → get_or fc q nan ≡ up_to n q
    pub after : (q : ℕ) → q < size → i * k + k ≤ q / (3 * w) → get_or fc q nan ≡ up_to 0 q

  one_more : (n q b : ℕ) → q / (3 * w) ≡ b → (y : Float) → y ≡ up_to n q
      → add binary64 y (mul binary64 (get_or (column D.inv_u (delta_total D) n) (q % (3 * w) / w) nan) (get_or (rotated_delta D m n b) (q % (3 * w) % w) nan)) ≡ up_to (suc n) q
  unfolding summed times
  one_more n q b e y ey =
      let l : q % (3 * w) / w < 3 = (div-lt_iff_lt-mul pos).1 (mod-lt q (omega arith)) in
      ap₂ (add binary64) ey
      (ap₂ (mul binary64) (in_column D.inv_u (delta_total D) n (q % (3 * w) / w) l) (ap (λ c. get_or (rotated_delta D m n c) (q % (3 * w) % w) nan) (sym e)))

  block_more : (i n j : ℕ) (fc : List Float) → j < k → Passed i n j fc → Passed i n (suc j) (pair_share D m n (i * k + j) fc)
  block_more i n j fc hj P =
      let b = i * k + j in
      let u = column D.inv_u (delta_total D) n in
      let x = rotated_delta D m n b in
      let there : (q : ℕ) → q < size → q < length fc = λ q l. subst (λ (z : ℕ). q < z) (sym P.len) l in
      record {
        len = length-share w b u x fc ∙ P.len;
        before = λ q l h. share-elsewhere w b u x fc q (there q l) (λ e. absurd (omega arith)) ∙ P.before q l h;
        done = λ q l g h.
            ⊎_elim
            (λ (e : q / (3 * w) ≡ b). share-here w b u x fc q (omega arith) (there q l) e ∙ one_more n q b e _ (P.todo q l (omega arith) (omega arith)))
            (λ (e : q / (3 * w) ≡ b → ⊥). share-elsewhere w b u x fc q (there q l) e ∙ P.done q l g (below (q / (3 * w)) (i * k) j e h))
            (eq_or_ne (q / (3 * w)) b);
        todo = λ q l g h. share-elsewhere w b u x fc q (there q l) (λ e. absurd (omega arith)) ∙ P.todo q l (omega arith) h;
        after = λ q l g. share-elsewhere w b u x fc q (there q l) (λ e. absurd (omega arith)) ∙ P.after q l g;
      }
    where
      below : (c d j : ℕ) → (c ≡ d + j → ⊥) → c < d + suc j → c < d + j
      below c d j n h = omega arith

  pair-more : (i n : ℕ) (fc : List Float) → Passed i n 0 fc → Passed i (suc n) 0 (times k (λ j. pair_share D m n (i * k + j)) fc)
  pair-more i n fc P =
      let Q = times-keeps (λ j. Passed i n j) k (λ j. pair_share D m n (i * k + j)) fc P (λ j y l. block_more i n j y l) in
      record {
        len = Q.len;
        before = Q.before;
        done = λ q l g h. absurd (omega arith);
        todo = λ q l g h. Q.done q l (omega arith) h;
        after = Q.after;
      }

  row_more : (i : ℕ) (fc : List Float) → Passed i 0 0 fc → Passed (suc i) 0 0 (times (delta_total D) (λ n. times k (λ j. pair_share D m n (i * k + j))) fc)
  row_more i fc P =
      let Q = times-keeps (λ n. Passed i n 0) (delta_total D) (λ n. times k (λ j. pair_share D m n (i * k + j))) fc P (λ n y l. pair-more i n y) in
      let e : suc i * k ≡ i * k + k = omega arith in
      record {
        len = Q.len;
        before = λ q l h. ⊎_elim (λ (g : q / (3 * w) < i * k). Q.before q l g) (λ (g : i * k ≤ q / (3 * w)). Q.todo q l (omega arith) (omega arith)) (lt_or_le (q / (3 * w)) (i * k));
        done = λ q l g h. absurd (omega arith);
        todo = λ q l g h. Q.after q l (omega arith);
        after = λ q l g. Q.after q l (omega arith);
      }

  -- nothing yet: +0.0 everywhere
  start : Passed 0 0 0 (replicate size plus_zero)
  unfolding summed times
  start =
      let z : (q : ℕ) → q < size → get_or (replicate size plus_zero) q nan ≡ plus_zero = λ q l. get_or-replicate size q plus_zero nan l in
      record {
        len = length-replicate size plus_zero;
        before = λ q l h. absurd (omega arith);
        done = λ q l g h. absurd (omega arith);
        todo = λ q l g h. z q l;
        after = λ q l g. z q l;
      }

  all-rows : (rows : ℕ) → Passed rows 0 0 (times rows (λ i. times (delta_total D) (λ n. times k (λ j. pair_share D m n (i * k + j)))) (replicate size plus_zero))
  all-rows rows = times-keeps (λ i. Passed i 0 0) rows _ (replicate size plus_zero) start (λ i y l. row_more i y)

-- the rows of a result of rank k + 2 are the result
pub rows_all : (D : Deltas) (k size : ℕ) → 0 < 3 ^ suc k → size ≡ D.num_atom ^ suc k * (3 * 3 ^ suc k)
    → times D.num_atom (λ i. times (delta_total D) (add_pair D k i)) (replicate size plus_zero) ≡ rotated_deltas D (suc k)
unfolding rotated_deltas add_pair
rows_all D k size pos e =
    let a = D.num_atom in
    let w = 3 ^ suc k in
    let P = all-rows D (suc k) (a ^ k) size pos a in
    let long = slab_length a (suc k) in
    is_tab nan (set_length 1 a (suc k)) (number D (suc k)) _ (P.len ∙ e ∙ sym long) (λ q l'.
    let l : q < a ^ suc k * (3 * w) = rw long at l' in
    let h : q / (3 * w) < a * a ^ k = subst (λ (x : ℕ). q / (3 * w) < x) (pow-suc a k ∙ mul_comm (a ^ k) a) ((div-lt_iff_lt-mul (omega arith)).1 l) in
    P.before q (subst (λ (x : ℕ). q < x) (sym e) l) h)
