-- The loop over the rows makes the block of atom `own i` in each row i from the sums over the row's other blocks. Assumes nothing.
use Rattle.std.specs.Prelude.{◌≡◌, refl, cond, List, ℕ, suc, ◌+◌, ◌*◌, ◌-◌, ◌/◌, ◌%◌, ◌<◌, eqb, get_or, Float}
use Rattle.std.proofs.Math.Path.{sym, ap}
use Rattle.std.proofs.Common.{ap₂, ◌∙◌, eq-eqb, ne_eqb}
use Rattle.std.proofs.Math.Logic.{⊎_elim}
use native.Mathlib.Omega.{arith}
use Rattle.std.proofs.Math.ListN.{length}
use Rattle.std.specs.Float.Ieee.{nan, add, neg, binary64}
use Rattle.lists.specs.Tab.{tab, times, is_tab, times-same, times-add}
use Rattle.lists.specs.Cases.{eq_or_ne}
use Rattle.lists.specs.Stages.{Stage, next, stages}
use Rattle.blocks.specs.Block.{length-put_block, put-inside, put-outside}
use Rattle.lists.specs.Floats.{plus_zero}
use Rattle.lines.specs.Sums3x3.{half, sum_in, zeros, balance, get_or-nine, in_nine, transposed-below}
use Rattle.blocks.specs.Block9.{across_diagonal}
use Rattle.lines.specs.Lines.{line_sums, others, balance_at, balances, atom_i, atom_j, of_atoms, atoms_of_lem, atoms-at, place_in, atoms-below}
use Rattle.lines.specs.DriftLaws.{line-sum, zeros_in}

-- the sum over the atoms other than o, at number p of the blocks of row i
abbrev pub sum_but : ℕ → List Float → ℕ → ℕ → ℕ → Float
sum_but n xs i o p = times n (λ j s. cond (eqb o j) s (add binary64 s (get_or xs ((i * n + j) * 9 + p) nan))) plus_zero

-- what the block of atom o in row i gets at number p
abbrev pub balanced : ℕ → List Float → ℕ → ℕ → ℕ → Float
balanced n xs i o p = half (neg (add binary64 (sum_but n xs i o p) (sum_but n xs i o (across_diagonal p))))

-- it is taken in two runs: before the atom and after it
module _ (n i o : ℕ) (ho : o < n) (xs ys : List Float) (p : ℕ) (hp : p < 9)
    (same : (j : ℕ) → j < n → (o ≡ j → ⊥) → get_or ys ((i * n + j) * 9 + p) nan ≡ get_or xs ((i * n + j) * 9 + p) nan) where
  abbrev step : ℕ → Float → Float
  step j s = cond (eqb o j) s (add binary64 s (get_or xs ((i * n + j) * 9 + p) nan))

  step_other : (j : ℕ) → j < n → (o ≡ j → ⊥) → (s : Float) → add binary64 s (get_or ys ((i * n + j) * 9 + p) nan) ≡ step j s
  step_other j hj g s = rw (ne_eqb o j g) (ap (add binary64 s) (same j hj g))

  first_run : sum_in (line_sums (i * n + o - o) 1 o ys zeros) p ≡ times o step plus_zero
  first_run =
      let w : i * n + o - o ≡ i * n = omega arith in
      ap (λ a. sum_in (line_sums a 1 o ys zeros) p) w
      ∙ line-sum (i * n) 1 o ys zeros p hp
      ∙ ap (λ z. times o (λ k t. add binary64 t (get_or ys ((i * n + k * 1) * 9 + p) nan)) z) (zeros_in p hp)
      ∙ times-same o _ step plus_zero (λ k hk t.
      let w : (i * n + k * 1) * 9 + p ≡ (i * n + k) * 9 + p = omega arith in
      ap (λ r. add binary64 t (get_or ys r nan)) w ∙ step_other k (omega arith) (λ g. omega arith) t)

  own-step : (s : Float) → step o s ≡ s
  own-step s = rw (eq-eqb o o refl)

  one_more : times (o + 1) step plus_zero ≡ times o step plus_zero
  unfolding times
  one_more = times-add o 1 step plus_zero ∙ own (times o step plus_zero)
    where
      own : (s : Float) → step (o + 0) s ≡ s
      own s = let z : o + 0 ≡ o = omega arith in ap (λ j. step j s) z ∙ own-step s

  pub others-sum : sum_in (others n (i * n + o) o ys) p ≡ sum_but n xs i o p
  unfolding others
  others-sum =
      let c = n - o - 1 in
      let z : o + 1 + c ≡ n = omega arith in
      line-sum (i * n + o + 1) 1 c ys (line_sums (i * n + o - o) 1 o ys zeros) p hp
      ∙ ap (λ s. times c (λ k t. add binary64 t (get_or ys ((i * n + o + 1 + k * 1) * 9 + p) nan)) s) (first_run ∙ sym one_more)
      ∙ times-same c _ (λ k. step (o + 1 + k)) (times (o + 1) step plus_zero) (λ k hk t.
      let w : (i * n + o + 1 + k * 1) * 9 + p ≡ (i * n + (o + 1 + k)) * 9 + p = omega arith in
      ap (λ r. add binary64 t (get_or ys r nan)) w ∙ step_other (o + 1 + k) (omega arith) (λ g. omega arith) t)
      ∙ sym (times-add (o + 1) c step plus_zero)
      ∙ ap (λ m. times m step plus_zero) z

-- ---- the block of atom o in row i

module _ (n i : ℕ) (own : ℕ → ℕ) (ys : List Float) where
  length-balance_at : length (balance_at n own i ys) ≡ length ys
  unfolding balance_at
  length-balance_at = length-put_block 9 (i * n + own i) _ ys

  module _ (q : ℕ) (h : q < length ys) where
    balance_in : q / 9 ≡ i * n + own i
        → get_or (balance_at n own i ys) q nan ≡ half (neg (add binary64 (sum_in (others n (i * n + own i) (own i) ys) (q % 9)) (sum_in (others n (i * n + own i) (own i) ys) (across_diagonal (q % 9)))))
    unfolding balance_at
    balance_in e =
        put-inside 9 (i * n + own i) (balance (others n (i * n + own i) (own i) ys)) ys q h e
        ∙ get_or-nine (λ p. half (neg (add binary64 (sum_in (others n (i * n + own i) (own i) ys) p) (sum_in (others n (i * n + own i) (own i) ys) (across_diagonal p))))) (q % 9) (in_nine q)

    balance-out : (q / 9 ≡ i * n + own i → ⊥) → get_or (balance_at n own i ys) q nan ≡ get_or ys q nan
    unfolding balance_at
    balance-out g = put-outside 9 (i * n + own i) (balance (others n (i * n + own i) (own i) ys)) ys q h g

-- ---- all rows

module _ (m n : ℕ) (own : ℕ → ℕ) (below : (i : ℕ) → i < m → own i < n) (xs : List Float) (e : length xs ≡ m * n * 9) where
  -- an atom's block is reached with its row, the others never
  abbrev key : ℕ → ℕ
  key q = cond (eqb (own (atom_i n q)) (atom_j n q)) (atom_i n q) m

  abbrev new : ℕ → Float
  new q = balanced n xs (atom_i n q) (own (atom_i n q)) (q % 9)

  key-own : (q : ℕ) → own (atom_i n q) ≡ atom_j n q → key q ≡ atom_i n q
  key-own q g = rw (eq-eqb (own (atom_i n q)) (atom_j n q) g)

  key-off : (q : ℕ) → (own (atom_i n q) ≡ atom_j n q → ⊥) → key q ≡ m
  key-off q g = rw (ne_eqb (own (atom_i n q)) (atom_j n q) g)

  row-balanced : (i : ℕ) → i < m → (ys : List Float) → Stage nan xs key new i ys → Stage nan xs key new (suc i) (balance_at n own i ys)
  row-balanced i hi ys s =
      next nan xs key new i ys (balance_at n own i ys) s (length-balance_at n i own ys)
      (λ q h g.
      let hy : q < length ys = rw s.long h in
      ⊎_elim
      (λ (w : own (atom_i n q) ≡ atom_j n q).
      let wi : atom_i n q ≡ i = sym (key-own q w) ∙ g in
      let wj : atom_j n q ≡ own i = sym w ∙ ap own wi in
      let hp = in_nine q in
      let ht = transposed-below (q % 9) hp in
      balance_in n i own ys q hy (of_atoms n q i (own i) wi wj)
      ∙ ap (λ x. half (neg x))
      (ap₂ (add binary64) (others-sum n i (own i) (below i hi) xs ys (q % 9) hp (old (q % 9) hp))
      (others-sum n i (own i) (below i hi) xs ys (across_diagonal (q % 9)) ht (old (across_diagonal (q % 9)) ht)))
      ∙ ap (λ k. balanced n xs k (own k) (q % 9)) (sym wi))
      (λ (w : own (atom_i n q) ≡ atom_j n q → ⊥). let k = key-off q w in absurd (omega arith))
      (eq_or_ne (own (atom_i n q)) (atom_j n q)))
      (λ q h g.
      let hy : q < length ys = rw s.long h in
      balance-out n i own ys q hy (λ r. let (x, y) = atoms_of_lem n q i (own i) (below i hi) r in g (key-own q (ap own x ∙ sym y) ∙ x)))
    where
      old : (p : ℕ) → p < 9 → (j : ℕ) → j < n → (own i ≡ j → ⊥) → get_or ys ((i * n + j) * 9 + p) nan ≡ get_or xs ((i * n + j) * 9 + p) nan
      old p hp j hj g =
          let (x, y) = atoms-at n i j p hj hp in
          s.left ((i * n + j) * 9 + p) (rw e (place_in m n i j p hi hj hp)) (let k = key-off ((i * n + j) * 9 + p) (λ r. g (ap own (sym x) ∙ r ∙ y)) in omega arith)

  pub balances_make : balances m n own xs
      ≡ tab (m * n * 9) (λ q. cond (eqb (own (atom_i n q)) (atom_j n q)) (balanced n xs (atom_i n q) (own (atom_i n q)) (q % 9)) (get_or xs q nan))
  unfolding balances
  balances_make =
      let s = stages nan xs key new m (balance_at n own) row-balanced in
      is_tab nan (m * n * 9) _ (times m (balance_at n own) xs) (s.long ∙ e)
      (λ q h.
      let hx : q < length xs = rw e h in
      let bel = atoms-below m n q h in
      ⊎_elim
      (λ (w : own (atom_i n q) ≡ atom_j n q). rw (eq-eqb (own (atom_i n q)) (atom_j n q) w) (s.made q hx (let k = key-own q w in omega arith)))
      (λ (w : own (atom_i n q) ≡ atom_j n q → ⊥). rw (ne_eqb (own (atom_i n q)) (atom_j n q) w) (s.left q hx (let k = key-off q w in omega arith)))
      (eq_or_ne (own (atom_i n q)) (atom_j n q)))
