-- Lines of blocks of nine numbers, and the places of a set of m rows of n blocks. Assumes nothing.
use Rattle.std.specs.Prelude.{◌≡◌, List, ℕ, ◌+◌, ◌-◌, ◌*◌, ◌/◌, ◌%◌, ◌≤◌, ◌<◌, Float}
use Rattle.std.proofs.Common.{sym, ap, ap₂, ◌∙◌, div-add-mod', mod-lt, div-lt_iff_lt-mul, mul-le-mul, mul-le-mul_right, le_trans, le_of_lt, arith, lit<}
use Rattle.lists.specs.Tab.{times}
use Rattle.lists.specs.Digits.{in_row, pos_of}
use Rattle.blocks.specs.Block.{block, put_block, block_of_lem, place_of}
use Rattle.lines.specs.Sums3x3.{Sums, more, scaled, less, averaged, balance, zeros}
use Rattle.blocks.specs.Block9.{transposed9}

-- A line is blocks a, a + d, a + 2 d, ..: c of them.
unfoldable pub line_sums : ℕ → ℕ → ℕ → List Float → Sums → Sums
line_sums a d c xs s = times c (λ k t. more t (block 9 (a + k * d) xs)) s

unfoldable pub less_at : Sums → ℕ → List Float → List Float
less_at v b xs = put_block 9 b (less (block 9 b xs) v) xs

unfoldable pub line_less : ℕ → ℕ → ℕ → Sums → List Float → List Float
line_less a d c v xs = times c (λ k. less_at v (a + k * d)) xs

unfoldable pub line_drift : ℕ → ℕ → ℕ → Float → List Float → List Float
line_drift a d c x xs = line_less a d c (scaled (line_sums a d c xs zeros) x) xs

-- the rows of a set, m of n blocks each, less their drift
unfoldable pub row_drifts : ℕ → ℕ → Float → List Float → List Float
row_drifts m n x = times m (λ i. line_drift (i * n) 1 n x)

-- blocks a and b become the mean of the one and the other transposed
unfoldable pub pair_at : ℕ → ℕ → List Float → List Float
pair_at a b xs = let m = averaged (block 9 a xs) (block 9 b xs) in put_block 9 b (transposed9 m) (put_block 9 a m xs)

-- the off-site sums of a row of n blocks, without its block b, which is that of atom o; and the on-site block of row i, that of atom own i
unfoldable pub others : ℕ → ℕ → ℕ → List Float → Sums
others n b o xs = line_sums (b + 1) 1 (n - o - 1) xs (line_sums (b - o) 1 o xs zeros)

unfoldable pub balance_at : ℕ → (ℕ → ℕ) → ℕ → List Float → List Float
balance_at n own i xs = let b = i * n + own i in put_block 9 b (balance (others n b (own i) xs)) xs

unfoldable pub balances : ℕ → ℕ → (ℕ → ℕ) → List Float → List Float
balances m n own = times m (balance_at n own)

-- the blocks of a line stand in a set of s numbers
pub record Line (a d c s : ℕ) : Type 0 where
  pub within : (k : ℕ) → k < c → (a + k * d) * 9 + 9 ≤ s

-- block k of a line, as it is worked out
module _ {a d c s b : ℕ} (l : Line a d c s) (k : ℕ) (h : k < c) (e : b ≡ k * d + a) where
  pub step_is : b ≡ a + k * d
  step_is = omega arith

  pub step_fits : b * 9 + 9 ≤ s
  step_fits = rw step_is (l.within k h)

-- block b is that of atom o in a row of n blocks of a set of s numbers
pub record RowOf (b o n s : ℕ) : Type 0 where
  pub own : o < n
  pub after : o ≤ b
  pub line : Line (b - o) 1 n s

-- blocks a and b stand in a set of s numbers
pub record Inside (a b s : ℕ) : Type 0 where
  pub one : a * 9 + 9 ≤ s
  pub other : b * 9 + 9 ≤ s

-- a set of m rows of n blocks, within the limit
pub record Sized (m n s : ℕ) : Type 0 where
  pub few : m ≤ 1024
  pub small : n ≤ 1024
  pub long : s ≡ m * n * 9

-- ---- places

module _ {m n s : ℕ} (z : Sized m n s) where
  pub blocks-few : m * n ≤ 1048576
  blocks-few = mul-le-mul z.few z.small

  -- the block of row i and atom j
  pub block_fits : (i j : ℕ) → i < m → j < n → (i * n + j) * 9 + 9 ≤ s
  block_fits i j hi hj = let h = in_row m n i j hi hj in let e = z.long in omega arith

  -- the first block of row i, where the row has none too
  pub row-few : (i : ℕ) → i < m → i * n ≤ 1048576
  row-few i hi = let f = blocks-few in omega (arith, mul-le-mul_right n hi)

  pub row-start : (i : ℕ) → i < m → i * n + 0 < 4611686018427387904
  row-start i hi = let f = row-few i hi in omega arith

  -- c blocks from block a on, not beyond row i
  pub run_line : (i c a : ℕ) → i < m → a + c ≤ i * n + n → Line a 1 c s
  run_line i c a hi hc = record { within = λ k hk. let e = z.long in let r = mul-le-mul_right n hi in omega arith }

  -- the whole of row i, by its block of atom o
  pub row_of : (i o : ℕ) → i < m → o < n → RowOf (i * n + o) o n s
  row_of i o hi ho = record { own = ho; after = omega arith; line = run_line i n (i * n + o - o) hi (omega arith) }

-- the two runs of a row, before its block b and after it
module _ {b o n s : ℕ} (r : RowOf b o n s) where
  pub run_before : Line (b - o) 1 o s
  run_before = record { within = λ k hk. r.line.within k (le_trans hk (le_of_lt r.own)) }

  pub run_after : Line (b + 1) 1 (n - o - 1) s
  run_after =
      record {
        within = λ k hk.
            let h = r.own in
            let g = r.after in
            let w = r.line.within (o + 1 + k) (omega arith) in
            omega arith;
      }

  -- block b itself
  pub own_fits : b * 9 + 9 ≤ s
  own_fits = let w = r.line.within o r.own in let g = r.after in omega arith

-- the atoms of the block that a place stands in
abbrev pub atom_i : ℕ → ℕ → ℕ
atom_i n q = q / 9 / n

abbrev pub atom_j : ℕ → ℕ → ℕ
atom_j n q = q / 9 % n

pub of_atoms : (n q i j : ℕ) → atom_i n q ≡ i → atom_j n q ≡ j → q / 9 ≡ i * n + j
of_atoms n q i j e g = sym (div-add-mod' (q / 9) n) ∙ ap₂ (λ x y. x * n + y) e g

pub atoms_of_lem : (n q i j : ℕ) → j < n → q / 9 ≡ i * n + j → (atom_i n q ≡ i) × (atom_j n q ≡ j)
atoms_of_lem n q i j h e = (ap (λ b. b / n) e ∙ block_of_lem n i j h, ap (λ b. b % n) e ∙ place_of n i j h)

-- the same for place p of the block of atoms i and j
pub atoms-at : (n i j p : ℕ) → j < n → p < 9 → (atom_i n ((i * n + j) * 9 + p) ≡ i) × (atom_j n ((i * n + j) * 9 + p) ≡ j)
atoms-at n i j p h hp = atoms_of_lem n ((i * n + j) * 9 + p) i j h (block_of_lem 9 (i * n + j) p hp)

pub place_in : (m n i j p : ℕ) → i < m → j < n → p < 9 → (i * n + j) * 9 + p < m * n * 9
place_in m n i j p hi hj hp = in_row (m * n) 9 (i * n + j) p (in_row m n i j hi hj) hp

pub atoms-below : (m n q : ℕ) → q < m * n * 9 → (atom_i n q < m) × (atom_j n q < n)
atoms-below m n q h =
    let b : q / 9 < m * n = (div-lt_iff_lt-mul (lit< tt)).1 h in
    let p = pos_of n m (q / 9) b in
    ((div-lt_iff_lt-mul p).1 b, mod-lt (q / 9) p)
