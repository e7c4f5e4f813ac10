-- The arrangement of the code gives the rotated block. Assumes nothing.
use Rattle.std.specs.Prelude.{◌≡◌, refl, List, ℕ, suc, ◌+◌, ◌-◌, ◌*◌, ◌/◌, ◌%◌, ◌^◌, ◌<◌, ◌≤◌, length, set, Float}
use Rattle.std.proofs.Common.{sym, ap₂, ◌∙◌, mod-lt, zero-add, div-lt_iff_lt-mul, div-add-mod', length-set, get_or-set_other, below_none, ⊎_elim}
use Rattle.std.proofs.Math.Path.{ap}
use native.Mathlib.Omega.{arith}
use Rattle.std.proofs.Math.ListN.{get_or}
use Rattle.lists.specs.Cases.{lt_or_le}
use Rattle.std.specs.Float.Ieee.{nan, add, mul, binary64}
use Rattle.lists.specs.Tab.{tab, tab_from, get_or-tab, is_tab, tab_ext, fill_more, times, times_more, times-same}
use Rattle.lists.specs.Digits.{in_row, quotient, remainder}
use Rattle.blocks.specs.Block.{put_block, put-inside, put-outside}
use Rattle.blocks.specs.Block9.{transposed9}
use Rattle.lists.specs.Floats.{plus_zero}
use Rattle.rotations.specs.Rotation.{coefficient, weighted, rotated, coefficients, widened_at, widened, shared, sums}

-- ---- the coefficients

pub get_or-coefficients : (m : List Float) (n w p q : ℕ) → p < w → q < w → get_or (coefficients m n w) (q * w + p) nan ≡ coefficient m n p q
unfolding coefficients
get_or-coefficients m n w p q hp hq =
    get_or-tab (w * w) _ (q * w + p) nan (in_row w w q p hq hp)
    ∙ rw (remainder w q p hp, quotient w q p hp)

-- what stands at a place of the wider table
pub widened-at : (w : ℕ) (c m : List Float) (q a b : ℕ) → a < w → b < 3
    → mul binary64 (get_or c (q / 3 * w + a) nan) (get_or m (b * 3 + q % 3) nan) ≡ widened_at w c m (q * (3 * w) + (a * 3 + b))
unfolding widened_at
widened-at w c m q a b ha hb =
    let h : a * 3 + b < 3 * w = omega arith in
    sym (rw (quotient (3 * w) q (a * 3 + b) h, remainder (3 * w) q (a * 3 + b) h, quotient 3 a b hb, remainder 3 a b hb) refl)

third : (w p : ℕ) → p < 3 * w → p / 3 < w
third w p h = omega arith

pub widens : (m : List Float) (n w : ℕ) → 0 < w → coefficients m (suc (suc n)) (3 * w) ≡ widened w (coefficients m (suc n) w) m
unfolding coefficients widened widened_at coefficient
widens m n w h =
    tab_ext nan (3 * w * (3 * w)) _ _ (λ z l.
    let hq : z / (3 * w) < 3 * w = (div-lt_iff_lt-mul (omega arith)).1 l in
    let hp : z % (3 * w) < 3 * w = mod-lt z (omega arith) in
    ap (λ x. mul binary64 x (get_or m (z % (3 * w) % 3 * 3 + z / (3 * w) % 3) nan))
    (sym (get_or-coefficients m (suc n) w (z % (3 * w) / 3) (z / (3 * w) / 3) (third w _ hp) (third w _ hq))))

-- ---- one old number's share: a loop over n sums in place

module _ (n : ℕ) (s₀ c : List Float) (at : ℕ) (x : Float) where
  abbrev share : Float → ℕ → Float
  share y p = add binary64 y (mul binary64 (get_or c (at + p) nan) x)

  -- s is what the loop has made of s₀ when it stands at p
  abbrev pub Sharing : List Float → ℕ → Type 0
  Sharing s p =
      (p ≤ n) × (length s ≡ n) × ((k : ℕ) → k < p → get_or s k nan ≡ share (get_or s₀ k nan) k) × ((k : ℕ) → p ≤ k → get_or s k nan ≡ get_or s₀ k nan)

  pub sharing_none : length s₀ ≡ n → Sharing s₀ 0
  sharing_none e = (omega arith, e, below_none _, λ k h. refl)

  pub sharing_more : (s : List Float) (p : ℕ) → p < n → Sharing s p → Sharing (set s p (share (get_or s p nan) p)) (p + 1)
  sharing_more s p h (_, e, f, g) =
      let v = share (get_or s p nan) p in (
        omega arith,
        length-set s p v ∙ e,
        fill_more nan (λ k. share (get_or s₀ k nan) k) s p v (rw e h) (ap (λ y. share y p) (g p (omega arith))) f,
        λ k l. get_or-set_other s p k v nan (λ i. omega arith) ∙ g k (omega arith),
      )

  pub sharing_all : (s : List Float) (p : ℕ) → n ≤ p → Sharing s p → s ≡ shared n s₀ c at x
  unfolding shared
  sharing_all s p h (_, e, f, g) = is_tab nan n _ s e (λ k l. f k (omega arith))

-- ---- the sums

module _ (n w first : ℕ) (c t : List Float) where
  pub sums_none : (s : List Float) → length s ≡ n → ((k : ℕ) → k < n → get_or s k nan ≡ plus_zero) → s ≡ sums n 0 w first c t
  unfolding sums weighted times
  sums_none s e h = is_tab nan n _ s e h

  -- one more old number
  pub sums-more : {s r : List Float} (q at : ℕ) (x : Float) → at ≡ q * w + first → x ≡ get_or t q nan → s ≡ sums n q w first c t → r ≡ shared n s c at x
      → r ≡ sums n (q + 1) w first c t
  unfolding sums shared weighted
  sums-more {s} {r} q at x ea ex es er =
      er
      ∙ tab_ext nan n _ _ (λ p h.
      let i : at + p ≡ q * w + (first + p) = omega arith in
      let e : get_or s p nan ≡ times q (λ k y. add binary64 y (mul binary64 (get_or c (k * w + (first + p)) nan) (get_or t k nan))) plus_zero =
      ap (λ l. get_or l p nan) es ∙ get_or-tab n _ p nan h in
      times_more q (λ k y. add binary64 y (mul binary64 (get_or c (k * w + (first + p)) nan) (get_or t k nan))) plus_zero e
      (ap₂ (λ a b. add binary64 (get_or s p nan) (mul binary64 a b)) (ap (λ k. get_or c k nan) i) ex))

-- all places of a block of n legs
pub sums-rotated : (m : List Float) (n : ℕ) (t : List Float) → sums (3 ^ n) (3 ^ n) (3 ^ n) 0 (coefficients m n (3 ^ n)) t ≡ rotated m n t
unfolding sums rotated weighted
sums-rotated m n t =
    let w = 3 ^ n in
    tab_ext nan w _ _ (λ p hp.
    times-same w _ _ plus_zero (λ q hq s.
    let i : q * w + (0 + p) ≡ q * w + p = omega arith in
    ap (λ a. add binary64 s (mul binary64 a (get_or t q nan)))
    (ap (λ k. get_or (coefficients m n w) k nan) i ∙ get_or-coefficients m n w p q hp hq)))

-- ---- places inside the tables

pub row_fits : (w q a : ℕ) → q < 3 * w → a < w → q * (3 * w) + (a * 3 + 2) < 3 * w * (3 * w)
row_fits w q a hq ha = in_row (3 * w) (3 * w) q (a * 3 + 2) hq (omega arith)

pub before_fits : (w q a : ℕ) → q < 3 * w → a < w → q / 3 * w + a < w * w
before_fits w q a hq ha = in_row w w (q / 3) a (third w q hq) ha

-- three stores of a row: the new coefficients from one old one
module _ (w : ℕ) (c m into : List Float) (q a : ℕ) where
  abbrev at : ℕ
  at = q * (3 * w) + a * 3

  -- the old coefficient times an entry of the matrix
  abbrev v : ℕ → Float
  v d = mul binary64 (get_or c (q / 3 * w + a) nan) (get_or m d nan)

  abbrev once : List Float
  once = set into at (v (q % 3))

  abbrev twice : List Float
  twice = set once (at + 1) (v (3 + q % 3))

  abbrev thrice : List Float
  thrice = set twice (at + 2) (v (6 + q % 3))

  pub length-row : length thrice ≡ length into
  length-row = length-set twice (at + 2) _ ∙ length-set once (at + 1) _ ∙ length-set into at _

  right : (d i : ℕ) → a < w → i < 3 → i * 3 + q % 3 ≡ d → v d ≡ widened_at w c m (at + i)
  right d i ha hi e = ap v (sym e) ∙ widened-at w c m q a i ha hi ∙ ap (widened_at w c m) (omega arith)

  pub row_more : q < 3 * w → a < w → length into ≡ 3 * w * (3 * w) → ((k : ℕ) → k < at → get_or into k nan ≡ widened_at w c m k)
      → (k : ℕ) → k < q * (3 * w) + (a + 1) * 3 → get_or thrice k nan ≡ widened_at w c m k
  row_more hq ha e inv k h =
      let f = widened_at w c m in
      let fits = row_fits w q a hq ha in
      let l1 : length once ≡ 3 * w * (3 * w) = length-set into at (v (q % 3)) ∙ e in
      let l2 : length twice ≡ 3 * w * (3 * w) = length-set once (at + 1) (v (3 + q % 3)) ∙ l1 in
      let z : at + 0 ≡ at = omega arith in
      let s0 = fill_more nan f into at (v (q % 3)) (omega arith) (right (q % 3) 0 ha (omega arith) (omega arith) ∙ ap f z) inv in
      let s1 = fill_more nan f once (at + 1) (v (3 + q % 3)) (omega arith) (right (3 + q % 3) 1 ha (omega arith) (omega arith)) s0 in
      let s2 = fill_more nan f twice (at + 2) (v (6 + q % 3)) (omega arith) (right (6 + q % 3) 2 ha (omega arith) (omega arith)) (λ k g. s1 k (omega arith)) in
      s2 k (omega arith)

-- ---- one leg: the coefficients are the matrix's columns

pub one-leg : (m : List Float) → transposed9 m ≡ coefficients m 1 3
unfolding coefficients coefficient tab tab_from
one-leg m = refl

-- ---- a block put together from parts

-- the first n places of a block of w have their sums
abbrev pub Filled : ℕ → ℕ → List Float → List Float → List Float → Type 0
Filled w n c t out = (k : ℕ) → k < n → get_or out k nan ≡ weighted w (λ q. get_or c (q * w + k) nan) t

-- one more part of n places
pub fill-part : {v out' : List Float} (w n b first : ℕ) (c t out : List Float) → first ≡ b * n → first + n ≤ length out
    → v ≡ sums n w w first c t → out' ≡ put_block n b v out → Filled w first c t out → Filled w (first + n) c t out'
unfolding sums
fill-part {v} {out'} w n b first c t out ef l e eo f k h =
    ap (λ x. get_or x k nan) eo
    ∙ ⊎_elim
    (λ (g : k < first).
    put-outside n b v out k (omega arith) (λ (d : k / n ≡ b).
    let p : b * n + k % n ≡ k = ap (λ x. x * n + k % n) (sym d) ∙ div-add-mod' k n in
    absurd (omega arith))
    ∙ f k g)
    (λ (g : first ≤ k).
    let i : k ≡ b * n + (k - first) = omega arith in
    let j : k ≡ first + (k - first) = omega arith in
    let d : k - first < n = omega arith in
    put-inside n b v out k (omega arith) (ap (λ x. x / n) i ∙ quotient n b (k - first) d)
    ∙ ap (λ x. get_or v x nan) (ap (λ x. x % n) i ∙ remainder n b (k - first) d)
    ∙ ap (λ x. get_or x (k - first) nan) e ∙ get_or-tab n _ (k - first) nan d
    ∙ ap (λ x. weighted w (λ q. get_or c (q * w + x) nan) t) (sym j))
    (lt_or_le k first)

pub filled-sums : (w : ℕ) (c t out : List Float) → length out ≡ w → Filled w w c t out → out ≡ sums w w w 0 c t
unfolding sums
filled-sums w c t out l f =
    is_tab nan w _ out l (λ k h. f k h ∙ ap (λ x. weighted w (λ q. get_or c (q * w + x) nan) t) (sym (zero-add k)))

-- with the coefficients of m the sums of all places are the block rotated by m
pub rotated_by : {c r : List Float} (m : List Float) (n : ℕ) (t : List Float) → c ≡ coefficients m n (3 ^ n) → r ≡ sums (3 ^ n) (3 ^ n) (3 ^ n) 0 c t
    → r ≡ rotated m n t
rotated_by m n t ec er = er ∙ ap (λ x. sums (3 ^ n) (3 ^ n) (3 ^ n) 0 x t) ec ∙ sums-rotated m n t

-- what the sums of n places from first on ask of a block of w numbers and its coefficients
pub sized : {lengthT lengthC : ℕ} (w first n : ℕ) → lengthT ≡ w → lengthC ≡ w * w → w ≤ 81 → first + n ≤ w
    → (lengthT ≤ 81) × (first + n ≤ lengthT) × (lengthC ≡ lengthT * lengthT)
sized w first n et ec l h = rw et (l, h, ec)

-- the sums of a block whose width is known
pub sums-width : {r : List Float} (n w first : ℕ) (c t : List Float) → length t ≡ w → r ≡ sums n (length t) (length t) first c t → r ≡ sums n w w first c t
sums-width n w first c t e er = er ∙ ap (λ k. sums n k k first c t) e
