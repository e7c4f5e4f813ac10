-- The result as the code makes it: it is cleared, and then, row after row (a row is the blocks that have the same first atom), every pair of a
-- displacement and a site symmetry adds its share to all blocks of the row, so each number is summed pair after pair. The laws hold for
-- every rank. Assumes nothing.
use Rattle.std.specs.Prelude.{◌≡◌, length, set}
use Rattle.std.proofs.Math.Path.{refl, sym, ap, ap₂}
use Rattle.std.proofs.Common.{◌∙◌, ⊎_elim, div-lt_iff_lt-mul, mod-eq_of_lt, mul_comm, pow-suc, length-set, get_or-set_other, below_none}
use mathlib.Core.List.{List, [], ◌∷◌}
use Prim.Native.Nat.{ℕ, zero, suc, ◌+◌, ◌*◌, ◌/◌, ◌%◌, ◌^◌, ◌<◌, ◌≤◌}
use Rattle.std.proofs.Math.Nat.{div-add-mod', mod-lt, pow-zero}
use native.Mathlib.Omega.{arith}
use Rattle.std.proofs.Math.ListN.{get_or}
use Rattle.std.specs.Float.Ieee.{Float, nan, add, mul, binary64}
use Rattle.lists.specs.Tab.{tab, get_or-tab, is_tab, fill_more, times, times-same, times_nest}
use Rattle.lists.specs.Cases.{eq_or_ne}
use Rattle.blocks.specs.Block.{block, put_block, length-put_block, get_or-block, put-inside, put-outside, block_of_lem, place_of}
use Rattle.tables.specs.Conditions.{index_at}
use Rattle.rotations.specs.Rotation.{rotated}
use Rattle.deltas.specs.RotateDelta.{Deltas, delta_total, delta_source, rotated_delta}

-- ---- definitions

-- the w numbers of s, to each of them u times the number of x at the same place added
unfoldable pub axpy : ℕ → Float → List Float → List Float → List Float
axpy w u x s = tab w (λ p. add binary64 (get_or s p nan) (mul binary64 u (get_or x p nan)))

-- the same for the g-th w numbers of a block
unfoldable pub lead : ℕ → ℕ → Float → List Float → List Float → List Float
lead w g u x s = put_block w g (axpy w u x (block w g s)) s

-- a block of the result, which has w numbers for each of its three first directions, with the share x of a pair added
unfoldable pub with_share : ℕ → List Float → List Float → List Float → List Float
with_share w u x s = tab (3 * w) (λ q. add binary64 (get_or s q nan) (mul binary64 (get_or u (q / w) nan) (get_or x (q % w) nan)))

-- the same for block b of the result
unfoldable pub share : ℕ → ℕ → List Float → List Float → List Float → List Float
share w b u x fc = put_block (3 * w) b (with_share w u x (block (3 * w) b fc)) fc

-- one loop for each of the last k atoms: t and s are the numbers of the atoms before in the result and in the deltas
unfoldable pub spread : (ℕ → ℕ) → ℕ → ℕ → List Float → (List Float → List Float) → List Float → ℕ → ℕ → ℕ → List Float → List Float
spread image n w u f deltas zero t s = share w t u (f (block w s deltas))
spread image n w u f deltas (suc k) t s = times n (λ j. spread image n w u f deltas k (t * n + j) (s * n + image j))

-- column n of invU
unfoldable pub column : List Float → ℕ → ℕ → List Float
column inv_u t n = tab 3 (λ k. get_or inv_u (k * t + n) nan)

-- the share of pair n in block b
abbrev pub pair_share : Deltas → ℕ → ℕ → ℕ → List Float → List Float
pair_share D m n b = share (3 ^ m) b (column D.inv_u (delta_total D) n) (rotated_delta D m n b)

-- the share of pair n in row i, whose blocks have k more atoms
unfoldable pub add_pair : Deltas → ℕ → ℕ → ℕ → List Float → List Float
add_pair D k i n = times (D.num_atom ^ k) (λ j. pair_share D (suc k) n (i * D.num_atom ^ k + j))

-- ---- loops

-- what each turn of a loop keeps
pub times-keeps : {A : Type 0} (P : ℕ → A → Type 0) (n : ℕ) (f : ℕ → A → A) (x : A) → P 0 x → ((i : ℕ) (y : A) → i < n → P i y → P (suc i) (f i y)) → P n (times n f x)
unfolding times
times-keeps P zero f x p h = p
times-keeps P (suc n) f x p h = h n (times n f x) (omega arith) (times-keeps P n f x p (λ i y l. h i y (omega arith)))

-- a loop that changes each number of a list in place
module _ (n : ℕ) (f : ℕ → Float → Float) (s₀ : List Float) where
  -- s is what the loop has made of s₀ when it stands at p
  abbrev pub Changed : List Float → ℕ → Type 0
  Changed s p =
      (p ≤ n) × (length s ≡ n) × ((k : ℕ) → k < p → get_or s k nan ≡ f k (get_or s₀ k nan)) × ((k : ℕ) → p ≤ k → get_or s k nan ≡ get_or s₀ k nan)

  pub changed_none : length s₀ ≡ n → Changed s₀ 0
  changed_none e = (omega arith, e, below_none _, λ k h. refl)

  pub changed_more : (s : List Float) (p : ℕ) → p < n → Changed s p → Changed (set s p (f p (get_or s p nan))) (p + 1)
  changed_more s p h (_, e, g, r) =
      let v = f p (get_or s p nan) in (
        omega arith,
        length-set s p v ∙ e,
        fill_more nan (λ k. f k (get_or s₀ k nan)) s p v (rw e h) (ap (f p) (r p (omega arith))) g,
        λ k l. get_or-set_other s p k v nan (λ i. omega arith) ∙ r k (omega arith),
      )

  pub changed_all : (s : List Float) (p : ℕ) → n ≤ p → Changed s p → s ≡ tab n (λ k. f k (get_or s₀ k nan))
  changed_all s p h (_, e, g, r) = is_tab nan n _ s e (λ k l. g k (omega arith))

abbrev pub axpy-at : Float → List Float → ℕ → Float → Float
axpy-at u x p y = add binary64 y (mul binary64 u (get_or x p nan))

pub is_axpy : (w : ℕ) (u : Float) (x s r : List Float) (p : ℕ) → w ≤ p → Changed w (axpy-at u x) s r p → r ≡ axpy w u x s
unfolding axpy
is_axpy w u x s r p h i = changed_all w (axpy-at u x) s r p h i

-- ---- one block

pub length-lead : (w g : ℕ) (u : Float) (x s : List Float) → length (lead w g u x s) ≡ length s
unfolding lead
length-lead w g u x s = length-put_block w g _ s

module _ (w g : ℕ) (u : Float) (x s : List Float) (q : ℕ) (h : q < length s) where
  lead-here : q / w ≡ g → q % w < w → get_or (lead w g u x s) q nan ≡ add binary64 (get_or s q nan) (mul binary64 u (get_or x (q % w) nan))
  unfolding lead axpy
  lead-here e l =
      put-inside w g _ s q h e ∙ get_or-tab w _ (q % w) nan l
      ∙ ap (λ y. add binary64 y (mul binary64 u (get_or x (q % w) nan)))
      (get_or-block w g s (q % w) l ∙ ap (λ i. get_or s i nan) (ap (λ i. i * w + q % w) (sym e) ∙ div-add-mod' q w))

  lead-elsewhere : (q / w ≡ g → ⊥) → get_or (lead w g u x s) q nan ≡ get_or s q nan
  unfolding lead
  lead-elsewhere e = put-outside w g _ s q h e

-- the column as the code reads it
pub is_column : (inv_u : List Float) (t n y z : ℕ) → y ≡ 1 * t + n → z ≡ 2 * t + n → get_or inv_u n nan ∷ get_or inv_u y nan ∷ get_or inv_u z nan ∷ [] ≡ column inv_u t n
unfolding column tab
is_column inv_u t n y z ey ez =
    let f : ℕ → Float = λ i. get_or inv_u i nan in
    let e : n ≡ 0 * t + n = omega arith in
    ap₂ (λ a b. f a ∷ f b ∷ f z ∷ []) e ey ∙ ap (λ c. f (0 * t + n) ∷ f (1 * t + n) ∷ f c ∷ []) ez

pub in_column : (inv_u : List Float) (t n k : ℕ) → k < 3 → get_or (column inv_u t n) k nan ≡ get_or inv_u (k * t + n) nan
unfolding column
in_column inv_u t n k h = get_or-tab 3 (λ k. get_or inv_u (k * t + n) nan) k nan h

-- the three first directions one after the other
pub shares_of : {r1 r2 r3 : List Float} (w : ℕ) (u x s : List Float) → 0 < w → length s ≡ 3 * w → r1 ≡ lead w 0 (get_or u 0 nan) x s
    → r2 ≡ lead w 1 (get_or u 1 nan) x r1 → r3 ≡ lead w 2 (get_or u 2 nan) x r2 → r3 ≡ with_share w u x s
unfolding with_share
shares_of {r1} {r2} {r3} w u x s pos es e1 e2 e3 =
    let l1 : length r1 ≡ 3 * w = ap length e1 ∙ length-lead w 0 _ x s ∙ es in
    let l2 : length r2 ≡ 3 * w = ap length e2 ∙ length-lead w 1 _ x r1 ∙ l1 in
    let l3 : length r3 ≡ 3 * w = ap length e3 ∙ length-lead w 2 _ x r2 ∙ l2 in
    is_tab nan (3 * w) _ r3 l3 (λ q h.
    let hs : q < length s = rw es h in
    let h1 : q < length r1 = rw l1 h in
    let h2 : q < length r2 = rw l2 h in
    let d : q / w < 3 = (div-lt_iff_lt-mul pos).1 h in
    let m = mod-lt q pos in
    let at : (g : ℕ) → q / w ≡ g → (y : Float) → y ≡ get_or s q nan
    → add binary64 y (mul binary64 (get_or u g nan) (get_or x (q % w) nan)) ≡ add binary64 (get_or s q nan) (mul binary64 (get_or u (q / w) nan) (get_or x (q % w) nan)) = λ g i y ey.
    ap₂ (λ a b. add binary64 a (mul binary64 (get_or u b nan) (get_or x (q % w) nan))) ey (sym i) in
    let g1 : get_or r1 q nan ≡ get_or (lead w 0 (get_or u 0 nan) x s) q nan = ap (λ l. get_or l q nan) e1 in
    let g2 : get_or r2 q nan ≡ get_or (lead w 1 (get_or u 1 nan) x r1) q nan = ap (λ l. get_or l q nan) e2 in
    let g3 : get_or r3 q nan ≡ get_or (lead w 2 (get_or u 2 nan) x r2) q nan = ap (λ l. get_or l q nan) e3 in
    ⊎_elim
    (λ (i : q / w ≡ 0).
    g3 ∙ lead-elsewhere w 2 _ x r2 q h2 (λ j. absurd (omega arith)) ∙ g2 ∙ lead-elsewhere w 1 _ x r1 q h1 (λ j. absurd (omega arith))
    ∙ g1 ∙ lead-here w 0 _ x s q hs i m ∙ at 0 i _ refl)
    (λ (n0 : q / w ≡ 0 → ⊥).
    let k1 = g1 ∙ lead-elsewhere w 0 _ x s q hs n0 in
    ⊎_elim
    (λ (i : q / w ≡ 1).
    g3 ∙ lead-elsewhere w 2 _ x r2 q h2 (λ j. absurd (omega arith)) ∙ g2 ∙ lead-here w 1 _ x r1 q h1 i m ∙ at 1 i _ k1)
    (λ (n1 : q / w ≡ 1 → ⊥).
    let i : q / w ≡ 2 = two (q / w) d n0 n1 in
    g3 ∙ lead-here w 2 _ x r2 q h2 i m ∙ at 2 i _ (g2 ∙ lead-elsewhere w 1 _ x r1 q h1 n1 ∙ k1))
    (eq_or_ne (q / w) 1))
    (eq_or_ne (q / w) 0))
  where
    two : (d : ℕ) → d < 3 → (d ≡ 0 → ⊥) → (d ≡ 1 → ⊥) → d ≡ 2
    two zero h a b = absurd (a refl)
    two (suc zero) h a b = absurd (b refl)
    two (suc (suc zero)) h a b = refl
    two (suc (suc (suc d))) h a b = absurd (omega arith)

-- ---- a block of the result

module _ (w b : ℕ) (u x fc : List Float) where
  pub length-share : length (share w b u x fc) ≡ length fc
  unfolding share
  length-share = length-put_block (3 * w) b _ fc

  pub share-here : (q : ℕ) → 0 < 3 * w → q < length fc → q / (3 * w) ≡ b
      → get_or (share w b u x fc) q nan ≡ add binary64 (get_or fc q nan) (mul binary64 (get_or u (q % (3 * w) / w) nan) (get_or x (q % (3 * w) % w) nan))
  unfolding share with_share
  share-here q pos h e =
      let l = mod-lt q pos in
      put-inside (3 * w) b _ fc q h e ∙ get_or-tab (3 * w) _ (q % (3 * w)) nan l
      ∙ ap (λ y. add binary64 y (mul binary64 (get_or u (q % (3 * w) / w) nan) (get_or x (q % (3 * w) % w) nan)))
      (get_or-block (3 * w) b fc (q % (3 * w)) l ∙ ap (λ i. get_or fc i nan) (ap (λ i. i * (3 * w) + q % (3 * w)) (sym e) ∙ div-add-mod' q (3 * w)))

  pub share-elsewhere : (q : ℕ) → q < length fc → (q / (3 * w) ≡ b → ⊥) → get_or (share w b u x fc) q nan ≡ get_or fc q nan
  unfolding share
  share-elsewhere q h n = put-outside (3 * w) b _ fc q h n

-- ---- the sources of a row's blocks

module _ (D : Deltas) (n : ℕ) where
  -- the image of atom a under the site symmetry of pair n
  abbrev pub image_of : ℕ → ℕ
  image_of a = index_at D.rot_map_syms (n % D.num_site_sym * D.num_atom + a)

  -- the source of a block, from that of the atoms before its last
  pub source-next : (m c j : ℕ) → j < D.num_atom → delta_source D n (suc m) (c * D.num_atom + j) ≡ delta_source D n m c * D.num_atom + image_of j
  unfolding delta_source
  source-next m c j h = rw (block_of_lem D.num_atom c j h, place_of D.num_atom c j h) refl

  -- one atom
  pub source_of_one : (i : ℕ) → i < D.num_atom → n / D.num_site_sym * D.num_atom + image_of i ≡ delta_source D n 1 i
  unfolding delta_source
  source_of_one i h = ap (λ a. n / D.num_site_sym * D.num_atom + image_of a) (sym (mod-eq_of_lt h))

-- the loops over the last atoms give each block of the row its share
module _ (D : Deltas) (m n : ℕ) (u : List Float) (eu : u ≡ column D.inv_u (delta_total D) n) where
  abbrev R : List Float
  R = block 9 (n % D.num_site_sym) D.site_sym_cart

  share_of : (M t s : ℕ) (fc : List Float) → M ≡ m → s ≡ delta_source D n M t → share (3 ^ m) t u (rotated R m (block (3 ^ m) s D.deltas)) fc ≡ pair_share D m n t fc
  unfolding rotated_delta
  share_of M t s fc em es = ap₂ (λ v z. share (3 ^ m) t v (rotated R m (block (3 ^ m) z D.deltas)) fc) eu (es ∙ ap (λ l. delta_source D n l t) em)

  once : (f : ℕ → List Float → List Float) (fc : List Float) → f 0 fc ≡ times (D.num_atom ^ 0) f fc
  unfolding times
  once f fc = rw (pow-zero D.num_atom) refl

  pub spread_shares : (M k t s : ℕ) (fc : List Float) → M + k ≡ m → s ≡ delta_source D n M t
      → spread (image_of D n) D.num_atom (3 ^ m) u (rotated R m) D.deltas k t s fc
      ≡ times (D.num_atom ^ k) (λ j. pair_share D m n (t * D.num_atom ^ k + j)) fc
  unfolding spread
  spread_shares M zero t s fc e es =
      let em : M ≡ m = omega arith in
      let et : t ≡ t * D.num_atom ^ 0 + 0 = sym (ap (λ x. t * x + 0) (pow-zero D.num_atom) ∙ flat t) in
      share_of M t s fc em es ∙ ap (λ b. pair_share D m n b fc) et ∙ once (λ j. pair_share D m n (t * D.num_atom ^ 0 + j)) fc
    where
      flat : (t : ℕ) → t * 1 + 0 ≡ t
      flat t = omega arith
  spread_shares M (suc k) t s fc e es =
      let a = D.num_atom in
      let f : ℕ → List Float → List Float = λ b. pair_share D m n (t * a ^ suc k + b) in
      times-same a _ _ fc (λ j h y.
      spread_shares (suc M) k (t * a + j) (s * a + image_of D n j) y (omega arith) (ap (λ x. x * a + image_of D n j) es ∙ sym (source-next D n M t j h))
      ∙ times-same (a ^ k) _ _ y (λ i g z. ap (λ b. pair_share D m n b z) (address t j i a (a ^ k) (a ^ suc k) (pow-suc a k))))
      ∙ sym (times_nest a (a ^ k) f fc)
      ∙ ap (λ c. times c f fc) (mul_comm a (a ^ k) ∙ sym (pow-suc a k))
    where
      address : (t j i a p q : ℕ) → q ≡ p * a → (t * a + j) * p + i ≡ t * q + (j * p + i)
      address t j i a p q e = rw e (omega arith)
