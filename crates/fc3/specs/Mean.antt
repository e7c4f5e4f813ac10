-- The means of six numbers (mean6 in `orbits` specs/Symmetric) over the blocks of a group of third order.
-- Assumes nothing.
use Rattle.std.specs.Prelude.{◌≡◌, refl, ℕ, ◌+◌, ◌*◌, ◌≤◌, ◌<◌, List, [], ◌∷◌, Float}
use Rattle.std.proofs.Common.{sym, ap₂, ◌∙◌, arith}
use Rattle.std.proofs.Math.Path.{ap}
use Rattle.std.proofs.Math.ListN.{get_or}
use Rattle.std.specs.Float.Ieee.{nan, add, div, of_bits}
use Rattle.std.specs.Float.{binary64}
use Rattle.lists.specs.Tab.{tab, tab_from, get_or-tab, tab_ext}
use Rattle.lists.specs.Elements.{straight}
use Rattle.lists.specs.Digits.{times_power}
use Rattle.blocks.specs.Block.{block, get_or-block}
use Rattle.places.specs.Permutations.{Permutation, perms3}
use Rattle.orbits.specs.Blockwise.{in_block}
use Rattle.orbits.specs.Transposed.{permuted_is_below}
use Rattle.blocks.specs.Permuted.{permuted, permuted_block, gathered, lnm, mln, mnl, nlm, nml, lnm_is, mln_is, mnl_is, nlm_is, nml_is}
use Rattle.orbits.specs.Groups.{spots, mean_block}
pub use Rattle.orbits.specs.Symmetric.{mean6}
use Rattle.orbits.proofs.Scatter.{permuted-straight}

-- the six blocks' means, position by position: each block already permuted to the first one's directions
unfoldable pub means : List Float → List Float → List Float → List Float → List Float → List Float → List Float
means a b c d e f = tab 27 (λ k. mean6 (get_or a k nan ∷ get_or b k nan ∷ get_or c k nan ∷ get_or d k nan ∷ get_or e k nan ∷ get_or f k nan ∷ []))

-- the sums of two blocks, and a sixth of a block, position by position
unfoldable pub plus27 : List Float → List Float → List Float
plus27 v w = tab 27 (λ k. add binary64 (get_or v k nan) (get_or w k nan))

unfoldable pub sixths : List Float → List Float
sixths v = tab 27 (λ k. div binary64 (get_or v k nan) (of_bits binary64 0x4018_0000_0000_0000))

pub in27 : in_block 2 ≡ 27
unfolding in_block times_power
in27 = refl

-- six blocks of a set of n numbers
pub record Blocks6 (n b0 b1 b2 b3 b4 b5 : ℕ) : Type 0 where
  pub in0 : b0 * 27 + 27 ≤ n
  pub in1 : b1 * 27 + 27 ≤ n
  pub in2 : b2 * 27 + 27 ≤ n
  pub in3 : b3 * 27 + 27 ≤ n
  pub in4 : b4 * 27 + 27 ≤ n
  pub in5 : b5 * 27 + 27 ≤ n

-- one block six times
pub one_block : {n x : ℕ} → x * 27 + 27 ≤ n → Blocks6 n x x x x x x
one_block h = record { in0 = h; in1 = h; in2 = h; in3 = h; in4 = h; in5 = h }

-- ---- the means of a group

at-plus : (v w : List Float) (k : ℕ) → k < 27 → get_or (plus27 v w) k nan ≡ add binary64 (get_or v k nan) (get_or w k nan)
unfolding plus27
at-plus v w k h = get_or-tab 27 (λ k. add binary64 (get_or v k nan) (get_or w k nan)) k nan h

-- blocks added one after the other, and a sixth of the sums
pub sums_are : (a b c d e f : List Float) → sixths (plus27 (plus27 (plus27 (plus27 (plus27 a b) c) d) e) f) ≡ means a b c d e f
unfolding sixths means
sums_are a b c d e f = tab_ext nan 27 _ _ (λ k h.
    ap (λ x. div binary64 x (of_bits binary64 0x4018_0000_0000_0000))
    (at-plus (plus27 (plus27 (plus27 (plus27 a b) c) d) e) f k h
    ∙ ap (λ x. add binary64 x (get_or f k nan)) (at-plus (plus27 (plus27 (plus27 a b) c) d) e k h
    ∙ ap (λ x. add binary64 x (get_or e k nan)) (at-plus (plus27 (plus27 a b) c) d k h
    ∙ ap (λ x. add binary64 x (get_or d k nan)) (at-plus (plus27 a b) c k h
    ∙ ap (λ x. add binary64 x (get_or c k nan)) (at-plus a b k h))))))

-- six sums in the program's order
pub six-sums : {s0 s1 s2 s3 s4 s5 t1 t2 t3 t4 t5 r a b c d e f : List Float} → r ≡ sixths s5 → s5 ≡ plus27 s4 t5 → s4 ≡ plus27 s3 t4 → s3 ≡ plus27 s2 t3 → s2 ≡ plus27 s1 t2 → s1 ≡ plus27 s0 t1
    → s0 ≡ a → t1 ≡ b → t2 ≡ c → t3 ≡ d → t4 ≡ e → t5 ≡ f → r ≡ means a b c d e f
six-sums {a = a} {b = b} {c = c} {d = d} {e = e} {f = f} p5 p4 p3 p2 p1 p0 q0 q1 q2 q3 q4 q5 = cc (sums_are a b c d e f)

-- what the literal of `permute` is: the block permuted
pub lnm-permuted : {r v w : List Float} → r ≡ gathered v lnm → v ≡ w → r ≡ permuted_block 27 (permuted 2 (0 ∷ 2 ∷ 1 ∷ [])) w
unfolding permuted_block
lnm-permuted {v = v} e f = e ∙ lnm_is v ∙ ap (λ v. tab 27 (λ k. get_or v (permuted 2 (0 ∷ 2 ∷ 1 ∷ []) k) nan)) f

pub mln-permuted : {r v w : List Float} → r ≡ gathered v mln → v ≡ w → r ≡ permuted_block 27 (permuted 2 (1 ∷ 0 ∷ 2 ∷ [])) w
unfolding permuted_block
mln-permuted {v = v} e f = e ∙ mln_is v ∙ ap (λ v. tab 27 (λ k. get_or v (permuted 2 (1 ∷ 0 ∷ 2 ∷ []) k) nan)) f

pub mnl-permuted : {r v w : List Float} → r ≡ gathered v mnl → v ≡ w → r ≡ permuted_block 27 (permuted 2 (1 ∷ 2 ∷ 0 ∷ [])) w
unfolding permuted_block
mnl-permuted {v = v} e f = e ∙ mnl_is v ∙ ap (λ v. tab 27 (λ k. get_or v (permuted 2 (1 ∷ 2 ∷ 0 ∷ []) k) nan)) f

pub nlm-permuted : {r v w : List Float} → r ≡ gathered v nlm → v ≡ w → r ≡ permuted_block 27 (permuted 2 (2 ∷ 0 ∷ 1 ∷ [])) w
unfolding permuted_block
nlm-permuted {v = v} e f = e ∙ nlm_is v ∙ ap (λ v. tab 27 (λ k. get_or v (permuted 2 (2 ∷ 0 ∷ 1 ∷ []) k) nan)) f

pub nml-permuted : {r v w : List Float} → r ≡ gathered v nml → v ≡ w → r ≡ permuted_block 27 (permuted 2 (2 ∷ 1 ∷ 0 ∷ [])) w
unfolding permuted_block
nml-permuted {v = v} e f = e ∙ nml_is v ∙ ap (λ v. tab 27 (λ k. get_or v (permuted 2 (2 ∷ 1 ∷ 0 ∷ []) k) nan)) f

plain : 0 ∷ 1 ∷ 2 ∷ [] ≡ straight 3
unfolding straight tab tab_from
plain = refl

pub permuted_plain : (k : ℕ) → k < in_block 2 → permuted 2 (0 ∷ 1 ∷ 2 ∷ []) k ≡ k
permuted_plain k h = ap (λ σ. permuted 2 σ k) plain ∙ permuted-straight 2 k h

-- the number of a permuted block
at-permuted : (σ : List ℕ) (o : Permutation 2 σ) (b : ℕ) (xs : List Float) (k : ℕ) → k < 27 → get_or (permuted_block 27 (permuted 2 σ) (block 27 b xs)) k nan ≡ get_or xs (b * 27 + permuted 2 σ k) nan
unfolding permuted_block
at-permuted σ o b xs k h =
    get_or-tab 27 (λ k. get_or (block 27 b xs) (permuted 2 σ k) nan) k nan h ∙ get_or-block 27 b xs (permuted 2 σ k) (rw in27 at (permuted_is_below 2 σ k o (rw in27 h)))

module _ (xs : List Float) (b0 b1 b2 b3 b4 b5 : ℕ) where
  pub means_are : means (block 27 b0 xs) (permuted_block 27 (permuted 2 (0 ∷ 2 ∷ 1 ∷ [])) (block 27 b1 xs)) (permuted_block 27 (permuted 2 (1 ∷ 0 ∷ 2 ∷ [])) (block 27 b2 xs))
      (permuted_block 27 (permuted 2 (1 ∷ 2 ∷ 0 ∷ [])) (block 27 b3 xs)) (permuted_block 27 (permuted 2 (2 ∷ 0 ∷ 1 ∷ [])) (block 27 b4 xs)) (permuted_block 27 (permuted 2 (2 ∷ 1 ∷ 0 ∷ [])) (block 27 b5 xs))
      ≡ mean_block mean6 2 perms3 (b0 ∷ b1 ∷ b2 ∷ b3 ∷ b4 ∷ b5 ∷ []) xs
  unfolding means mean_block spots perms3
  means_are =
      ap (λ n. tab n (λ k. mean6 (get_or (block 27 b0 xs) k nan ∷ get_or (permuted_block 27 (permuted 2 (0 ∷ 2 ∷ 1 ∷ [])) (block 27 b1 xs)) k nan ∷ get_or (permuted_block 27 (permuted 2 (1 ∷ 0 ∷ 2 ∷ [])) (block 27 b2 xs)) k nan
      ∷ get_or (permuted_block 27 (permuted 2 (1 ∷ 2 ∷ 0 ∷ [])) (block 27 b3 xs)) k nan ∷ get_or (permuted_block 27 (permuted 2 (2 ∷ 0 ∷ 1 ∷ [])) (block 27 b4 xs)) k nan ∷ get_or (permuted_block 27 (permuted 2 (2 ∷ 1 ∷ 0 ∷ [])) (block 27 b5 xs)) k nan ∷ []))) (sym in27)
      ∙ tab_ext nan (in_block 2) _ _ (λ k h.
      let hk : k < 27 = rw in27 at h in
      same
      (get_or-block 27 b0 xs k hk ∙ first k h)
      (at-permuted (0 ∷ 2 ∷ 1 ∷ []) (refl, omega arith) b1 xs k hk ∙ at b1 (permuted 2 (0 ∷ 2 ∷ 1 ∷ []) k))
      (at-permuted (1 ∷ 0 ∷ 2 ∷ []) (refl, omega arith) b2 xs k hk ∙ at b2 (permuted 2 (1 ∷ 0 ∷ 2 ∷ []) k))
      (at-permuted (1 ∷ 2 ∷ 0 ∷ []) (refl, omega arith) b3 xs k hk ∙ at b3 (permuted 2 (1 ∷ 2 ∷ 0 ∷ []) k))
      (at-permuted (2 ∷ 0 ∷ 1 ∷ []) (refl, omega arith) b4 xs k hk ∙ at b4 (permuted 2 (2 ∷ 0 ∷ 1 ∷ []) k))
      (at-permuted (2 ∷ 1 ∷ 0 ∷ []) (refl, omega arith) b5 xs k hk ∙ at b5 (permuted 2 (2 ∷ 1 ∷ 0 ∷ []) k)))
    where
      at : (b t : ℕ) → get_or xs (b * 27 + t) nan ≡ get_or xs (b * in_block 2 + t) nan
      at b t = ap (λ c. get_or xs (b * c + t) nan) (sym in27)

      first : (k : ℕ) → k < in_block 2 → get_or xs (b0 * 27 + k) nan ≡ get_or xs (b0 * in_block 2 + permuted 2 (0 ∷ 1 ∷ 2 ∷ []) k) nan
      first k h = ap₂ (λ c t. get_or xs (b0 * c + t) nan) (sym in27) (sym (permuted_plain k h))

      same : {a b c d e f a' b' c' d' e' f' : Float} → a ≡ a' → b ≡ b' → c ≡ c' → d ≡ d' → e ≡ e' → f ≡ f'
          → mean6 (a ∷ b ∷ c ∷ d ∷ e ∷ f ∷ []) ≡ mean6 (a' ∷ b' ∷ c' ∷ d' ∷ e' ∷ f' ∷ [])
      same p q r s t u = rw (p, q, r, s, t, u)
