-- The means of a group written to its six blocks. Assumes nothing.
use Rattle.std.specs.Prelude.{◌≡◌, ℕ, ◌+◌, ◌*◌, ◌/◌, ◌%◌, ◌<◌, length, set}
use Rattle.std.proofs.Math.Path.{refl, sym, ap}
use Rattle.std.proofs.Common.{ap₂, ◌∙◌, mod-eq_of_lt}
use native.Mathlib.Omega.{arith}
use mathlib.Core.List.{List, [], ◌∷◌}
use Rattle.std.proofs.Math.ListN.{get_or}
use Rattle.std.specs.Float.Ieee.{Float, nan}
use Rattle.lists.specs.Tab.{tab, tab_from, length-tab, is_tab, times, times_nest}
use Rattle.lists.specs.Elements.{Below, pick, straight}
use Rattle.lists.specs.Digits.{horner, rest, digits, quotient, remainder}
use Rattle.blocks.specs.Block.{put_block, put-put-other}
use Rattle.places.specs.Permutations.{perms3}
use Rattle.orbits.specs.Blockwise.{in_block}
use Rattle.blocks.specs.Permuted.{permuted, permuted_block, gathered, lnm, mln, mnl, nlm, nml}
use Rattle.orbits.specs.Groups.{spots, mean_block, spread_block, Distinct}
use Rattle.orbits.specs.Spread.{set_all}
use Rattle.orbits.proofs.Scatter.{Undoes, Inverses, put_all, wholes_are}
use Rattle.fc3.specs.Mean.{in27, permuted_plain, lnm-permuted, mln-permuted, mnl-permuted, nlm-permuted, nml-permuted}

-- the inverses of the six permutations: two of them are each other's, the others their own
unfoldable pub inverse6 : List (List ℕ)
inverse6 = (0 ∷ 1 ∷ 2 ∷ []) ∷ (0 ∷ 2 ∷ 1 ∷ []) ∷ (1 ∷ 0 ∷ 2 ∷ []) ∷ (2 ∷ 0 ∷ 1 ∷ []) ∷ (1 ∷ 2 ∷ 0 ∷ []) ∷ (2 ∷ 1 ∷ 0 ∷ []) ∷ []

undoes : (σ τ : List ℕ) → length σ ≡ 3 → length τ ≡ 3 → pick 0 σ τ ≡ straight 3 → pick 0 τ σ ≡ straight 3 → Below 3 σ → Below 3 τ → Undoes 2 σ τ
undoes σ τ l k e f b d = record { order = (l, b); inverse = (k, d); there = e; back = f }

module _ (b0 b1 b2 b3 b4 b5 : ℕ) where
  pub inverses6 : Inverses 2 perms3 inverse6 (b0 ∷ b1 ∷ b2 ∷ b3 ∷ b4 ∷ b5 ∷ [])
  unfolding perms3 inverse6 pick straight tab tab_from
  inverses6 = (
    undoes (0 ∷ 1 ∷ 2 ∷ []) (0 ∷ 1 ∷ 2 ∷ []) refl refl refl refl (omega arith) (omega arith),
    (
      undoes (0 ∷ 2 ∷ 1 ∷ []) (0 ∷ 2 ∷ 1 ∷ []) refl refl refl refl (omega arith) (omega arith),
      (
        undoes (1 ∷ 0 ∷ 2 ∷ []) (1 ∷ 0 ∷ 2 ∷ []) refl refl refl refl (omega arith) (omega arith),
        (
          undoes (1 ∷ 2 ∷ 0 ∷ []) (2 ∷ 0 ∷ 1 ∷ []) refl refl refl refl (omega arith) (omega arith),
          (
            undoes (2 ∷ 0 ∷ 1 ∷ []) (1 ∷ 2 ∷ 0 ∷ []) refl refl refl refl (omega arith) (omega arith),
            (undoes (2 ∷ 1 ∷ 0 ∷ []) (2 ∷ 1 ∷ 0 ∷ []) refl refl refl refl (omega arith) (omega arith), tt),
          ),
        ),
      ),
    ),
  )

  -- six whole blocks written
  unfoldable pub put_six : List Float → List Float → List Float
  put_six v xs =
      put_block 27 b5 (permuted_block 27 (permuted 2 (2 ∷ 1 ∷ 0 ∷ [])) v)
      (put_block 27 b4 (permuted_block 27 (permuted 2 (1 ∷ 2 ∷ 0 ∷ [])) v)
      (put_block 27 b3 (permuted_block 27 (permuted 2 (2 ∷ 0 ∷ 1 ∷ [])) v)
      (put_block 27 b2 (permuted_block 27 (permuted 2 (1 ∷ 0 ∷ 2 ∷ [])) v)
      (put_block 27 b1 (permuted_block 27 (permuted 2 (0 ∷ 2 ∷ 1 ∷ [])) v) (put_block 27 b0 v xs)))))

  plain_permuted : (v : List Float) → length v ≡ 27 → permuted_block 27 (permuted 2 (0 ∷ 1 ∷ 2 ∷ [])) v ≡ v
  unfolding permuted_block
  plain_permuted v l = sym (is_tab nan 27 (λ k. get_or v (permuted 2 (0 ∷ 1 ∷ 2 ∷ []) k) nan) v l (λ k h. ap (λ j. get_or v j nan) (sym (permuted_plain k (rw in27 h)))))

  six-written : (v xs : List Float) → length v ≡ 27 → put_six v xs ≡ put_all 2 inverse6 (b0 ∷ b1 ∷ b2 ∷ b3 ∷ b4 ∷ b5 ∷ []) v xs
  unfolding put_six put_all inverse6 permuted_block
  six-written v xs l =
      let p : v ≡ tab 27 (λ k. get_or v (permuted 2 (0 ∷ 1 ∷ 2 ∷ []) k) nan) = sym (plain_permuted v l) in
      ap (λ w. put_six' w) p ∙ ap (λ c.
      put_block c b5 (tab c (λ k. get_or v (permuted 2 (2 ∷ 1 ∷ 0 ∷ []) k) nan))
      (put_block c b4 (tab c (λ k. get_or v (permuted 2 (1 ∷ 2 ∷ 0 ∷ []) k) nan))
      (put_block c b3 (tab c (λ k. get_or v (permuted 2 (2 ∷ 0 ∷ 1 ∷ []) k) nan))
      (put_block c b2 (tab c (λ k. get_or v (permuted 2 (1 ∷ 0 ∷ 2 ∷ []) k) nan))
      (put_block c b1 (tab c (λ k. get_or v (permuted 2 (0 ∷ 2 ∷ 1 ∷ []) k) nan))
      (put_block c b0 (tab c (λ k. get_or v (permuted 2 (0 ∷ 1 ∷ 2 ∷ []) k) nan)) xs)))))) (sym in27)
    where
      put_six' : List Float → List Float
      put_six' w =
          put_block 27 b5 (tab 27 (λ k. get_or v (permuted 2 (2 ∷ 1 ∷ 0 ∷ []) k) nan))
          (put_block 27 b4 (tab 27 (λ k. get_or v (permuted 2 (1 ∷ 2 ∷ 0 ∷ []) k) nan))
          (put_block 27 b3 (tab 27 (λ k. get_or v (permuted 2 (2 ∷ 0 ∷ 1 ∷ []) k) nan))
          (put_block 27 b2 (tab 27 (λ k. get_or v (permuted 2 (1 ∷ 0 ∷ 2 ∷ []) k) nan))
          (put_block 27 b1 (tab 27 (λ k. get_or v (permuted 2 (0 ∷ 2 ∷ 1 ∷ []) k) nan))
          (put_block 27 b0 w xs)))))

  -- where the six blocks differ, that is the means written to their spots
  pub six_are : (v xs : List Float) → length v ≡ 27 → Distinct (b0 ∷ b1 ∷ b2 ∷ b3 ∷ b4 ∷ b5 ∷ []) → put_six v xs ≡ spread_block 2 perms3 (b0 ∷ b1 ∷ b2 ∷ b3 ∷ b4 ∷ b5 ∷ []) v xs
  six_are v xs l d = six-written v xs l ∙ wholes_are 2 perms3 inverse6 (b0 ∷ b1 ∷ b2 ∷ b3 ∷ b4 ∷ b5 ∷ []) v xs inverses6 d

-- the six places of directions l, m, n
abbrev pub six_spots : ℕ → ℕ → ℕ → ℕ → ℕ → ℕ → ℕ → ℕ → ℕ → List ℕ
six_spots b0 b1 b2 b3 b4 b5 l m n =
    (b0 * 27 + ((l * 3 + m) * 3 + n)) ∷ (b1 * 27 + ((l * 3 + n) * 3 + m)) ∷ (b2 * 27 + ((m * 3 + l) * 3 + n)) ∷ (b3 * 27 + ((m * 3 + n) * 3 + l)) ∷ (b4 * 27 + ((n * 3 + l) * 3 + m)) ∷ (b5 * 27 + ((n * 3 + m) * 3 + l)) ∷ []

module _ (b0 b1 b2 b3 b4 b5 : ℕ) where
  spots_are : (k : ℕ) → spots 2 perms3 (b0 ∷ b1 ∷ b2 ∷ b3 ∷ b4 ∷ b5 ∷ []) k ≡ six_spots b0 b1 b2 b3 b4 b5 (k / 3 / 3 % 3) (k / 3 % 3) (k % 3)
  unfolding spots perms3 permuted pick horner digits rest
  spots_are k = rw (in27, at, at, at, at, at, at)
    where
      at : (a b c : ℕ) → ((0 * 3 + a) * 3 + b) * 3 + c ≡ (a * 3 + b) * 3 + c
      at a b c = omega arith

  pub spots-at : (l m n : ℕ) → l < 3 → m < 3 → n < 3 → spots 2 perms3 (b0 ∷ b1 ∷ b2 ∷ b3 ∷ b4 ∷ b5 ∷ []) ((l * 3 + m) * 3 + n) ≡ six_spots b0 b1 b2 b3 b4 b5 l m n
  spots-at l m n hl hm hn =
      let k = (l * 3 + m) * 3 + n in
      let q : k / 3 ≡ l * 3 + m = quotient 3 (l * 3 + m) n hn in
      let el : k / 3 / 3 % 3 ≡ l = ap (λ x. x / 3 % 3) q ∙ ap (λ x. x % 3) (quotient 3 l m hm) ∙ mod-eq_of_lt hl in
      let em : k / 3 % 3 ≡ m = ap (λ x. x % 3) q ∙ remainder 3 l m hm in
      let en : k % 3 ≡ n = remainder 3 (l * 3 + m) n hn in
      spots_are k ∙ ap (λ x. six_spots b0 b1 b2 b3 b4 b5 x (k / 3 % 3) (k % 3)) el ∙ ap₂ (λ y z. six_spots b0 b1 b2 b3 b4 b5 l y z) em en

-- the position of three directions as the program finds it
pub dirs_are : {k : ℕ} (l m n : ℕ) → l < 3 → m < 3 → n < 3 → k ≡ horner 3 l (m ∷ n ∷ []) → (k ≡ (l * 3 + m) * 3 + n) × (k < 27)
unfolding horner
dirs_are l m n hl hm hn e = (e, omega arith)

-- the positions of directions l and m, and of l, written to their places
unfoldable pub line_at : List ℕ → List Float → ℕ → ℕ → List Float → List Float
line_at bs v l m xs = times 3 (λ n. set_all (spots 2 perms3 bs ((l * 3 + m) * 3 + n)) (get_or v ((l * 3 + m) * 3 + n) nan)) xs

unfoldable pub plane_at : List ℕ → List Float → ℕ → List Float → List Float
plane_at bs v l xs = times 3 (λ m. line_at bs v l m) xs

-- all of them
pub planes_are : (bs : List ℕ) (v xs : List Float) → times 3 (λ l. plane_at bs v l) xs ≡ spread_block 2 perms3 bs v xs
unfolding plane_at line_at spread_block
planes_are bs v xs =
    let f : ℕ → List Float → List Float = λ k. set_all (spots 2 perms3 bs k) (get_or v k nan) in
    sym (times_nest (3 * 3) 3 f xs ∙ times_nest 3 3 (λ i. times 3 (λ n. f (i * 3 + n))) xs) ∙ ap (λ c. times c f xs) (sym in27)

pub length-means : (mean : List Float → Float) (os : List (List ℕ)) (bs : List ℕ) (xs : List Float) → length (mean_block mean 2 os bs xs) ≡ 27
unfolding mean_block
length-means mean os bs xs = length-tab (in_block 2) _ ∙ in27

-- six stores one after the other
pub six_stores : (x0 : List Float) {x1 x2 x3 x4 x5 x6 : List Float} (v : Float) (i0 i1 i2 i3 i4 i5 : ℕ)
    → x6 ≡ set x5 i5 v → x5 ≡ set x4 i4 v → x4 ≡ set x3 i3 v → x3 ≡ set x2 i2 v → x2 ≡ set x1 i1 v → x1 ≡ set x0 i0 v
    → x6 ≡ set_all (i0 ∷ i1 ∷ i2 ∷ i3 ∷ i4 ∷ i5 ∷ []) v x0
unfolding set_all
six_stores x0 v i0 i1 i2 i3 i4 i5 e6 e5 e4 e3 e2 e1 = cc

-- six blocks that differ, written one after the other in the order of the program
module _ (b0 b1 b2 b3 b4 b5 : ℕ) (D : Distinct (b0 ∷ b1 ∷ b2 ∷ b3 ∷ b4 ∷ b5 ∷ [])) (xs : List Float) where
  in_order_lem : (u0 u1 u2 u3 u4 u5 : List Float)
      → put_block 27 b3 u3 (put_block 27 b5 u5 (put_block 27 b1 u1 (put_block 27 b4 u4 (put_block 27 b0 u0 (put_block 27 b2 u2 xs)))))
      ≡ put_block 27 b5 u5 (put_block 27 b4 u4 (put_block 27 b3 u3 (put_block 27 b2 u2 (put_block 27 b1 u1 (put_block 27 b0 u0 xs)))))
  in_order_lem u0 u1 u2 u3 u4 u5 =
      let y0 = put_block 27 b0 u0 xs in
      let y2 = put_block 27 b2 u2 (put_block 27 b1 u1 y0) in
      ap (λ t. put_block 27 b3 u3 (put_block 27 b5 u5 (put_block 27 b1 u1 (put_block 27 b4 u4 t)))) (put-put-other 27 u0 u2 xs b0 b2 (λ e. D.0.1.0 (sym e)))
      ∙ ap (λ t. put_block 27 b3 u3 (put_block 27 b5 u5 t)) (put-put-other 27 u1 u4 (put_block 27 b2 u2 y0) b1 b4 (λ e. D.1.0.1.1.0 (sym e)))
      ∙ ap (λ t. put_block 27 b3 u3 (put_block 27 b5 u5 (put_block 27 b4 u4 t))) (put-put-other 27 u1 u2 y0 b1 b2 (λ e. D.1.0.0 (sym e)))
      ∙ put-put-other 27 u3 u5 (put_block 27 b4 u4 y2) b3 b5 (λ e. D.1.1.1.0.1.0 (sym e))
      ∙ ap (put_block 27 b5 u5) (put-put-other 27 u3 u4 y2 b3 b4 (λ e. D.1.1.1.0.0 (sym e)))

  pub six-spread : (v : List Float) → length v ≡ 27 → {x1 x2 x3 x4 x5 x6 u1 u2 u3 u4 u5 : List Float}
      → u2 ≡ gathered v mln → x1 ≡ put_block 27 b2 u2 xs → x2 ≡ put_block 27 b0 v x1 → u4 ≡ gathered v mnl → x3 ≡ put_block 27 b4 u4 x2
      → u1 ≡ gathered v lnm → x4 ≡ put_block 27 b1 u1 x3 → u5 ≡ gathered v nml → x5 ≡ put_block 27 b5 u5 x4 → u3 ≡ gathered v nlm → x6 ≡ put_block 27 b3 u3 x5
      → x6 ≡ spread_block 2 perms3 (b0 ∷ b1 ∷ b2 ∷ b3 ∷ b4 ∷ b5 ∷ []) v xs
  six-spread v l {u1 = u1} {u2 = u2} {u3 = u3} {u4 = u4} {u5 = u5} f2 e1 e2 f4 e3 f1 e4 f5 e5 f3 e6 =
      e6 ∙ ap (put_block 27 b3 u3) (e5 ∙ ap (put_block 27 b5 u5) (e4 ∙ ap (put_block 27 b1 u1) (e3 ∙ ap (put_block 27 b4 u4) (e2 ∙ ap (put_block 27 b0 v) e1))))
      ∙ in_order_lem v u1 u2 u3 u4 u5
      ∙ put (lnm-permuted f1 refl) (mln-permuted f2 refl) (nlm-permuted f3 refl) (mnl-permuted f4 refl) (nml-permuted f5 refl)
      ∙ six_are b0 b1 b2 b3 b4 b5 v xs l D
    where
      put : {u1 u2 u3 u4 u5 : List Float} → u1 ≡ permuted_block 27 (permuted 2 (0 ∷ 2 ∷ 1 ∷ [])) v → u2 ≡ permuted_block 27 (permuted 2 (1 ∷ 0 ∷ 2 ∷ [])) v
          → u3 ≡ permuted_block 27 (permuted 2 (2 ∷ 0 ∷ 1 ∷ [])) v → u4 ≡ permuted_block 27 (permuted 2 (1 ∷ 2 ∷ 0 ∷ [])) v → u5 ≡ permuted_block 27 (permuted 2 (2 ∷ 1 ∷ 0 ∷ [])) v
          → put_block 27 b5 u5 (put_block 27 b4 u4 (put_block 27 b3 u3 (put_block 27 b2 u2 (put_block 27 b1 u1 (put_block 27 b0 v xs))))) ≡ put_six b0 b1 b2 b3 b4 b5 v xs
      put p q r s t = unfold put_six in cc
