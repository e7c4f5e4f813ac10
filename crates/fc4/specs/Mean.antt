-- The means of a group of blocks of fourth order, as the program makes them. Assumes nothing.
use Rattle.std.specs.Prelude.{◌≡◌, replicate, Float}
use Rattle.std.proofs.Math.Path.{refl, sym, ap, ap₂}
use Rattle.std.proofs.Common.{◌∙◌, le_of_suc-le-suc, not-suc-le-zero, suc-ne-zero, div-add-mod', mod-lt, arith, lit<}
use Prim.Native.Nat.{ℕ, zero, suc, ◌+◌, ◌*◌, ◌/◌, ◌%◌, ◌≤◌, ◌<◌}
use Rattle.std.proofs.Math.Nat.{suc_inj}
use mathlib.Core.List.{List, [], ◌∷◌, map}
use Rattle.std.proofs.Math.ListN.{length, get_or, length-map, length-replicate, get_or-replicate}
use Rattle.std.specs.Float.Ieee.{nan, binary64, add, div, of_bits}
use Rattle.lists.specs.Tab.{tab, length-tab, get_or-tab, is_tab, times}
use Rattle.lists.specs.Stages.{Stage, next, stages}
use Rattle.lists.specs.Elements.{get_d_map}
use Rattle.blocks.specs.Block.{block, put_block, get_or-block, length-block, length-put_block, put-inside, put-outside}
use Rattle.places.specs.Permutations.{perms4}
use Rattle.orbits.specs.Blockwise.{in_block}
use Rattle.blocks.specs.Permuted.{permuted}
use Rattle.orbits.specs.Groups.{spots, mean_block}
use Rattle.lists.specs.Floats.{sum_from}
use Rattle.fc4.specs.Mean24.{mean24}
use Rattle.positions.specs.Positions.{permutation_at, in81, permuted_in}

-- 24 blocks of a set of n numbers
pub record Blocks24 (n : ℕ) (bs : List ℕ) : Type 0 where
  pub count : length bs ≡ 24
  pub inside : (s : ℕ) → s < 24 → get_or bs s 0 * 81 + 81 ≤ n

-- the 24 blocks as values, and what is known of values of that shape
unfoldable pub group_of : List Float → List ℕ → List (List Float)
group_of xs bs = tab 24 (λ s. block 81 (get_or bs s 0) xs)

pub record Group24 (g : List (List Float)) : Type 0 where
  pub count : length g ≡ 24
  pub each : (s : ℕ) → s < 24 → length (get_or g s []) ≡ 81

pub at-group : (xs : List Float) (bs : List ℕ) (s : ℕ) → s < 24 → get_or (group_of xs bs) s [] ≡ block 81 (get_or bs s 0) xs
unfolding group_of
at-group xs bs s h = get_or-tab 24 (λ s. block 81 (get_or bs s 0) xs) s [] h

pub is_group_lem : (xs : List Float) (bs : List ℕ) → Group24 (group_of xs bs)
is_group_lem xs bs = record {
  count = unfold group_of in length-tab 24 _;
  each = λ s h. ap length (at-group xs bs s h) ∙ length-block 81 (get_or bs s 0) xs;
}

-- what the loops make: the running sums of positions 9 h to 9 h + 8 with the numbers of a block added, by permutation s; and sums divided
unfoldable pub added_nine : ℕ → ℕ → List Float → List Float → List Float
added_nine s h ys sums = tab 9 (λ k. add binary64 (get_or sums k nan) (get_or ys (permuted 3 (permutation_at s) (h * 9 + k)) nan))

unfoldable pub nine_sums : List (List Float) → ℕ → List Float
unfolding added_nine
nine_sums g h = times 24 (λ s. added_nine s h (get_or g s [])) (replicate 9 (of_bits binary64 0))

unfoldable pub divided : List Float → List Float
divided sums = tab 9 (λ k. div binary64 (get_or sums k nan) (of_bits binary64 0x4038_0000_0000_0000))

-- nine means after the other
unfoldable pub means_to : List Float → List ℕ → ℕ → List Float
unfolding divided nine_sums group_of
means_to xs bs n = times n (λ h. put_block 9 h (divided (nine_sums (group_of xs bs) h))) (replicate 81 (of_bits binary64 0))

pub length-added : (s h : ℕ) (ys sums : List Float) → length (added_nine s h ys sums) ≡ 9
unfolding added_nine
length-added s h ys sums = length-tab 9 _

-- ---- a list taken from the front, as a loop

pub times-front : {A : Type 0} (n : ℕ) (f : ℕ → A → A) (x : A) → times (suc n) f x ≡ times n (λ s. f (suc s)) (f 0 x)
unfolding times
times-front zero f x = refl
times-front (suc n) f x = ap (f (suc n)) (times-front n f x)

sum-times : (x : Float) (l : List Float) → sum_from x l ≡ times (length l) (λ s a. add binary64 a (get_or l s nan)) x
sum-times x [] = unfold times in refl
sum-times x (y ∷ ys) = sum-times (add binary64 x y) ys ∙ sym (times-front (length ys) (λ s a. add binary64 a (get_or (y ∷ ys) s nan)) x)

-- ---- the spots of a position, one for each permutation

pub length-spots : (m : ℕ) (os : List (List ℕ)) (bs : List ℕ) (k : ℕ) → length bs ≡ length os → length (spots m os bs k) ≡ length os
unfolding spots
length-spots m [] bs k e = refl
length-spots m (σ ∷ os) [] k e = absurd (suc-ne-zero _ (sym e))
length-spots m (σ ∷ os) (b ∷ bs) k e = ap suc (length-spots m os bs k (suc_inj e))

pub get_or-spots : (m : ℕ) (os : List (List ℕ)) (bs : List ℕ) (k s : ℕ) → length bs ≡ length os → s < length os
    → get_or (spots m os bs k) s 0 ≡ get_or bs s 0 * in_block m + permuted m (get_or os s []) k
unfolding spots
get_or-spots m [] bs k s e h = absurd (not-suc-le-zero h)
get_or-spots m (σ ∷ os) [] k s e h = absurd (suc-ne-zero _ (sym e))
get_or-spots m (σ ∷ os) (b ∷ bs) k zero e h = refl
get_or-spots m (σ ∷ os) (b ∷ bs) k (suc s) e h = get_or-spots m os bs k s (suc_inj e) (le_of_suc-le-suc h)

pub count24 : length perms4 ≡ 24
unfolding perms4
count24 = refl

module _ (bs : List ℕ) (e : length bs ≡ 24) (k : ℕ) where
  pub spots-count : length (spots 3 perms4 bs k) ≡ 24
  spots-count = length-spots 3 perms4 bs k (e ∙ sym count24) ∙ count24

  pub spot_is : (s : ℕ) → s < 24 → get_or (spots 3 perms4 bs k) s 0 ≡ get_or bs s 0 * 81 + permuted 3 (permutation_at s) k
  unfolding permutation_at
  spot_is s h = get_or-spots 3 perms4 bs k s (e ∙ sym count24) (rw count24 h) ∙ ap (λ c. get_or bs s 0 * c + permuted 3 (get_or perms4 s []) k) in81

-- ---- the means of a group

module _ (xs : List Float) (bs : List ℕ) (e : length bs ≡ 24) where
  -- each of the running sums by itself
  sums-to : (h n k : ℕ) → h < 9 → n ≤ 24 → k < 9
      → get_or (times n (λ s. added_nine s h (get_or (group_of xs bs) s [])) (replicate 9 (of_bits binary64 0))) k nan
      ≡ times n (λ s a. add binary64 a (get_or (map (λ r. get_or xs r nan) (spots 3 perms4 bs (h * 9 + k))) s nan)) (of_bits binary64 0)
  unfolding times added_nine
  sums-to h zero k hh hn hk = get_or-replicate 9 k (of_bits binary64 0) nan hk
  sums-to h (suc n) k hh hn hk =
      let l = times n (λ s. added_nine s h (get_or (group_of xs bs) s [])) (replicate 9 (of_bits binary64 0)) in
      let q = h * 9 + k in
      get_or-tab 9 (λ k. add binary64 (get_or l k nan) (get_or (get_or (group_of xs bs) n []) (permuted 3 (permutation_at n) (h * 9 + k)) nan)) k nan hk
      ∙ ap₂ (add binary64) (sums-to h n k hh (omega arith) hk)
      (ap (λ y. get_or y (permuted 3 (permutation_at n) q) nan) (at-group xs bs n hn)
      ∙ get_or-block 81 (get_or bs n 0) xs (permuted 3 (permutation_at n) q) (permuted_in n q hn (omega arith))
      ∙ ap (λ r. get_or xs r nan) (sym (spot_is bs e q n hn))
      ∙ sym (get_d_map (λ r. get_or xs r nan) (spots 3 perms4 bs q) n 0 nan (rw (spots-count bs e q) hn)))

  sum_is : (h k : ℕ) → h < 9 → k < 9 → get_or (nine_sums (group_of xs bs) h) k nan ≡ sum_from (of_bits binary64 0) (map (λ r. get_or xs r nan) (spots 3 perms4 bs (h * 9 + k)))
  unfolding nine_sums
  sum_is h k hh hk =
      let l = map (λ r. get_or xs r nan) (spots 3 perms4 bs (h * 9 + k)) in
      let n : length l ≡ 24 = length-map (spots 3 perms4 bs (h * 9 + k)) _ ∙ spots-count bs e (h * 9 + k) in
      sums-to h 24 k hh (omega arith) hk ∙ sym (sum-times (of_bits binary64 0) l ∙ ap (λ n. times n (λ s a. add binary64 a (get_or l s nan)) (of_bits binary64 0)) n)

  mean_is : (h k : ℕ) → h < 9 → k < 9 → get_or (divided (nine_sums (group_of xs bs) h)) k nan ≡ mean24 (map (λ r. get_or xs r nan) (spots 3 perms4 bs (h * 9 + k)))
  unfolding divided
  mean_is h k hh hk =
      get_or-tab 9 (λ k. div binary64 (get_or (nine_sums (group_of xs bs) h) k nan) (of_bits binary64 0x4038_0000_0000_0000)) k nan hk
      ∙ ap (λ x. div binary64 x (of_bits binary64 0x4038_0000_0000_0000)) (sum_is h k hh hk)

  -- nine after nine
  abbrev mean_at : ℕ → Float
  mean_at q = mean24 (map (λ r. get_or xs r nan) (spots 3 perms4 bs q))

  abbrev old : List Float
  old = replicate 81 (of_bits binary64 0)

  nine-more : (h : ℕ) → h < 9 → (ys : List Float) → Stage nan old (λ q. q / 9) mean_at h ys → Stage nan old (λ q. q / 9) mean_at (suc h) (put_block 9 h (divided (nine_sums (group_of xs bs) h)) ys)
  nine-more h hh ys S =
      let w = divided (nine_sums (group_of xs bs) h) in
      next nan old (λ q. q / 9) mean_at h ys (put_block 9 h w ys) S (length-put_block 9 h w ys)
      (λ q hq k.
      let p : h * 9 + q % 9 ≡ q = ap (λ n. n * 9 + q % 9) (sym k) ∙ div-add-mod' q 9 in
      put-inside 9 h w ys q (rw S.long hq) k ∙ mean_is h (q % 9) hh (mod-lt q (lit< tt)) ∙ ap mean_at p)
      (λ q hq k. put-outside 9 h w ys q (rw S.long hq) k)

  pub means_are : means_to xs bs 9 ≡ mean_block mean24 3 perms4 bs xs
  unfolding means_to mean_block
  means_are =
      let S = stages nan old (λ q. q / 9) mean_at 9 (λ h. put_block 9 h (divided (nine_sums (group_of xs bs) h))) nine-more in
      let l = length-replicate 81 (of_bits binary64 0) in
      is_tab nan (in_block 3) mean_at _ (S.long ∙ l ∙ sym in81) (λ q hq.
      let g : q < 81 = rw in81 at hq in
      S.made q (rw l g) (omega arith))
