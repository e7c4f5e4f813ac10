-- Groups of which some blocks are the same one. Their six blocks are filled as values, each different block in one slot, and then written whole:
-- that is the numbers written to their spots in the set. Assumes nothing.
use Rattle.std.specs.Prelude.{◌≡◌, Bool, ◌||◌, ◌⊎◌, eqb, set, Float}
use Rattle.std.proofs.Math.Path.{refl, sym, ap, ap₂}
use Rattle.std.proofs.Common.{◌∙◌, ⊎_elim, mod-lt, div-add-mod', not-suc-le-zero, arith, lit<, length-set, get_or-set_same, get_or-set_other, eqb-true, eq-eqb, ne_eqb}
use Rattle.std.proofs.Math.Bool.{true, false, cond}
use Rattle.std.proofs.lemmas.Bool.{false≢true}
use Rattle.std.proofs.Math.Logic.{inl, inr}
use mathlib.Core.List.{List, [], ◌∷◌, ◌++◌}
use Prim.Native.Nat.{ℕ, zero, suc, ◌+◌, ◌*◌, ◌/◌, ◌%◌, ◌≤◌, ◌<◌}
use Rattle.std.proofs.Math.ListN.{length, get_or}
use Rattle.std.proofs.Math.Seq.{ext_get_or}
use Rattle.std.specs.Float.Ieee.{nan}
use Rattle.lists.specs.Tests.{same_test}
use Rattle.lists.specs.Cases.{eq_or_ne}
use Rattle.lists.specs.Tab.{tab, tab_ext, length-tab, get_or-tab, is_tab, times}
use Rattle.lists.specs.Elements.{All, all-at}
use Rattle.lists.specs.Digits.{quotient, remainder}
use Rattle.lists.specs.Members.{In, one_of}
use Rattle.blocks.specs.Block.{block, put_block, length-put_block, get_or-block, put-inside, put-outside}
use Rattle.blocks.specs.Permuted.{permuted}
use Rattle.places.specs.Permutations.{perms3}
use Rattle.orbits.specs.Blockwise.{in_block}
use Rattle.orbits.specs.Transposed.{permuted_is_below}
use Rattle.orbits.specs.Groups.{spots, spread_block, Apart}
use Rattle.orbits.specs.Spread.{set_all, has, in_has, get_or-set_all}
use Rattle.orbits.proofs.Scatter.{Inverses, length_stores, stores_out, permuted-straight, permuted-permuted}
use Rattle.fc3.specs.Mean.{in27, Blocks6}
use Rattle.fc3.specs.Spread.{inverse6, inverses6}

-- the place of the first number that is b
unfoldable pub first_at : List ℕ → ℕ → ℕ
first_at [] b = 0
first_at (a ∷ ns) b = cond (eqb a b) 0 (suc (first_at ns b))

-- ---- six blocks as values

abbrev pub Six : List (List Float) → Type 0
Six g = (length g ≡ 6) × All (λ v. length v ≡ 27) g

-- their numbers, block after block
unfoldable pub flat : List (List Float) → List Float
flat g = tab 162 (λ q. get_or (get_or g (q / 27) []) (q % 27) nan)

pub length-flat : (g : List (List Float)) → length (flat g) ≡ 162
unfolding flat
length-flat g = length-tab 162 _

get_or-flat : (g : List (List Float)) (s k : ℕ) → s < 6 → k < 27 → get_or (flat g) (s * 27 + k) nan ≡ get_or (get_or g s []) k nan
unfolding flat
get_or-flat g s k h i =
    get_or-tab 162 (λ q. get_or (get_or g (q / 27) []) (q % 27) nan) (s * 27 + k) nan (omega arith)
    ∙ ap₂ (λ a b. get_or (get_or g a []) b nan) (quotient 27 s k i) (remainder 27 s k i)

flat_block : (g : List (List Float)) (s : ℕ) → Six g → s < 6 → get_or g s [] ≡ block 27 s (flat g)
unfolding block
flat_block g s w h =
    is_tab nan 27 _ (get_or g s []) (all-at (λ v. length v ≡ 27) g s [] w.1 (rw w.0 h)) (λ k i. sym (get_or-flat g s k h i))

all_set : {A : Type 0} (P : A → Type 0) (l : List A) (k : ℕ) (v : A) → All P l → P v → All P (set l k v)
all_set P [] k v a p = tt
all_set P (x ∷ l) zero v a p = (p, a.1)
all_set P (x ∷ l) (suc k) v a p = (a.0, all_set P l k v a.1 p)

-- a number written in one of the blocks
module _ (g : List (List Float)) (s k : ℕ) (x : Float) (w : Six g) (hs : s < 6) (hk : k < 27) where
  abbrev after : List (List Float)
  after = set g s (set (get_or g s []) k x)

  long : length (get_or g s []) ≡ 27
  long = all-at (λ v. length v ≡ 27) g s [] w.1 (rw w.0 hs)

  pub six-set : Six after
  six-set = (length-set g s _ ∙ w.0, all_set (λ v. length v ≡ 27) g s (set (get_or g s []) k x) w.1 (length-set (get_or g s []) k x ∙ long))

  in_block_lem : (a b : ℕ) → a < 6 → b < 27 → get_or (get_or after a []) b nan ≡ get_or (set (flat g) (s * 27 + k) x) (a * 27 + b) nan
  in_block_lem a b ha hb = ⊎_elim same other (eq_or_ne a s)
    where
      elsewhere : (a * 27 + b ≡ s * 27 + k → ⊥) → get_or (set (flat g) (s * 27 + k) x) (a * 27 + b) nan ≡ get_or (get_or g a []) b nan
      elsewhere n = get_or-set_other (flat g) (s * 27 + k) (a * 27 + b) x nan n ∙ get_or-flat g a b ha hb

      same : a ≡ s → get_or (get_or after a []) b nan ≡ get_or (set (flat g) (s * 27 + k) x) (a * 27 + b) nan
      same e =
          ap (λ a. get_or (get_or after a []) b nan) e ∙ ap (λ v. get_or v b nan) (get_or-set_same g s (set (get_or g s []) k x) [] (rw w.0 hs))
          ∙ ⊎_elim here there (eq_or_ne b k)
        where
          here : b ≡ k → get_or (set (get_or g s []) k x) b nan ≡ get_or (set (flat g) (s * 27 + k) x) (a * 27 + b) nan
          here f =
              ap (λ b. get_or (set (get_or g s []) k x) b nan) f ∙ get_or-set_same (get_or g s []) k x nan (rw long hk)
              ∙ sym (ap₂ (λ a b. get_or (set (flat g) (s * 27 + k) x) (a * 27 + b) nan) e f ∙ get_or-set_same (flat g) (s * 27 + k) x nan (rw (length-flat g) (omega arith)))

          there : (b ≡ k → ⊥) → get_or (set (get_or g s []) k x) b nan ≡ get_or (set (flat g) (s * 27 + k) x) (a * 27 + b) nan
          there n =
              get_or-set_other (get_or g s []) k b x nan n ∙ ap (λ a. get_or (get_or g a []) b nan) (sym e)
              ∙ sym (elsewhere (λ q. n (sym (remainder 27 a b hb) ∙ ap (λ y. y % 27) q ∙ remainder 27 s k hk)))

      other : (a ≡ s → ⊥) → get_or (get_or after a []) b nan ≡ get_or (set (flat g) (s * 27 + k) x) (a * 27 + b) nan
      other n =
          ap (λ v. get_or v b nan) (get_or-set_other g s a (set (get_or g s []) k x) [] n)
          ∙ sym (elsewhere (λ q. n (sym (quotient 27 a b hb) ∙ ap (λ y. y / 27) q ∙ quotient 27 s k hk)))

  pub flat-set : flat after ≡ set (flat g) (s * 27 + k) x
  flat-set =
      ext_get_or nan (flat after) (set (flat g) (s * 27 + k) x) (length-flat after ∙ sym (length-set (flat g) (s * 27 + k) x ∙ length-flat g))
      (λ q h.
      let l : q < 162 = rw (length-flat after) at h in
      let e : q / 27 * 27 + q % 27 ≡ q = div-add-mod' q 27 in
      let m : q % 27 < 27 = mod-lt q (lit< tt) in
      let d : q / 27 < 6 = omega arith in
      ap (λ q. get_or (flat after) q nan) (sym e) ∙ get_or-flat after (q / 27) (q % 27) d m ∙ in_block_lem (q / 27) (q % 27) d m
      ∙ ap (λ q. get_or (set (flat g) (s * 27 + k) x) q nan) e)

-- six slots of six blocks
pub slots_in : {s0 s1 s2 s3 s4 s5 : ℕ} → s0 < 6 → s1 < 6 → s2 < 6 → s3 < 6 → s4 < 6 → s5 < 6 → Blocks6 162 s0 s1 s2 s3 s4 s5
slots_in h0 h1 h2 h3 h4 h5 = record { in0 = omega arith; in1 = omega arith; in2 = omega arith; in3 = omega arith; in4 = omega arith; in5 = omega arith }

pub slot-below : {s : ℕ} → s * 27 + 27 ≤ 162 → s < 6
slot-below h = omega arith

-- ---- two blocks have the same slot where they are the same

found : (ns : List ℕ) (z b : ℕ) → In b ns ⊎ (b ≡ z) → get_or (ns ++ z ∷ []) (first_at ns b) 0 ≡ b
unfolding first_at
found [] z b (inl i) = absurd i
found [] z b (inr e) = sym e
found (a ∷ ns) z b i = ⊎_elim (λ (e : a ≡ b). rw (eq-eqb a b e) e) (λ (n : a ≡ b → ⊥). rw (ne_eqb a b n) (found ns z b (rest n i))) (eq_or_ne a b)
  where
    rest : (a ≡ b → ⊥) → In b (a ∷ ns) ⊎ (b ≡ z) → In b ns ⊎ (b ≡ z)
    rest n (inl (inl e)) = absurd (n (sym e))
    rest n (inl (inr i)) = inl i
    rest n (inr e) = inr e

slot_same : (ns : List ℕ) (z a b : ℕ) → In a ns ⊎ (a ≡ z) → In b ns ⊎ (b ≡ z) → eqb a b ≡ eqb (first_at ns a) (first_at ns b)
slot_same ns z a b i j =
    same_test (eqb a b) (eqb (first_at ns a) (first_at ns b))
    (λ t. eq-eqb (first_at ns a) (first_at ns b) (ap (first_at ns) (eqb-true a b t)))
    (λ t. eq-eqb a b (sym (found ns z a i) ∙ ap (λ k. get_or (ns ++ z ∷ []) k 0) (eqb-true (first_at ns a) (first_at ns b) t) ∙ found ns z b j))

-- ---- the same stores in two lists

-- b is one of bs where s is one of ss
abbrev pub Same : ℕ → List ℕ → ℕ → List ℕ → Type 0
Same b [] s [] = Unit {0}
Same b [] s (x ∷ ss) = ⊥
Same b (a ∷ bs) s [] = ⊥
Same b (a ∷ bs) s (x ∷ ss) = (eqb a b ≡ eqb x s) × Same b bs s ss

module _ (c p π : ℕ) (hp : p < c) (hπ : π < c) where
  one_way : (b a s x : ℕ) → eqb a b ≡ eqb x s → eqb (b * c + p) (a * c + π) ≡ true → eqb (s * c + p) (x * c + π) ≡ true
  one_way b a s x e t =
      let d : b * c + p ≡ a * c + π = eqb-true (b * c + p) (a * c + π) t in
      let f : b ≡ a = sym (quotient c b p hp) ∙ ap (λ y. y / c) d ∙ quotient c a π hπ in
      let g : p ≡ π = sym (remainder c b p hp) ∙ ap (λ y. y % c) d ∙ remainder c a π hπ in
      let k : x ≡ s = eqb-true x s (sym e ∙ eq-eqb a b (sym f)) in
      eq-eqb (s * c + p) (x * c + π) (ap₂ (λ y z. y * c + z) (sym k) g)

  spot-same : (b a s x : ℕ) → eqb a b ≡ eqb x s → eqb (b * c + p) (a * c + π) ≡ eqb (s * c + p) (x * c + π)
  spot-same b a s x e = same_test (eqb (b * c + p) (a * c + π)) (eqb (s * c + p) (x * c + π)) (one_way b a s x e) (one_way s x b a (sym e))

has_same : (m : ℕ) (os ts : List (List ℕ)) (bs ss : List ℕ) (b s p k : ℕ) → Inverses m os ts bs → p < in_block m → k < in_block m → Same b bs s ss
    → has (b * in_block m + p) (spots m os bs k) ≡ has (s * in_block m + p) (spots m os ss k)
unfolding has spots one_of
has_same m [] ts bs ss b s p k u hp hk e = refl
has_same m (σ ∷ os) ts [] [] b s p k u hp hk e = refl
has_same m (σ ∷ os) ts [] (x ∷ ss) b s p k u hp hk e = absurd e
has_same m (σ ∷ os) ts (a ∷ bs) [] b s p k u hp hk e = absurd e
has_same m (σ ∷ os) [] (a ∷ bs) (x ∷ ss) b s p k u hp hk e = absurd u
has_same m (σ ∷ os) (τ ∷ ts) (a ∷ bs) (x ∷ ss) b s p k u hp hk e =
    ap₂ (λ y z. y || z)
    (spot-same (in_block m) p (permuted m σ k) hp (permuted_is_below m σ k u.0.order hk) b a s x e.0)
    (has_same m os ts bs ss b s p k u.1 hp hk e.1)

module _ (f g : ℕ → List ℕ) (v : ℕ → Float) (xs ys : List Float) (q r : ℕ) (hq : q < length xs) (hr : r < length ys) where
  -- stores that meet q and r at the same positions, and at d at least
  stores_same : (n d : ℕ) → d < n → ((k : ℕ) → k < n → has q (f k) ≡ has r (g k)) → has q (f d) ≡ true
      → get_or (times n (λ k. set_all (f k) (v k)) xs) q nan ≡ get_or (times n (λ k. set_all (g k) (v k)) ys) r nan
  unfolding times
  stores_same zero d h e t = absurd (not-suc-le-zero h)
  stores_same (suc n) d h e t =
      let A = times n (λ k. set_all (f k) (v k)) xs in
      let B = times n (λ k. set_all (g k) (v k)) ys in
      get_or-set_all (f n) (v n) A q nan (rw (length_stores f v xs n) hq)
      ∙ ap (λ b. cond b (v n) (get_or A q nan)) (e n (omega arith))
      ∙ go (has r (g n)) refl (λ (l : d < n). stores_same n d l (λ k i. e k (omega arith)) t)
      ∙ sym (get_or-set_all (g n) (v n) B r nan (rw (length_stores g v ys n) hr))
    where
      go : (b : Bool) → has r (g n) ≡ b → (d < n → get_or (times n (λ k. set_all (f k) (v k)) xs) q nan ≡ get_or (times n (λ k. set_all (g k) (v k)) ys) r nan)
          → cond b (v n) (get_or (times n (λ k. set_all (f k) (v k)) xs) q nan) ≡ cond b (v n) (get_or (times n (λ k. set_all (g k) (v k)) ys) r nan)
      go true w y = refl
      go false w y = y (⊎_elim (λ (z : d ≡ n). absurd (false≢true (sym w ∙ sym (e n (omega arith)) ∙ ap (λ k. has q (f k)) (sym z) ∙ t))) (λ (z : d ≡ n → ⊥). omega arith) (eq_or_ne d n))

-- every place of a block of the group is the spot of some position
record Covered (m : ℕ) (os : List (List ℕ)) (bs : List ℕ) (b p : ℕ) : Type 0 where
  pub d : ℕ
  pub below : d < in_block m
  pub spot : In (b * in_block m + p) (spots m os bs d)

covered : (m : ℕ) (os ts : List (List ℕ)) (bs : List ℕ) (b p : ℕ) → Inverses m os ts bs → p < in_block m → In b bs → Covered m os bs b p
covered m [] [] [] b p u h i = absurd i
covered m [] [] (a ∷ bs) b p u h i = absurd u
covered m [] (τ ∷ ts) bs b p u h i = absurd u
covered m (σ ∷ os) [] bs b p u h i = absurd u
covered m (σ ∷ os) (τ ∷ ts) [] b p u h i = absurd u
covered m (σ ∷ os) (τ ∷ ts) (a ∷ bs) b p u h (inl e) =
    record { d = permuted m τ p; below = permuted_is_below m τ p u.0.inverse h; spot = here }
  where
    back : permuted m σ (permuted m τ p) ≡ p
    back = permuted-permuted m σ τ p u.0.order u.0.inverse h ∙ ap (λ ρ. permuted m ρ p) u.0.there ∙ permuted-straight m p h

    here : In (b * in_block m + p) (spots m (σ ∷ os) (a ∷ bs) (permuted m τ p))
    here = unfold spots in inl (ap₂ (λ x y. x * in_block m + y) e (sym back))
covered m (σ ∷ os) (τ ∷ ts) (a ∷ bs) b p u h (inr i) = later (covered m os ts bs b p u.1 h i)
  where
    later : Covered m os bs b p → Covered m (σ ∷ os) (a ∷ bs) b p
    later r = record { d = r.d; below = r.below; spot = unfold spots in inr r.spot }

-- ---- whole blocks of another list written

unfoldable pub put_each : ℕ → List ℕ → List Float → List Float → List Float
put_each c [] new xs = xs
put_each c (b ∷ bs) new xs = put_each c bs new (put_block c b (block c b new) xs)

length-put_each : (c : ℕ) (bs : List ℕ) (new xs : List Float) → length (put_each c bs new xs) ≡ length xs
unfolding put_each
length-put_each c [] new xs = refl
length-put_each c (b ∷ bs) new xs = length-put_each c bs new (put_block c b (block c b new) xs) ∙ length-put_block c b (block c b new) xs

put-each : (c : ℕ) → 0 < c → (bs : List ℕ) (new xs : List Float) (q : ℕ) → q < length xs → (Apart (q / c) bs → get_or xs q nan ≡ get_or new q nan)
    → get_or (put_each c bs new xs) q nan ≡ get_or new q nan
unfolding put_each
put-each c hc [] new xs q h o = o tt
put-each c hc (b ∷ bs) new xs q h o =
    put-each c hc bs new (put_block c b (block c b new) xs) q (rw (length-put_block c b (block c b new) xs) h)
    (λ a. ⊎_elim
    (λ (e : q / c ≡ b).
    put-inside c b (block c b new) xs q h e ∙ get_or-block c b new (q % c) (mod-lt q hc) ∙ ap (λ p. get_or new p nan) (ap (λ b. b * c + q % c) (sym e) ∙ div-add-mod' q c))
    (λ (n : q / c ≡ b → ⊥). put-outside c b (block c b new) xs q h n ∙ o (λ e. n (sym e), a))
    (eq_or_ne (q / c) b))

-- a spot lies in one of the blocks
spot_in : (m : ℕ) (os ts : List (List ℕ)) (bs : List ℕ) (k q : ℕ) → Inverses m os ts bs → k < in_block m → In q (spots m os bs k) → Apart (q / in_block m) bs → ⊥
unfolding spots
spot_in m [] ts bs k q u h i a = i
spot_in m (σ ∷ os) ts [] k q u h i a = i
spot_in m (σ ∷ os) [] (b ∷ bs) k q u h i a = u
spot_in m (σ ∷ os) (τ ∷ ts) (b ∷ bs) k q u h (inl e) a =
    a.0 (sym (ap (λ x. x / in_block m) e ∙ quotient (in_block m) b (permuted m σ k) (permuted_is_below m σ k u.0.order h)))
spot_in m (σ ∷ os) (τ ∷ ts) (b ∷ bs) k q u h (inr i) a = spot_in m os ts bs k q u.1 h i a.1

-- ---- the six blocks

-- six blocks of g written to the set, one after the other
unfoldable pub copy_six : ℕ → ℕ → ℕ → ℕ → ℕ → ℕ → ℕ → ℕ → ℕ → ℕ → ℕ → ℕ → List (List Float) → List Float → List Float
copy_six b0 b1 b2 b3 b4 b5 s0 s1 s2 s3 s4 s5 g xs =
    put_block 27 b5 (get_or g s5 [])
    (put_block 27 b4 (get_or g s4 [])
    (put_block 27 b3 (get_or g s3 [])
    (put_block 27 b2 (get_or g s2 [])
    (put_block 27 b1 (get_or g s1 []) (put_block 27 b0 (get_or g s0 []) xs)))))

pub six_copies : (x0 : List Float) (g : List (List Float)) {x1 x2 x3 x4 x5 x6 : List Float} (b0 b1 b2 b3 b4 b5 s0 s1 s2 s3 s4 s5 : ℕ)
    → x6 ≡ put_block 27 b5 (get_or g s5 []) x5 → x5 ≡ put_block 27 b4 (get_or g s4 []) x4 → x4 ≡ put_block 27 b3 (get_or g s3 []) x3
    → x3 ≡ put_block 27 b2 (get_or g s2 []) x2 → x2 ≡ put_block 27 b1 (get_or g s1 []) x1 → x1 ≡ put_block 27 b0 (get_or g s0 []) x0
    → x6 ≡ copy_six b0 b1 b2 b3 b4 b5 s0 s1 s2 s3 s4 s5 g x0
unfolding copy_six
six_copies x0 g b0 b1 b2 b3 b4 b5 s0 s1 s2 s3 s4 s5 e6 e5 e4 e3 e2 e1 = cc

module _ (b0 b1 b2 b3 b4 b5 : ℕ) (v xs g : List Float) where
  abbrev bs : List ℕ
  bs = b0 ∷ b1 ∷ b2 ∷ b3 ∷ b4 ∷ b5 ∷ []

  abbrev slot_of : ℕ → ℕ
  slot_of b = first_at (b0 ∷ b1 ∷ b2 ∷ b3 ∷ b4 ∷ []) b

  abbrev ss : List ℕ
  ss = slot_of b0 ∷ slot_of b1 ∷ slot_of b2 ∷ slot_of b3 ∷ slot_of b4 ∷ slot_of b5 ∷ []

  abbrev new : List Float
  new = spread_block 2 perms3 bs v xs

  abbrev local : List Float
  local = spread_block 2 perms3 ss v g

  -- one of the six
  abbrev One : ℕ → Type 0
  One b = In b (b0 ∷ b1 ∷ b2 ∷ b3 ∷ b4 ∷ []) ⊎ (b ≡ b5)

  same : (b : ℕ) → One b → Same b bs (slot_of b) ss
  same b i = (at b0 (inl (inl refl)), (at b1 (inl (inr (inl refl))), (at b2 (inl (inr (inr (inl refl)))), (at b3 (inl (inr (inr (inr (inl refl))))), (at b4 (inl (inr (inr (inr (inr (inl refl)))))), (at b5 (inr refl), tt))))))
    where
      at : (a : ℕ) → One a → eqb a b ≡ eqb (slot_of a) (slot_of b)
      at a j = slot_same (b0 ∷ b1 ∷ b2 ∷ b3 ∷ b4 ∷ []) b5 a b j i

  -- a block of the set and its slot
  slot_is : (b : ℕ) → One b → In b bs → b * 27 + 27 ≤ length xs → slot_of b * 27 + 27 ≤ length g → block 27 (slot_of b) local ≡ block 27 b new
  unfolding block
  slot_is b i j hb hs = tab_ext nan 27 _ _ (λ p h. at p h)
    where
      at : (p : ℕ) → p < 27 → get_or local (slot_of b * 27 + p) nan ≡ get_or new (b * 27 + p) nan
      at p h =
          unfold spread_block in
          let hp : p < in_block 2 = rw in27 h in
          let C = covered 2 perms3 inverse6 bs b p (inverses6 b0 b1 b2 b3 b4 b5) hp j in
          sym (stores_same (spots 2 perms3 bs) (spots 2 perms3 ss) (λ k. get_or v k nan) xs g (b * 27 + p) (slot_of b * 27 + p) (omega arith) (omega arith) (in_block 2) C.d C.below
          (λ k l. rw in27 at (has_same 2 perms3 inverse6 bs ss b (slot_of b) p k (inverses6 b0 b1 b2 b3 b4 b5) hp l (same b i)))
          (in_has (b * 27 + p) (spots 2 perms3 bs C.d) (rw in27 at C.spot)))

  -- THE POINT: the local's blocks written to the set
  pub group-put : {s0 s1 s2 s3 s4 s5 : ℕ} (G : List (List Float)) {x : List Float}
      → Blocks6 (length xs) b0 b1 b2 b3 b4 b5 → s0 ≡ slot_of b0 → s1 ≡ slot_of b1 → s2 ≡ slot_of b2 → s3 ≡ slot_of b3 → s4 ≡ slot_of b4 → s5 ≡ slot_of b5
      → Six G → flat G ≡ spread_block 2 perms3 (s0 ∷ s1 ∷ s2 ∷ s3 ∷ s4 ∷ s5 ∷ []) v g → length g ≡ 162 → Blocks6 162 s0 s1 s2 s3 s4 s5
      → x ≡ copy_six b0 b1 b2 b3 b4 b5 s0 s1 s2 s3 s4 s5 G xs
      → x ≡ new
  unfolding copy_six
  group-put {s0} {s1} {s2} {s3} {s4} {s5} G R e0 e1 e2 e3 e4 e5 w eG lg S k =
      let L : flat G ≡ local = eG ∙ (rw (e0, e1, e2, e3, e4, e5) refl) in
      let z0 = flat_block G s0 w (slot-below S.in0) ∙ ap₂ (block 27) e0 L ∙ slot_is b0 (inl (inl refl)) (inl refl) R.in0 (rw lg (rw e0 at S.in0)) in
      let z1 = flat_block G s1 w (slot-below S.in1) ∙ ap₂ (block 27) e1 L ∙ slot_is b1 (inl (inr (inl refl))) (inr (inl refl)) R.in1 (rw lg (rw e1 at S.in1)) in
      let z2 = flat_block G s2 w (slot-below S.in2) ∙ ap₂ (block 27) e2 L ∙ slot_is b2 (inl (inr (inr (inl refl)))) (inr (inr (inl refl))) R.in2 (rw lg (rw e2 at S.in2)) in
      let z3 = flat_block G s3 w (slot-below S.in3) ∙ ap₂ (block 27) e3 L ∙ slot_is b3 (inl (inr (inr (inr (inl refl))))) (inr (inr (inr (inl refl)))) R.in3 (rw lg (rw e3 at S.in3)) in
      let z4 = flat_block G s4 w (slot-below S.in4) ∙ ap₂ (block 27) e4 L ∙ slot_is b4 (inl (inr (inr (inr (inr (inl refl)))))) (inr (inr (inr (inr (inl refl))))) R.in4 (rw lg (rw e4 at S.in4)) in
      let z5 = flat_block G s5 w (slot-below S.in5) ∙ ap₂ (block 27) e5 L ∙ slot_is b5 (inr refl) (inr (inr (inr (inr (inr (inl refl)))))) R.in5 (rw lg (rw e5 at S.in5)) in
      k ∙ all refl z0 refl z1 refl z2 refl z3 refl z4 refl z5 ∙ whole
    where
      all : {w0 w1 w2 w3 w4 w5 x1 x2 x3 x4 x5 x6 : List Float}
          → x1 ≡ put_block 27 b0 w0 xs → w0 ≡ block 27 b0 new → x2 ≡ put_block 27 b1 w1 x1 → w1 ≡ block 27 b1 new → x3 ≡ put_block 27 b2 w2 x2 → w2 ≡ block 27 b2 new
          → x4 ≡ put_block 27 b3 w3 x3 → w3 ≡ block 27 b3 new → x5 ≡ put_block 27 b4 w4 x4 → w4 ≡ block 27 b4 new → x6 ≡ put_block 27 b5 w5 x5 → w5 ≡ block 27 b5 new
          → x6 ≡ put_each 27 bs new xs
      all p0 z0 p1 z1 p2 z2 p3 z3 p4 z4 p5 z5 = unfold put_each in cc

      outside : (q : ℕ) → q < length xs → Apart (q / 27) bs → get_or xs q nan ≡ get_or new q nan
      outside q h a =
          unfold spread_block in
          sym (stores_out (spots 2 perms3 bs) (λ k. get_or v k nan) xs (in_block 2) q h (λ k l i. spot_in 2 perms3 inverse6 bs k q (inverses6 b0 b1 b2 b3 b4 b5) l i (rw in27 a)))

      whole : put_each 27 bs new xs ≡ new
      whole =
          let l : length new ≡ length xs = (unfold spread_block in length_stores (spots 2 perms3 bs) (λ k. get_or v k nan) xs (in_block 2)) in
          ext_get_or nan (put_each 27 bs new xs) new (length-put_each 27 bs new xs ∙ sym l)
          (λ q h. let hq : q < length xs = rw (length-put_each 27 bs new xs) at h in put-each 27 (lit< tt) bs new xs q hq (outside q hq))
