-- The groups may be worked out in any loop order: what is read and written for one group is none of another's. Assumes nothing.
use mathlib.Core.Path.{◌≡◌, refl, sym, ap, ap₂, ◌∙◌}
use mathlib.Core.Logic.{inl, inr}
use mathlib.Core.Bool.{Bool, true, false, cond}
use Prim.Native.Nat.{ℕ, zero, suc, ◌+◌, ◌*◌, ◌<◌}
use native.Mathlib.Decide.{ℕ_discrete}
use native.Mathlib.Omega.{arith}
use mathlib.Core.List.{List, [], ◌∷◌}
use lib.ListN.{length, get_or, set}
use lib.Seq.{get_or-set_other, ext_get_or}
use lib.Ieee.{Float, nan}
use borrow.Author.Tests.{eqb-true}
use Rattle.lists.specs.Elements.{map_same}
use Rattle.lists.specs.Digits.{times_power}
use Rattle.lists.specs.Members.{In, in_all, least}
use Rattle.tables.specs.Shifts.{Shifts, Laws}
use Rattle.places.specs.Permutations.{Group}
use Rattle.orbits.specs.Blockwise.{in_block}
use Rattle.orbits.specs.Symmetric.{first_block}
use Rattle.orbits.specs.SymmetrizerLaws.{imgs, groups, orbits}
use Rattle.orbits.specs.Spread.{set_all, has, mean_of, spread, length-set_all, get_or-set_all, Groups, Orbits, fb_of}
use Rattle.orbits.proofs.SpreadLaws.{group-first}
use Rattle.orbits.specs.Groups.{group_blocks, spread_is, marked_are}
use Rattle.orbits.specs.GroupLoop.{worked, first_visit, is_first}

-- a place that is none of those stored to
other-set_all : {A : Type 0} (rs : List ℕ) (v : A) (l : List A) (q : ℕ) (d : A) → (In q rs → ⊥) → get_or (set_all rs v l) q d ≡ get_or l q d
unfolding set_all
other-set_all [] v l q d h = refl
other-set_all (r ∷ rs) v l q d h = other-set_all rs v (set l r v) q d (λ i. h (inr i)) ∙ get_or-set_other l r q v d (λ e. h (inl e))

module _ {A : Type 0} (z : A) (mean : List A → A) (c : ℕ) (at : ℕ → List ℕ) where
  length-spread : (l : List A) (n k : ℕ) → length (spread z mean c at l n k) ≡ length l
  unfolding spread
  length-spread l n zero = refl
  length-spread l n (suc k) = length-set_all (at (n * c + k)) _ (spread z mean c at l n k) ∙ length-spread l n k

  -- a place outside the group keeps its number
  spread-out : (l : List A) (n k q : ℕ) → ((j : ℕ) → j < k → In q (at (n * c + j)) → ⊥) → get_or (spread z mean c at l n k) q z ≡ get_or l q z
  unfolding spread
  spread-out l n zero q o = refl
  spread-out l n (suc k) q o = other-set_all (at (n * c + k)) _ (spread z mean c at l n k) q z (o k (omega arith)) ∙ spread-out l n k q (λ j h. o j (omega arith))

  -- what a group's places get depends on the group's places only
  spread_same : (l r : List A) (n k q : ℕ) → length r ≡ length l → q < length l → get_or l q z ≡ get_or r q z → ((j p : ℕ) → j < k → In p (at (n * c + j)) → get_or l p z ≡ get_or r p z)
      → get_or (spread z mean c at l n k) q z ≡ get_or (spread z mean c at r n k) q z
  unfolding spread mean_of
  spread_same l r n zero q e h g s = g
  spread_same l r n (suc k) q e h g s =
      let is = at (n * c + k) in
      get_or-set_all is (mean_of z mean c at l (n * c + k)) (spread z mean c at l n k) q z (rw (length-spread l n k) h)
      ∙ ap₂ (λ v w. cond (has q is) v w)
      (ap mean (map_same (λ p. In p is) (λ p. get_or l p z) (λ p. get_or r p z) is (λ p i. s k p (omega arith) i) (in_all (λ p. In p is) is (λ p i. i))))
      (spread_same l r n k q e h g (λ j p hj. s j p (omega arith)))
      ∙ sym (get_or-set_all is (mean_of z mean c at r (n * c + k)) (spread z mean c at r n k) q z (rw (length-spread r n k, e) h))

-- two different first blocks
module _ {A : Type 0} (G : Groups) (O : Orbits G) (z : A) (mean : List A → A) where
  abbrev work : ℕ → List A → List A
  work n l = spread z mean G.c G.imgs l n G.c

  -- what one group's work leaves of the other's places
  away : (n m p : ℕ) → m < G.B → fb_of G (m * G.c) ≡ m → (n ≡ m → ⊥) → fb_of G p ≡ n → (l : List A) → get_or (work m l) p z ≡ get_or l p z
  away n m p hm fm d e l = spread-out z mean G.c G.imgs l m G.c p (λ j hj i. d (sym e ∙ group-first G O m j p hm fm hj i))

  pub works_commute : (n m : ℕ) → n < G.B → m < G.B → fb_of G (n * G.c) ≡ n → fb_of G (m * G.c) ≡ m → (n ≡ m → ⊥) → (l : List A) → work n (work m l) ≡ work m (work n l)
  works_commute n m hn hm fn fm d l =
      ext_get_or z (work n (work m l)) (work m (work n l)) (sized n (work m l) ∙ sized m l ∙ sym (sized m (work n l) ∙ sized n l)) (λ q h.
      let hq : q < length l = rw (sized n (work m l), sized m l) at h in
      go q hq (ℕ_discrete (fb_of G q) n))
    where
      sized : (n : ℕ) (l : List A) → length (work n l) ≡ length l
      sized n l = length-spread z mean G.c G.imgs l n G.c

      go : (q : ℕ) → q < length l → Dec (fb_of G q ≡ n) → get_or (work n (work m l)) q z ≡ get_or (work m (work n l)) q z
      go q h (yes e) =
          spread_same z mean G.c G.imgs (work m l) l n G.c q (sym (sized m l)) (rw (sized m l) h) (away n m q hm fm d e l)
          (λ j p hj i. away n m p hm fm d (group-first G O n j p hn fn hj i) l)
          ∙ sym (away n m q hm fm d e (work n l))
      go q h (no e) =
          let still : (l : List A) → get_or (work n l) q z ≡ get_or l q z = λ l. spread-out z mean G.c G.imgs l n G.c q (λ j hj i. e (group-first G O n j q hn fn hj i)) in
          still (work m l)
          ∙ sym (spread_same z mean G.c G.imgs (work n l) l m G.c q (sym (sized n l)) (rw (sized n l) h) (still l)
          (λ j p hj i. away m n p hn fn (λ f. d (sym f)) (group-first G O m j p hm fm hj i) l))

-- ---- the visits of first blocks

module _ (mean : List Float → Float) (S : Shifts) (L : Laws S) (m : ℕ) (os : List (List ℕ)) (G : Group m os) where
  abbrev visit : ℕ → List Float → List Float
  visit = first_visit mean m os (is_first m os S) S

  module _ (a b : ℕ) (ha : a < times_power S.n_satom m S.n_patom) (hb : b < times_power S.n_satom m S.n_patom) where
    is_first_lem : (n : ℕ) → n < times_power S.n_satom m S.n_patom → is_first m os S n ≡ true → fb_of (groups S L m os G) (n * in_block m) ≡ n
    unfolding is_first first_block
    is_first_lem n h e = ap least (marked_are S L m os G n h) ∙ eqb-true (least (group_blocks S m os n)) n e

    spread_at : (n : ℕ) → n < times_power S.n_satom m S.n_patom → (xs : List Float) → worked mean m os S n xs ≡ spread nan mean (in_block m) (imgs S L m os G) xs n (in_block m)
    unfolding worked
    spread_at n h xs = sym (spread_is S L m os G n h mean xs)

    both-worked : is_first m os S a ≡ true → is_first m os S b ≡ true → (a ≡ b → ⊥) → (xs : List Float)
        → worked mean m os S a (worked mean m os S b xs) ≡ worked mean m os S b (worked mean m os S a xs)
    both-worked ea eb d xs =
        spread_at a ha (worked mean m os S b xs) ∙ ap (λ l. spread nan mean (in_block m) (imgs S L m os G) l a (in_block m)) (spread_at b hb xs)
        ∙ works_commute (groups S L m os G) (orbits S L m os G) nan mean a b ha hb (is_first_lem a ha ea) (is_first_lem b hb eb) d xs
        ∙ sym (spread_at b hb (worked mean m os S a xs) ∙ ap (λ l. spread nan mean (in_block m) (imgs S L m os G) l b (in_block m)) (spread_at a ha xs))

    pub visits_commute : (xs : List Float) → visit a (visit b xs) ≡ visit b (visit a xs)
    unfolding first_visit
    visits_commute xs = go (is_first m os S a) (is_first m os S b) refl refl (ℕ_discrete a b)
      where
        go : (x y : Bool) → is_first m os S a ≡ x → is_first m os S b ≡ y → Dec (a ≡ b)
            → cond (is_first m os S a) (worked mean m os S a (cond (is_first m os S b) (worked mean m os S b xs) xs)) (cond (is_first m os S b) (worked mean m os S b xs) xs)
            ≡ cond (is_first m os S b) (worked mean m os S b (cond (is_first m os S a) (worked mean m os S a xs) xs)) (cond (is_first m os S a) (worked mean m os S a xs) xs)
        go x y ea eb (yes e) = rw e
        go true true ea eb (no d) = rw (ea, eb) (both-worked ea eb d xs)
        go true false ea eb (no d) = rw (ea, eb) refl
        go false y ea eb (no d) = rw ea refl
