-- The sets that are to be retired with one: by rising number, and just those that are linked to it and have no retirement.
-- Assumes nothing.
use Rattle.std.specs.Prelude.{◌≡◌, Bool, false, ◌&&◌, ◌||◌, ◌⊎◌, ◌↔◌, List, [], ◌∷◌}
use Rattle.std.proofs.Math.Path.{refl, sym, ap}
use Rattle.std.proofs.Common.{◌∙◌, subst, inl, inr, ⊎_elim}
use Rattle.std.proofs.Math.Bool.{true, not, cond}
use Prim.Native.Nat.{ℕ, zero, suc, ◌≤◌, ◌<◌, min, max}
use native.Mathlib.Omega.{arith}
use Rattle.std.proofs.Math.Dec.{eqb}
use borrow.Author.Tests.{eq-eqb, eqb-true, not-true}
use Rattle.lists.specs.Cases.{lt_or_le, eq_or_ne}
use Rattle.lists.specs.Tests.{and_fst, and_snd, not-both, split, or_true, every-at}
use Rattle.lists.specs.Elements.{All}
use Rattle.lists.specs.Members.{In}
use Rattle.roll.specs.Format.{Entry}
use Rattle.standing.specs.Register.{Register, delivers, noted, blank, allowed}
use Rattle.standing.specs.Walk.{register_after, lawful_to}
use Rattle.standing.specs.Chains.{chain_end, carried, carried_is}
use Rattle.standing.specs.RetireAll.{inserted}
use Rattle.standing.specs.Steps.{waits_at, gathered_to}

-- ---- numbers put into a rising list

-- each number is less than those after it
abbrev pub Rising : List ℕ → Type 0
Rising [] = Unit {0}
Rising (y ∷ ys) = All (λ z. y < z) ys × Rising ys

-- the lesser and the greater are the two
two_of : (y z x : ℕ) → (x ≡ min y z) ⊎ (x ≡ max y z) → (x ≡ y) ⊎ (x ≡ z)
two_of y z x h = go (lt_or_le y z) h
  where
    go : (y < z) ⊎ (z ≤ y) → (x ≡ min y z) ⊎ (x ≡ max y z) → (x ≡ y) ⊎ (x ≡ z)
    go (inl l) (inl e) = inl (omega (arith, e))
    go (inl l) (inr e) = inr (omega (arith, e))
    go (inr l) (inl e) = inr (omega (arith, e))
    go (inr l) (inr e) = inl (omega (arith, e))

of_two : (y z x : ℕ) → (x ≡ y) ⊎ (x ≡ z) → (x ≡ min y z) ⊎ (x ≡ max y z)
of_two y z x h = go (lt_or_le y z) h
  where
    go : (y < z) ⊎ (z ≤ y) → (x ≡ y) ⊎ (x ≡ z) → (x ≡ min y z) ⊎ (x ≡ max y z)
    go (inl l) (inl e) = inl (omega (arith, e))
    go (inl l) (inr e) = inr (omega (arith, e))
    go (inr l) (inl e) = inr (omega (arith, e))
    go (inr l) (inr e) = inl (omega (arith, e))

pub placed_in : (y : ℕ) (zs : List ℕ) (x : ℕ) → In x (inserted y zs) → (x ≡ y) ⊎ In x zs
unfolding inserted
placed_in y [] x (inl e) = inl e
placed_in y [] x (inr h) = absurd h
placed_in y (z ∷ zs) x (inl e) = ⊎_elim (λ (a : x ≡ y). inl a) (λ (a : x ≡ z). inr (inl a)) (two_of y z x (inl e))
placed_in y (z ∷ zs) x (inr h) = go (placed_in (max y z) zs x h)
  where
    go : (x ≡ max y z) ⊎ In x zs → (x ≡ y) ⊎ ((x ≡ z) ⊎ In x zs)
    go (inl e) = ⊎_elim (λ (a : x ≡ y). inl a) (λ (a : x ≡ z). inr (inl a)) (two_of y z x (inr e))
    go (inr i) = inr (inr i)

pub in_placed : (y : ℕ) (zs : List ℕ) (x : ℕ) → (x ≡ y) ⊎ In x zs → In x (inserted y zs)
unfolding inserted
in_placed y [] x (inl e) = inl e
in_placed y [] x (inr h) = absurd h
in_placed y (z ∷ zs) x (inl e) = ⊎_elim (λ (a : x ≡ min y z). inl a) (λ (a : x ≡ max y z). inr (in_placed (max y z) zs x (inl a))) (of_two y z x (inl e))
in_placed y (z ∷ zs) x (inr (inl e)) = ⊎_elim (λ (a : x ≡ min y z). inl a) (λ (a : x ≡ max y z). inr (in_placed (max y z) zs x (inl a))) (of_two y z x (inr e))
in_placed y (z ∷ zs) x (inr (inr i)) = inr (in_placed (max y z) zs x (inr i))

all_placed : (P : ℕ → Type 0) (y : ℕ) (zs : List ℕ) → P y → All P zs → ((x : ℕ) → In x (inserted y zs) → P x)
all_placed P y zs p q x h = go (placed_in y zs x h)
  where
    within : (l : List ℕ) → All P l → In x l → P x
    within [] a i = absurd i
    within (z ∷ l) a (inl e) = subst P (sym e) a.0
    within (z ∷ l) a (inr i) = within l a.1 i

    go : (x ≡ y) ⊎ In x zs → P x
    go (inl e) = subst P (sym e) p
    go (inr i) = within zs q i

all_of_lem : (P : ℕ → Type 0) (l : List ℕ) → ((x : ℕ) → In x l → P x) → All P l
all_of_lem P [] h = tt
all_of_lem P (x ∷ xs) h = (h x (inl refl), all_of_lem P xs (λ a i. h a (inr i)))

all-less : (a b : ℕ) (l : List ℕ) → a ≤ b → All (λ z. b < z) l → All (λ z. a < z) l
all-less a b [] h q = tt
all-less a b (x ∷ xs) h q = (omega (arith, q.0), all-less a b xs h q.1)

-- a number that is not there yet keeps the list rising
pub placed-rises : (y : ℕ) (zs : List ℕ) → (In y zs → ⊥) → Rising zs → Rising (inserted y zs)
unfolding inserted
placed-rises y [] n r = (tt, tt)
placed-rises y (z ∷ zs) n r =
    let d : y ≡ z → ⊥ = λ e. n (inl e) in (
      all_of_lem (λ x. min y z < x) (inserted (max y z) zs)
          (all_placed (λ x. min y z < x) (max y z) zs (apart d (lt_or_le y z)) (all-less (min y z) z zs (omega arith) r.0)),
      placed-rises (max y z) zs (λ i. n' (lt_or_le y z) i) r.1,
    )
  where
    apart : (y ≡ z → ⊥) → (y < z) ⊎ (z ≤ y) → min y z < max y z
    apart d (inl l) = omega arith
    apart d (inr l) = ⊎_elim (λ (e : y ≡ z). absurd (d e)) (λ (m : y ≡ z → ⊥). more m l) (eq_or_ne y z)
      where
        more : (y ≡ z → ⊥) → z ≤ y → min y z < max y z
        more m l = omega (arith, m)

    self : (l : List ℕ) → All (λ x. z < x) l → In z l → ⊥
    self [] a i = i
    self (x ∷ xs) a (inl e) = absurd (omega (arith, a.0, e))
    self (x ∷ xs) a (inr i) = self xs a.1 i

    n' : (y < z) ⊎ (z ≤ y) → In (max y z) zs → ⊥
    n' (inl l) i = let e : max y z ≡ z = omega arith in self zs r.0 (subst (λ x. In x zs) e i)
    n' (inr l) i = let e : max y z ≡ y = omega arith in n (inr (subst (λ x. In x zs) e i))

-- ---- what was gathered

module _ (w : Entry → Bool) (f : ℕ → Entry) where
  -- one of the first n records passes, and y is its number
  abbrev Found : ℕ → ℕ → Type 0
  Found n y = (k : ℕ) × (k < n) × (w (f k) ≡ true) × ((f k).number ≡ y)

  found-more : (n y : ℕ) → Found n y → Found (suc n) y
  found-more n y (k, l, p, q) = (k, omega (arith, l), p, q)

  from_one : (n y : ℕ) (ys : List ℕ) → (In y ys → Found n y) → (w (f n) ≡ true) ⊎ (w (f n) ≡ false) → In y (cond (w (f n)) (inserted (f n).number ys) ys) → Found (suc n) y
  from_one n y ys ih (inl e) h =
      let i : In y (inserted (f n).number ys) = rw e at h in
      ⊎_elim (λ (q : y ≡ (f n).number). (n, omega arith, e, sym q)) (λ (j : In y ys). found-more n y (ih j)) (placed_in (f n).number ys y i)
  from_one n y ys ih (inr e) h = let i : In y ys = rw e at h in found-more n y (ih i)

  pub gathered-from : (n y : ℕ) → In y (gathered_to w f n) → Found n y
  unfolding gathered_to
  gathered-from zero y h = absurd h
  gathered-from (suc n) y h = from_one n y (gathered_to w f n) (gathered-from n y) (split (w (f n))) h

  keeps-one : (y m : ℕ) (ys : List ℕ) (t : Bool) → In y ys → In y (cond t (inserted m ys) ys)
  keeps-one y m ys true i = in_placed m ys y (inr i)
  keeps-one y m ys false i = i

  pub to-gathered : (n y k : ℕ) → k < n → w (f k) ≡ true → (f k).number ≡ y → In y (gathered_to w f n)
  unfolding gathered_to
  to-gathered zero y k l p q = absurd (omega (arith, l))
  to-gathered (suc n) y k l p q = go (eq_or_ne k n) (to-gathered n y k)
    where
      go : (k ≡ n) ⊎ (k ≡ n → ⊥) → (k < n → w (f k) ≡ true → (f k).number ≡ y → In y (gathered_to w f n)) → In y (cond (w (f n)) (inserted (f n).number (gathered_to w f n)) (gathered_to w f n))
      go (inl e) r =
          let t : w (f n) ≡ true = ap (λ m. w (f m)) (sym e) ∙ p in
          let m : (f n).number ≡ y = ap (λ m. (f m).number) (sym e) ∙ q in
          rw t (in_placed (f n).number (gathered_to w f n) y (inl (sym m)))
      go (inr d) r = keeps-one y (f n).number (gathered_to w f n) (w (f n)) (r (omega (arith, d, l)) p q)

  -- numbers that differ are gathered into a rising list
  pub gathered-rises : (n : ℕ) → ((k : ℕ) → k < n → w (f k) ≡ true → Found k (f k).number → ⊥) → Rising (gathered_to w f n)
  unfolding gathered_to
  gathered-rises zero d = tt
  gathered-rises (suc n) d = go (split (w (f n))) (gathered-rises n (λ k l. d k (omega (arith, l))))
    where
      go : (w (f n) ≡ true) ⊎ (w (f n) ≡ false) → Rising (gathered_to w f n) → Rising (cond (w (f n)) (inserted (f n).number (gathered_to w f n)) (gathered_to w f n))
      go (inl e) r = rw e (placed-rises (f n).number (gathered_to w f n) (λ i. d n (omega arith) e (gathered-from n (f n).number i)) r)
      go (inr e) r = rw e r

-- ---- a set is delivered by one of the records

delivered-more : (a b : Bool) → (a || b) ≡ true → (a ≡ true) ⊎ (b ≡ true)
delivered-more true b e = inl refl
delivered-more false b e = inr e

module _ (f : ℕ → Entry) where
  pub delivered-by : (n y : ℕ) → (register_after f n).delivered y ≡ true → (k : ℕ) × (k < n) × (delivers (f k) y ≡ true)
  unfolding register_after blank noted
  delivered-by zero y e = absurd (not-both refl (sym e))
  delivered-by (suc n) y e = go (delivered-more ((register_after f n).delivered y) (delivers (f n) y) e) (delivered-by n y)
    where
      go : ((register_after f n).delivered y ≡ true) ⊎ (delivers (f n) y ≡ true) → ((register_after f n).delivered y ≡ true → (k : ℕ) × (k < n) × (delivers (f k) y ≡ true)) → (k : ℕ) × (k < suc n) × (delivers (f k) y ≡ true)
      go (inl p) r = let (k, l, q) = r p in (k, omega (arith, l), q)
      go (inr p) r = (n, omega arith, p)

  pub delivered_of : (n y k : ℕ) → k < n → delivers (f k) y ≡ true → (register_after f n).delivered y ≡ true
  unfolding register_after noted
  delivered_of zero y k l q = absurd (omega (arith, l))
  delivered_of (suc n) y k l q = go (eq_or_ne k n) (delivered_of n y k)
    where
      go : (k ≡ n) ⊎ (k ≡ n → ⊥) → (k < n → delivers (f k) y ≡ true → (register_after f n).delivered y ≡ true) → ((register_after f n).delivered y || delivers (f n) y) ≡ true
      go (inl e) r = let t : delivers (f n) y ≡ true = ap (λ m. delivers (f m) y) (sym e) ∙ q in rw t (or_true ((register_after f n).delivered y))
      go (inr d) r = let t : (register_after f n).delivered y ≡ true = r (omega (arith, d, l)) q in rw t refl

-- ---- in a lawful roll

module _ (f : ℕ → Entry) (n : ℕ) (named : (k : ℕ) → k < n → (f k).number ≡ 0 → ⊥) (law : lawful_to f n ≡ true) (x : ℕ) where
  abbrev g : Register
  g = register_after f n

  abbrev w : Entry → Bool
  w = waits_at f n (carried f n x)

  end_is : (y : ℕ) → carried f n y ≡ chain_end n g y
  end_is = carried_is f n named law

  -- what the test says of a record
  pub record Waits (r : Entry) : Type 0 where
    pub kind : eqb r.kind 3 ≡ false
    pub linked : chain_end n g r.number ≡ chain_end n g x
    pub open_yet : g.retired r.number ≡ false

  waits_says : (r : Entry) → w r ≡ true → Waits r
  unfolding waits_at
  waits_says r e =
      let k = not (eqb r.kind 3) in
      let l = eqb (carried f n r.number) (carried f n x) in
      let o = not (g.retired r.number) in
      let t = and_snd k (l && o) e in
      record {
        kind = not-true (eqb r.kind 3) (and_fst k (l && o) e);
        linked = sym (end_is r.number) ∙ eqb-true (carried f n r.number) (carried f n x) (and_fst l o t) ∙ end_is x;
        open_yet = not-true (g.retired r.number) (and_snd l o t);
      }

  says_waits : (r : Entry) → Waits r → w r ≡ true
  unfolding waits_at
  says_waits r W =
      let e : carried f n r.number ≡ carried f n x = end_is r.number ∙ W.linked ∙ sym (end_is x) in
      rw (W.kind, W.open_yet, eq-eqb (carried f n r.number) (carried f n x) e) refl

  delivers-own : (r : Entry) (y : ℕ) → eqb r.kind 3 ≡ false → r.number ≡ y → delivers r y ≡ true
  delivers-own r y k e = rw (k, eq-eqb r.number y e) refl

  own-delivers : (r : Entry) (y : ℕ) → delivers r y ≡ true → (eqb r.kind 3 ≡ false) × (r.number ≡ y)
  own-delivers r y e =
      (not-true (eqb r.kind 3) (and_fst (not (eqb r.kind 3)) (eqb r.number y) e), eqb-true r.number y (and_snd (not (eqb r.kind 3)) (eqb r.number y) e))

  -- y was delivered, its chain ends where that of x does, and it has no retirement
  abbrev Member : ℕ → Type 0
  Member y = (g.delivered y ≡ true) × (chain_end n g y ≡ chain_end n g x) × (g.retired y ≡ false)

  gathered-member : (y : ℕ) → In y (gathered_to w f n) → Member y
  gathered-member y i =
      let (k, l, p, q) = gathered-from w f n y i in
      let W = waits_says (f k) p in
      (delivered_of f n y k l (delivers-own (f k) y W.kind q), ap (chain_end n g) (sym q) ∙ W.linked, ap g.retired (sym q) ∙ W.open_yet)

  member-gathered : (y : ℕ) → Member y → In y (gathered_to w f n)
  member-gathered y (d, l, o) =
      let (k, h, t) = delivered-by f n y d in
      let (c, q) = own-delivers (f k) y t in
      to-gathered w f n y k h (says_waits (f k) (record { kind = c; linked = ap (chain_end n g) q ∙ l; open_yet = ap g.retired q ∙ o })) q

  pub members : (y : ℕ) → In y (gathered_to w f n) ↔ Member y
  members y = (gathered-member y, member-gathered y)

  allowed-new : (h : Register) (r : Entry) → allowed h r ≡ true → eqb r.kind 3 ≡ false → h.delivered r.number ≡ false
  unfolding allowed
  allowed-new h r e k =
      let c = cond (eqb r.kind 2) (h.delivered r.earlier && eqb (h.replaced_by r.earlier) 0) true in
      not-true (h.delivered r.number) (and_fst (not (h.delivered r.number)) c (rw k at e))

  once : (k : ℕ) → k < n → w (f k) ≡ true → Found w f k (f k).number → ⊥
  unfolding lawful_to
  once k l e (j, h, p, q) =
      let d = delivered_of f k (f k).number j h (delivers-own (f j) (f k).number (waits_says (f j) p).kind q) in
      not-both d (allowed-new (register_after f k) (f k) (every-at n (λ i. allowed (register_after f i) (f i)) law k l) (waits_says (f k) e).kind)

  pub rises : Rising (gathered_to w f n)
  rises = gathered-rises w f n once
