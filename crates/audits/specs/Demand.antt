-- ALIKE IS DEMAND 3'S STATEMENT: a set is alike exactly where all permutations of any legs read out the same number, for every rank at once.
-- A set is a list of doubles: `Doubles`. Assumes nothing.
use Rattle.audits.specs.declared.Difference.{Difference}
use Rattle.tables.specs.declared.Refusal.{Refusal}
use Rattle.std.specs.Prelude.{Err, None, Ok, Option, Result, Some, ◌≡◌, refl, true, not, T, eqb, length}
use Rattle.std.proofs.Math.Path.{sym, ap}
use Rattle.std.proofs.Common.{◌∙◌, inl, inr, not-suc-le-zero, le_of_suc-le-suc, arith}
use Rattle.std.proofs.Math.Bool.{Bool, false, cond, false≢true}
use mathlib.Core.List.{List, [], ◌∷◌}
use Prim.Native.Nat.{ℕ, zero, suc, ◌<◌}
use Rattle.std.proofs.Math.Dec.{ltb}
use Rattle.std.proofs.Math.ListN.{get_or}
use lib.Ieee.{Float, nan, binary64, fits, to_bits}
use Rattle.std.specs.Float.Ieee.Bits.{of_bits-to_bits}
use borrow.Author.Tests.{eqb-true, eq-eqb, not-false, le-ltb, ltb-false}
use Rattle.lists.specs.Tests.{some, some_at, some_of, refuted, not-both}
use Rattle.lists.specs.Members.{In}
use Rattle.tables.specs.Shifts.{Shifts, Laws}
use Rattle.places.specs.Places.{Leg, Legs, stored, legs_at, address, place, at, read_out, size, stored-place, stored_opened, place-place, address-place, place-address}
use Rattle.places.specs.Permutations.{permute_legs, Group}
use Rattle.places.specs.Moves.{source, source-stored}
use Rattle.lists.specs.Lowest.{lowest, lowest_is, is_lowest}
use Rattle.audits.specs.Audit.{differ, reads, reads_another, unlike, first_place, audited, difference_at}

-- ---- numbers with the same bits

-- a set of doubles, as every slice is
abbrev pub Doubles : List Float → Type 0
Doubles set = (q : ℕ) → T (fits binary64 (get_or set q nan))

pub same_words : (x y : Float) → differ x y ≡ false → to_bits binary64 x ≡ to_bits binary64 y
unfolding differ
same_words x y e = eqb-true (to_bits binary64 x) (to_bits binary64 y) (not-false (eqb (to_bits binary64 x) (to_bits binary64 y)) e)

pub words_same : (x y : Float) → to_bits binary64 x ≡ to_bits binary64 y → differ x y ≡ false
unfolding differ
words_same x y e = ap not (eq-eqb (to_bits binary64 x) (to_bits binary64 y) e)

pub same-doubles : (x y : Float) → T (fits binary64 x) → T (fits binary64 y) → to_bits binary64 x ≡ to_bits binary64 y → x ≡ y
same-doubles x y p q e = sym (of_bits-to_bits binary64 x p) ∙ ap (lib.Ieee.of_bits binary64) e ∙ of_bits-to_bits binary64 y q

-- ---- members by their numbers

pub in_index : {A : Type 0} (d : A) (l : List A) (a : A) → In a l → (i : ℕ) × (i < length l) × (get_or l i d ≡ a)
in_index d [] a h = absurd h
in_index d (x ∷ xs) a (inl e) = (0, omega arith, sym e)
in_index d (x ∷ xs) a (inr h) = let (i, l, e) = in_index d xs a h in (suc i, omega arith, e)

pub index_in : {A : Type 0} (d : A) (l : List A) (i : ℕ) → i < length l → In (get_or l i d) l
index_in d [] i h = absurd (not-suc-le-zero h)
index_in d (x ∷ xs) zero h = inl refl
index_in d (x ∷ xs) (suc i) h = inr (index_in d xs i (le_of_suc-le-suc h))

-- ---- a place at which no permutation reads another number

module _ (S : Shifts) (m : ℕ) (os : List (List ℕ)) (set : List Float) (q : ℕ) where
  pub alike_at : unlike S m os set q ≡ false → (σ : List ℕ) → In σ os → to_bits binary64 (get_or set q nan) ≡ to_bits binary64 (reads S m os set q σ)
  unfolding unlike reads_another
  alike_at u σ s =
      let (i, h, e) = in_index [] os σ s in
      let f : ℕ → Bool = λ i. differ (get_or set q nan) (reads S m os set q (get_or os i [])) in
      let d : f i ≡ false = refuted (f i) (λ t. not-both (some_of (length os) f i h t) u) in
      same_words (get_or set q nan) (reads S m os set q (get_or os i [])) d ∙ ap (λ σ. to_bits binary64 (reads S m os set q σ)) e

  pub at-alike : ((σ : List ℕ) → In σ os → to_bits binary64 (get_or set q nan) ≡ to_bits binary64 (reads S m os set q σ)) → unlike S m os set q ≡ false
  unfolding unlike reads_another
  at-alike h =
      let f : ℕ → Bool = λ i. differ (get_or set q nan) (reads S m os set q (get_or os i [])) in
      refuted (some (length os) f) (λ t.
      let (i, l, p) = some_at (length os) f t in
      not-both p (words_same (get_or set q nan) (reads S m os set q (get_or os i [])) (h (get_or os i []) (index_in [] os i l))))

-- ---- the verdict

abbrev is_alike : Result (Option Difference) Refusal → Bool
is_alike (Ok None) = true
is_alike (Ok (Some d)) = false
is_alike (Err r) = false

module _ (S : Shifts) (m : ℕ) (os : List (List ℕ)) (set : List Float) where
  pub none_alike : ((q : ℕ) → q < size S m → unlike S m os set q ≡ false) → audited S m os set ≡ Ok None
  unfolding audited first_place
  none_alike h =
      let f = unlike S m os set in
      let e : size S m ≡ lowest (size S m) f = is_lowest (size S m) f (size S m) (record { within = omega arith; passes = λ l. absurd (omega arith); before = h }) in
      let l : ltb (lowest (size S m) f) (size S m) ≡ false = le-ltb (lowest (size S m) f) (size S m) (omega (arith, e)) in
      ap (λ b. cond b (Ok (Some (difference_at S m os set (lowest (size S m) f)))) (Ok None)) l

  pub alike-none : audited S m os set ≡ Ok None → (q : ℕ) → q < size S m → unlike S m os set q ≡ false
  unfolding audited first_place
  alike-none e q h =
      let f = unlike S m os set in
      let p = lowest_is (size S m) f in
      let l : ltb (lowest (size S m) f) (size S m) ≡ false = refuted (ltb (lowest (size S m) f) (size S m)) (λ t.
      false≢true (sym (ap is_alike (ap (λ b. cond b (Ok (Some (difference_at S m os set (lowest (size S m) f)))) (Ok None)) t)) ∙ ap is_alike e)) in
      let w = ltb-false (lowest (size S m) f) (size S m) l in
      p.before q (omega arith)

-- ---- the theorem

-- all permutations of any legs read out the same number: what `laws` specs/Symmetrized says of a symmetrized set
abbrev pub SameReadOuts : Shifts → ℕ → List (List ℕ) → List Float → Type 0
SameReadOuts S m os set = (σ : List ℕ) (xs : List Leg) → In σ os → Legs S m xs → read_out nan S set (permute_legs σ xs) ≡ read_out nan S set xs

module _ (S : Shifts) (L : Laws S) (m : ℕ) (os : List (List ℕ)) (G : Group m os) (set : List Float) where
  -- the legs at a place read out the number that stands there
  pub own-number : (q : ℕ) → q < size S m → read_out nan S set (legs_at S (place S m q)) ≡ get_or set q nan
  unfolding read_out at
  own-number q h =
      ap (λ r. get_or set r nan) (ap (address S) (stored_opened S L m (place S m q) (place-place S m q h)) ∙ address-place S m q h)

  -- the number for the legs stands at one place, and the permutations of the legs there read what those of the legs read
  pub reads_legs : (σ : List ℕ) (xs : List Leg) → In σ os → Legs S m xs → reads S m os set (address S (stored S xs)) σ ≡ read_out nan S set (permute_legs σ xs)
  unfolding reads read_out at source
  reads_legs σ xs s p =
      ap (λ r. get_or set (address S r) nan)
      (ap (λ ys. stored S (permute_legs σ (legs_at S ys))) (place-address S m (stored S xs) (stored-place S L m xs p)) ∙ source-stored S L m σ xs (G.each σ s) p)
