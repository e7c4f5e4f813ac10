-- The law of sequences for the true transposes at second, third and fourth order: document 01's "Lists of transposes" without the half-shift condition.
-- One proof for every rank and whatever legs the calls name; then the three calls, each over a plain table of its own. Assumes nothing.
use Rattle.std.specs.Prelude.{Ok, ◌≡◌, refl, ◌⊎◌, true, false, cond, ℕ, zero, suc, ◌<◌, List, [], ◌∷◌, ℤ, pos, negsuc, eqb, get_or, Float}
use Rattle.std.proofs.Common.{sym, ap, ◌∙◌, inl, inr, lit<, eqb-true}
use Rattle.std.proofs.Math.ListN.{length}
use Rattle.std.specs.Float.Ieee.{nan}
use Rattle.lists.specs.Tests.{split}
use Rattle.lists.specs.Tab.{tab, tab_from}
use Rattle.lists.specs.Elements.{pick, straight, pick-straight}
use Rattle.tables.specs.Answers.{Answer}
use Rattle.tables.specs.Answers.{is_refusal, after}
use Rattle.tables.specs.Shifts.{Shifts, Laws}
use Rattle.tables.specs.Limits.{limit2, limit3, limit4}
use Rattle.tables.specs.Compact.{ShiftTables, shifts_of, judged_compact}
use Rattle.tables.proofs.CompactLaws.{done_compact}
use Rattle.places.specs.Places.{Leg, Legs, read_out, size}
use Rattle.places.specs.Permutations.{permute_legs}
use Rattle.places.specs.Moves.{moved, length_moved}
use Rattle.places.proofs.MovesLaws.{read_out-moved}
use Rattle.orbits.specs.Exchanging.{partner, exchanging, exchanging_permutes, exchanging-same}
use Rattle.orbits.specs.TrueTransposes.{swapped, true_transpose, legs3, legs4, true_transpose_compact_fc2, true_transpose_compact_fc3, true_transpose_compact_fc4}
use Rattle.laws.specs.CallLists.{Kind}
use Rattle.laws.specs.Transposes.{Call, Plain, exchange}

-- ---- any rank: a call names two legs

module _ (m : ℕ) where
  -- a set with two legs exchanged, equal legs too
  pub length-swapped : (S : Shifts) (l : ℕ × ℕ) (set : List Float) → length set ≡ size S m → length (swapped S m l set) ≡ size S m
  unfolding swapped
  length-swapped S l set e = go (split (eqb l.0 l.1))
    where
      go : (eqb l.0 l.1 ≡ true) ⊎ (eqb l.0 l.1 ≡ false) → length (cond (eqb l.0 l.1) set (moved nan S m (exchanging m l.0 l.1) set)) ≡ size S m
      go (inl q) = rw q e
      go (inr q) = rw q (length_moved nan S m (exchanging m l.0 l.1) set)

  pub read_swapped : (S : Shifts) → Laws S → (l : ℕ × ℕ) → l.0 < suc m → l.1 < suc m → (set : List Float) (xs : List Leg) → Legs S m xs
      → read_out nan S (swapped S m l set) xs ≡ read_out nan S set (permute_legs (exchanging m l.0 l.1) xs)
  unfolding swapped
  read_swapped S L l hu hv set xs p = go (split (eqb l.0 l.1))
    where
      go : (eqb l.0 l.1 ≡ true) ⊎ (eqb l.0 l.1 ≡ false)
          → read_out nan S (cond (eqb l.0 l.1) set (moved nan S m (exchanging m l.0 l.1) set)) xs ≡ read_out nan S set (permute_legs (exchanging m l.0 l.1) xs)
      go (inl q) = rw q (ap (read_out nan S set) (sym (ap (λ o. permute_legs o xs) (exchanging-same m l.0 l.1 (eqb-true l.0 l.1 q)) ∙ pick-straight (0, 0) (suc m) xs p.0)))
      go (inr q) = rw q (read_out-moved S L nan m (exchanging m l.0 l.1) set xs (exchanging_permutes m l.0 l.1 hu hv) p)

module _ {C P : Type 0} (m : ℕ) (tables : C → ShiftTables) (judge : ℕ → C → Answer) (legs : C → ℕ × ℕ)
    (fillBy : (List Leg → Float) → P) (feedBy : C → P → P) (askBy : P → List Leg → Float) where
  -- calls that exchange two legs of every number, or are refused
  abbrev pub true_kind : Kind C P
  true_kind = record {
    rank = m;
    tables = tables;
    refused = λ n c. is_refusal (judge n c);
    permutation = λ c. exchanging m (legs c).0 (legs c).1;
    left_by = λ c set. after (judge (length set) c) (swapped (shifts_of (tables c)) m (legs c) set) set;
    plain = fillBy;
    exchange = feedBy;
    ask = askBy;
  }

  -- a call that is done brings tables that keep the rules, and names legs that there are
  abbrev pub Sound : C → Type 0
  Sound c = Laws (shifts_of (tables c)) × ((legs c).0 < suc m) × ((legs c).1 < suc m)

-- tables that pass the guard of a compact call keep the rules
pub keeps_rules_lem : (limit m n w : ℕ) (T : ShiftTables) → judged_compact limit m n 1 w T ≡ Ok tt → Laws (shifts_of T)
keeps_rules_lem limit m n w T e = (done_compact limit m n 1 w T e).rules

-- ---- second order: calls without a type, a table of two pairs

pub record Call2 : Type 0 where
  pub tables : ShiftTables
  pub work : List ℕ

abbrev pub Plain2 : Type 0
Plain2 = Leg → Leg → Float

-- the numbers at (x, y) and (y, x) are exchanged
abbrev pub exchange2 : Call2 → Plain2 → Plain2
exchange2 c t x y = t y x

abbrev pub ask2 : Plain2 → List Leg → Float
ask2 t xs = t (get_or xs 0 (0, 0)) (get_or xs 1 (0, 0))

abbrev pub second : Kind Call2 Plain2
second = true_kind 1 (λ (c : Call2). c.tables) (λ n (c : Call2). judged_compact limit2 1 n 1 (length c.work) c.tables) (λ (c : Call2). (0, 1)) (λ f x y. f (x ∷ y ∷ [])) exchange2 ask2

-- what its calls leave, and whether they are refused, is what the definition of the call says
pub second_is : (c : Call2) (set : List Float) → second.left_by c set ≡ (true_transpose_compact_fc2 set c.tables c.work).1
unfolding true_transpose_compact_fc2 true_transpose
second_is c set = refl

pub second_refuses : (c : Call2) (set : List Float) → second.refused (length set) c ≡ is_refusal (true_transpose_compact_fc2 set c.tables c.work).0
unfolding true_transpose_compact_fc2 true_transpose
second_refuses c set = refl

pub fills2 : (f : List Leg → Float) (xs : List Leg) → length xs ≡ 2 → ask2 (λ x y. f (x ∷ y ∷ [])) xs ≡ f xs
unfolding pick straight tab tab_from
fills2 f xs l = ap f (pick-straight (0, 0) 2 xs l)

pub asks2 : (c : Call2) (t : Plain2) (xs : List Leg) → ask2 (exchange2 c t) xs ≡ ask2 t (permute_legs (exchanging 1 0 1) xs)
unfolding exchanging partner pick tab tab_from
asks2 c t xs = refl

-- ---- third order: the types and the table of the calls that are the Rust's

abbrev pub ask3 : Plain → List Leg → Float
ask3 t xs = t (get_or xs 0 (0, 0)) (get_or xs 1 (0, 0)) (get_or xs 2 (0, 0))

abbrev pub third : Kind Call Plain
third = true_kind 2 (λ (c : Call). c.tables) (λ n (c : Call). judged_compact limit3 2 n 1 (length c.work) c.tables) (λ (c : Call). legs3 c.type) (λ f x y w. f (x ∷ y ∷ w ∷ [])) (λ (c : Call). exchange c.type) ask3

pub third_is : (c : Call) (set : List Float) → third.left_by c set ≡ (true_transpose_compact_fc3 set c.tables c.work c.type).1
unfolding true_transpose_compact_fc3 true_transpose
third_is c set = refl

pub third_refuses : (c : Call) (set : List Float) → third.refused (length set) c ≡ is_refusal (true_transpose_compact_fc3 set c.tables c.work c.type).0
unfolding true_transpose_compact_fc3 true_transpose
third_refuses c set = refl

pub fills3 : (f : List Leg → Float) (xs : List Leg) → length xs ≡ 3 → ask3 (λ x y w. f (x ∷ y ∷ w ∷ [])) xs ≡ f xs
unfolding pick straight tab tab_from
fills3 f xs l = ap f (pick-straight (0, 0) 3 xs l)

pub inside3 : (z : ℤ) → ((legs3 z).0 < 3) × ((legs3 z).1 < 3)
unfolding legs3
inside3 (pos zero) = (lit< tt, lit< tt)
inside3 (pos (suc zero)) = (lit< tt, lit< tt)
inside3 (pos (suc (suc zero))) = (lit< tt, lit< tt)
inside3 (pos (suc (suc (suc t)))) = (lit< tt, lit< tt)
inside3 (negsuc t) = (lit< tt, lit< tt)

pub asks3 : (z : ℤ) (t : Plain) (xs : List Leg) → ask3 (exchange z t) xs ≡ ask3 t (permute_legs (exchanging 2 (legs3 z).0 (legs3 z).1) xs)
unfolding exchange legs3 exchanging partner pick tab tab_from
asks3 (pos zero) t xs = refl
asks3 (pos (suc zero)) t xs = refl
asks3 (pos (suc (suc zero))) t xs = refl
asks3 (pos (suc (suc (suc k)))) t xs = refl
asks3 (negsuc k) t xs = refl

-- ---- fourth order: type 0 alone, a table of four pairs

abbrev pub Plain4 : Type 0
Plain4 = Leg → Leg → Leg → Leg → Float

-- type 0 exchanges what is at (x, y, z, w) with what is at (y, x, z, w)
unfoldable pub exchange4 : ℤ → Plain4 → Plain4
exchange4 (pos zero) t x y z w = t y x z w
exchange4 (pos (suc k)) t x y z w = t x y z w
exchange4 (negsuc k) t x y z w = t x y z w

abbrev pub ask4 : Plain4 → List Leg → Float
ask4 t xs = t (get_or xs 0 (0, 0)) (get_or xs 1 (0, 0)) (get_or xs 2 (0, 0)) (get_or xs 3 (0, 0))

abbrev pub fourth : Kind Call Plain4
fourth = true_kind 3 (λ (c : Call). c.tables) (λ n (c : Call). judged_compact limit4 3 n 1 (length c.work) c.tables) (λ (c : Call). legs4 c.type) (λ f x y z w. f (x ∷ y ∷ z ∷ w ∷ [])) (λ (c : Call). exchange4 c.type) ask4

pub fourth_is : (c : Call) (set : List Float) → fourth.left_by c set ≡ (true_transpose_compact_fc4 set c.tables c.work c.type).1
unfolding true_transpose_compact_fc4 true_transpose
fourth_is c set = refl

pub fourth_refuses : (c : Call) (set : List Float) → fourth.refused (length set) c ≡ is_refusal (true_transpose_compact_fc4 set c.tables c.work c.type).0
unfolding true_transpose_compact_fc4 true_transpose
fourth_refuses c set = refl

pub fills4 : (f : List Leg → Float) (xs : List Leg) → length xs ≡ 4 → ask4 (λ x y z w. f (x ∷ y ∷ z ∷ w ∷ [])) xs ≡ f xs
unfolding pick straight tab tab_from
fills4 f xs l = ap f (pick-straight (0, 0) 4 xs l)

pub inside4 : (z : ℤ) → ((legs4 z).0 < 4) × ((legs4 z).1 < 4)
unfolding legs4
inside4 (pos zero) = (lit< tt, lit< tt)
inside4 (pos (suc t)) = (lit< tt, lit< tt)
inside4 (negsuc t) = (lit< tt, lit< tt)

pub asks4 : (z : ℤ) (t : Plain4) (xs : List Leg) → ask4 (exchange4 z t) xs ≡ ask4 t (permute_legs (exchanging 3 (legs4 z).0 (legs4 z).1) xs)
unfolding exchange4 legs4 exchanging partner pick tab tab_from
asks4 (pos zero) t xs = refl
asks4 (pos (suc k)) t xs = refl
asks4 (negsuc k) t xs = refl
