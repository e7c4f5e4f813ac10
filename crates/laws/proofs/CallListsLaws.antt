-- The proof of the law of sequences that specs/CallLists.antt words. Assumes nothing.
use Rattle.std.specs.Prelude.{◌≡◌, ◌⊎◌, true, false, cond, ℕ, suc, length, Float}
use Rattle.std.proofs.Math.Path.{refl, sym, ap}
use Rattle.std.proofs.Common.{◌∙◌}
use Rattle.std.proofs.Math.Logic.{inl, inr}
use mathlib.Core.List.{List, [], ◌∷◌}
use Rattle.std.specs.Float.Ieee.{nan}
use Rattle.lists.specs.Tests.{split}
use Rattle.lists.specs.Elements.{pick-pick, straight, pick-straight}
use Rattle.tables.specs.Shifts.{Shifts, Laws}
use Rattle.tables.specs.Compact.{ShiftTables, shifts_of}
use Rattle.places.specs.Places.{Leg, Legs, read_out, size}
use Rattle.places.specs.Permutations.{permute_legs, Permutation, taken_legs}
use Rattle.orbits.specs.Exchanging.{straight_permutes}
use Rattle.laws.specs.Sequences.{Step, leaves, Steps, Onto, stands}
use Rattle.laws.proofs.SequencesLaws.{one_set}
use Rattle.laws.specs.CallLists.{Kind, feed, fed, permutation_by, spelled, left, Brings, Own, own-tables, Law, Exchanges}

-- ---- the proof

module _ {C Plain : Type 0} (K : Kind C Plain) (T : ShiftTables) (E : Exchanges K T) where
  abbrev S : Shifts
  S = shifts_of T

  abbrev m : ℕ
  m = K.rank

  abbrev N : ℕ
  N = size S m

  abbrev plainly : List ℕ
  plainly = straight (suc m)

  plainly_permutes : Permutation m plainly
  plainly_permutes = straight_permutes m

  step-refused : (c : C) → K.refused N c ≡ true → Step nan S m plainly (K.left_by c)
  step-refused c e = record {
    is_permutation = plainly_permutes;
    twice = λ xs p. ap (permute_legs plainly) (pick-straight (0, 0) (suc m) xs p.0) ∙ pick-straight (0, 0) (suc m) xs p.0;
    keeps = λ set l. rw (E.left-refused c set (rw l e)) l;
    reads = λ set xs l p. rw (E.left-refused c set (rw l e), pick-straight (0, 0) (suc m) xs p.0);
  }

  step-accepted : (c : C) → K.refused N c ≡ false → K.tables c ≡ T → Step nan S m (K.permutation c) (K.left_by c)
  step-accepted c e q =
      let o = E.is_permutation N c e in
      record {
        is_permutation = o;
        twice = λ xs p. pick-pick (0, 0) (K.permutation c) (K.permutation c) xs (rw o.0 o.1) ∙ ap (λ o. permute_legs o xs) (E.undone N c e) ∙ pick-straight (0, 0) (suc m) xs p.0;
        keeps = λ set l. E.keeps c set (rw l e) q l;
        reads = λ set xs l p. E.reads c set xs (rw l e) q l p;
      }

  step : (c : C) → Brings K T N c → Step nan S m (permutation_by K N c) (K.left_by c)
  unfolding permutation_by
  step c own = go (split (K.refused N c))
    where
      go : (K.refused N c ≡ true) ⊎ (K.refused N c ≡ false) → Step nan S m (permutation_by K N c) (K.left_by c)
      go (inl e) = rw e (step-refused c e)
      go (inr e) = rw e (step-accepted c e (own-tables K T N c own e))

  steps : (cs : List C) → Own K T N cs → Steps nan S m (permutation_by K N) K.left_by cs
  steps [] o = tt
  steps (c ∷ cs) o = (step c o.0, steps cs o.1)

  -- a set and a table that hold the same numbers
  Same : List Float → Plain → Type 0
  Same set t = (xs : List Leg) → Legs S m xs → read_out nan S set xs ≡ K.ask t xs

  feed-same : (c : C) (set : List Float) (t : Plain) → Brings K T N c → length set ≡ N → Same set t → Same (K.left_by c set) (feed K N c t)
  unfolding Same feed
  feed-same c set t own l h xs p = go (split (K.refused N c))
    where
      go : (K.refused N c ≡ true) ⊎ (K.refused N c ≡ false) → read_out nan S (K.left_by c set) xs ≡ K.ask (feed K N c t) xs
      go (inl e) = rw (e, E.left-refused c set (rw l e)) (h xs p)
      go (inr e) =
          E.reads c set xs (rw l e) (own-tables K T N c own e) l p ∙ h (permute_legs (K.permutation c) xs) (taken_legs S m (K.permutation c) xs (E.is_permutation N c e) p)
          ∙ sym (E.asks N c e t xs p.0) ∙ ap (λ b. K.ask (cond b t (K.exchange c t)) xs) (sym e)

  fed-same : (cs : List C) (set : List Float) (t : Plain) → Own K T N cs → length set ≡ N → Same set t → Same (leaves K.left_by cs set) (fed K N cs t)
  unfolding leaves fed
  fed-same [] set t o l h = h
  fed-same (c ∷ cs) set t o l h = fed-same cs (K.left_by c set) (feed K N c t) o.1 ((step c o.0).keeps set l) (feed-same c set t o.0 l h)

  -- either one call is not refused, so the tables keep the rules, or every call leaves the set
  working : (cs : List C) (set : List Float) → Own K T N cs → length set ≡ N → Laws S ⊎ (leaves K.left_by cs set ≡ set)
  unfolding leaves
  working [] set o l = inr refl
  working (c ∷ cs) set o l = go (split (K.refused N c)) (working cs set o.1 l)
    where
      go : (K.refused N c ≡ true) ⊎ (K.refused N c ≡ false) → Laws S ⊎ (leaves K.left_by cs set ≡ set) → Laws S ⊎ (leaves K.left_by cs (K.left_by c set) ≡ set)
      go (inr e) r = inl (rw (own-tables K T N c o.0 e) at (E.accepted N c e))
      go (inl e) (inl L) = inl L
      go (inl e) (inr f) = inr (ap (leaves K.left_by cs) (E.left-refused c set (rw l e)) ∙ f)

  plainly-onto : Onto nan S m (permutation_by K N) K.left_by plainly
  plainly-onto = record { is_permutation = plainly_permutes; onto = λ ys p. (ys, p, pick-straight (0, 0) (suc m) ys p.0) }

  module _ (set : List Float) (l : length set ≡ N) where
    at-start : (xs : List Leg) → Legs S m xs → read_out nan S set (permute_legs plainly xs) ≡ read_out nan S set xs
    at-start xs p = ap (read_out nan S set) (pick-straight (0, 0) (suc m) xs p.0)

    one : (cs ds : List C) → Own K T N cs → Own K T N ds → spelled K N cs ≡ spelled K N ds
        → Laws S ⊎ (leaves K.left_by cs set ≡ set) → Laws S ⊎ (leaves K.left_by ds set ≡ set) → leaves K.left_by cs set ≡ leaves K.left_by ds set
    unfolding spelled
    one cs ds o q e (inl L) r = one_set nan S m (permutation_by K N) K.left_by L cs ds plainly set (steps cs o) (steps ds q) plainly-onto l at-start e
    one cs ds o q e (inr f) (inl L) = one_set nan S m (permutation_by K N) K.left_by L cs ds plainly set (steps cs o) (steps ds q) plainly-onto l at-start e
    one cs ds o q e (inr f) (inr g) = f ∙ sym g

  -- THE LAW OF SEQUENCES: for any compact set of the stated length
  pub sequences : (set : List Float) (cs : List C) → length set ≡ N → Own K T (length set) cs → Law K T set cs
  unfolding left spelled Same
  sequences set cs l o =
      let o' : Own K T N cs = rw l at o in
      record {
        table = rw l (fed-same cs set (K.plain (read_out nan S set)) o' l (λ xs p. sym (E.fills (read_out nan S set) xs p.0)));
        stands_at_lem = rw l (stands nan S m (permutation_by K N) K.left_by cs plainly set set (steps cs o') plainly-onto l (at-start set l));
        same_bits = λ ds own e.
            let own' : Own K T N ds = rw l at own in
            one set l cs ds o' own' (rw l at e) (working cs set o' l) (working ds set own' l);
      }
