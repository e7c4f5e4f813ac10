-- The law of sequences for the true transposes at second, third and fourth order, of specs/TrueLists.antt's kinds of calls. Assumes nothing.
use Rattle.std.specs.Prelude.{Ok, ◌≡◌, true, false, ℕ, suc, List, [], ◌∷◌, Float}
use Rattle.std.proofs.Common.{ap, ◌∙◌, lit<}
use Rattle.std.proofs.Math.ListN.{length}
use Rattle.std.specs.Float.Ieee.{nan}
use Rattle.tables.specs.Answers.{Answer}
use Rattle.tables.specs.Answers.{is_refusal, after, is_done, after_refusal, after-done}
use Rattle.tables.specs.Limits.{limit2, limit3, limit4}
use Rattle.tables.specs.Compact.{ShiftTables, shifts_of, judged_compact}
use Rattle.places.specs.Places.{Leg, read_out, size}
use Rattle.places.specs.Permutations.{permute_legs}
use Rattle.orbits.specs.Exchanging.{exchanging, exchanging_permutes, exchanging-undone}
use Rattle.orbits.specs.TrueTransposes.{swapped, legs3, legs4}
use Rattle.laws.specs.CallLists.{Own, Law, Exchanges}
use Rattle.laws.proofs.CallListsLaws.{sequences}
use Rattle.laws.specs.Transposes.{Call, exchange}
use Rattle.laws.specs.TrueLists.{length-swapped, read_swapped, true_kind, Sound, keeps_rules_lem, Call2, exchange2, ask2, second, fills2, asks2, ask3, third, fills3, inside3, asks3, exchange4, ask4, fourth, fills4, inside4, asks4}

module _ {C P : Type 0} (m : ℕ) (tables : C → ShiftTables) (judge : ℕ → C → Answer) (legs : C → ℕ × ℕ)
    (fillBy : (List Leg → Float) → P) (feedBy : C → P → P) (askBy : P → List Leg → Float) where
  module _ (sound : (n : ℕ) (c : C) → judge n c ≡ Ok tt → Sound m tables judge legs fillBy feedBy askBy c)
      (fills : (f : List Leg → Float) (xs : List Leg) → length xs ≡ suc m → askBy (fillBy f) xs ≡ f xs)
      (asks : (c : C) (t : P) (xs : List Leg) → length xs ≡ suc m → askBy (feedBy c t) xs ≡ askBy t (permute_legs (exchanging m (legs c).0 (legs c).1) xs))
      (T : ShiftTables) where
    accepted : (n : ℕ) (c : C) → is_refusal (judge n c) ≡ false → Sound m tables judge legs fillBy feedBy askBy c
    accepted n c e = sound n c (is_done (judge n c) e)

    left-accepted : (c : C) (set : List Float) → is_refusal (judge (length set) c) ≡ false → tables c ≡ T
        → after (judge (length set) c) (swapped (shifts_of (tables c)) m (legs c) set) set ≡ swapped (shifts_of T) m (legs c) set
    left-accepted c set e q = after-done (judge (length set) c) _ set e ∙ ap (λ T. swapped (shifts_of T) m (legs c) set) q

    left-refused : (c : C) (set : List Float) → is_refusal (judge (length set) c) ≡ true → after (judge (length set) c) (swapped (shifts_of (tables c)) m (legs c) set) set ≡ set
    left-refused c set e = after_refusal (judge (length set) c) _ set e

    true_exchanges : Exchanges (true_kind m tables judge legs fillBy feedBy askBy) T
    true_exchanges = record {
      is_permutation = λ n c e. let a = accepted n c e in exchanging_permutes m (legs c).0 (legs c).1 a.1 a.2;
      undone = λ n c e. let a = accepted n c e in exchanging-undone m (legs c).0 (legs c).1 a.1 a.2;
      fills = fills;
      asks = λ n c e. asks c;
      left-refused = left-refused;
      accepted = λ n c e. (accepted n c e).0;
      keeps = λ c set e q l. ap length (left-accepted c set e q) ∙ length-swapped m (shifts_of T) (legs c) set l;
      reads = λ c set xs e q l p.
          let a = accepted (length set) c e in
          ap (λ s. read_out nan (shifts_of T) s xs) (left-accepted c set e q) ∙ read_swapped m (shifts_of T) (rw q at a.0) (legs c) a.1 a.2 set xs p;
    }

    -- for any compact set of the stated length, half shifts or not
    pub true_law : (set : List Float) (cs : List C) → length set ≡ size (shifts_of T) m → Own (true_kind m tables judge legs fillBy feedBy askBy) T (length set) cs → Law (true_kind m tables judge legs fillBy feedBy askBy) T set cs
    true_law = sequences (true_kind m tables judge legs fillBy feedBy askBy) T true_exchanges

pub law2 : (T : ShiftTables) (set : List Float) (cs : List Call2) → length set ≡ size (shifts_of T) 1 → Own second T (length set) cs → Law second T set cs
law2 T =
    true_law 1 (λ (c : Call2). c.tables) (λ n (c : Call2). judged_compact limit2 1 n 1 (length c.work) c.tables) (λ (c : Call2). (0, 1)) (λ f x y. f (x ∷ y ∷ [])) exchange2 ask2
    (λ n c e. (keeps_rules_lem limit2 1 n (length c.work) c.tables e, lit< tt, lit< tt)) fills2 (λ c t xs l. asks2 c t xs) T

pub law3 : (T : ShiftTables) (set : List Float) (cs : List Call) → length set ≡ size (shifts_of T) 2 → Own third T (length set) cs → Law third T set cs
law3 T =
    true_law 2 (λ (c : Call). c.tables) (λ n (c : Call). judged_compact limit3 2 n 1 (length c.work) c.tables) (λ (c : Call). legs3 c.type) (λ f x y w. f (x ∷ y ∷ w ∷ [])) (λ (c : Call). exchange c.type) ask3
    (λ n c e. (keeps_rules_lem limit3 2 n (length c.work) c.tables e, (inside3 c.type).0, (inside3 c.type).1)) fills3 (λ c t xs l. asks3 c.type t xs) T

pub law4 : (T : ShiftTables) (set : List Float) (cs : List Call) → length set ≡ size (shifts_of T) 3 → Own fourth T (length set) cs → Law fourth T set cs
law4 T =
    true_law 3 (λ (c : Call). c.tables) (λ n (c : Call). judged_compact limit4 3 n 1 (length c.work) c.tables) (λ (c : Call). legs4 c.type) (λ f x y z w. f (x ∷ y ∷ z ∷ w ∷ [])) (λ (c : Call). exchange4 c.type) ask4
    (λ n c e. (keeps_rules_lem limit4 3 n (length c.work) c.tables e, (inside4 c.type).0, (inside4 c.type).1)) fills4 (λ c t xs l. asks4 c.type t xs) T
