-- What a match that fails says of distances that are no number (document 02, A.3): the pair it names was tried, is no number, and no pair tried before it is; if it
-- names none, no pair that was tried is. Assumes nothing.
use Rattle.std.specs.Prelude.{Result, Err, Ok, ◌≡◌, false, cond, not, ◌⊎◌, List, ltb, ℤ, length, Float}
use Rattle.std.proofs.Math.Path.{refl, ap}
use Rattle.std.proofs.Common.{sym, ◌∙◌, subst, inl, inr, arith}
use Rattle.std.proofs.Math.Bool.{Bool, true}
use Rattle.std.proofs.lemmas.Bool.{false≢true}
use Prim.Native.Nat.{ℕ, ◌≤◌, ◌<◌}
use borrow.Author.Tests.{not-true, lt-ltb, ltb-true, ltb-false}
use Rattle.lists.specs.Cases.{lt_or_le}
use Rattle.lists.specs.Tests.{and_fst, and_snd, not-both}
use Rattle.tables.specs.declared.Refusal.{Refusal}
use Rattle.distances.specs.declared.Cell.{Cell}
use Rattle.distances.specs.declared.Distance.{Distance}
use Rattle.distances.specs.declared.Distance.TheVariants.{Near, Far, NoNumber as NoDistance}
use Rattle.distances.specs.Near.{is_none, near_by, near, distance}
use Rattle.matching.specs.declared.cells.Pair.{Pair}
use Rattle.matching.specs.declared.cells.Matching.{Matching}
use Rattle.matching.specs.declared.cells.Matching.TheVariants.{Matched, NotMatched, NoNumber}
use Rattle.matching.specs.Matching.{is_filled, takes, placed_to, matched_up_to, all_filled, slot_for, no_number_at, none_at, has_none, first_none, failed_by, judged_matching, compute_permutation}
use Rattle.lists.specs.Lowest.{lowest, lowest_le, lowest-passes, lowest_fails}
use Rattle.matching.specs.Slots.{slot_at}
use Rattle.matching.proofs.SearchLaws.{length_slots}
use Rattle.matching.proofs.CellsOutcomeLaws.{ended}

-- The search tries slot j for position i: when it comes to i the slot is free, and no lower free slot is near i.
pub record Tried (dist : ℕ → ℕ → Distance) (n i j : ℕ) : Type 0 where
  pub position : i < n
  pub slot : j < n
  pub free : is_filled (slot_at (placed_to (near_by dist) n i) j) ≡ false
  pub none-lower : (k : ℕ) → k < j → takes (near_by dist) (placed_to (near_by dist) n i) i k ≡ false

-- The pair (i, j) comes before (a, b): positions are tried rising, and for one position the slots.
abbrev pub Before : ℕ → ℕ → ℕ → ℕ → Type 0
Before i j a b = (i < a) ⊎ ((i ≡ a) × (j < b))

-- p was tried, its distance is no number, and that of no pair tried before it is
pub record FirstTried (dist : ℕ → ℕ → Distance) (n : ℕ) (p : Pair) : Type 0 where
  pub tried : Tried dist n p.position p.slot
  pub none : dist p.position p.slot ≡ NoDistance
  pub first : (i j : ℕ) → Tried dist n i j → Before i j p.position p.slot → dist i j ≡ NoDistance → ⊥

is_none_lem : (d : Distance) → is_none d ≡ true → d ≡ NoDistance
is_none_lem Near e = absurd (false≢true e)
is_none_lem Far e = absurd (false≢true e)
is_none_lem NoDistance e = refl

module _ (dist : ℕ → ℕ → Distance) (n : ℕ) where
  abbrev slots_at : ℕ → List ℤ
  slots_at i = placed_to (near_by dist) n i

  abbrev has : ℕ → Bool
  has i = has_none dist (slots_at i) i

  taken_le : (i : ℕ) → slot_for dist (slots_at i) i ≤ n
  unfolding slot_for
  taken_le i = let l = lowest_le (length (slots_at i)) (takes (near_by dist) (slots_at i) i) in omega (arith, length_slots dist n i)

  -- a slot that takes a position is not one below which none does, and is near
  module _ (i j : ℕ) (t : Tried dist n i j) (e : dist i j ≡ NoDistance) where
    blank-here : no_number_at dist (slots_at i) i j ≡ true
    blank-here = rw (t.free, e)

    before-taken : j < slot_for dist (slots_at i) i
    unfolding slot_for
    before-taken = go (lt_or_le j (lowest (length (slots_at i)) f))
      where
        f : ℕ → Bool
        f = takes (near_by dist) (slots_at i) i

        not-near : f j ≡ false
        not-near = rw (t.free, e)

        -- the slot that takes i would be j or a lower one
        not_taken : lowest (length (slots_at i)) f ≤ j → ⊥
        not_taken l =
            let p = lowest-passes (length (slots_at i)) f (omega (arith, l, t.slot, length_slots dist n i)) in
            at_most (lt_or_le (lowest (length (slots_at i)) f) j) p
          where
            at_most : (lowest (length (slots_at i)) f < j) ⊎ (j ≤ lowest (length (slots_at i)) f) → f (lowest (length (slots_at i)) f) ≡ true → ⊥
            at_most (inl h) p = not-both p (t.none-lower (lowest (length (slots_at i)) f) h)
            at_most (inr h) p = let q : lowest (length (slots_at i)) f ≡ j = omega arith in not-both (sym (ap f q) ∙ p) not-near

        go : (j < lowest (length (slots_at i)) f) ⊎ (lowest (length (slots_at i)) f ≤ j) → j < lowest (length (slots_at i)) f
        go (inl h) = h
        go (inr h) = absurd (not_taken h)

    not-before : none_at dist (slots_at i) i ≤ j
    unfolding none_at
    not-before = go (lt_or_le j (lowest (slot_for dist (slots_at i) i) (no_number_at dist (slots_at i) i)))
      where
        go : (j < lowest (slot_for dist (slots_at i) i) (no_number_at dist (slots_at i) i)) ⊎ (lowest (slot_for dist (slots_at i) i) (no_number_at dist (slots_at i) i) ≤ j) → lowest (slot_for dist (slots_at i) i) (no_number_at dist (slots_at i) i) ≤ j
        go (inl h) = absurd (not-both blank-here (lowest_fails (slot_for dist (slots_at i) i) (no_number_at dist (slots_at i) i) j h))
        go (inr h) = h

    has_here : has i ≡ true
    unfolding has_none
    has_here = lt-ltb (none_at dist (slots_at i) i) (slot_for dist (slots_at i) i) (omega (arith, before-taken, not-before))

  -- the first pair by its definition is the first that was tried
  is_first_lem : (i j : ℕ) → i < n → i ≡ lowest n has → j ≡ none_at dist (slots_at i) i → FirstTried dist n (record { position = i; slot = j })
  unfolding has_none none_at slot_for
  is_first_lem i j l q r =
      record {
        tried = record { position = l; slot = omega (arith, below, taken_le i); free = not-true (is_filled (slot_at (slots_at i) j)) (and_fst (not (is_filled (slot_at (slots_at i) j))) (is_none (dist i j)) passes); none-lower = λ k h. lowest_fails (length (slots_at i)) (takes (near_by dist) (slots_at i) i) k (omega (arith, below, h)) };
        none = is_none_lem (dist i j) (and_snd (not (is_filled (slot_at (slots_at i) j))) (is_none (dist i j)) passes);
        first = λ a b t w e. earlier a b t e w;
      }
    where
      here : has i ≡ true
      here = ap has q ∙ lowest-passes n has (omega (arith, l, q))

      below : j < slot_for dist (slots_at i) i
      below = omega (arith, r, ltb-true (none_at dist (slots_at i) i) (slot_for dist (slots_at i) i) here)

      passes : no_number_at dist (slots_at i) i j ≡ true
      passes = ap (no_number_at dist (slots_at i) i) r ∙ lowest-passes (slot_for dist (slots_at i) i) (no_number_at dist (slots_at i) i) (omega (arith, r, below))

      earlier : (a b : ℕ) → Tried dist n a b → dist a b ≡ NoDistance → Before a b i j → ⊥
      earlier a b t e (inl h) = not-both (has_here a b t e) (lowest_fails n has a (omega (arith, h, q)))
      earlier a b t e (inr (p, h)) =
          let m : none_at dist (slots_at a) a ≤ b = not-before a b t e in
          let s : none_at dist (slots_at a) a ≡ j = ap (λ x. none_at dist (slots_at x) x) p ∙ sym r in
          omega (arith, m, s, h)

  pub named-first : (first_none dist n).position < n → FirstTried dist n (first_none dist n)
  unfolding first_none
  named-first l = is_first_lem (lowest n has) (none_at dist (slots_at (lowest n has)) (lowest n has)) l refl refl

  pub none_tried : n ≤ (first_none dist n).position → (i j : ℕ) → Tried dist n i j → dist i j ≡ NoDistance → ⊥
  unfolding first_none
  none_tried l i j t e = not-both (has_here i j t e) (lowest_fails n has i (omega (arith, l, t.position)))

-- ---- what a call that is not refused answers

pair_in : Result Matching Refusal → Pair → Pair
pair_in (Ok Matched) p = p
pair_in (Ok NotMatched) p = p
pair_in (Ok (NoNumber q)) p = q
pair_in (Err r) p = p

is_named : Result Matching Refusal → Bool
is_named (Ok Matched) = false
is_named (Ok NotMatched) = false
is_named (Ok (NoNumber q)) = true
is_named (Err r) = false

is_plain : Result Matching Refusal → Bool
is_plain (Ok Matched) = false
is_plain (Ok NotMatched) = true
is_plain (Ok (NoNumber q)) = false
is_plain (Err r) = false

by-named : (b c : Bool) (q p : Pair) → ◌≡◌ {A = Result Matching Refusal} (Ok (cond b Matched (cond c (NoNumber q) NotMatched))) (Ok (NoNumber p)) → (c ≡ true) × (q ≡ p)
unfolding is_named pair_in
by-named true c q p e = absurd (false≢true (ap is_named e))
by-named false true q p e = (refl, ap (λ m. pair_in m p) e)
by-named false false q p e = absurd (false≢true (ap is_named e))

by_plain : (b c : Bool) (q : Pair) → ◌≡◌ {A = Result Matching Refusal} (Ok (cond b Matched (cond c (NoNumber q) NotMatched))) (Ok NotMatched) → c ≡ false
unfolding is_plain
by_plain true c q e = absurd (false≢true (ap is_plain e))
by_plain false true q e = absurd (false≢true (ap is_plain e))
by_plain false false q e = refl

module _ (slots : List ℤ) (cell : Cell) (positions rotated : List Float) (n : ℕ) (taken-on : judged_matching (length slots) (length positions) (length rotated) n ≡ Ok tt) where
  abbrev dist : ℕ → ℕ → Distance
  dist = distance cell positions rotated

  abbrev answer : Result Matching Refusal
  answer = (compute_permutation slots cell positions rotated n).0

  answer_is : Ok (cond (all_filled (matched_up_to (near cell positions rotated) n)) Matched (failed_by n (first_none dist n))) ≡ answer
  answer_is = ap (λ r. r.0) (ended slots cell positions rotated n taken-on)

  -- the pair that is named is the first that was tried and is no number
  pub names-first : (p : Pair) → answer ≡ Ok (NoNumber p) → FirstTried dist n p
  names-first p e =
      let (c, q) = by-named (all_filled (matched_up_to (near cell positions rotated) n)) (ltb (first_none dist n).position n) (first_none dist n) p (answer_is ∙ e) in
      subst (FirstTried dist n) q (named-first dist n (ltb-true (first_none dist n).position n c))

  -- after a plain false none that was tried is
  pub names-none : answer ≡ Ok NotMatched → (i j : ℕ) → Tried dist n i j → dist i j ≡ NoDistance → ⊥
  names-none e =
      let c = by_plain (all_filled (matched_up_to (near cell positions rotated) n)) (ltb (first_none dist n).position n) (first_none dist n) (answer_is ∙ e) in
      none_tried dist n (ltb-false (first_none dist n).position n c)
