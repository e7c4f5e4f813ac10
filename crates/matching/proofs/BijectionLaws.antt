-- True is answered exactly if no slot is left over, and then the slots are a bijection of near pairs (document 01, "Matched atoms").
-- Assumes nothing.
use Rattle.std.specs.Prelude.{Result, Ok, ◌≡◌, refl, Bool, true, false, cond, not, ◌⊎◌, ◌↔◌, List, [], ◌∷◌, ltb, ℤ, pos, negsuc, length, set, replicate, Float}
use Rattle.std.proofs.Common.{sym, ap, ◌∙◌, subst, true≢false, inl, inr, not-suc-le-zero, arith, length-set, get_or-set_same, get_or-set_other}
use Prim.Native.Nat.{ℕ, zero, suc, ◌≤◌, ◌<◌}
use Rattle.std.proofs.lemmas.List.{length-replicate, get_or-replicate}
use Rattle.std.proofs.Math.Seq.{set_out}
use Rattle.std.proofs.lemmas.Bool.{not-true}
use Rattle.lists.specs.Cases.{lt_or_le, eq_or_ne}
use Rattle.lists.specs.Tests.{and_fst, and_snd, not-both}
use Rattle.lists.specs.Tab.{times}
use Rattle.tables.specs.declared.Refusal.{Refusal}
use Rattle.distances.specs.declared.Cell.{Cell}
use Rattle.distances.specs.Near.{near, distance}
use Rattle.matching.specs.declared.cells.Pair.{Pair}
use Rattle.matching.specs.declared.cells.Matching.{Matching}
use Rattle.matching.specs.declared.cells.Matching.TheVariants.{Matched, NotMatched, NoNumber}
use Rattle.matching.specs.Matching.{is_matched, answers_true, is_filled, takes, match_one, placed_to, matched_up_to, all_filled, judged_matching, first_none, failed_by, compute_permutation}
use Rattle.lists.specs.Lowest.{lowest, lowest-passes}
use Rattle.matching.specs.Slots.{slot_at, filled_at, all-filled}
use Rattle.matching.proofs.CellsOutcomeLaws.{ended}
use Rattle.matching.specs.Bijection.{Taken, Bijection}

-- ---- how many slots are filled

count : List ℤ → ℕ
count [] = 0
count (x ∷ xs) = cond (is_filled x) (suc (count xs)) (count xs)

count_set : (slots : List ℤ) (j i : ℕ) → j < length slots → is_filled (slot_at slots j) ≡ false → count (set slots j (pos i)) ≡ suc (count slots)
unfolding count
count_set [] j i h e = absurd (not-suc-le-zero h)
count_set (x ∷ xs) zero i h e = rw e
count_set (x ∷ xs) (suc j) i h e = go (is_filled x) (count_set xs j i (omega arith) e)
  where
    go : (b : Bool) → count (set xs j (pos i)) ≡ suc (count xs) → cond b (suc (count (set xs j (pos i)))) (count (set xs j (pos i))) ≡ suc (cond b (suc (count xs)) (count xs))
    go true r = ap suc r
    go false r = r

count-free : (n : ℕ) → count (replicate n (negsuc 0)) ≡ 0
unfolding count
count-free zero = refl
count-free (suc n) = count-free n

count-all : (slots : List ℤ) → ((k : ℕ) → k < length slots → is_filled (slot_at slots k) ≡ true) → count slots ≡ length slots
unfolding count
count-all [] h = refl
count-all (x ∷ xs) h = let e : is_filled x ≡ true = h 0 (omega arith) in rw e (ap suc (count-all xs (λ k l. h (suc k) (omega arith))))

-- ---- the slots after the first m positions

not_free : {i k : ℕ} → pos i ≡ negsuc k → ⊥
not_free e = true≢false (ap is_filled e)

same_pos : {i k : ℕ} → pos i ≡ pos k → i ≡ k
same_pos e = cc

module _ (is_near : ℕ → ℕ → Bool) (n : ℕ) where
  -- Each slot is free or taken, no two hold the same position. Either a position is in a slot, or fewer slots are filled than positions were placed.
  record After (m : ℕ) (slots : List ℤ) : Type 0 where
    len : length slots ≡ n
    few : count slots ≤ m
    each : (j : ℕ) → j < n → (slot_at slots j ≡ negsuc 0) ⊎ Taken is_near m slots j
    apart : (j k i : ℕ) → j < n → k < n → slot_at slots j ≡ pos i → slot_at slots k ≡ pos i → j ≡ k
    reached : (i : ℕ) → i < m → ((j : ℕ) × (j < n) × (slot_at slots j ≡ pos i)) ⊎ (count slots < m)

  start : After 0 (replicate n (negsuc 0))
  start =
      record {
        len = length-replicate n (negsuc 0);
        few = let e = count-free n in omega arith;
        each = λ j h. inl (get_or-replicate n j (negsuc 0) (pos 0) h);
        apart = λ j k i h g e f. absurd (not_free (sym e ∙ get_or-replicate n j (negsuc 0) (pos 0) h));
        reached = λ i h. absurd (not-suc-le-zero h);
      }

  -- no slot takes position m
  stay : (m : ℕ) (slots : List ℤ) → After m slots → After (suc m) slots
  stay m slots A =
      record {
        len = A.len;
        few = let f = A.few in omega arith;
        each = λ j h. wider (A.each j h);
        apart = A.apart;
        reached = λ i h. later i (lt_or_le i m);
      }
    where
      wider : {j : ℕ} → (slot_at slots j ≡ negsuc 0) ⊎ Taken is_near m slots j → (slot_at slots j ≡ negsuc 0) ⊎ Taken is_near (suc m) slots j
      wider (inl e) = inl e
      wider (inr (i, l, e, c)) = inr (i, omega arith, e, c)

      kept : {i : ℕ} → ((j : ℕ) × (j < n) × (slot_at slots j ≡ pos i)) ⊎ (count slots < m) → ((j : ℕ) × (j < n) × (slot_at slots j ≡ pos i)) ⊎ (count slots < suc m)
      kept (inl r) = inl r
      kept (inr l) = inr (omega arith)

      later : (i : ℕ) → (i < m) ⊎ (m ≤ i) → ((j : ℕ) × (j < n) × (slot_at slots j ≡ pos i)) ⊎ (count slots < suc m)
      later i (inl l) = kept (A.reached i l)
      later i (inr l) = let f = A.few in inr (omega arith)

  -- slot p, which is free and near position m, takes m
  module _ (m : ℕ) (slots : List ℤ) (A : After m slots) (p : ℕ) (below : p < n) (free : is_filled (slot_at slots p) ≡ false) (close : is_near m p ≡ true) where
    abbrev new : List ℤ
    new = set slots p (pos m)

    at_p : slot_at new p ≡ pos m
    at_p = get_or-set_same slots p (pos m) (pos 0) (omega (arith, A.len))

    at_other : (j : ℕ) → (j ≡ p → ⊥) → slot_at new j ≡ slot_at slots j
    at_other j d = get_or-set_other slots p j (pos m) (pos 0) d

    -- a slot that held a position is not p
    is_other : (j i : ℕ) → slot_at slots j ≡ pos i → j ≡ p → ⊥
    is_other j i e q = not-both (ap is_filled (ap (slot_at slots) (sym q) ∙ e)) free

    -- no slot held m yet
    is_new : (j : ℕ) → j < n → slot_at slots j ≡ pos m → ⊥
    is_new j h e = go (A.each j h)
      where
        go : (slot_at slots j ≡ negsuc 0) ⊎ Taken is_near m slots j → ⊥
        go (inl f) = not_free (sym e ∙ f)
        go (inr (i, l, f, c)) = let q : i ≡ m = same_pos (sym f ∙ e) in omega arith

    take : After (suc m) new
    take =
        record {
          len = length-set slots p (pos m) ∙ A.len;
          few = let f = A.few in omega (arith, counted);
          each = λ j h. held j h (eq_or_ne j p);
          apart = λ j k i h g e f. alone j k i h g e f (eq_or_ne j p) (eq_or_ne k p);
          reached = λ i h. later i (lt_or_le i m) h;
        }
      where
        counted : count new ≡ suc (count slots)
        counted = count_set slots p m (omega (arith, A.len)) free

        was : (j : ℕ) → (j ≡ p → ⊥) → (slot_at slots j ≡ negsuc 0) ⊎ Taken is_near m slots j → (slot_at new j ≡ negsuc 0) ⊎ Taken is_near (suc m) new j
        was j d (inl e) = inl (at_other j d ∙ e)
        was j d (inr (i, l, e, c)) = inr (i, omega arith, at_other j d ∙ e, c)

        held : (j : ℕ) → j < n → (j ≡ p) ⊎ (j ≡ p → ⊥) → (slot_at new j ≡ negsuc 0) ⊎ Taken is_near (suc m) new j
        held j h (inl q) = inr (m, omega arith, ap (slot_at new) q ∙ at_p, ap (is_near m) q ∙ close)
        held j h (inr d) = was j d (A.each j h)

        alone : (j k i : ℕ) → j < n → k < n → slot_at new j ≡ pos i → slot_at new k ≡ pos i
            → (j ≡ p) ⊎ (j ≡ p → ⊥) → (k ≡ p) ⊎ (k ≡ p → ⊥) → j ≡ k
        alone j k i h g e f (inl q) (inl r) = q ∙ sym r
        alone j k i h g e f (inl q) (inr d) =
            absurd (is_new k g (sym (at_other k d) ∙ f ∙ sym e ∙ ap (slot_at new) q ∙ at_p))
        alone j k i h g e f (inr d) (inl r) =
            absurd (is_new j h (sym (at_other j d) ∙ e ∙ sym f ∙ ap (slot_at new) r ∙ at_p))
        alone j k i h g e f (inr d) (inr b) = A.apart j k i h g (sym (at_other j d) ∙ e) (sym (at_other k b) ∙ f)

        kept : (i : ℕ) → ((j : ℕ) × (j < n) × (slot_at slots j ≡ pos i)) ⊎ (count slots < m)
            → ((j : ℕ) × (j < n) × (slot_at new j ≡ pos i)) ⊎ (count new < suc m)
        kept i (inl (j, h, e)) = inl (j, h, at_other j (is_other j i e) ∙ e)
        kept i (inr l) = inr (omega (arith, counted))

        later : (i : ℕ) → (i < m) ⊎ (m ≤ i) → i < suc m → ((j : ℕ) × (j < n) × (slot_at new j ≡ pos i)) ⊎ (count new < suc m)
        later i (inl l) h = kept i (A.reached i l)
        later i (inr l) h = let q : m ≡ i = omega arith in inl (p, below, at_p ∙ ap pos q)

  step : (m : ℕ) (slots : List ℤ) → After m slots → After (suc m) (match_one is_near m slots)
  unfolding match_one
  step m slots A = go (lt_or_le p (length slots))
    where
      p : ℕ
      p = lowest (length slots) (takes is_near slots m)

      go : (p < length slots) ⊎ (length slots ≤ p) → After (suc m) (set slots p (pos m))
      go (inl h) =
          let t : takes is_near slots m p ≡ true = lowest-passes (length slots) (takes is_near slots m) h in
          let f = and_fst (not (is_filled (slot_at slots p))) (is_near m p) t in
          let c = and_snd (not (is_filled (slot_at slots p))) (is_near m p) t in
          take m slots A p (omega (arith, A.len)) (not-true (is_filled (slot_at slots p)) f) c
      go (inr h) = subst (λ s. After (suc m) s) (sym (set_out slots p (pos m) h)) (stay m slots A)

  after : (m : ℕ) → After m (times m (match_one is_near) (replicate n (negsuc 0)))
  unfolding times
  after zero = start
  after (suc m) = step m (times m (match_one is_near) (replicate n (negsuc 0))) (after m)

  module _ (slots : List ℤ) (A : After n slots) where
    filled-or-free : (j : ℕ) → j < n → (slot_at slots j ≡ negsuc 0) ⊎ (is_filled (slot_at slots j) ≡ true)
    filled-or-free j h = go (A.each j h)
      where
        go : (slot_at slots j ≡ negsuc 0) ⊎ Taken is_near n slots j → (slot_at slots j ≡ negsuc 0) ⊎ (is_filled (slot_at slots j) ≡ true)
        go (inl e) = inl e
        go (inr (i, l, e, c)) = inr (ap is_filled e)

    -- all slots are filled exactly if none holds -1
    none_free : all_filled slots ≡ true → (j : ℕ) → j < n → slot_at slots j ≡ negsuc 0 → ⊥
    none_free t j h e = not-both (filled_at slots t j (omega (arith, A.len))) (ap is_filled e)

    all-taken : ((j : ℕ) → j < n → slot_at slots j ≡ negsuc 0 → ⊥) → all_filled slots ≡ true
    all-taken f = all-filled slots n (record { there = omega (arith, A.len); filled = λ k h. go k h (filled-or-free k h) }) (sym A.len)
      where
        go : (k : ℕ) → k < n → (slot_at slots k ≡ negsuc 0) ⊎ (is_filled (slot_at slots k) ≡ true) → is_filled (slot_at slots k) ≡ true
        go k h (inl e) = absurd (f k h e)
        go k h (inr e) = e

    bijective : all_filled slots ≡ true → Bijection is_near n slots
    bijective t =
        record { taken = λ j h. holds j h (A.each j h); distinct = λ j k h g e. let (i, l, f, c) = holds j h (A.each j h) in A.apart j k i h g f (sym e ∙ f); onto = λ i h. found i (A.reached i h) }
      where
        holds : (j : ℕ) → j < n → (slot_at slots j ≡ negsuc 0) ⊎ Taken is_near n slots j → Taken is_near n slots j
        holds j h (inl e) = absurd (none_free t j h e)
        holds j h (inr r) = r

        found : (i : ℕ) → ((j : ℕ) × (j < n) × (slot_at slots j ≡ pos i)) ⊎ (count slots < n) → (j : ℕ) × (j < n) × (slot_at slots j ≡ pos i)
        found i (inl r) = r
        found i (inr l) = absurd (omega (arith, count-all slots (filled_at slots t), A.len))

-- ---- what a call that is not refused answers and leaves

after-placed : (is_near : ℕ → ℕ → Bool) (n : ℕ) → After is_near n n (matched_up_to is_near n)
unfolding matched_up_to placed_to
after-placed is_near n = after is_near n n

-- true is answered exactly if no slot is left over, whatever a failed match names
pub matched_is : (b c : Bool) (p : Pair) → is_matched (cond b Matched (cond c (NoNumber p) NotMatched)) ≡ b
matched_is true c p = refl
matched_is false true p = refl
matched_is false false p = refl

module _ (slots : List ℤ) (cell : Cell) (positions rotated : List Float) (n : ℕ) (taken-on : judged_matching (length slots) (length positions) (length rotated) n ≡ Ok tt) where
  abbrev left : List ℤ
  left = (compute_permutation slots cell positions rotated n).1

  abbrev answer : Result Matching Refusal
  answer = (compute_permutation slots cell positions rotated n).0

  left_is : matched_up_to (near cell positions rotated) n ≡ left
  left_is = ap (λ r. r.1) (ended slots cell positions rotated n taken-on)

  after_call : After (near cell positions rotated) n n left
  after_call = subst (λ s. After (near cell positions rotated) n n s) left_is (after-placed (near cell positions rotated) n)

  -- the pair that a failed match names
  abbrev pair : Pair
  pair = first_none (distance cell positions rotated) n

  answer_is : Ok (cond (all_filled left) Matched (failed_by n pair)) ≡ answer
  answer_is = ap (λ s. Ok (cond (all_filled s) Matched (failed_by n pair))) (sym left_is) ∙ ap (λ r. r.0) (ended slots cell positions rotated n taken-on)

  all_of_lem : answers_true answer ≡ all_filled left
  all_of_lem = ap answers_true (sym answer_is) ∙ matched_is (all_filled left) (ltb pair.position n) pair

  -- the answer is true exactly if no slot is left at -1
  pub matched_exactly : (answers_true answer ≡ true) ↔ ((j : ℕ) → j < n → slot_at left j ≡ negsuc 0 → ⊥)
  matched_exactly = (
    λ e. none_free (near cell positions rotated) n left after_call (sym all_of_lem ∙ e),
    λ f. all_of_lem ∙ all-taken (near cell positions rotated) n left after_call f,
  )

  -- then the slots are a bijection of near pairs
  pub matched-bijection : answers_true answer ≡ true → Bijection (near cell positions rotated) n left
  matched-bijection e = bijective (near cell positions rotated) n left after_call (sym all_of_lem ∙ e)

  -- and what the search placed
  pub matched-placed : answers_true answer ≡ true → (all_filled (matched_up_to (near cell positions rotated) n) ≡ true) × (left ≡ matched_up_to (near cell positions rotated) n)
  matched-placed e = (ap all_filled left_is ∙ sym all_of_lem ∙ e, sym left_is)

-- ---- where a further search may start from: what the search leaves, whether or not all slots are filled

module _ (is_near : ℕ → ℕ → Bool) (n : ℕ) where
  pub placed-length : length (matched_up_to is_near n) ≡ n
  placed-length = (after-placed is_near n).len

  pub placed-each : (j : ℕ) → j < n → (slot_at (matched_up_to is_near n) j ≡ negsuc 0) ⊎ Taken is_near n (matched_up_to is_near n) j
  placed-each = (after-placed is_near n).each

  pub placed-apart : (j k i : ℕ) → j < n → k < n → slot_at (matched_up_to is_near n) j ≡ pos i → slot_at (matched_up_to is_near n) k ≡ pos i → j ≡ k
  placed-apart = (after-placed is_near n).apart

  pub placed-bijection : all_filled (matched_up_to is_near n) ≡ true → Bijection is_near n (matched_up_to is_near n)
  placed-bijection e = bijective is_near n (matched_up_to is_near n) (after-placed is_near n) e
