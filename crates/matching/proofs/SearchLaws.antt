-- That what the functions that fill the slots note of distances that are no number, as their loops run, is the first pair. Assumes nothing.
use Rattle.std.specs.Prelude.{◌≡◌, refl, Bool, true, false, not, ◌&&◌, List, ℤ, pos, negsuc, length, replicate}
use Rattle.std.proofs.Math.Path.{sym, ap}
use Rattle.std.proofs.Common.{ap₂, ◌∙◌, subst, not-suc-le-zero, arith}
use Rattle.std.proofs.Math.Bool.{cond}
use Rattle.std.proofs.Math.Logic.{⊎_elim}
use Prim.Native.Nat.{ℕ, zero, suc, ◌+◌, ◌≤◌, ◌<◌}
use Rattle.std.proofs.Math.Dec.{ltb}
use Rattle.std.proofs.Math.ListN.{set, length-replicate}
use Rattle.std.proofs.Math.Seq.{set_out}
use borrow.Author.Tests.{lt-ltb, le-ltb, ltb-true}
use Rattle.lists.specs.Tab.{times}
use Rattle.lists.specs.Tests.{split}
use Rattle.lists.specs.Cases.{lt_or_le, eq_or_ne}
use Rattle.distances.specs.declared.Distance.{Distance}
use Rattle.distances.specs.declared.Distance.TheVariants.{Near, Far, NoNumber}
use Rattle.distances.specs.Near.{is_near, is_none, near_by}
use Rattle.matching.specs.declared.cells.Pair.{Pair}
use Rattle.matching.specs.declared.cells.Matching.TheVariants.{NotMatched, NoNumber as Named}
use Rattle.matching.specs.Matching.{is_filled, takes, match_one, placed_to, slot_for, no_number_at, none_at, has_none, first_none, failed_by}
use Rattle.lists.specs.Lowest.{lowest, lowest_by, lowest_le}
use Rattle.matching.specs.Slots.{slot_at, length-place}
use Rattle.matching.specs.Search.{noted_by, noted_at, first_pair, no_pair, pair_after, First}

-- ---- a filled slot takes nothing and is not noted

pub near-tried : (b : Bool) (d : Distance) → is_near (cond b Far d) ≡ (not b && is_near d)
near-tried true d = refl
near-tried false d = refl

pub none_tried : (b : Bool) (d : Distance) → is_none (cond b Far d) ≡ (not b && is_none d)
none_tried true d = refl
none_tried false d = refl

pub filled-not-blank : (dist : ℕ → ℕ → Distance) (slots : List ℤ) (i k : ℕ) → is_filled (slot_at slots k) ≡ true → no_number_at dist slots i k ≡ false
filled-not-blank dist slots i k e = rw e

-- ---- the first number that passes

pub first-none : (f : ℕ → Bool) (n j : ℕ) → ((k : ℕ) → k < j → f k ≡ false) → First f n j n
first-none f n j h = record { bound = omega arith; known = λ l. absurd (omega arith); before = λ k l _. h k l; here = λ l. absurd (omega arith) }

module _ (f : ℕ → Bool) (n j p : ℕ) (F : First f n j p) where
  -- number j does not pass; it passes, and is the first; it passes, and is not
  pub first-kept : f j ≡ false → First f n (suc j) p
  first-kept h =
      record {
        bound = F.bound;
        known = λ l. let g = F.known l in omega arith;
        before = λ k l m. ⊎_elim (λ (e : k ≡ j). ap f e ∙ h) (λ (d : k ≡ j → ⊥). F.before k (omega arith) m) (eq_or_ne k j);
        here = F.here;
      }

  pub first_found : f j ≡ true → j < n → n ≤ p → First f n (suc j) j
  first_found h l g =
      record { bound = omega arith; known = λ _. omega arith; before = λ k _ m. F.before k m (omega arith); here = λ _. h }

  pub first-stays : p < n → First f n (suc j) p
  first-stays l =
      record {
        bound = F.bound;
        known = λ _. let g = F.known l in omega arith;
        before = λ k m b. let g = F.known l in F.before k (omega arith) b;
        here = F.here;
      }

  -- the same by what is told of number j
  noted-next : (d : Distance) → f j ≡ is_none d → j < n → First f n (suc j) (noted_by d p n j)
  noted-next Near e l = first-kept e
  noted-next Far e l = first-kept e
  noted-next NoNumber e l =
      ⊎_elim
      (λ (g : p < n). subst (First f n (suc j)) (sym (ap (λ b. cond b p j) (lt-ltb p n g))) (first-stays g))
      (λ (g : n ≤ p). subst (First f n (suc j)) (sym (ap (λ b. cond b p j) (le-ltb p n g))) (first_found e l g))
      (lt_or_le p n)

  pub first-noted : (d : Distance) → f j ≡ is_none d → j < n → First f n (j + 1) (noted_by d p n j)
  first-noted d e l = let s : suc j ≡ j + 1 = omega arith in subst (λ m. First f n m (noted_by d p n j)) s (noted-next d e l)

  -- then it is the lowest, if there is one
  pub first_is : j ≤ n → p ≡ cond (ltb (lowest j f) j) (lowest j f) n
  first_is m =
      ⊎_elim
      (λ (g : p < n).
      let b = F.known g in
      let e : p ≡ lowest j f = lowest_by j f p (omega arith) (λ k l. F.before k (omega arith) l) (λ _. F.here g) in
      rw (sym e, lt-ltb p j b))
      (λ (g : n ≤ p).
      let h = F.bound in
      let e : j ≡ lowest j f = lowest_by j f j (omega arith) (λ k l. F.before k l (omega arith)) (λ l. absurd (omega arith)) in
      rw (sym e, le-ltb j j (omega arith)) (omega arith))
      (lt_or_le p n)

-- the slot that takes position i is j, and p is the first below it that is noted
pub noted_is : (dist : ℕ → ℕ → Distance) (slots : List ℤ) (i j p : ℕ) → j ≡ slot_for dist slots i → j ≤ length slots → First (no_number_at dist slots i) (length slots) j p → p ≡ noted_at dist slots i
unfolding noted_at has_none none_at
noted_is dist slots i j p e l F =
    first_is (no_number_at dist slots i) (length slots) j p F l
    ∙ ap (λ a. cond (ltb (lowest a (no_number_at dist slots i)) a) (lowest a (no_number_at dist slots i)) (length slots)) e

-- the slot that takes position i, by what it is; and what it leaves
module _ (dist : ℕ → ℕ → Distance) (slots : List ℤ) (i j : ℕ) where
  pub taken_is : j ≤ length slots → ((k : ℕ) → k < j → takes (near_by dist) slots i k ≡ false) → (j < length slots → takes (near_by dist) slots i j ≡ true) → j ≡ slot_for dist slots i
  unfolding slot_for
  taken_is h fails passes = lowest_by (length slots) (takes (near_by dist) slots i) j h fails passes

  pub place_at : j ≡ slot_for dist slots i → set slots j (pos i) ≡ match_one (near_by dist) i slots
  unfolding slot_for match_one
  place_at e = ap (λ k. set slots k (pos i)) e

  pub place_out : j ≡ slot_for dist slots i → length slots ≤ j → slots ≡ match_one (near_by dist) i slots
  place_out e h = sym (set_out slots j (pos i) h) ∙ place_at e

after_more : (dist : ℕ → ℕ → Distance) (slots : List ℤ) (i : ℕ)
    → first_pair (pair_after dist slots i) (length slots) i (noted_at dist (times i (match_one (near_by dist)) slots) i) ≡ pair_after dist slots (suc i)
unfolding pair_after times
after_more dist slots i = refl

-- the pair before the first position, and one position more
pub pair-none : (dist : ℕ → ℕ → Distance) (slots : List ℤ) → no_pair (length slots) ≡ pair_after dist slots 0
unfolding pair_after times
pair-none dist slots = refl

pub pair-more : (dist : ℕ → ℕ → Distance) (slots : List ℤ) (i n s : ℕ) (p : Pair) (now : List ℤ) → p ≡ pair_after dist slots i → n ≡ length slots
    → now ≡ times i (match_one (near_by dist)) slots → s ≡ noted_at dist now i → first_pair p n i s ≡ pair_after dist slots (i + 1)
pair-more dist slots i n s p now e l t q =
    let k : suc i ≡ i + 1 = omega arith in
    ap (λ p. first_pair p n i s) e ∙ ap (λ n. first_pair (pair_after dist slots i) n i s) l
    ∙ ap (λ s. first_pair (pair_after dist slots i) (length slots) i s) (q ∙ ap (λ c. noted_at dist c i) t)
    ∙ after_more dist slots i ∙ ap (pair_after dist slots) k

-- ---- the first pair

module _ (dist : ℕ → ℕ → Distance) (n : ℕ) where
  abbrev slots_at : ℕ → List ℤ
  slots_at k = placed_to (near_by dist) n k

  abbrev has : ℕ → Bool
  has k = has_none dist (slots_at k) k

  abbrev none_of : ℕ → ℕ
  none_of k = none_at dist (slots_at k) k

  pub length_slots : (k : ℕ) → length (slots_at k) ≡ n
  unfolding placed_to times
  length_slots zero = length-replicate n (negsuc 0)
  length_slots (suc k) = length-place (near_by dist) k (slots_at k) ∙ length_slots k

  -- what is noted of position k is below n exactly if something is
  noted-some : (k : ℕ) → has k ≡ true → (noted_at dist (slots_at k) k ≡ none_of k) × (none_of k < n)
  unfolding noted_at has_none slot_for
  noted-some k h =
      let l = lowest_le (length (slots_at k)) (takes (near_by dist) (slots_at k) k) in
      let g = ltb-true (none_at dist (slots_at k) k) (slot_for dist (slots_at k) k) h in
      let e = length_slots k in
      (ap (λ b. cond b (none_of k) (length (slots_at k))) h, omega arith)

  noted_nothing : (k : ℕ) → has k ≡ false → noted_at dist (slots_at k) k ≡ n
  unfolding noted_at
  noted_nothing k h = ap (λ b. cond b (none_of k) (length (slots_at k))) h ∙ length_slots k

  record Pairs (m : ℕ) (p : Pair) : Type 0 where
    first : First has n m p.position
    slot_is : p.position < n → p.slot ≡ none_of p.position

  module _ (m : ℕ) (p : Pair) (P : Pairs m p) (l : m < n) where
    abbrev s : ℕ
    s = noted_at dist (slots_at m) m

    abbrev new : Pair
    new = record { position = m; slot = s }

    free_step : n ≤ p.position → Pairs (suc m) (cond (ltb s n) new p)
    free_step g =
        ⊎_elim
        (λ (h : has m ≡ true).
        let (e, b) = noted-some m h in
        subst (Pairs (suc m)) (sym (ap (λ b. cond b new p) (lt-ltb s n (omega arith))))
        (record { first = first_found has n m p.position P.first h l g; slot_is = λ _. e }))
        (λ (h : has m ≡ false).
        let e = noted_nothing m h in
        subst (Pairs (suc m)) (sym (ap (λ b. cond b new p) (le-ltb s n (omega arith))))
        (record { first = first-kept has n m p.position P.first h; slot_is = P.slot_is }))
        (split (has m))

    pair_step : Pairs (suc m) (first_pair p n m s)
    pair_step =
        ⊎_elim
        (λ (g : p.position < n).
        subst (Pairs (suc m)) (sym (ap (λ b. cond b p (cond (ltb s n) new p)) (lt-ltb p.position n g)))
        (record { first = first-stays has n m p.position P.first g; slot_is = P.slot_is }))
        (λ (g : n ≤ p.position).
        subst (Pairs (suc m)) (sym (ap (λ b. cond b p (cond (ltb s n) new p)) (le-ltb p.position n g))) (free_step g))
        (lt_or_le p.position n)

  pairs_to : ℕ → Pair
  pairs_to m = times m (λ k p. first_pair p n k (noted_at dist (slots_at k) k)) (no_pair n)

  all-pairs : (m : ℕ) → m ≤ n → Pairs m (pairs_to m)
  unfolding pairs_to times
  all-pairs zero l = record { first = first-none has n 0 (λ k h. absurd (not-suc-le-zero h)); slot_is = λ h. absurd (omega arith) }
  all-pairs (suc m) l = pair_step m (pairs_to m) (all-pairs m (omega arith)) (omega arith)

  -- the pair of a search that is over answers as the first pair
  same_answer : (p : Pair) → Pairs n p → failed_by n p ≡ failed_by n (first_none dist n)
  unfolding first_none
  same_answer p P =
      let F = P.first in
      let b = F.bound in
      let e : p.position ≡ lowest n has = lowest_by n has p.position b (λ k h. F.before k (omega arith) h) F.here in
      ⊎_elim
      (λ (g : p.position < n). ap (failed_by n) (ap₂ (λ (i j : ℕ). the_pair i j) e (P.slot_is g ∙ ap none_of e)))
      (λ (g : n ≤ p.position).
      ap (λ b. cond b (Named p) NotMatched) (le-ltb p.position n g)
      ∙ sym (ap (λ b. cond b (Named (the_pair (lowest n has) (none_of (lowest n has)))) NotMatched) (ap (λ i. ltb i n) (sym e) ∙ le-ltb p.position n g)))
      (lt_or_le p.position n)
    where
      the_pair : ℕ → ℕ → Pair
      the_pair i j = record { position = i; slot = j }

  pub pair-answers : failed_by n (pair_after dist (replicate n (negsuc 0)) n) ≡ failed_by n (first_none dist n)
  unfolding pair_after pairs_to placed_to
  pair-answers =
      ap (λ l. failed_by n (times n (λ k p. first_pair p l k (noted_at dist (times k (match_one (near_by dist)) (replicate n (negsuc 0))) k)) (no_pair l))) (length-replicate n (negsuc 0))
      ∙ same_answer (pairs_to n) (all-pairs n (omega arith))
