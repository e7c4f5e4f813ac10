-- The audit block by block: what a look at a block says of the set. For every rank at once. Assumes nothing.
use Rattle.std.specs.Prelude.{None, Ok, Some, ◌≡◌, refl, ◌⊎◌, ℕ, ◌+◌, ◌*◌, ◌≤◌, ◌<◌, Float}
use Rattle.std.proofs.Math.Path.{sym, ap, ap₂, subst}
use Rattle.std.proofs.Common.{◌∙◌, inl, inr, arith, ltb-true, lt-ltb}
use Rattle.std.proofs.Math.Bool.{true, false, cond}
use mathlib.Core.List.{List, []}
use Rattle.std.proofs.Math.Nat.{mul-le-mul_right}
use Rattle.std.proofs.Math.Dec.{ltb}
use Rattle.std.proofs.Math.ListN.{length, get_or}
use Rattle.std.specs.Float.{nan}
use Rattle.lists.specs.Tests.{some, some_at, refuted, split}
use Rattle.lists.specs.Digits.{times_power}
use Rattle.tables.specs.Shifts.{Shifts, Laws}
use Rattle.places.specs.Places.{size, in_block}
use Rattle.orbits.specs.Transposed.{counterpart, size_blocks}
use Rattle.orbits.specs.Groups.{group_blocks}
use Rattle.lists.specs.Lowest.{lowest, Lowest, lowest_is, is_lowest, lowest-same}
use Rattle.audits.specs.Audit.{reads, reads_another, unlike, first_place, first_order, difference_at, audited}
use Rattle.audits.specs.Demand.{index_in}
use Rattle.audits.proofs.EarlierLaws.{earlier_tells}
use Rattle.audits.specs.Kernel.{another, position_to, first_position, seen_before, looked, difference_in, order_below}
use Rattle.audits.specs.Blocks.{Orders, made, AlikeTo, alike-more, place-split, count-bs, at-bs, there_is, another_is, unlike_is}

module _ (S : Shifts) (L : Laws S) (m : ℕ) (os : List (List ℕ)) (t : List ℕ) (O : Orders m os t) (set : List Float) (ls : length set ≡ size S m) where
  abbrev c : ℕ
  c = in_block m

  abbrev B : ℕ
  B = times_power S.n_satom m S.n_patom

  module _ (b : ℕ) (hb : b < B) (bs : List ℕ) (eb : bs ≡ group_blocks S m os b) where
    -- nothing was found in the block
    pub block-passed : (k : ℕ) → k ≡ looked c bs t set b → c ≤ k → AlikeTo S m os set b → AlikeTo S m os set (b + 1)
    unfolding looked
    block-passed k e h A = alike-more S m os set b (λ j hj. by j hj (split (seen_before bs b))) A
      where
        by : (j : ℕ) → j < c → (seen_before bs b ≡ true) ⊎ (seen_before bs b ≡ false) → unlike S m os set (b * c + j) ≡ false
        by j hj (inl s) =
            let (i, hi, lt) = some_at (length bs) (λ i. ltb (get_or bs i 0) b) s in
            let hi' : i < length os = subst (λ (n : ℕ). i < n) (count-bs S L m os t O set ls b hb bs eb) hi in
            let d : counterpart S m (get_or os i []) b < b = rw (← (at-bs S L m os t O set ls b hb bs eb) i hi') (ltb-true (get_or bs i 0) b lt) in
            earlier_tells S L m os O.group set b j hb hj (get_or os i []) (index_in [] os i hi') d A
        by j hj (inr s) =
            let f = position_to c bs t set b (length bs) in
            let p = lowest_is c f in
            let n : k ≡ lowest c f = e ∙ ap (λ x. cond x c (lowest c f)) s in
            sym ((unlike_is S L m os t O set ls b hb bs eb) j hj) ∙ p.before j (omega (arith, n))

    -- something was found at position k
    module _ (k : ℕ) (e : k ≡ looked c bs t set b) (h : k < c) where
      unseen : seen_before bs b ≡ false
      unfolding looked
      unseen = refuted (seen_before bs b) (λ s. let n : k ≡ c = e ∙ ap (λ x. cond x c (first_position c bs t set b)) s in absurd (omega (arith, n)))

      found_first : Lowest c (position_to c bs t set b (length bs)) k
      unfolding looked
      found_first =
          let f = position_to c bs t set b (length bs) in
          subst (Lowest c f) (sym (e ∙ ap (λ x. cond x c (lowest c f)) unseen)) (lowest_is c f)

      pub found_some : some (length bs) (another c bs t set b k) ≡ true
      found_some = found_first.passes h

      module _ (A : AlikeTo S m os set b) where
        at_place : b * c + k ≡ first_place S m os set
        unfolding first_place
        at_place =
            is_lowest (size S m) (unlike S m os set) (b * c + k)
            (record {
              within = let l = in_size in omega arith;
              passes = λ l. sym ((unlike_is S L m os t O set ls b hb bs eb) k h) ∙ found_some;
              before = λ q l. by q l (place-split c b q (omega arith));
            })
          where
            in_size : b * c + k < size S m
            in_size = rw (size_blocks S m) (omega (arith, mul-le-mul_right c hb))

            by : (q : ℕ) → q < b * c + k → (q < b * c) ⊎ ((j : ℕ) × (j < c) × (q ≡ b * c + j)) → unlike S m os set q ≡ false
            by q l (inl g) = A q g
            by q l (inr (j, hj, g)) = ap (unlike S m os set) g ∙ sym ((unlike_is S L m os t O set ls b hb bs eb) j hj) ∙ found_first.before j (omega (arith, g))

        orders_are : lowest (length bs) (another c bs t set b k) ≡ first_order S m os set (b * c + k)
        unfolding first_order
        orders_are =
            ap (λ n. lowest n (another c bs t set b k)) (count-bs S L m os t O set ls b hb bs eb)
            ∙ lowest-same (length os) (another c bs t set b k) (reads_another S m os set (b * c + k)) (λ i hi. (another_is S L m os t O set ls b hb bs eb) i k hi h)

        difference_is : difference_in c bs t set b k ≡ difference_at S m os set (b * c + k)
        unfolding difference_in
        difference_is =
            let i = lowest (length bs) (another c bs t set b k) in
            let hi : i < length os = subst (λ (n : ℕ). i < n) (count-bs S L m os t O set ls b hb bs eb) (order_below (another c bs t set b k) found_some refl) in
            ap₂ (made (b * c + k) (get_or set (b * c + k) nan)) orders_are
            ((there_is S L m os t O set ls b hb bs eb) i k hi h ∙ ap (λ o. reads S m os set (b * c + k) (get_or os o [])) orders_are)

        pub block-found : Ok (Some (difference_in c bs t set b k)) ≡ audited S m os set
        unfolding audited
        block-found =
            let l : ltb (first_place S m os set) (size S m) ≡ true = rw (← at_place) (lt-ltb (b * c + k) (size S m) (rw (size_blocks S m) (omega (arith, mul-le-mul_right c hb)))) in
            ap (λ d. Ok (Some d)) (difference_is ∙ ap (difference_at S m os set) at_place)
            ∙ sym (ap (λ x. cond x (Ok (Some (difference_at S m os set (first_place S m os set)))) (Ok None)) l)

-- ---- the same, with the width of a block as the program has it

module _ (S : Shifts) (L : Laws S) (m : ℕ) (os : List (List ℕ)) (t : List ℕ) (O : Orders m os t) (set : List Float) (ls : length set ≡ size S m) (w : ℕ) (ew : in_block m ≡ w)
    (b : ℕ) (hb : b < times_power S.n_satom m S.n_patom) (bs : List ℕ) (eb : bs ≡ group_blocks S m os b) where
  module _ (k : ℕ) (e : k ≡ looked w bs t set b) where
    same-look : k ≡ looked (in_block m) bs t set b
    same-look = e ∙ ap (λ c. looked c bs t set b) (sym ew)

    pub passed-w : w ≤ k → AlikeTo S m os set b → AlikeTo S m os set (b + 1)
    passed-w h A = block-passed S L m os t O set ls b hb bs eb k same-look (rw ew h) A

    pub some-w : k < w → some (length bs) (another w bs t set b k) ≡ true
    some-w h = ap (λ c. some (length bs) (another c bs t set b k)) (sym ew) ∙ found_some S L m os t O set ls b hb bs eb k same-look (rw ew h)

    pub found-w : k < w → AlikeTo S m os set b → Ok (Some (difference_in w bs t set b k)) ≡ audited S m os set
    found-w h A = ap (λ c. Ok (Some (difference_in c bs t set b k))) (sym ew) ∙ block-found S L m os t O set ls b hb bs eb k same-look (rw ew h) A
