-- Where a group of positions has fewer near slots than members there is no bijection of near pairs, and a search that is stuck leaves such a group.
-- Assumes nothing.
use Rattle.std.specs.Prelude.{◌≡◌, Bool, true, ◌&&◌, List, ℕ, ◌≤◌, ◌<◌, ℤ, pos}
use Rattle.std.proofs.Common.{sym, ap, ◌∙◌, subst, arith}
use Rattle.lists.specs.Tests.{some_at, some_of, and_fst, and_snd, both}
use Rattle.matching.specs.Slots.{slot_at}
use Rattle.matching.specs.Bijection.{Bijection}
use Rattle.matching.specs.Counts.{count, without, count_injected, count-without, without_other}
use Rattle.matching.specs.Groups.{Held, Partial, marked, Marks, HeldMarked, Closed, reached, TooFewSlots, same-position, held_below}

module _ (is_near : ℕ → ℕ → Bool) (n : ℕ) where
  reached-by : (marks : List ℕ) (i j : ℕ) → i < n → marked marks i ≡ true → is_near i j ≡ true → reached is_near n marks j ≡ true
  unfolding reached
  reached-by marks i j h m e = some_of n (λ i. marked marks i && is_near i j) i h (both (marked marks i) (is_near i j) m e)

  reached-from : (marks : List ℕ) (j : ℕ) → reached is_near n marks j ≡ true → (i : ℕ) × (i < n) × (marked marks i ≡ true) × (is_near i j ≡ true)
  unfolding reached
  reached-from marks j e =
      let (i, h, b) = some_at n (λ i. marked marks i && is_near i j) e in
      (i, h, and_fst (marked marks i) (is_near i j) b, and_snd (marked marks i) (is_near i j) b)

  -- THE GROUP RULES A BIJECTION OUT: it would send the members to as many near slots
  pub no-bijection : (marks : List ℕ) → TooFewSlots is_near n marks → (slots : List ℤ) → Bijection is_near n slots → ⊥
  no-bijection marks G slots B = omega (arith, as_many, G.fewer)
    where
      at : (i : ℕ) → i < n → marked marks i ≡ true → ℕ
      at i h e = (B.onto i h).0

      holds : (i : ℕ) (h : i < n) (e : marked marks i ≡ true) → slot_at slots (at i h e) ≡ pos i
      holds i h e = (B.onto i h).2

      to : (i : ℕ) (h : i < n) (e : marked marks i ≡ true) → (at i h e < n) × (reached is_near n marks (at i h e) ≡ true)
      to i h e =
          let j = at i h e in
          let hj : j < n = (B.onto i h).1 in
          let (k, l, s, c) = B.taken j hj in
          let q : k ≡ i = same-position (sym s ∙ holds i h e) in
          (hj, reached-by marks i j h e (subst (λ k. is_near k j ≡ true) q c))

      alone : (i k : ℕ) (h : i < n) (e : marked marks i ≡ true) (g : k < n) (d : marked marks k ≡ true) → at i h e ≡ at k g d → i ≡ k
      alone i k h e g d q = same-position (sym (holds i h e) ∙ ap (slot_at slots) q ∙ holds k g d)

      as_many : count n (marked marks) ≤ count n (reached is_near n marks)
      as_many = count_injected n n (marked marks) (reached is_near n marks) at to alone

  -- ---- what a search that is stuck leaves is such a group

  pub stuck-group : (slots : List ℤ) (marks : List ℕ) (root : ℕ) → Partial is_near n slots → Marks n marks → root < n → marked marks root ≡ true → (Held n slots root → ⊥)
      → ((p : ℕ) → p < n → marked marks p ≡ true → Closed is_near n slots marks p) → TooFewSlots is_near n marks
  stuck-group slots marks root P M h m out closed = record { marks_are = M; fewer = omega (arith, fewer-by-one, count-without n root (marked marks) h m) }
    where
      holder : (j : ℕ) → j < n → reached is_near n marks j ≡ true → HeldMarked slots marks j
      holder j hj e = let (i, l, a, c) = reached-from marks j e in closed i l a j hj c

      at : (j : ℕ) → j < n → reached is_near n marks j ≡ true → ℕ
      at j hj e = (holder j hj e).0

      to : (j : ℕ) (hj : j < n) (e : reached is_near n marks j ≡ true) → (at j hj e < n) × (without root (marked marks) (at j hj e) ≡ true)
      to j hj e =
          let k = at j hj e in
          let s = (holder j hj e).1 in
          ((held_below is_near n slots P j k hj s).0, without_other root (marked marks) k (λ q. out (j, hj, s ∙ ap pos q)) ∙ (holder j hj e).2)

      alone : (j k : ℕ) (hj : j < n) (e : reached is_near n marks j ≡ true) (hk : k < n) (d : reached is_near n marks k ≡ true) → at j hj e ≡ at k hk d → j ≡ k
      alone j k hj e hk d q = P.apart j k (at k hk d) hj hk ((holder j hj e).1 ∙ ap pos q) (holder k hk d).1

      fewer-by-one : count n (reached is_near n marks) ≤ count n (without root (marked marks))
      fewer-by-one = count_injected n n (reached is_near n marks) (without root (marked marks)) at to alone
