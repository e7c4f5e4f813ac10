-- What the functions that the audits share compute, of one block: the block of each permutation is given, and a table of positions. Assumes nothing.
use Rattle.std.specs.Prelude.{Err, None, Ok, Some, ◌≡◌, Bool, true, false, ◌||◌, ◌⊎◌, List, ℕ, ◌+◌, ◌*◌, ◌≤◌, ◌<◌, ltb, length}
use Rattle.std.proofs.Math.Path.{refl, sym, ap₂}
use Rattle.std.proofs.Common.{ap, ◌∙◌, subst, inl, inr, mul-le-mul, mul-le-mul_right, add-one}
use Rattle.std.proofs.Math.Bool.{cond}
use native.Mathlib.Omega.{arith}
use Rattle.std.proofs.Math.ListN.{get_or}
use lib.Ieee.{Float, nan}
use borrow.Author.Tests.{eq-eqb, ne_eqb, lt-ltb, le-ltb}
use Rattle.lists.specs.Tests.{some, some_at, some_of, refuted, not-both, or_true}
use Rattle.lists.specs.Cases.{lt_or_le}
use Rattle.audits.specs.declared.Difference.{Difference}
use Rattle.tables.specs.declared.Refusal.TheVariants.{WrongLength}
use Rattle.lists.specs.Lowest.{lowest, Lowest, lowest_is}
use Rattle.audits.specs.Audit.{differ, first_difference, same_set}
use Rattle.audits.specs.Demand.{words_same}

-- ---- what is computed: c numbers in a block, bs the block of each permutation, t the position that each gives to each position of a block

-- what permutation i reads at position k
unfoldable pub there : ℕ → List ℕ → List ℕ → List Float → ℕ → ℕ → Float
there c bs t set i k = get_or set (get_or bs i 0 * c + get_or t (i * c + k) 0) nan

-- it is another number than stands at position k of block b
unfoldable pub another : ℕ → List ℕ → List ℕ → List Float → ℕ → ℕ → ℕ → Bool
another c bs t set b k i = differ (get_or set (b * c + k) nan) (there c bs t set i k)

-- the first position at which one of the first i permutations reads another number
abbrev pub position_to : ℕ → List ℕ → List ℕ → List Float → ℕ → ℕ → ℕ → Bool
position_to c bs t set b i k = some i (another c bs t set b k)

abbrev pub first_position : ℕ → List ℕ → List ℕ → List Float → ℕ → ℕ
first_position c bs t set b = lowest c (position_to c bs t set b (length bs))

-- whether one of the blocks is before b
abbrev pub seen_before : List ℕ → ℕ → Bool
seen_before bs b = some (length bs) (λ i. ltb (get_or bs i 0) b)

-- the look at one block: nothing is looked for where the group has an earlier block
unfoldable pub looked : ℕ → List ℕ → List ℕ → List Float → ℕ → ℕ
looked c bs t set b = cond (seen_before bs b) c (first_position c bs t set b)

unfoldable pub difference_in : ℕ → List ℕ → List ℕ → List Float → ℕ → ℕ → Difference
difference_in c bs t set b k =
    let i = lowest (length bs) (another c bs t set b k) in
    record { place = b * c + k; order = i; here = get_or set (b * c + k) nan; there = there c bs t set i k }

-- ---- what the functions ask

pub record BlocksFit (len c b : ℕ) (bs t : List ℕ) : Type 0 where
  pub width : c ≤ 81
  pub few : length bs ≤ 24
  pub more : 0 < length bs
  pub table : length t ≡ length bs * c
  pub entries : (r : ℕ) → r < length t → get_or t r 0 < c
  pub blocks : (i : ℕ) → i < length bs → get_or bs i 0 * c + c ≤ len
  pub own : b * c + c ≤ len
  -- the first permutation changes nothing
  pub first_block_lem : get_or bs 0 0 ≡ b
  pub first-row : (k : ℕ) → k < c → get_or t k 0 ≡ k

module _ {len c b : ℕ} {bs t : List ℕ} (F : BlocksFit len c b bs t) where
  -- the places that are read
  in_table : (i k : ℕ) → i < length bs → k < c → i * c + k < length t
  in_table i k hi hk = rw F.table (omega (arith, mul-le-mul_right c hi))

  in_there : (i k : ℕ) → i < length bs → k < c → get_or bs i 0 * c + get_or t (i * c + k) 0 < len
  in_there i k hi hk =
      let e = F.entries (i * c + k) (in_table i k hi hk) in
      let h = F.blocks i hi in
      omega arith

  -- what `read` asks
  pub readable : (i k : ℕ) → i < length bs → k < c
      → (i < length bs) × (length t ≤ 1944) × (i * c + k < length t) × (get_or t (i * c + k) 0 < 81) × (get_or bs i 0 * c + get_or t (i * c + k) 0 < len)
  readable i k hi hk =
      let e = F.entries (i * c + k) (in_table i k hi hk) in
      let w = F.width in
      (hi, rw F.table (mul-le-mul F.few F.width), in_table i k hi hk, omega arith, in_there i k hi hk)

  pub in_here : (k : ℕ) → k < c → b * c + k < len
  in_here k hk = let h = F.own in omega arith

  module _ (set : List Float) where
    itself : (k : ℕ) → k < c → there c bs t set 0 k ≡ get_or set (b * c + k) nan
    unfolding there
    itself k h =
        let e : 0 * c + k ≡ k = omega arith in
        ap₂ (λ a p. get_or set (a * c + p) nan) F.first_block_lem (ap (λ r. get_or t r 0) e ∙ F.first-row k h)

    -- the first permutation reads no other number
    pub first-none : Lowest c (position_to c bs t set b 1) c
    unfolding some another
    first-none = record {
      within = omega arith;
      passes = λ h. absurd (omega arith);
      before = λ k h. words_same (get_or set (b * c + k) nan) (there c bs t set 0 k) (ap (lib.Ieee.to_bits lib.Ieee.binary64) (sym (itself k h)));
    }

-- one permutation more: r is the first position up to best at which it reads another number
pub one_more : (c best r i : ℕ) (f : ℕ → ℕ → Bool) → Lowest c (λ k. some i (f k)) best → r ≡ lowest best (λ k. f k i) → Lowest c (λ k. some (i + 1) (f k)) r
one_more c best r i f p e = subst (Lowest c (λ k. some (i + 1) (f k))) (sym e) (go (lowest best (λ k. f k i)) (lowest_is best (λ k. f k i)))
  where
    suc_is : (k : ℕ) → some (i + 1) (f k) ≡ (some i (f k) || f k i)
    suc_is k = unfold some in rw (add-one i)

    go : (s : ℕ) → Lowest best (λ k. f k i) s → Lowest c (λ k. some (i + 1) (f k)) s
    go s a = record {
      within = let w = a.within in let v = p.within in omega arith;
      passes = λ h. suc_is s ∙ by h (lt_or_le s best);
      before = λ k h. let w = a.within in suc_is k ∙ ap₂ (λ x y. x || y) (p.before k (omega arith)) (a.before k h);
    }
      where
        by : s < c → (s < best) ⊎ (best ≤ s) → (some i (f s) || f s i) ≡ true
        by h (inl l) = ap (λ y. some i (f s) || y) (a.passes l) ∙ or_true (some i (f s))
        by h (inr l) =
            let w = a.within in
            let e : s ≡ best = omega arith in
            ap (λ x. x || f s i) (ap (λ k. some i (f k)) e ∙ p.passes (omega arith))

-- ---- the look at one block

module _ (bs : List ℕ) (b : ℕ) where
  pub seen_yes : (i : ℕ) → i < length bs → get_or bs i 0 < b → true ≡ seen_before bs b
  seen_yes i h l = sym (some_of (length bs) (λ i. ltb (get_or bs i 0) b) i h (lt-ltb (get_or bs i 0) b l))

  pub seen_no : ((i : ℕ) → i < length bs → b ≤ get_or bs i 0) → false ≡ seen_before bs b
  seen_no h =
      sym (refuted (seen_before bs b) (λ t.
      let (i, l, p) = some_at (length bs) (λ i. ltb (get_or bs i 0) b) t in
      not-both p (le-ltb (get_or bs i 0) b (h i l))))

module _ (c : ℕ) (bs t : List ℕ) (set : List Float) (b : ℕ) where
  pub look-seen : seen_before bs b ≡ true → c ≡ looked c bs t set b
  unfolding looked
  look-seen s = sym (ap (λ x. cond x c (first_position c bs t set b)) s)

  pub look-unseen : seen_before bs b ≡ false → {r : ℕ} → r ≡ first_position c bs t set b → r ≡ looked c bs t set b
  unfolding looked
  look-unseen s e = e ∙ sym (ap (λ x. cond x c (first_position c bs t set b)) s)

-- where one passes, the first that does is there
pub order_below : {n i : ℕ} (f : ℕ → Bool) → some n f ≡ true → i ≡ lowest n f → i < n
order_below {n} {i} f s e = go (lt_or_le i n)
  where
    go : (i < n) ⊎ (n ≤ i) → i < n
    go (inl l) = l
    go (inr l) =
        let p = subst (Lowest n f) (sym e) (lowest_is n f) in
        let (k, h, y) = some_at n f s in
        absurd (not-both y (p.before k (omega arith)))

-- ---- two sets

module _ (a b : List Float) where
  pub set-refused : (length b ≡ length a → ⊥) → Err WrongLength ≡ same_set a b
  unfolding same_set
  set-refused n = rw (ne_eqb (length b) (length a) n) refl

  module _ (e : length b ≡ length a) (q : ℕ) (f : q ≡ first_difference a b) where
    pub set_unlike : q < length a → Ok (Some (record { place = q; order = 0; here = get_or a q nan; there = get_or b q nan })) ≡ same_set a b
    unfolding same_set
    set_unlike h = rw (eq-eqb (length b) (length a) e, ← f, lt-ltb q (length a) h) refl

    pub set-alike : length a ≤ q → Ok None ≡ same_set a b
    unfolding same_set
    set-alike h = rw (eq-eqb (length b) (length a) e, ← f, le-ltb q (length a) h) refl
