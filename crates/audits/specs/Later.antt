-- Blocks that need not be looked at: where two of the last three atoms fall, the block with these two exchanged is an earlier one of the same group.
-- Assumes nothing.
use Rattle.std.specs.Prelude.{◌≡◌, Bool, true, false, ◌||◌, ◌⊎◌, ℕ, ◌+◌, ◌*◌, ◌-◌, ◌/◌, ◌%◌, ◌≤◌, ◌<◌, length}
use Rattle.std.proofs.Math.Path.{refl, sym, ap₂, subst}
use Rattle.std.proofs.Common.{ap, ◌∙◌, inl, mul-le-mul, le_refl, arith}
use Rattle.std.proofs.Math.Logic.{inr}
use mathlib.Core.List.{List, [], ◌∷◌}
use Rattle.std.proofs.Math.Nat.{mul-le-mul_right}
use Rattle.std.proofs.Math.Decide.{ℕ_discrete}
use Rattle.std.proofs.Math.Dec.{ltb}
use borrow.Author.Tests.{ltb-true, lt-ltb, le-ltb}
use Rattle.lists.specs.Tests.{split}
use Rattle.lists.specs.Members.{In}
use Rattle.lists.specs.Elements.{Below, pick}
use Rattle.lists.specs.Digits.{horner, times_power, rest, digits, rest_below, digits-below, horner-digits}
use Rattle.tables.specs.Shifts.{Shifts, Laws, p2s_at}
use Rattle.places.specs.Permutations.{perms4}
use Rattle.orbits.specs.Transposed.{counterpart}
use Rattle.orbits.specs.AtBlockLaws.{counterpart-at, stored-own}

-- of the last three atoms of block b one is below the one before it
unfoldable pub falling : ℕ → ℕ → Bool
falling n b = ltb (b % n) (b / n % n) || ltb (b / n % n) (b / n / n % n)

-- the same, step by step as it is tested: the last atom l, the one before it k, and j before that
module _ (n b : ℕ) {l pjk k pj j : ℕ} (el : l ≡ b % n) (ep : pjk ≡ b / n) (ek : k ≡ pjk % n) (eq : pj ≡ pjk / n) (ej : j ≡ pj % n) where
  k_is : k ≡ b / n % n
  k_is = ek ∙ ap (λ x. x % n) ep

  j_is : j ≡ b / n / n % n
  j_is = ej ∙ ap (λ x. x % n) (eq ∙ ap (λ x. x / n) ep)

  pub falls_yes : l < k → true ≡ falling n b
  unfolding falling
  falls_yes h = sym (ap (λ x. x || ltb (b / n % n) (b / n / n % n)) (ap₂ ltb (sym el) (sym k_is) ∙ lt-ltb l k h))

  pub falls_rest : k ≤ l → ltb k j ≡ falling n b
  unfolding falling
  falls_rest h = ap₂ ltb k_is j_is ∙ sym (ap (λ x. x || ltb (b / n % n) (b / n / n % n)) (ap₂ ltb (sym el) (sym k_is) ∙ le-ltb l k h))

-- r is the first block from b on, up to count, for which the program did not find that
pub record Next (n b count r : ℕ) : Type 0 where
  pub from : b ≤ r
  pub to : r ≤ count
  pub passed : (x : ℕ) → b ≤ x → x < r → falling n x ≡ true

pub next-none : (n b count : ℕ) → b ≤ count → Next n b count b
next-none n b count h = record { from = omega arith; to = h; passed = λ x l g. absurd (omega arith) }

pub next_more : (n b count r : ℕ) → Next n b count r → r < count → falling n r ≡ true → Next n b count (r + 1)
next_more n b count r p h f = record {
  from = let g = p.from in omega arith;
  to = omega arith;
  passed = λ x l g. by x l g (ℕ_discrete x r);
}
  where
    by : (x : ℕ) → b ≤ x → x < r + 1 → Dec (x ≡ r) → falling n x ≡ true
    by x l g (yes e) = ap (falling n) e ∙ f
    by x l g (no e) = p.passed x l (omega arith)

-- ---- the block with two atoms exchanged is earlier

-- of two digits that fall, the number with the lower one before is the lower number
two_lt : (n x y : ℕ) → x < y → y < n → x * n + y < y * n + x
two_lt n x y h l =
    let m : (y - x) * 2 ≤ (y - x) * n = mul-le-mul (le_refl (y - x)) (omega arith) in
    let e : y ≡ x + (y - x) = omega arith in
    go (y - x) e m (omega arith)
  where
    go : (d : ℕ) → y ≡ x + d → d * 2 ≤ d * n → 0 < d → x * n + y < y * n + x
    go d e m p = rw e (omega arith)

module _ (S : Shifts) (L : Laws S) (b : ℕ) (h : b < times_power S.n_satom 3 S.n_patom) where
  abbrev n : ℕ
  n = S.n_satom

  abbrev p : ℕ
  p = b / n / n / n

  abbrev j : ℕ
  j = b / n / n % n

  abbrev k : ℕ
  k = b / n % n

  abbrev l : ℕ
  l = b % n

  first_in_lem : p < S.n_patom
  unfolding rest
  first_in_lem = rest_below n 3 S.n_patom b h

  others_in : Below n (j ∷ k ∷ l ∷ [])
  unfolding digits rest
  others_in = digits-below n 3 S.n_patom b h

  is_block : horner n p (j ∷ k ∷ l ∷ []) ≡ b
  unfolding digits rest
  is_block = horner-digits n 3 b

  at_block : (σ : List ℕ) (js : List ℕ) → Below n js → length js ≡ 3 → pick 0 σ (p2s_at S p ∷ j ∷ k ∷ l ∷ []) ≡ p2s_at S p ∷ js → counterpart S 3 σ b ≡ horner n p js
  at_block σ js bj lj e =
      ap (counterpart S 3 σ) (sym is_block) ∙ counterpart-at S p (j ∷ k ∷ l ∷ []) others_in σ (p2s_at S p) js e ∙ stored-own S p js bj L first_in_lem

  last_fall : l < k → counterpart S 3 (0 ∷ 1 ∷ 3 ∷ 2 ∷ []) b < b
  unfolding horner pick
  last_fall f =
      let (hj, (hk, (hl, _))) = others_in in
      let e = at_block (0 ∷ 1 ∷ 3 ∷ 2 ∷ []) (j ∷ l ∷ k ∷ []) (hj, (hl, (hk, tt))) refl refl in
      let t = two_lt n l k f hk in
      subst (λ (x : ℕ). counterpart S 3 (0 ∷ 1 ∷ 3 ∷ 2 ∷ []) b < x) is_block (rw e (omega arith))

  middle_fall : k < j → counterpart S 3 (0 ∷ 2 ∷ 1 ∷ 3 ∷ []) b < b
  unfolding horner pick
  middle_fall f =
      let (hj, (hk, (hl, _))) = others_in in
      let e = at_block (0 ∷ 2 ∷ 1 ∷ 3 ∷ []) (k ∷ j ∷ l ∷ []) (hk, (hj, (hl, tt))) refl refl in
      let t = mul-le-mul_right n (two_lt n k j f hj) in
      subst (λ (x : ℕ). counterpart S 3 (0 ∷ 2 ∷ 1 ∷ 3 ∷ []) b < x) is_block (rw e (omega arith))

  pub falls_later : falling n b ≡ true → (σ : List ℕ) × In σ perms4 × (counterpart S 3 σ b < b)
  unfolding falling perms4
  falls_later f = by (split (ltb l k))
    where
      by : (ltb l k ≡ true) ⊎ (ltb l k ≡ false) → (σ : List ℕ) × In σ perms4 × (counterpart S 3 σ b < b)
      by (inl e) = (0 ∷ 1 ∷ 3 ∷ 2 ∷ [], inr (inl refl), last_fall (ltb-true l k e))
      by (inr e) = (0 ∷ 2 ∷ 1 ∷ 3 ∷ [], inr (inr (inl refl)), middle_fall (ltb-true k j (sym (ap (λ x. x || ltb k j) e) ∙ f)))
