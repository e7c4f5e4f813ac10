-- The pairs of numbers of a block that change places where two legs do, from the table of direction addresses. Assumes nothing.
use Rattle.std.specs.Prelude.{◌≡◌, Bool, true, ℕ, zero, suc, ◌+◌, ◌*◌, ◌<◌, List, [], ◌∷◌, eqb, ltb, get_or}
use Rattle.std.proofs.Math.Path.{refl}
use Rattle.std.proofs.Common.{sym, ap₂, ◌∙◌, arith, lit<}
use Rattle.std.proofs.Math.Decide.{ℕ_discrete}
use borrow.Author.Tests.{ltb-true}
use Rattle.lists.specs.Tab.{tab, tab_from, get_or-tab}
use Rattle.lists.specs.Tests.{every, every-at}
use Rattle.lists.specs.Elements.{pick}
use Rattle.lists.specs.Digits.{horner, rest, digits}
use Rattle.blocks.specs.Permuted.{permuted}
use Rattle.transposes_fc4.specs.Pairs.{from_pairs}
use Rattle.places.specs.Permutations.{perms4}
use Rattle.positions.specs.Positions.{permutation_at}
use Rattle.places.specs.Moves.{order4}
use Rattle.orbits.specs.Exchanging.{partner, exchanging, partner-one, partner-two, partner_else}
use Rattle.orbits.specs.Moved.{exchanges4}

-- positions of the 27 pairs of numbers of a block that change places where its first two directions do, and then their partners'
abbrev pub first_pairs : List ℕ
first_pairs =
    9 ∷ 10 ∷ 11 ∷ 12 ∷ 13 ∷ 14 ∷ 15 ∷ 16 ∷ 17 ∷ 18 ∷ 19 ∷ 20 ∷ 21 ∷ 22 ∷ 23 ∷ 24 ∷ 25 ∷ 26 ∷
    45 ∷ 46 ∷ 47 ∷ 48 ∷ 49 ∷ 50 ∷ 51 ∷ 52 ∷ 53 ∷ 27 ∷ 28 ∷ 29 ∷ 30 ∷ 31 ∷ 32 ∷ 33 ∷ 34 ∷ 35 ∷
    54 ∷ 55 ∷ 56 ∷ 57 ∷ 58 ∷ 59 ∷ 60 ∷ 61 ∷ 62 ∷ 63 ∷ 64 ∷ 65 ∷ 66 ∷ 67 ∷ 68 ∷ 69 ∷ 70 ∷ 71 ∷ []

-- at 4 a + b the number of the permutation that takes directions 0 and 1 to legs a and b, which differ
abbrev pub pair_rows : List ℕ
pair_rows = 0 ∷ 0 ∷ 2 ∷ 3 ∷ 0 ∷ 0 ∷ 12 ∷ 13 ∷ 2 ∷ 12 ∷ 0 ∷ 16 ∷ 3 ∷ 13 ∷ 16 ∷ 0 ∷ []

abbrev pub pair_row : ℕ → ℕ → ℕ
pair_row a b = get_or pair_rows (a * 4 + b) 0

-- the pairs taken to other legs, by a row of the table of direction addresses
unfoldable pub taken_to : ℕ → List ℕ
taken_to s = tab 54 (λ n. permuted 3 (permutation_at s) (get_or first_pairs n 0))

-- the order of four legs with two of them exchanged, one by one
pub order_is : (a b : ℕ) {x y z w : ℕ} → x ≡ partner a b 0 → y ≡ partner a b 1 → z ≡ partner a b 2 → w ≡ partner a b 3 → x ∷ y ∷ z ∷ w ∷ [] ≡ exchanging 3 a b
unfolding exchanging tab tab_from
order_is a b ex ey ez ew = rw (ex, ey, ez, ew) refl

-- ---- the rows, computed over all pairs of legs

first_in : ℕ → Bool
first_in n = ltb (get_or first_pairs n 0) 81

all_in : every 54 first_in ≡ true
unfolding every first_in
all_in = refl

pub first_in_lem : (n : ℕ) → n < 54 → get_or first_pairs n 0 < 81
unfolding first_in
first_in_lem n h = ltb-true (get_or first_pairs n 0) 81 (every-at 54 first_in all_in n h)

-- the pairs of row s exchange legs a and b at position k
unfoldable pub exchanged_at : ℕ → ℕ → ℕ → ℕ → Bool
exchanged_at s a b k = eqb (from_pairs (taken_to s) 27 k) (permuted 3 (exchanging 3 a b) k)

pub two-rows : (a b : ℕ) → a < 4 → b < 4 → (a ≡ b → ⊥) → (pair_row a b < 24) × (every 81 (exchanged_at (pair_row a b) a b) ≡ true)
unfolding every exchanged_at from_pairs taken_to permuted permutation_at perms4 exchanging partner tab tab_from horner pick rest digits
two-rows zero zero ha hb n = absurd (n refl)
two-rows zero (suc zero) ha hb n = (lit< tt, refl)
two-rows zero (suc (suc zero)) ha hb n = (lit< tt, refl)
two-rows zero (suc (suc (suc zero))) ha hb n = (lit< tt, refl)
two-rows (suc zero) zero ha hb n = (lit< tt, refl)
two-rows (suc zero) (suc zero) ha hb n = absurd (n refl)
two-rows (suc zero) (suc (suc zero)) ha hb n = (lit< tt, refl)
two-rows (suc zero) (suc (suc (suc zero))) ha hb n = (lit< tt, refl)
two-rows (suc (suc zero)) zero ha hb n = (lit< tt, refl)
two-rows (suc (suc zero)) (suc zero) ha hb n = (lit< tt, refl)
two-rows (suc (suc zero)) (suc (suc zero)) ha hb n = absurd (n refl)
two-rows (suc (suc zero)) (suc (suc (suc zero))) ha hb n = (lit< tt, refl)
two-rows (suc (suc (suc zero))) zero ha hb n = (lit< tt, refl)
two-rows (suc (suc (suc zero))) (suc zero) ha hb n = (lit< tt, refl)
two-rows (suc (suc (suc zero))) (suc (suc zero)) ha hb n = (lit< tt, refl)
two-rows (suc (suc (suc zero))) (suc (suc (suc zero))) ha hb n = absurd (n refl)
two-rows (suc (suc (suc (suc a)))) b ha hb n = absurd (omega arith)
two-rows zero (suc (suc (suc (suc b)))) ha hb n = absurd (omega arith)
two-rows (suc zero) (suc (suc (suc (suc b)))) ha hb n = absurd (omega arith)
two-rows (suc (suc zero)) (suc (suc (suc (suc b)))) ha hb n = absurd (omega arith)
two-rows (suc (suc (suc zero))) (suc (suc (suc (suc b)))) ha hb n = absurd (omega arith)

-- where leg 1 comes to stand at leg 0, these two are exchanged
pub first_two_lem : (a b : ℕ) → get_or (exchanging 3 a b) 0 0 ≡ 1 → exchanging 3 a b ≡ order4 0
first_two_lem a b e = go (ℕ_discrete 0 a) (ℕ_discrete 0 b)
  where
    at_0 : partner a b 0 ≡ 1
    at_0 = unfold exchanging in (sym (get_or-tab 4 (partner a b) 0 0 (lit< tt)) ∙ e)

    other_way : exchanging 3 1 0 ≡ order4 0
    other_way = unfold exchanging partner tab tab_from order4 in refl

    go : Dec (0 ≡ a) → Dec (0 ≡ b) → exchanging 3 a b ≡ order4 0
    go (yes f) d = ap₂ (exchanging 3) (sym f) (sym (partner-one a b 0 f) ∙ at_0) ∙ exchanges4
    go (no f) (yes g) = ap₂ (exchanging 3) (sym (partner-two a b 0 f g) ∙ at_0) (sym g) ∙ other_way
    go (no f) (no g) = let z : ◌≡◌ {A = ℕ} 0 1 = sym (partner_else a b 0 f g) ∙ at_0 in absurd (omega (arith, z))
