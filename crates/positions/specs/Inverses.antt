-- The permutation that undoes each of the 24. Assumes nothing.
use Rattle.std.specs.Prelude.{◌≡◌, refl, Bool, true, ◌&&◌, ℕ, ◌<◌, List, [], ◌∷◌, get_or}
use Rattle.std.proofs.Common.{ap, ◌∙◌, arith}
use Rattle.lists.specs.Tests.{every, every-at, and_fst, and_snd}
use Rattle.lists.specs.Tab.{tab, tab_from}
use Rattle.lists.specs.Elements.{pick, straight, all-at}
use Rattle.lists.specs.Members.{alike, alike_true}
use Rattle.blocks.specs.Permuted.{permuted}
use Rattle.places.specs.Permutations.{Permutation, perms4}
use Rattle.orbits.proofs.Scatter.{permuted-permuted, permuted-straight}
use Rattle.positions.specs.Positions.{permutation_at, in81, is_permutation_lem}

-- their numbers
abbrev pub inverses : List ℕ
inverses = 0 ∷ 1 ∷ 2 ∷ 4 ∷ 3 ∷ 5 ∷ 6 ∷ 7 ∷ 12 ∷ 18 ∷ 13 ∷ 19 ∷ 8 ∷ 10 ∷ 14 ∷ 20 ∷ 16 ∷ 22 ∷ 9 ∷ 11 ∷ 15 ∷ 21 ∷ 17 ∷ 23 ∷ []

unfoldable pub inverse_of : ℕ → ℕ
inverse_of s = get_or inverses s 0

pub inverse-at : {l : List ℕ} → l ≡ inverses → (s : ℕ) → get_or l s 0 ≡ inverse_of s
unfolding inverse_of
inverse-at e s = ap (λ l. get_or l s 0) e

pub inverse-below : (s : ℕ) → s < 24 → inverse_of s < 24
unfolding inverse_of
inverse-below s h = all-at (λ i. i < 24) inverses s 0 (omega arith) h

is_undone : ℕ → Bool
is_undone s = alike (pick 0 (permutation_at s) (permutation_at (inverse_of s))) (straight 4) && alike (pick 0 (permutation_at (inverse_of s)) (permutation_at s)) (straight 4)

all-undone : every 24 is_undone ≡ true
unfolding every is_undone alike pick permutation_at inverse_of straight tab tab_from perms4
all-undone = refl

module _ (s k : ℕ) (hs : s < 24) (hk : k < 81) where
  abbrev σ : List ℕ
  σ = permutation_at s

  abbrev τ : List ℕ
  τ = permutation_at (inverse_of s)

  undo : (ρ π : List ℕ) → pick 0 ρ π ≡ straight 4 → Permutation 3 ρ → Permutation 3 π → permuted 3 ρ (permuted 3 π k) ≡ k
  undo ρ π e o p = permuted-permuted 3 ρ π k o p (rw in81 hk) ∙ ap (λ π. permuted 3 π k) e ∙ permuted-straight 3 k (rw in81 hk)

  pub there : permuted 3 (permutation_at s) (permuted 3 (permutation_at (inverse_of s)) k) ≡ k
  unfolding is_undone
  there = undo σ τ (alike_true (pick 0 σ τ) (straight 4) (and_fst (alike (pick 0 σ τ) (straight 4)) (alike (pick 0 τ σ) (straight 4)) (every-at 24 is_undone all-undone s hs)))
      (is_permutation_lem s hs) (is_permutation_lem (inverse_of s) (inverse-below s hs))

  pub back : permuted 3 (permutation_at (inverse_of s)) (permuted 3 (permutation_at s) k) ≡ k
  unfolding is_undone
  back = undo τ σ (alike_true (pick 0 τ σ) (straight 4) (and_snd (alike (pick 0 σ τ) (straight 4)) (alike (pick 0 τ σ) (straight 4)) (every-at 24 is_undone all-undone s hs)))
      (is_permutation_lem (inverse_of s) (inverse-below s hs)) (is_permutation_lem s hs)
