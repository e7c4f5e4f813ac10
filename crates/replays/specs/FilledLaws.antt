-- A loop that stores f i at place i of a list, from the front: what holds of the list on the way, and what is left. Assumes nothing.
use Rattle.std.specs.Prelude.{◌≡◌, ℕ, ◌+◌, ◌<◌, ◌≤◌, List, length, slice_index_or, slice_set, refl}
use Rattle.std.proofs.Common.{sym, ◌∙◌, subst, arith, length-set, below_none}
use Rattle.lists.specs.Tab.{tab, is_tab, fill_more}

module _ {A : Type 0} (d : A) (f : ℕ → A) where
  -- w is what the loop has made of a list of n when it stands at i
  abbrev pub Filled : ℕ → ℕ → List A → Type 0
  Filled n i w = (i ≤ n) × (length w ≡ n) × ((k : ℕ) → k < i → slice_index_or w k d ≡ f k)

  pub filled_none : (w : List A) → Filled (length w) 0 w
  filled_none w = (omega arith, refl, below_none _)

  pub filled_more : (n i : ℕ) (w : List A) (v : A) → i < n → v ≡ f i → Filled n i w → Filled n (i + 1) (slice_set w i v)
  filled_more n i w v h e p = (omega arith, length-set w i v ∙ p.1, fill_more d f w i v (subst (λ (m : ℕ). i < m) (sym p.1) h) e p.2)

  pub filled-all : (n i : ℕ) (w : List A) → n ≤ i → Filled n i w → w ≡ tab n f
  filled-all n i w h p = is_tab d n f w p.1 (λ k b. p.2 k (omega arith))
