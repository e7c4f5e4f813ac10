-- A list of orders taken in another sequence: one computed test, and that sums over the list do not change. Assumes nothing.
use Rattle.std.specs.Prelude.{◌≡◌, refl, ◌⊎◌, Bool, true, false, cond, ◌&&◌, ℕ, ◌+◌, List, [], ◌∷◌, map, Float}
use Rattle.std.proofs.Common.{sym, ap, ◌∙◌, inl, inr, arith}
use Rattle.std.proofs.lemmas.Bool.{false≢true}
use Rattle.lists.specs.Tests.{split, and_fst, and_snd}
use Rattle.lists.specs.Elements.{pick}
use Rattle.lists.specs.Members.{In, all_of, one_of, alike, alike_true, all_of_lem}
use Rattle.places.specs.Permutations.{perms3, perms4}
use Rattle.laws.specs.Means.{total_of}

abbrev pub Orders : Type 0
Orders = List (List ℕ)

-- the list less one entry that is x
unfoldable pub drop_one : List ℕ → Orders → Orders
drop_one x [] = []
drop_one x (y ∷ ys) = let r = drop_one x ys in cond (alike x y) ys (y ∷ r)

-- the entries of the one list are those of the other, each as often
unfoldable pub is_reordering : Orders → Orders → Bool
unfolding drop_one
is_reordering [] [] = true
is_reordering [] (y ∷ ys) = false
is_reordering (x ∷ xs) ys = let r = is_reordering xs (drop_one x ys) in one_of (alike x) ys && r

-- each entry after τ
unfoldable pub afterwards : List ℕ → Orders → Orders
afterwards τ os = map (λ σ. pick 0 σ τ) os

-- the orders after any one of them are the orders
unfoldable pub reordered : Orders → Bool
unfolding is_reordering afterwards
reordered os = all_of (λ τ. is_reordering (afterwards τ os) os) os

-- ---- sums over the list

total_by : (List ℕ → ℕ) → Orders → ℕ
total_by g [] = 0
total_by g (x ∷ xs) = g x + total_by g xs

drop-total : (g : List ℕ → ℕ) (x : List ℕ) (ys : Orders) → one_of (alike x) ys ≡ true → total_by g ys ≡ g x + total_by g (drop_one x ys)
unfolding total_by drop_one one_of
drop-total g x [] e = absurd (false≢true e)
drop-total g x (y ∷ ys) e = go (split (alike x y)) (drop-total g x ys)
  where
    go : (alike x y ≡ true) ⊎ (alike x y ≡ false) → (one_of (alike x) ys ≡ true → total_by g ys ≡ g x + total_by g (drop_one x ys)) → g y + total_by g ys ≡ g x + total_by g (cond (alike x y) ys (y ∷ drop_one x ys))
    go (inl t) r = rw t (ap (λ z. g z + total_by g ys) (sym (alike_true x y t)))
    go (inr f) r = let q = r (rw f at e) in rw f (omega arith)

permuted-total : (g : List ℕ → ℕ) (xs ys : Orders) → is_reordering xs ys ≡ true → total_by g xs ≡ total_by g ys
unfolding total_by is_reordering
permuted-total g [] [] e = refl
permuted-total g [] (y ∷ ys) e = absurd (false≢true e)
permuted-total g (x ∷ xs) ys e =
    ap (λ k. g x + k) (permuted-total g xs (drop_one x ys) (and_snd (one_of (alike x) ys) (is_reordering xs (drop_one x ys)) e))
    ∙ sym (drop-total g x ys (and_fst (one_of (alike x) ys) (is_reordering xs (drop_one x ys)) e))

by_list : (f : Float → ℕ) (v : List ℕ → Float) (xs : Orders) → total_of f (map v xs) ≡ total_by (λ σ. f (v σ)) xs
unfolding total_by total_of
by_list f v [] = refl
by_list f v (x ∷ xs) = ap (λ k. f (v x) + k) (by_list f v xs)

pub total-after : (os : Orders) → reordered os ≡ true → (τ : List ℕ) → In τ os → (f : Float → ℕ) (v : List ℕ → Float) → total_of f (map v (afterwards τ os)) ≡ total_of f (map v os)
unfolding reordered
total-after os e τ i f v =
    by_list f v (afterwards τ os) ∙ permuted-total (λ σ. f (v σ)) (afterwards τ os) os (all_of_lem (λ τ. is_reordering (afterwards τ os) os) os e τ i) ∙ sym (by_list f v os)

pub six-reordered : reordered perms3 ≡ true
unfolding perms3 reordered is_reordering drop_one afterwards all_of one_of alike pick
six-reordered = refl

pub twenty_four_reordered : reordered perms4 ≡ true
unfolding perms4 reordered is_reordering drop_one afterwards all_of one_of alike pick
twenty_four_reordered = refl
