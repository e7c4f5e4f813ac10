-- A fold over a list as a loop over its places.
use Rattle.std.specs.Prelude.{◌≡◌, ℕ, ◌≤◌, List, length, take, slice_index_or, fold}
use Rattle.std.proofs.Common.{zero, suc, sym, ap, ◌∙◌, arith, add-one, take_all}
use Rattle.std.proofs.lemmas.List.Sums.{fold_more}
use Rattle.lists.specs.Tab.{times, times_none, times_more}

module _ {A B : Type 0} (d : A) (f : B → A → B) (b : B) (xs : List A) where
  fold-take : (n : ℕ) → n ≤ length xs → fold f b (take n xs) ≡ times n (λ i c. f c (slice_index_or xs i d)) b
  fold-take zero h = times_none _ _
  fold-take (suc n) h = rw (sym (add-one n)) (times_more n _ _ (fold-take n (omega arith)) (fold_more f b xs n d (omega arith)))

  pub fold-times : fold f b xs ≡ times (length xs) (λ i c. f c (slice_index_or xs i d)) b
  fold-times = ap (fold f b) (sym (take_all (length xs) xs (omega arith))) ∙ fold-take (length xs) (omega arith)
