-- Bytes laid over a list: where they stand, and one run after another. Assumes nothing.
use Rattle.std.specs.Prelude.{◌≡◌, ℕ, ◌+◌, ◌≤◌, ◌<◌, get_or}
use Rattle.std.proofs.Math.Path.{sym, ap}
use Rattle.std.proofs.Common.{◌∙◌, subst, arith, length-take-le, take_at}
use mathlib.Core.List.{List, ◌++◌, append_assoc}
use Rattle.std.proofs.Math.ListN.{length, take, drop, length-append, get_or-append}
use Rattle.std.proofs.Math.Seq.{paste, take-length, drop-append-add, drop-drop, get_or-take}

-- xs laid over s from byte `at`
unfoldable pub laid : List ℕ → ℕ → List ℕ → List ℕ
laid s at xs = take at s ++ (xs ++ drop (at + length xs) s)

module _ (s : List ℕ) (at : ℕ) (xs : List ℕ) where
  -- what the loop that lays them has made at its end
  pub paste_laid : paste s at xs (length xs) ≡ laid s at xs
  unfolding laid
  paste_laid = ap (λ z. (take at s ++ z) ++ drop (at + length xs) s) (take-length xs) ∙ append_assoc (take at s) xs (drop (at + length xs) s)

  -- the part up to their end, and the rest
  parts : laid s at xs ≡ (take at s ++ xs) ++ drop (at + length xs) s
  unfolding laid
  parts = sym (append_assoc (take at s) xs (drop (at + length xs) s))

  module _ (h : at + length xs ≤ length s) where
    front : length (take at s ++ xs) ≡ at + length xs
    front = length-append (take at s) xs ∙ ap (λ n. n + length xs) (length-take-le at s (omega arith))

    pub get_or-laid : (k : ℕ) → k < at → get_or (laid s at xs) k 0 ≡ get_or s k 0
    unfolding laid
    get_or-laid k g =
        get_or-append (take at s) (xs ++ drop (at + length xs) s) 0 k (subst (λ n. k < n) (sym (length-take-le at s (omega arith))) g)
        ∙ get_or-take at s k 0 g

    pub laid-laid : (ys : List ℕ) → laid (laid s at xs) (at + length xs) ys ≡ laid s at (xs ++ ys)
    unfolding laid
    laid-laid ys =
        let H = take at s ++ xs in
        let D = drop (at + length xs) s in
        let m = at + length xs in
        let e : drop (m + length ys) (H ++ D) ≡ drop (m + length ys) s = ap (λ n. drop (n + length ys) (H ++ D)) (sym front) ∙ drop-append-add H D (length ys) ∙ drop-drop (length ys) m s in
        let n : m + length ys ≡ at + length (xs ++ ys) = omega (arith, length-append xs ys) in
        ap (λ z. take m z ++ (ys ++ drop (m + length ys) z)) parts
        ∙ ap (λ z. z ++ (ys ++ drop (m + length ys) (H ++ D))) (take_at H D m front)
        ∙ ap (λ z. H ++ (ys ++ z)) (e ∙ ap (λ k. drop k s) n)
        ∙ append_assoc (take at s) xs (ys ++ drop (at + length (xs ++ ys)) s)
        ∙ ap (λ z. take at s ++ z) (sym (append_assoc xs ys (drop (at + length (xs ++ ys)) s)))
