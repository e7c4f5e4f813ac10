-- A sum that follows an edit (document 02, A.10), on the grid: its bits are those of a fresh pass. Assumes nothing.
use Rattle.std.specs.Prelude.{◌≡◌, ℕ, ◌+◌, ◌*◌, ◌^◌, ◌≤◌, ◌<◌, Float}
use Rattle.std.proofs.Common.{sym, ap, ◌∙◌, arith}
use Rattle.std.specs.Float.{binary64}
use Rattle.std.specs.Float.Ieee.{add, sub}
use Rattle.grid.specs.Grid.{steps_up, steps_down, grid-steps, grid-few}
use Rattle.grid.specs.ExactLaws.{more-steps, less-steps, steps-same}
use Rattle.grid.specs.Sums.{pass_over, total, AllOnGrid, total-few, pass-steps}
use Rattle.grid.specs.Edits.{edited, ButAt, total_but}

-- THE SUM STAYS RIGHT
module _ (n j : ℕ) (f g : ℕ → Float) (small : n ≤ 1024) (hj : j < n) (gf : AllOnGrid n f) (gg : AllOnGrid n g) (but : ButAt n j f g) where
  pub stays-right : edited (pass_over n f) (f j) (g j) ≡ pass_over n g
  stays-right =
      let p = total n (λ k. steps_up (f k)) in
      let q = total n (λ k. steps_down (f k)) in
      let a : p ≤ n * 2 ^ 40 = total-few n (λ k. steps_up (f k)) (λ k l. (grid-few (f k) (gf k l)).0) in
      let b : q ≤ n * 2 ^ 40 = total-few n (λ k. steps_down (f k)) (λ k l. (grid-few (f k) (gf k l)).1) in
      let (fu, fd) = grid-few (f j) (gf j hj) in
      let (gu, gd) = grid-few (g j) (gg j hj) in
      let u = total_but n j (λ k. steps_up (f k)) (λ k. steps_up (g k)) hj (λ k l d. ap steps_up (but k l d)) in
      let v = total_but n j (λ k. steps_down (f k)) (λ k. steps_down (g k)) hj (λ k l d. ap steps_down (but k l d)) in
      ap (λ s. add binary64 (sub binary64 s (f j)) (g j)) (pass-steps n f small gf)
      ∙ ap (λ s. add binary64 s (g j)) (less-steps p q (f j) (steps_up (f j)) (steps_down (f j)) (omega arith) (omega arith) (grid-steps (f j) (gf j hj)))
      ∙ more-steps (p + steps_down (f j)) (q + steps_up (f j)) (g j) (steps_up (g j)) (steps_down (g j)) (omega arith) (omega arith) (grid-steps (g j) (gg j hj))
      ∙ steps-same (p + steps_down (f j) + steps_up (g j)) (q + steps_up (f j) + steps_down (g j)) (total n (λ k. steps_up (g k))) (total n (λ k. steps_down (g k))) (omega arith)
      ∙ sym (pass-steps n g small gg)
