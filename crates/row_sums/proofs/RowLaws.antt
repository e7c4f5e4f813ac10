-- The loop over the atoms makes the sums of a fresh pass: turn i writes the nine sums of atom i. Assumes nothing.
use Rattle.std.specs.Prelude.{◌≡◌, List, ℕ, suc, ◌+◌, ◌*◌, ◌/◌, ◌%◌, ◌<◌, get_or, Float}
use Rattle.std.proofs.Common.{sym, ◌∙◌, div-lt_iff_lt-mul, arith, lit<}
use Rattle.std.proofs.Math.Path.{ap}
use Rattle.std.proofs.Math.ListN.{length}
use Rattle.std.specs.Float.Ieee.{nan, add, binary64}
use Rattle.lists.specs.Tab.{times, is_tab, times-same}
use Rattle.lists.specs.Stages.{Stage, next, stages}
use Rattle.blocks.specs.Block.{put_block, length-put_block, put-inside, put-outside}
use Rattle.lists.specs.Floats.{plus_zero}
use Rattle.lines.specs.Sums3x3.{sum_in, zeros, get_or-nine, in_nine}
use Rattle.lines.specs.Lines.{line_sums}
use Rattle.lines.specs.DriftLaws.{line-sum, zeros_in}
use Rattle.grid.specs.Sums.{pass_over}
use Rattle.row_sums.specs.RowSums.{block_entry, row_sums, flat_sums}
use Rattle.row_sums.specs.RowLaws.{row_at}

module _ (n : ℕ) (set sums : List Float) (e : length sums ≡ n * 9) where
  abbrev key : ℕ → ℕ
  key q = q / 9

  abbrev new : ℕ → Float
  new q = pass_over n (block_entry n set (q / 9) (q % 9))

  one_more : (i k p : ℕ) → (i * n + k * 1) * 9 + p ≡ (i * n + k) * 9 + p
  one_more i k p = omega arith

  -- number p of the nine sums of atom i
  sum_of : (i p : ℕ) → p < 9 → sum_in (line_sums (i * n) 1 n set zeros) p ≡ pass_over n (block_entry n set i p)
  unfolding pass_over
  sum_of i p h =
      line-sum (i * n) 1 n set zeros p h
      ∙ ap (λ t. times n (λ k t. add binary64 t (get_or set ((i * n + k * 1) * 9 + p) nan)) t) (zeros_in p h)
      ∙ times-same n _ _ plus_zero (λ k hk t. ap (λ q. add binary64 t (get_or set q nan)) (one_more i k p))

  turn : (i : ℕ) → i < n → (ys : List Float) → Stage nan sums key new i ys → Stage nan sums key new (suc i) (row_at n set i ys)
  unfolding row_at
  turn i hi ys s =
      let v = flat_sums (line_sums (i * n) 1 n set zeros) in
      next nan sums key new i ys (put_block 9 i v ys) s (length-put_block 9 i v ys)
      (λ q h g.
      put-inside 9 i v ys q (rw s.long h) g
      ∙ get_or-nine (λ p. sum_in (line_sums (i * n) 1 n set zeros) p) (q % 9) (in_nine q)
      ∙ sum_of i (q % 9) (in_nine q)
      ∙ ap (λ a. pass_over n (block_entry n set a (q % 9))) (sym g))
      (λ q h g. put-outside 9 i v ys q (rw s.long h) g)

  pub rows_make : times n (row_at n set) sums ≡ row_sums n set
  unfolding row_sums
  rows_make =
      let s = stages nan sums key new n (row_at n set) (λ i hi ys t. turn i hi ys t) in
      is_tab nan (n * 9) new (times n (row_at n set) sums) (s.long ∙ e)
      (λ q h. let hx : q < length sums = rw e h in s.made q hx ((div-lt_iff_lt-mul (lit< tt)).1 h))
