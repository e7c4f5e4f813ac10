-- The loops over columns and rows make the formulas of the drifts. Assumes nothing.
use Rattle.std.specs.Prelude.{◌≡◌, List, ℕ, ◌+◌, ◌*◌, ◌/◌, ◌%◌, length, get_or, Float}
use Rattle.std.proofs.Common.{sym, ap, ap₂, ◌∙◌, div-add-mod', mod-lt, div-lt_iff_lt-mul, arith}
use Rattle.std.specs.Float.{nan, binary64}
use Rattle.std.specs.Float.Ieee.{add, sub, mul}
use Rattle.lists.specs.Tab.{tab_ext, times-same}
use Rattle.lists.specs.Digits.{in_row, pos_of}
use Rattle.blocks.specs.Block.{place_of}
use Rattle.lists.specs.Floats.{plus_zero}
use Rattle.lines.specs.Sums3x3.{inverse}
use Rattle.lines.specs.Lines.{row_drifts}
use Rattle.lines.specs.DriftLaws.{Lines, lines_make, sum_row, rows_make}
use Rattle.fc2.specs.Full.{column_sum, row_sum, without_column_drift, without_row_drift}
use Rattle.fc2.specs.FullPlaceLaws.{filled, entry-at, entry-own}
use Rattle.fc2.specs.FullLoops.{columns}

pub by-columns : (n : ℕ) → Lines n n n (λ j. j) (λ b. b % n) (λ b. b / n)
by-columns n =
    record {
      step = λ h. h;
      stands = λ b h. let e = div-add-mod' b n in omega arith;
      index_below = λ b h. (div-lt_iff_lt-mul (pos_of n n b h)).1 h;
      line-below = λ b h. mod-lt b (pos_of n n b h);
      of_line = λ j k hj hk. let e : j + k * n ≡ k * n + j = omega arith in ap (λ b. b % n) e ∙ place_of n k j hj;
      in_set = λ j k hj hk. let h = in_row n n k j hk hj in omega arith;
    }

pub columns_make : (n : ℕ) (xs : List Float) → length xs ≡ n * n * 9 → columns n (inverse n) xs ≡ without_column_drift n xs
unfolding columns without_column_drift column_sum
columns_make n xs e =
    lines_make n n n (λ j. j) (λ b. b % n) (λ b. b / n) (by-columns n) (inverse n) xs e
    ∙ tab_ext nan (n * n * 9) _ _ (λ q h.
    ap₂ (sub binary64) (sym (entry-own n xs q))
    (ap (λ t. mul binary64 t (inverse n))
    (times-same n _ _ plus_zero (λ i hi t.
    let g = div-add-mod' (q % 9) 3 in
    let w : (q / 9 % n + i * n) * 9 + q % 9 ≡ (i * n + q / 9 % n) * 9 + (q % 9 / 3 * 3 + q % 9 % 3) = omega arith in
    ap (add binary64 t) (ap (λ k. get_or xs k nan) w ∙ sym (entry-at n xs i (q / 9 % n) (q % 9 / 3) (q % 9 % 3)))))))
    ∙ sym (filled n _)

-- a row sum by directions
pub row-sum : (n : ℕ) (xs : List Float) (i p : ℕ) → sum_row n xs i p ≡ row_sum n xs i (p / 3) (p % 3)
unfolding row_sum
row-sum n xs i p =
    times-same n _ _ plus_zero (λ j hj t.
    ap (add binary64 t) (ap (λ r. get_or xs ((i * n + j) * 9 + r) nan) (sym (div-add-mod' p 3)) ∙ sym (entry-at n xs i j (p / 3) (p % 3))))

pub row-drifts_make : (n : ℕ) (xs : List Float) → length xs ≡ n * n * 9 → row_drifts n n (inverse n) xs ≡ without_row_drift n xs
unfolding without_row_drift
row-drifts_make n xs e =
    rows_make n n (inverse n) xs e
    ∙ tab_ext nan (n * n * 9) _ _ (λ q h.
    ap₂ (λ x s. sub binary64 x (mul binary64 s (inverse n))) (sym (entry-own n xs q)) (row-sum n xs (q / 9 / n) (q % 9)))
    ∙ sym (filled n _)
