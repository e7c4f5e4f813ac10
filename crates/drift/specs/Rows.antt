-- Where the lines of a full set stand. Assumes nothing.
use Rattle.std.specs.Prelude.{◌≡◌, ℕ, ◌-◌, ◌*◌, ◌<◌}
use Rattle.std.proofs.Common.{subst, arith}
use Rattle.lines.specs.Lines.{Line, Sized, run_line}
use Rattle.fc2.specs.FullLaws.{column-line}

module _ {n s : ℕ} (z : Sized n n s) where
  pub rows_stand : (i : ℕ) → i < n → Line (i * n) 1 n s
  rows_stand i h = run_line z i n (i * n) h (omega arith)

  pub columns_stand : (j : ℕ) → j < n → Line (j * 1) n n s
  columns_stand j h = let e : j ≡ j * 1 = omega arith in subst (λ (a : ℕ). Line a n n s) e (column-line z j h)
