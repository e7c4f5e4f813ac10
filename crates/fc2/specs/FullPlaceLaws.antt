-- Full sets of second order by the numbers of their places. Assumes nothing.
use Rattle.std.specs.Prelude.{◌≡◌, refl, List, ℕ, ◌+◌, ◌*◌, ◌/◌, ◌%◌, get_or, Float}
use Rattle.std.specs.Float.{nan}
use Rattle.lists.specs.Tab.{tab}
use Rattle.places.specs.WholeLaws.{full_shifts}
use Rattle.lines.specs.LegLaws.{fill_is, at_is, own_at}
use Rattle.fc2.specs.Full.{fill_full, full_entry}

pub filled : (n : ℕ) (f : ℕ → ℕ → ℕ → ℕ → Float) → fill_full n f ≡ tab (n * n * 9) (λ q. f (q / 9 / n) (q / 9 % n) (q % 9 / 3) (q % 9 % 3))
unfolding fill_full full_shifts
filled n f = fill_is (full_shifts n) _ (λ q. f (q / 9 / n) (q / 9 % n) (q % 9 / 3) (q % 9 % 3)) (λ q h. refl)

module _ (n : ℕ) (xs : List Float) where
  pub entry-at : (i j k l : ℕ) → full_entry n xs i j k l ≡ get_or xs ((i * n + j) * 9 + (k * 3 + l)) nan
  unfolding full_entry full_shifts
  entry-at i j k l = at_is (full_shifts n) xs i k j l

  -- the number of a set at its own place
  pub entry-own : (q : ℕ) → full_entry n xs (q / 9 / n) (q / 9 % n) (q % 9 / 3) (q % 9 % 3) ≡ get_or xs q nan
  unfolding full_entry full_shifts
  entry-own q = own_at (full_shifts n) xs q
