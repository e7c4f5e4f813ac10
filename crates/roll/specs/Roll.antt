-- What is known of a roll and of the marks that the check makes: the facts that the functions below the calls ask for.
-- Assumes nothing.
use Rattle.std.specs.Prelude.{◌≡◌, cond, List, ℕ, ◌+◌, ◌*◌, ◌≤◌, eqb, length, get_or}
use Rattle.lists.specs.Tests.{some}
use Rattle.roll.specs.Reading.{record_start}

-- the bytes end with a trailer at t for n records, and the records end where it begins
pub record Sized (b : List ℕ) (n t : ℕ) : Type 0 where
  pub few : n ≤ 1000
  pub small : length b ≤ 65536
  pub whole : t + 4 * n + 8 ≡ length b
  pub ends : record_start b n ≡ t

-- marks of the bytes where the first n records start: 1 there, 0 elsewhere
pub record Marked (b : List ℕ) (n : ℕ) (marks : List ℕ) : Type 0 where
  pub size : length marks ≡ 65536
  pub at : (p : ℕ) → get_or marks p 0 ≡ cond (some n (λ i. eqb (record_start b i) p)) 1 0
