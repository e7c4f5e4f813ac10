-- The answer as the number that C gets, beside the set and the two work slices that a call leaves. Assumes nothing.
use Rattle.std.specs.Prelude.{◌≡◌, ℕ}
use Rattle.std.proofs.Common.{ap, ◌∙◌}
use Rattle.tables.specs.Answers.{Answer}
use Rattle.tables.specs.Answers.{number_of}

abbrev pub numbered_both : {A B C : Type 0} → Answer × A × B × C → ℕ × A × B × C
numbered_both (a, x, y, z) = (number_of a, x, y, z)

pub by-number-both : {A B C : Type 0} {a : Answer} {x : A} {y : B} {z : C} {r : ℕ} {call : Answer × A × B × C} → (a, x, y, z) ≡ call → r ≡ number_of a
    → (r, x, y, z) ≡ numbered_both call
by-number-both {x = x} {y = y} {z = z} p q = ap (λ (k : ℕ). (k, x, y, z)) q ∙ ap numbered_both p
