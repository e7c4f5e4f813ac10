-- A call's answer as the number that C gets, beside what the call leaves. Assumes nothing.
use Rattle.std.specs.Prelude.{◌≡◌, ℕ}
use Rattle.std.proofs.Common.{ap, ◌∙◌}
use Rattle.tables.specs.Answers.{Answer}
use Rattle.tables.specs.Answers.{number_of}

-- a call that leaves a set
abbrev pub numbered : {A : Type 0} → Answer × A → ℕ × A
numbered (a, x) = (number_of a, x)

-- a call that leaves a set and a work slice
abbrev pub numbered_with : {A B : Type 0} → Answer × A × B → ℕ × A × B
numbered_with (a, x, y) = (number_of a, x, y)

-- r is the number of the call's answer a; x, and y, is what the call leaves
pub by_number : {A : Type 0} {a : Answer} {x : A} {r : ℕ} {call : Answer × A} → (a, x) ≡ call → r ≡ number_of a → (r, x) ≡ numbered call
by_number {x = x} p q = ap (λ (k : ℕ). (k, x)) q ∙ ap numbered p

pub by-number-with : {A B : Type 0} {a : Answer} {x : A} {y : B} {r : ℕ} {call : Answer × A × B} → (a, x, y) ≡ call → r ≡ number_of a
    → (r, x, y) ≡ numbered_with call
by-number-with {x = x} {y = y} p q = ap (λ (k : ℕ). (k, x, y)) q ∙ ap numbered_with p

-- an integer argument comes back from the machine's word as itself, z'; the call was made with z
pub by-number-at : {A B Z : Type 0} {a : Answer} {x : A} {y : B} {r : ℕ} {z z' : Z} (call : Z → Answer × A × B) → z ≡ z' → (a, x, y) ≡ call z
    → r ≡ number_of a → (r, x, y) ≡ numbered_with (call z')
by-number-at call e p q = by-number-with (p ∙ ap call e) q
