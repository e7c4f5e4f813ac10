-- How the code puts a number into a rising list. Assumes nothing.
use Rattle.std.specs.Prelude.{◌≡◌, refl, List, [], ◌∷◌, ◌++◌, ℕ, zero, suc, ◌+◌, ◌≤◌, ◌<◌, min, max, length, get_or, set, take, drop}
use Rattle.std.proofs.Common.{ap, ap₂, ◌∙◌, add-one, arith}
use Rattle.standing.specs.RetireAll.{inserted}

-- the first i numbers are done, `on` goes on through the rest of the first m
abbrev pub under_way : List ℕ → ℕ → ℕ → ℕ → List ℕ
under_way l m i on = take i l ++ inserted on (drop i (take m l))

one-step : (l : List ℕ) (m i on : ℕ) → i < m → m ≤ length l → under_way (set l i (min on (get_or l i 0))) m (suc i) (max on (get_or l i 0)) ≡ under_way l m i on
unfolding inserted
one-step [] m i on h k = absurd (omega (arith, h, k))
one-step (z ∷ zs) zero i on h k = absurd (omega (arith, h))
one-step (z ∷ zs) (suc m) zero on h k = refl
one-step (z ∷ zs) (suc m) (suc i) on h k = ap (λ l. z ∷ l) (one-step zs m i on (omega (arith, h)) (omega (arith, k)))

last_step : (l : List ℕ) (m on : ℕ) → m < length l → take (suc m) (set l m on) ≡ under_way l m m on
unfolding inserted
last_step [] m on h = absurd (omega (arith, h))
last_step (z ∷ zs) zero on h = refl
last_step (z ∷ zs) (suc m) on h = ap (λ l. z ∷ l) (last_step zs m on (omega (arith, h)))

pub begun : (l : List ℕ) (m y : ℕ) → under_way l m 0 y ≡ inserted y (take m l)
begun l m y = refl

pub goes_on : (l : List ℕ) (m i on v w : ℕ) → i < m → m ≤ length l → v ≡ min on (get_or l i 0) → w ≡ max on (get_or l i 0) → under_way (set l i v) m (i + 1) w ≡ under_way l m i on
goes_on l m i on v w h k e f = ap₂ (λ a b. under_way (set l i a) m (i + 1) b) e f ∙ ap (λ j. under_way (set l i (min on (get_or l i 0))) m j (max on (get_or l i 0))) (add-one i) ∙ one-step l m i on h k

pub ended : (l : List ℕ) (m on : ℕ) → m < length l → take (m + 1) (set l m on) ≡ under_way l m m on
ended l m on h = ap (λ j. take j (set l m on)) (add-one m) ∙ last_step l m on h
