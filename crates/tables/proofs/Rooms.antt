-- The stated lengths fit a usize.
-- Assumes nothing.
use mathlib.Core.Path.{◌≡◌, refl, sym, ap, ◌∙◌}
use Prim.Native.Nat.{ℕ, zero, suc, ◌+◌, ◌*◌, ◌≤◌, ◌<◌, ◌^◌}
use native.Mathlib.Nat.{mul-le-mul_left, mul-le-mul_right, le_trans}
use native.Mathlib.Numerals.{add-one}
use native.Mathlib.Omega.{arith}
use Rattle.lists.specs.Digits.{times_power, room-mul}

pub room-none : (b n : ℕ) → n ≡ times_power b 0 n
unfolding times_power
room-none b n = refl

pub room-more : (b i n : ℕ) → times_power b (i + 1) n ≡ times_power b i n * b
unfolding times_power
room-more b i n =
    rw (add-one i)
    (room-mul b i (n * b) ∙ (let e : n * b * times_power b i 1 ≡ n * times_power b i 1 * b = omega arith in e) ∙ ap (λ x. x * b) (sym (room-mul b i n)))

pub room_mono : (b d k n q : ℕ) → b ≤ d → n ≤ q → times_power b k n ≤ times_power d k q
unfolding times_power
room_mono b d zero n q h g = g
room_mono b d (suc k) n q h g = room_mono b d k (n * b) (q * d) h (le_trans (mul-le-mul_left n h) (mul-le-mul_right d g))

atoms-room : (k : ℕ) → k ≤ 3 → times_power 1024 k 1024 ≤ 1099511627776
unfolding times_power
atoms-room zero h = omega arith
atoms-room (suc zero) h = omega arith
atoms-room (suc (suc zero)) h = omega arith
atoms-room (suc (suc (suc zero))) h = omega arith
atoms-room (suc (suc (suc (suc k)))) h = absurd (omega arith)

directions_room : (k : ℕ) → k ≤ 4 → times_power 3 k 1099511627776 ≤ 89060441849856
unfolding times_power
directions_room zero h = omega arith
directions_room (suc zero) h = omega arith
directions_room (suc (suc zero)) h = omega arith
directions_room (suc (suc (suc zero))) h = omega arith
directions_room (suc (suc (suc (suc zero)))) h = omega arith
directions_room (suc (suc (suc (suc (suc k))))) h = absurd (omega arith)

pub atoms-small : (n p k : ℕ) → n ≤ 1024 → p ≤ 1024 → k ≤ 3 → times_power n k p ≤ 1099511627776
atoms-small n p k hn hp hk = le_trans (room_mono n 1024 k p 1024 hn hp) (atoms-room k hk)

pub atoms-fit : (n p k : ℕ) → n ≤ 1024 → p ≤ 1024 → k ≤ 3 → (j : ℕ) → j ≤ k → times_power n j p < 2 ^ 64
atoms-fit n p k hn hp hk j hj = let h = atoms-small n p j hn hp (omega arith) in omega arith

pub directions_fit : (q k : ℕ) → q ≤ 1099511627776 → k ≤ 4 → (j : ℕ) → j ≤ k → times_power 3 j q < 2 ^ 64
directions_fit q k hq hk j hj =
    let h : times_power 3 j q ≤ 89060441849856 = le_trans (room_mono 3 3 j q 1099511627776 (omega arith) hq) (directions_room j (omega arith)) in
    omega arith
