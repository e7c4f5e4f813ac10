-- The sums over a leg as lines of blocks of nine numbers: a block of 27 is three of them, one for each direction of the first leg. The atoms of a leg
-- stand 1, n or n × n blocks apart. Definitions of what the functions compute, and where they read. Assumes nothing.
use Rattle.std.specs.Prelude.{◌≡◌, List, ℕ, ◌+◌, ◌*◌, ◌/◌, ◌%◌, ◌≤◌, ◌<◌, Float}
use Rattle.std.proofs.Common.{ap, ◌∙◌, subst, div-lt_iff_lt-mul, div-add-mod', mul-le-mul, mul-le-mul_right, mul_assoc, lit<}
use Rattle.std.proofs.Math.Nat.{mod-lt}
use native.Mathlib.Omega.{arith}
use Rattle.lists.specs.Tab.{times}
use Rattle.lists.specs.Digits.{in_row, pos_of}
use Rattle.lines.specs.Sums3x3.{zeros}
use Rattle.lines.specs.Lines.{line_sums, Line}
use Rattle.reports.specs.declared.seen.Seen.{Seen}
use Rattle.drift.specs.Loops.{look_line}
use Rattle.reports.specs.Loops.{nothing_seen}

-- Line e of a leg whose atoms stand `step` blocks apart: e counts the atoms of the two other legs and the direction of the first leg.
unfoldable pub first_nine : ℕ → ℕ → ℕ → ℕ
first_nine n step e = (e / 3 / step * (step * n) + e / 3 % step) * 3 + e % 3

unfoldable pub look_leg : ℕ → ℕ → ℕ → List Float → Seen → Seen
look_leg n step from xs c = times (n * n * 3) (λ e. look_line (from + e) (line_sums (first_nine n step e) (step * 3) n xs zeros)) c

-- the last leg, the middle one, the first
unfoldable pub scanned3 : ℕ → List Float → Seen
scanned3 n xs = look_leg n (n * n) (n * n * 6) xs (look_leg n n (n * n * 3) xs (look_leg n 1 0 xs nothing_seen))

-- a set of n atoms, and a leg of it
pub record Apart (n len step : ℕ) : Type 0 where
  pub outer : ℕ
  pub few : n ≤ 256
  pub squares : outer * step ≡ n * n
  pub long : len ≡ n * n * n * 27

pub square : (n : ℕ) → n ≤ 256 → n * n ≤ 65536
square n h = mul-le-mul h h

module _ {n len step : ℕ} (A : Apart n len step) (e : ℕ) (h : e < n * n * 3) where
  pair-below : e / 3 < A.outer * step
  pair-below = rw A.squares ((div-lt_iff_lt-mul (lit< tt)).1 h)

  pub step_pos : 0 < step
  step_pos = pos_of step A.outer (e / 3) pair-below

  outer_below : e / 3 / step < A.outer
  outer_below = (div-lt_iff_lt-mul step_pos).1 pair-below

  inner_below : e / 3 % step < step
  inner_below = mod-lt (e / 3) step_pos

  -- the block of the leg's atom k
  block_in : (k : ℕ) → k < n → (e / 3 / step * n + k) * step + e / 3 % step < n * n * n
  block_in k hk =
      let b = in_row (A.outer * n) step (e / 3 / step * n + k) (e / 3 % step) (in_row A.outer n (e / 3 / step) k outer_below hk) inner_below in
      let w : A.outer * n * step ≡ n * n * n = swap A.outer ∙ ap (λ s. s * n) A.squares in
      subst (λ (x : ℕ). (e / 3 / step * n + k) * step + e / 3 % step < x) w b
    where
      swap : (o : ℕ) → o * n * step ≡ o * step * n
      swap o = omega arith

  pub line_in : Line (first_nine n step e) (step * 3) n len
  unfolding first_nine
  line_in = record {
    within = λ k hk.
        let b = block_in k hk in
        let w : (e / 3 / step * (step * n) + e / 3 % step) * 3 + e % 3 + k * (step * 3) ≡ ((e / 3 / step * n + k) * step + e / 3 % step) * 3 + e % 3 = spread (e / 3 / step) (e / 3 % step) (e % 3) k in
        let d : e % 3 < 3 = mod-lt e (lit< tt) in
        rw (w, A.long) (inside ((e / 3 / step * n + k) * step + e / 3 % step) (e % 3) (n * n * n) b d);
  }
    where
      spread : (x y d k : ℕ) → (x * (step * n) + y) * 3 + d + k * (step * 3) ≡ ((x * n + k) * step + y) * 3 + d
      spread x y d k = omega arith

      inside : (b d c : ℕ) → b < c → d < 3 → (b * 3 + d) * 9 + 9 ≤ c * 27
      inside b d c p q = omega arith

  -- the numbers that are worked out are small
  pub first_small : (e / 3 / step * (step * n) + e / 3 % step < 33554432) × (step * n ≤ 16777216) × (step ≤ 65536)
  first_small =
      let s = square n A.few in
      let t : e / 3 < n * n = (div-lt_iff_lt-mul (lit< tt)).1 h in
      let q = div-add-mod' (e / 3) step in
      let p : step ≤ n * n = subst (λ (x : ℕ). step ≤ x) A.squares (one_of_lem A.outer (pos_of_outer outer_below)) in
      (reach (e / 3 / step) (e / 3 % step) (e / 3) q t, mul-le-mul (le_square p s) A.few, le_square p s)
    where
      pos_of_outer : {x o : ℕ} → x < o → 0 < o
      pos_of_outer l = omega arith

      one_of_lem : (o : ℕ) → 0 < o → step ≤ o * step
      one_of_lem o l = let w = mul-le-mul_right step l in omega arith

      le_square : {a b : ℕ} → a ≤ b → b ≤ 65536 → a ≤ 65536
      le_square a b = omega arith

      reach : (x y t : ℕ) → x * step + y ≡ t → t < n * n → x * (step * n) + y < 33554432
      reach x y t q l =
          let s = square n A.few in
          let f = A.few in
          let g : x * step ≤ 65535 = omega arith in
          let m : x * (step * n) ≤ 16776960 = subst (λ (z : ℕ). z ≤ 16776960) (mul_assoc x step n) (mul-le-mul g f) in
          omega arith
