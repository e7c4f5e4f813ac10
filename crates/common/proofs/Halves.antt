-- From the whole part s of the root of n to that of n * 4 ^ 27, by one division. Assumes nothing.
use mathlib.Core.Path.{◌≡◌, sym, ap, subst}
use Prim.Native.Nat.{ℕ, zero, suc, ◌+◌, ◌-◌, ◌*◌, ◌/◌, ◌%◌, ◌^◌, ◌≤◌, ◌<◌}
use native.Mathlib.Nat.{lt_of_le_of_lt, mul-le-mul, mul-le-mul_right, div-le_of_le-mul, div-add-mod', mod-lt, zero-lt-suc}
use native.Mathlib.Omega.{arith}
use Rattle.common.specs.Laws.Squares.{root_lt}

-- r = s * 2 ^ 27 + t, and n * 4 ^ 27 - r * r is u * 2 ^ 27 - t * t
below : (n s t u ρ : ℕ) → n ≡ s * s + ρ → ρ * 2 ^ 27 ≡ t * (2 * s) + u → t * t ≤ u * 2 ^ 27 → (s * 2 ^ 27 + t) * (s * 2 ^ 27 + t) ≤ n * 2 ^ 54
below n s t u ρ e f h = omega arith

above : (n s t u ρ : ℕ) → n ≡ s * s + ρ → ρ * 2 ^ 27 ≡ t * (2 * s) + u → u < 2 * s → n * 2 ^ 54 < (s * 2 ^ 27 + t + 1) * (s * 2 ^ 27 + t + 1)
above n s t u ρ e f h = omega arith

above_less : (n s t u ρ r : ℕ) → n ≡ s * s + ρ → ρ * 2 ^ 27 ≡ t * (2 * s) + u → u * 2 ^ 27 < t * t → r + 1 ≡ s * 2 ^ 27 + t → n * 2 ^ 54 < (r + 1) * (r + 1)
above_less n s t u ρ r e f h g = subst (λ (z : ℕ). n * 2 ^ 54 < z * z) (sym g) (go h)
  where
    go : u * 2 ^ 27 < t * t → n * 2 ^ 54 < (s * 2 ^ 27 + t) * (s * 2 ^ 27 + t)
    go h = omega arith

below_less : (n s t u ρ r : ℕ) → n ≡ s * s + ρ → ρ * 2 ^ 27 ≡ t * (2 * s) + u → 0 < t → t * t ≤ 2 ^ 54 → 2 ^ 26 ≤ s → r + 1 ≡ s * 2 ^ 27 + t → r * r ≤ n * 2 ^ 54
below_less n s t u ρ r e f T h S g = go (ap (λ (z : ℕ). z * z) g)
  where
    go : (r + 1) * (r + 1) ≡ (s * 2 ^ 27 + t) * (s * 2 ^ 27 + t) → r * r ≤ n * 2 ^ 54
    go k = omega arith

module _ (n s : ℕ) (lo : 2 ^ 52 ≤ n) (hi : n < 2 ^ 54) (a : s * s ≤ n) (b : n < (s + 1) * (s + 1)) where
  abbrev ρ : ℕ
  ρ = n - s * s

  abbrev t : ℕ
  t = ρ * 2 ^ 27 / (2 * s)

  abbrev u : ℕ
  u = ρ * 2 ^ 27 % (2 * s)

  pub s_ge : 2 ^ 26 ≤ s
  s_ge = omega (arith, root_lt (2 ^ 26) (s + 1) (lt_of_le_of_lt lo b))

  pub s_lt : s < 2 ^ 27
  s_lt = root_lt s (2 ^ 27) (lt_of_le_of_lt a hi)

  pub d_pos : 0 < 2 * s
  d_pos = omega (arith, s_ge)

  pub rest_le : ρ ≤ 2 * s
  rest_le = omega arith

  pub t_le : t ≤ 2 ^ 27
  t_le = div-le_of_le-mul (2 * s) (mul-le-mul_right (2 ^ 27) rest_le)

  pub square_le : t * t ≤ 2 ^ 54
  square_le = mul-le-mul t_le t_le

  pub u_lt : u < 2 * s
  u_lt = mod-lt (ρ * 2 ^ 27) d_pos

  n_is : n ≡ s * s + ρ
  n_is = omega arith

  w_is : ρ * 2 ^ 27 ≡ t * (2 * s) + u
  w_is = sym (div-add-mod' (ρ * 2 ^ 27) (2 * s))

  pub exact : t * t ≤ u * 2 ^ 27 → ((s * 2 ^ 27 + t) * (s * 2 ^ 27 + t) ≤ n * 2 ^ 54) × (n * 2 ^ 54 < (s * 2 ^ 27 + t + 1) * (s * 2 ^ 27 + t + 1))
  exact h = (below n s t u ρ n_is w_is h, above n s t u ρ n_is w_is u_lt)

  pub some : u * 2 ^ 27 < t * t → 0 < t
  some h = go t h
    where
      go : (t : ℕ) → u * 2 ^ 27 < t * t → 0 < t
      go zero h = omega arith
      go (suc k) h = zero-lt-suc k

  pub one_less : u * 2 ^ 27 < t * t
      → ((s * 2 ^ 27 + t - 1) * (s * 2 ^ 27 + t - 1) ≤ n * 2 ^ 54) × (n * 2 ^ 54 < (s * 2 ^ 27 + t - 1 + 1) * (s * 2 ^ 27 + t - 1 + 1))
  one_less h =
      let r = s * 2 ^ 27 + t - 1 in
      let g : r + 1 ≡ s * 2 ^ 27 + t = omega (arith, some h) in
      (below_less n s t u ρ r n_is w_is (some h) square_le s_ge g, above_less n s t u ρ r n_is w_is h g)
