-- The address rule and the read-out spelled out at second, third and fourth order, and the numbers of blocks. Assumes nothing.
use Rattle.std.specs.Prelude.{◌≡◌, ℕ, ◌+◌, ◌*◌, ◌≤◌, ◌<◌, List, [], ◌∷◌, map, length}
use Rattle.std.proofs.Math.Path.{refl}
use Rattle.std.proofs.Common.{mul-le-mul_left, mul-le-mul_right}
use native.Mathlib.Omega.{arith}
use Rattle.lists.specs.Elements.{Below}
use Rattle.lists.specs.Digits.{horner, times_power, horner-below}
use Rattle.tables.specs.Lengths.{set_length2, set_length3, set_length4}
use Rattle.tables.specs.Shifts.{Shifts, row, s2pp_at, nsym_at}
use Rattle.places.specs.Places.{address, size}

-- ---- how many numbers a set has: n_patom × n_satom^m blocks of 9, 27 or 81

module _ (S : Shifts) where
  pub size2 : size S 1 ≡ S.n_patom * S.n_satom * 9
  unfolding size
  size2 = set_length2 S.n_patom S.n_satom

  pub size3 : size S 2 ≡ S.n_patom * S.n_satom * S.n_satom * 27
  unfolding size
  size3 = set_length3 S.n_patom S.n_satom

  pub size4 : size S 3 ≡ S.n_patom * S.n_satom * S.n_satom * S.n_satom * 81
  unfolding size
  size4 = set_length4 S.n_patom S.n_satom

-- ---- addresses: p is the first leg's primitive atom, j, k, l are the other legs' atoms, a, b, c, d the directions

module _ (S : Shifts) (p j k l a b c d : ℕ) where
  pub address2 : address S ((p, a) ∷ (j, b) ∷ []) ≡ ((p * S.n_satom + j) * 3 + a) * 3 + b
  unfolding address horner
  address2 = refl

  pub address3 : address S ((p, a) ∷ (j, b) ∷ (k, c) ∷ []) ≡ ((((p * S.n_satom + j) * S.n_satom + k) * 3 + a) * 3 + b) * 3 + c
  unfolding address horner
  address3 = refl

  pub address4 : address S ((p, a) ∷ (j, b) ∷ (k, c) ∷ (l, d) ∷ [])
      ≡ ((((((p * S.n_satom + j) * S.n_satom + k) * S.n_satom + l) * 3 + a) * 3 + b) * 3 + c) * 3 + d
  unfolding address horner
  address4 = refl

  -- the same as a block's number and a position in the block
  pub address2-block : address S ((p, a) ∷ (j, b) ∷ []) ≡ horner S.n_satom p (j ∷ []) * 9 + (a * 3 + b)
  unfolding address horner
  address2-block = omega arith

  pub address3-block : address S ((p, a) ∷ (j, b) ∷ (k, c) ∷ []) ≡ horner S.n_satom p (j ∷ k ∷ []) * 27 + (a * 9 + b * 3 + c)
  unfolding address horner
  address3-block = omega arith

  pub address4-block : address S ((p, a) ∷ (j, b) ∷ (k, c) ∷ (l, d) ∷ [])
      ≡ horner S.n_satom p (j ∷ k ∷ l ∷ []) * 81 + (a * 27 + b * 9 + c * 3 + d)
  unfolding address horner
  address4-block = omega arith

-- ---- the read-out: the stored block's number for atoms (i, j), (i, j, k) or (i, j, k, l), and the directions' position in it

-- the number of the stored block: that of s2pp[i] and of where row nsym_list[i] sends the other atoms
unfoldable pub stored_block : Shifts → ℕ → List ℕ → ℕ
stored_block S i js = horner S.n_satom (s2pp_at S i) (map (row S (nsym_at S i)) js)

-- ---- block numbers are in bounds

-- the block of a first atom below m and of other atoms below n is one of m × n × … × n
pub block-below : (n m p : ℕ) (js : List ℕ) → p < m → Below n js → horner n p js < times_power n (length js) m
block-below n m p js h b = horner-below n m p js h b

-- with each atom at most 1,024 times as many
pub grown : (m b n a : ℕ) → b < m → a < n → n ≤ 1024 → b * n + a < m * 1024
grown m b n a hb ha hn = omega (arith, mul-le-mul_right n hb, mul-le-mul_left m hn)
