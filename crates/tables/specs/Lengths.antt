-- How many numbers a set has, said once for every order: numFirst first atoms, k more atoms of n each, and three directions for each of the
-- k + 1. Second, third and fourth order are k = 1, 2, 3; a full set has numFirst = n. The laws say it in the two other ways that are needed:
-- factor by factor (`times_power`), as addresses are counted, and as the products that document 01 writes and the code computes. Assumes nothing.
use Rattle.std.specs.Prelude.{◌≡◌}
use Rattle.std.proofs.Math.Path.{sym, ap}
use Rattle.std.proofs.Common.{ap₂, ◌∙◌, one-mul, mul_comm, pow-suc, arith}
use Prim.Native.Nat.{ℕ, suc, ◌*◌, ◌^◌}
use Rattle.lists.specs.Digits.{times_power, room_power}

-- the blocks
unfoldable pub set_blocks : ℕ → ℕ → ℕ → ℕ
set_blocks num_first n k = num_first * n ^ k

-- the numbers
unfoldable pub set_length : ℕ → ℕ → ℕ → ℕ
set_length num_first n k = num_first * n ^ k * 3 ^ suc k

module _ (p n k : ℕ) where
  pub block_rooms : set_blocks p n k ≡ times_power n k p
  unfolding set_blocks
  block_rooms = sym (room_power n k p)

  -- so many blocks of 3^(k + 1) numbers
  pub set-blocks : set_length p n k ≡ times_power n k p * 3 ^ suc k
  unfolding set_length
  set-blocks = ap (λ x. x * 3 ^ suc k) (sym (room_power n k p))

  pub set_rooms : set_length p n k ≡ times_power 3 (suc k) (times_power n k p)
  set_rooms = set-blocks ∙ sym (room_power 3 (suc k) (times_power n k p))

-- the slab of one first atom: n^k blocks, each with 3^k numbers for each direction of the first atom
pub slab_length : (n k : ℕ) → set_length 1 n k ≡ n ^ k * (3 * 3 ^ k)
unfolding set_length
slab_length n k = ap₂ (λ x y. x * y) (one-mul (n ^ k)) (pow-suc 3 k ∙ mul_comm (3 ^ k) 3)

module _ (p n : ℕ) where
  pub set_length2 : set_length p n 1 ≡ p * n * 9
  set_length2 = set_rooms p n 1 ∙ (unfold times_power in omega arith)

  pub set_length3 : set_length p n 2 ≡ p * n * n * 27
  set_length3 = set_rooms p n 2 ∙ (unfold times_power in omega arith)

  pub set_length4 : set_length p n 3 ≡ p * n * n * n * 81
  set_length4 = set_rooms p n 3 ∙ (unfold times_power in omega arith)

  pub set_blocks4 : set_blocks p n 3 ≡ p * n * n * n
  set_blocks4 = block_rooms p n 3 ∙ (unfold times_power in omega arith)
