-- Blocks inside a set: those of some atoms, with k more atoms each, end before the set does. Assumes nothing.
use Rattle.std.specs.Prelude.{◌≡◌, ℕ, suc, ◌+◌, ◌*◌, ◌<◌, ◌≤◌}
use Rattle.std.proofs.Common.{sym, ap, ◌∙◌, subst, mul-le-mul_right, mul-le-mul_left, le_trans, mul_assoc, arith}
use Rattle.lists.specs.Digits.{times_power, room-mul, room-suc, room_is_pos}

-- the blocks of the atoms numbered t, with k more atoms, lie inside the set
abbrev pub BlocksIn : ℕ → ℕ → ℕ → ℕ → ℕ → Type 0
BlocksIn n w k t len = (t + 1) * times_power n k 1 * w ≤ len

pub inside_slab : (n w k t F len : ℕ) → t < F → len ≡ times_power n k F * w → BlocksIn n w k t len
inside_slab n w k t F len h e =
    let l : (t + 1) * times_power n k 1 ≤ F * times_power n k 1 = mul-le-mul_right (times_power n k 1) (omega arith) in
    subst (λ j. (t + 1) * times_power n k 1 * w ≤ j) (sym (e ∙ ap (λ r. r * w) (room-mul n k F))) (mul-le-mul_right w l)

pub inside-atom : (n w k t len i : ℕ) → i < n → BlocksIn n w (suc k) t len → BlocksIn n w k (t * n + i) len
inside-atom n w k t len i h l =
    let R = times_power n k 1 in
    let a : t * n + i + 1 ≤ (t + 1) * n = omega arith in
    let b : (t * n + i + 1) * R ≤ (t + 1) * n * R = mul-le-mul_right R a in
    let e : (t + 1) * times_power n (suc k) 1 ≡ (t + 1) * n * R = ap (λ r. (t + 1) * r) (room-suc n k) ∙ sym (mul_assoc (t + 1) n R) in
    le_trans (mul-le-mul_right w b) (subst (λ j. j * w ≤ len) e l)

pub inside-block : (n w t len : ℕ) → BlocksIn n w 0 t len → t * w + w ≤ len
unfolding times_power
inside-block n w t len l = let e : (t + 1) * 1 * w ≡ t * w + w = omega arith in subst (λ j. j ≤ len) e l

-- numbers of blocks are below the set's length
pub inside-small : (n w k t len : ℕ) → 0 < w → 0 < n → BlocksIn n w k t len → t < len
inside-small n w k t len hw hn l =
    let p : 1 ≤ times_power n k 1 = room_is_pos n k 1 hn (omega arith) in
    let a : (t + 1) * 1 ≤ (t + 1) * times_power n k 1 = mul-le-mul_left (t + 1) p in
    let b : (t + 1) * times_power n k 1 * 1 ≤ (t + 1) * times_power n k 1 * w = mul-le-mul_left ((t + 1) * times_power n k 1) hw in
    omega arith
