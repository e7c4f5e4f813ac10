-- A block of k + 1 legs, with its width as the program has it. Assumes nothing.
use Rattle.std.specs.Prelude.{◌≡◌, List, ℕ, suc, ◌^◌, Float}
use Rattle.std.proofs.Math.Path.{sym, ap}
use Rattle.std.proofs.Common.{◌∙◌, one-mul}
use Rattle.lists.specs.Digits.{room_power}
use Rattle.places.specs.Places.{in_block}
use Rattle.rotations.specs.Rotation.{coefficients, rotated, sums}
use Rattle.rotations.specs.Laws.{rotated_by}

powers : (k : ℕ) → 3 ^ suc k ≡ in_block k
unfolding in_block
powers k = sym (one-mul (3 ^ suc k)) ∙ sym (room_power 3 (suc k) 1)

-- the sums of a block with the coefficients of a matrix are the block rotated by it
pub rotated_in : {c r : List Float} (m : List Float) (k w : ℕ) (t : List Float) → in_block k ≡ w → c ≡ coefficients m (suc k) w → r ≡ sums w w w 0 c t
    → r ≡ rotated m (suc k) t
rotated_in {c} m k w t h ec er =
    let e : w ≡ 3 ^ suc k = sym (powers k ∙ h) in
    rotated_by m (suc k) t (ec ∙ ap (coefficients m (suc k)) e) (er ∙ ap (λ w. sums w w w 0 c t) e)
