-- The loops make the closed form of the target slab. Assumes nothing.
use Rattle.std.specs.Prelude.{◌≡◌, ℤ}
use Rattle.std.proofs.Common.{◌∙◌}
use mathlib.Core.List.{List}
use Prim.Native.Nat.{ℕ, suc, ◌*◌, ◌^◌, ◌<◌}
use Rattle.std.proofs.Math.ListN.{length}
use Rattle.std.specs.Float.Ieee.{Float}
use Rattle.lists.specs.Digits.{times_power}
use Rattle.rotations.specs.Rotation.{rotated}
use Rattle.tables.specs.Conditions.{index_at}
use Rattle.distribute.specs.Slab.{distributed, move}
use Rattle.distribute.specs.SlabLaws.{slab_moved, slab_distributed}

-- the loops over the atoms fill the target slab with rotated blocks
pub loops_distribute : (mapping : List ℤ) (rotation : List Float) (n k target source F : ℕ) (fc : List Float) → 0 < 3 ^ suc k
    → ((i : ℕ) → i < n → index_at mapping i < n) → length fc ≡ times_power n k F * 3 ^ suc k → target < F → source < F → (target ≡ source → ⊥)
    → move mapping n (3 ^ suc k) (rotated rotation (suc k)) k target source fc ≡ distributed mapping rotation n k target source fc
loops_distribute mapping rotation n k target source F fc hw images len ht hs ne =
    slab_moved mapping n (3 ^ suc k) k target source F (rotated rotation (suc k)) fc images len ht hs ne hw
    ∙ slab_distributed mapping rotation n k target source F fc hw len
