-- The read-out spelled out at second, third and fourth order: the stored block's number, at the position of the directions. Assumes nothing.
use Rattle.std.specs.Prelude.{◌≡◌, ℕ, ◌+◌, ◌*◌, ◌<◌, List, [], ◌∷◌, Float}
use Rattle.std.proofs.Math.Path.{sym, ap}
use Rattle.std.proofs.Common.{◌∙◌}
use native.Mathlib.Omega.{arith}
use Rattle.std.proofs.Math.ListN.{get_or}
use Rattle.std.specs.Float.{nan}
use Rattle.blocks.specs.Block.{block, get_or-block}
use Rattle.tables.specs.Shifts.{Shifts, row, s2pp_at, nsym_at}
use Rattle.places.specs.Places.{shift, stored, at, read_out}
use Rattle.places.specs.Addresses.{address2-block, address3-block, address4-block, stored_block}

module _ (S : Shifts) (set : List Float) (i j k l a b c d : ℕ) (ha : a < 3) (hb : b < 3) (hc : c < 3) (hd : d < 3) where
  pub read_out2 : read_out nan S set ((i, a) ∷ (j, b) ∷ []) ≡ get_or (block 9 (stored_block S i (j ∷ [])) set) (a * 3 + b) nan
  unfolding read_out at stored shift stored_block
  read_out2 =
      ap (λ q. get_or set q nan) (address2-block S (s2pp_at S i) (row S (nsym_at S i) j) 0 0 a b 0 0)
      ∙ sym (get_or-block 9 (stored_block S i (j ∷ [])) set (a * 3 + b) (omega arith))

  pub read_out3 : read_out nan S set ((i, a) ∷ (j, b) ∷ (k, c) ∷ [])
      ≡ get_or (block 27 (stored_block S i (j ∷ k ∷ [])) set) (a * 9 + b * 3 + c) nan
  unfolding read_out at stored shift stored_block
  read_out3 =
      ap (λ q. get_or set q nan) (address3-block S (s2pp_at S i) (row S (nsym_at S i) j) (row S (nsym_at S i) k) 0 a b c 0)
      ∙ sym (get_or-block 27 (stored_block S i (j ∷ k ∷ [])) set (a * 9 + b * 3 + c) (omega arith))

  pub read_out4 : read_out nan S set ((i, a) ∷ (j, b) ∷ (k, c) ∷ (l, d) ∷ [])
      ≡ get_or (block 81 (stored_block S i (j ∷ k ∷ l ∷ [])) set) (a * 27 + b * 9 + c * 3 + d) nan
  unfolding read_out at stored shift stored_block
  read_out4 =
      ap (λ q. get_or set q nan)
      (address4-block S (s2pp_at S i) (row S (nsym_at S i) j) (row S (nsym_at S i) k) (row S (nsym_at S i) l) a b c d)
      ∙ sym (get_or-block 81 (stored_block S i (j ∷ k ∷ l ∷ [])) set (a * 27 + b * 9 + c * 3 + d) (omega arith))
