-- What the loops see, operation by operation and block by block, are the deviations of the definition, one after another. Assumes nothing.
use Rattle.std.specs.Prelude.{◌≡◌, refl, List, ℤ, Float}
use Rattle.std.proofs.Math.Path.{sym, ap, ap₂}
use Rattle.std.proofs.Common.{◌∙◌}
use Prim.Native.Nat.{ℕ, suc, ◌+◌, ◌*◌, ◌/◌, ◌%◌, ◌<◌}
use native.Mathlib.Omega.{arith}
use Rattle.std.proofs.Math.ListN.{get_or}
use Rattle.std.proofs.lemmas.List.{length-map}
use Rattle.std.specs.Float.Ieee.{nan, sub, binary64}
use Rattle.lists.specs.Tab.{times, times-same, times_nest}
use Rattle.lists.specs.Digits.{times_power, rest, digits, length_digits, rest_div, quotient, remainder}
use Rattle.blocks.specs.Block.{block, length-block, get_or-block}
use Rattle.tables.specs.Shifts.{Shifts}
use Rattle.places.specs.Places.{read_out, size, in_block}
use Rattle.orbits.specs.Transposed.{size_blocks}
use Rattle.rotations.specs.Rotation.{rotated}
use Rattle.read_out.specs.Blocks.{read_at_lem}
use Rattle.reports.specs.declared.seen.Seen.{Seen}
use Rattle.reports.specs.Loops.{look, look_at, nothing_seen}
use Rattle.reports.specs.Seen.{rows-looked, look-same}
use Rattle.crystal.specs.Crystal.{image, image_legs, deviation, deviation_at}
use Rattle.crystal.specs.Laws.{image_atoms, image_block, images_legs, block_seen, operation_seen, all_seen}

module _ (S : Shifts) (m : ℕ) (r_carts : List Float) (operations : List ℤ) (set : List Float) where
  abbrev w : ℕ
  w = in_block m

  images-read : (r q : ℕ) → read_out nan S set (image_legs S m r_carts operations set r q) ≡ get_or set (image_block S m operations r (q / w) * w + q % w) nan
  unfolding image_atoms in_block
  images-read r q =
      let b = rest 3 (suc m) q in
      let n = S.n_satom in
      ap (read_out nan S set) (images_legs S m r_carts operations set r q)
      ∙ read_at_lem nan S set m q (image_atoms S m operations r b) (ap suc (length-map (digits n m b) (image n operations r) ∙ length_digits n m b))
      ∙ ap (λ b. get_or set (image_block S m operations r b * w + q % w) nan) (rest_div 3 (suc m) q)

  -- position k of block b
  pub deviation-block : (r b k : ℕ) → k < w
      → deviation S m r_carts operations set r (b * w + k) ≡ sub binary64 (get_or (block w (image_block S m operations r b) set) k nan) (get_or (rotated (block 9 r r_carts) (suc m) (block w b set)) k nan)
  unfolding deviation
  deviation-block r b k h =
      let eb = quotient w b k h in
      let ek = remainder w b k h in
      ap₂ (λ x y. sub binary64 x y)
      (images-read r (b * w + k) ∙ ap₂ (λ b k. get_or set (image_block S m operations r b * w + k) nan) eb ek ∙ sym (get_or-block w (image_block S m operations r b) set k h))
      (ap₂ (λ b k. get_or (rotated (block 9 r r_carts) (suc m) (block w b set)) k nan) eb ek)

  -- all blocks under operation r
  pub operation_seen_lem : (n r : ℕ) → n ≡ times_power S.n_satom m S.n_patom → (s : Seen) → operation_seen S m r_carts operations set w n r s ≡ look_at (r * size S m) (size S m) (λ q. deviation S m r_carts operations set r q) s
  unfolding operation_seen block_seen look_at
  operation_seen_lem n r en s =
      let F : ℕ → Seen → Seen = λ q. look (r * size S m + q) (deviation S m r_carts operations set r q) in
      let e : n * w ≡ size S m = ap (λ n. n * w) en ∙ sym (size_blocks S m) in
      times-same n _ _ s (λ b hb t.
      ap (λ l. look_at (r * size S m + b * w) l (λ k. sub binary64 (get_or (block w (image_block S m operations r b) set) k nan) (get_or (rotated (block 9 r r_carts) (suc m) (block w b set)) k nan)) t) (length-block w (image_block S m operations r b) set)
      ∙ times-same w _ _ t (λ k hk u.
      let v : r * size S m + b * w + k ≡ r * size S m + (b * w + k) = omega arith in
      ap₂ (λ z x. look z x u) v (sym (deviation-block r b k hk))))
      ∙ sym (times_nest n w F s) ∙ ap (λ z. times z F s) e

  -- all operations
  pub operations_seen : (num_rot n : ℕ) → n ≡ times_power S.n_satom m S.n_patom → {c : Seen} → c ≡ times num_rot (operation_seen S m r_carts operations set w n) nothing_seen → c ≡ all_seen S m r_carts operations set num_rot
  unfolding all_seen
  operations_seen num_rot n en e =
      e ∙ rows-looked num_rot (size S m) (deviation_at S m r_carts operations set) (operation_seen S m r_carts operations set w n) nothing_seen (λ r hr c.
      operation_seen_lem n r en c
      ∙ look-same (r * size S m) (size S m) _ _ c (λ q hq.
      ap₂ (deviation S m r_carts operations set) (sym (quotient (size S m) r q hq)) (sym (remainder (size S m) r q hq))))

  -- the same with the width of a block as the program has it
  pub operations_seen-w : (c : ℕ) → in_block m ≡ c → (num_rot : ℕ) {s : Seen} → s ≡ times num_rot (operation_seen S m r_carts operations set c (times_power S.n_satom m S.n_patom)) nothing_seen → s ≡ all_seen S m r_carts operations set num_rot
  operations_seen-w c ec num_rot e =
      operations_seen num_rot (times_power S.n_satom m S.n_patom) refl (e ∙ ap (λ c. times num_rot (operation_seen S m r_carts operations set c (times_power S.n_satom m S.n_patom)) nothing_seen) (sym ec))
