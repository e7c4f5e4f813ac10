-- The block at the images of the atoms of a block, at fourth order: what is read, and that it is the definition's. Assumes nothing.
use Rattle.std.specs.Prelude.{◌≡◌, List, [], ◌∷◌, ℕ, ◌+◌, ◌*◌, ◌/◌, ◌%◌, ◌<◌, ℤ}
use Rattle.std.proofs.Math.Path.{refl}
use Rattle.std.proofs.Common.{◌∙◌, lit≤}
use Rattle.lists.specs.Digits.{times_power, rest, digits, room_pos, rest_below}
use Rattle.tables.specs.Limits.{limit4}
use Rattle.tables.specs.Conditions.{Readable, index_at, read}
use Rattle.tables.specs.Compact.{ShiftTables, shifts_of, TablesFit, p2s_is}
use Rattle.places.specs.ReadOuts.{Tables, tables, stored_in, stored_in_lem}
use Rattle.read_out.specs.Blocks.{block_of}
use Rattle.crystal.specs.Laws.{image_atoms, image_block}

module _ (T : ShiftTables) (F : TablesFit limit4 T) (b : ℕ) (h : b < times_power T.n_satom 3 T.n_patom) where
  abbrev n : ℕ
  n = T.n_satom

  pub satoms_pos : 0 < n
  satoms_pos = room_pos n 2 T.n_patom b h

  pub read-tables : Tables n T.s2pp T.nsym_list T.perms
  read-tables = tables limit4 T (lit≤ tt) F

  first_below : b / n / n / n < T.n_patom
  unfolding rest
  first_below = rest_below n 3 T.n_patom b h

  pub p2s-read : Readable T.p2s (b / n / n / n) × (index_at T.p2s (b / n / n / n) < n)
  p2s-read = read F.p2s-fit (b / n / n / n) first_below

  pub image_is : (operations : List ℤ) (r : ℕ) {q i x y z v : ℕ} → i ≡ index_at T.p2s (b / n / n / n) → x ≡ index_at operations (r * n + i)
      → y ≡ index_at operations (r * n + (b / n / n % n)) → z ≡ index_at operations (r * n + (b / n % n)) → v ≡ index_at operations (r * n + (b % n))
      → q ≡ stored_in n T.s2pp T.nsym_list T.perms x (y ∷ z ∷ v ∷ []) → q ≡ image_block (shifts_of T) 3 operations r b
  unfolding block_of image_atoms rest digits
  image_is operations r {x = x} {y = y} {z = z} {v = v} ei ex ey ez ev e =
      e ∙ stored_in_lem T x (y ∷ z ∷ v ∷ [])
      ∙ rw (ex, ey, ez, ev, ei, p2s_is T (b / n / n / n)) refl
