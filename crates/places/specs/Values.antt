-- Values of the definitions: document 01's sheets 6 and 7. Assumes nothing.
use Rattle.std.specs.Prelude.{◌≡◌, refl, true, false, ℕ, [], ◌∷◌, map}
use Rattle.lists.specs.Tests.{every}
use Rattle.lists.specs.Elements.{pick}
use Rattle.lists.specs.Digits.{horner, rest, digits}
use Rattle.tables.specs.Shifts.{Shifts, row, p2s_at, s2pp_at, nsym_at, is_null}
use Rattle.tables.specs.Lengths.{set_length}
use Rattle.places.specs.Places.{shift, stored, legs_at, address, size, legs_of, place}
use Rattle.places.specs.Addresses.{stored_block}
use Rattle.places.specs.Moves.{source, stays, order}

-- sheet 6: three atoms that shifts turn in a ring
abbrev pub three : Shifts
three = record { n_satom = 3; n_patom = 1; num_trans = 3; perms = 0 ∷ 1 ∷ 2 ∷ 1 ∷ 2 ∷ 0 ∷ 2 ∷ 0 ∷ 1 ∷ []; p2s = 0 ∷ []; s2pp = 0 ∷ 0 ∷ 0 ∷ []; nsym_list = 0 ∷ 2 ∷ 1 ∷ [] }

-- the read-out of atoms (1, 0, 2) is the stored block (0, 2, 1), which is block 7
stored_102 : (a b c : ℕ) → stored three ((1, a) ∷ (0, b) ∷ (2, c) ∷ []) ≡ (0, a) ∷ (2, b) ∷ (1, c) ∷ []
unfolding stored shift row s2pp_at nsym_at
stored_102 a b c = refl

block_102 : stored_block three 1 (0 ∷ 2 ∷ []) ≡ 7
unfolding stored_block horner row s2pp_at nsym_at
block_102 = refl

-- at directions 0, 1, 2 it stands at address 7 * 27 + 5, and the place there is that block at those directions
address_102 : address three (stored three ((1, 0) ∷ (0, 1) ∷ (2, 2) ∷ [])) ≡ 194
unfolding address horner stored shift row s2pp_at nsym_at
address_102 = refl

place_194 : place three 2 194 ≡ (0, 0) ∷ (2, 1) ∷ (1, 2) ∷ []
unfolding place legs_of rest digits
place_194 = refl

-- at fourth order the read-out of atoms (2, 0, 1, 2) is the stored block (0, 1, 2, 0)
stored_2012 : (a b c d : ℕ) → stored three ((2, a) ∷ (0, b) ∷ (1, c) ∷ (2, d) ∷ []) ≡ (0, a) ∷ (1, b) ∷ (2, c) ∷ (0, d) ∷ []
unfolding stored shift row s2pp_at nsym_at
stored_2012 a b c d = refl

-- 9, 27 and 81 numbers for each of 3, 9 and 27 blocks
sizes : map (size three) (1 ∷ 2 ∷ 3 ∷ []) ≡ 27 ∷ 243 ∷ 2187 ∷ []
unfolding size set_length
sizes = refl

-- block (0, 1, 2) becomes the former block (0, 2, 1) with its first two directions exchanged; no row exchanges two atoms, so no block stays
source_012 : (a b c : ℕ) → source three (order 0) ((0, a) ∷ (1, b) ∷ (2, c) ∷ []) ≡ (0, b) ∷ (2, a) ∷ (1, c) ∷ []
unfolding source order pick legs_at stored shift row p2s_at s2pp_at nsym_at
source_012 a b c = refl

none_stays : map (stays three 0) (0 ∷ 1 ∷ 2 ∷ []) ≡ false ∷ false ∷ false ∷ []
unfolding stays is_null every row p2s_at nsym_at
none_stays = refl

-- sheet 7: two atoms that a shift exchanges: the blocks at atom 1 stay
abbrev pub pair : Shifts
pair = record { n_satom = 2; n_patom = 1; num_trans = 2; perms = 0 ∷ 1 ∷ 1 ∷ 0 ∷ []; p2s = 0 ∷ []; s2pp = 0 ∷ 0 ∷ []; nsym_list = 0 ∷ 1 ∷ [] }

one-stays : map (stays pair 0) (0 ∷ 1 ∷ []) ≡ false ∷ true ∷ []
unfolding stays is_null every row p2s_at nsym_at
one-stays = refl
