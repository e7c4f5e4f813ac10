-- Values of the definitions on small tables, by computation. Assumes nothing.
use Rattle.std.specs.Prelude.{◌≡◌, refl, List, [], ◌∷◌, ℕ, replicate, Float}
use Rattle.std.specs.Float.{binary64}
use Rattle.std.specs.Float.Ieee.{of_bits, neg, add, div}
use Rattle.lists.specs.Tab.{tab, times}
use Rattle.lists.specs.Tests.{every}
use Rattle.lists.specs.Elements.{pick}
use Rattle.lists.specs.Digits.{horner, rest, digits}
use Rattle.tables.specs.Shifts.{Shifts, row, p2s_at, s2pp_at, nsym_at, is_null}
use Rattle.tables.specs.Lengths.{set_length}
use Rattle.places.specs.Places.{shift, stored, legs_at, address, size, legs_of, place, fill, at}
use Rattle.places.specs.Moves.{source, stays, traded, transposed2}
use Rattle.places.specs.Values.{pair, three}
use Rattle.fc2_compact.specs.Passes.{on_site, off_site_sum_compact}
use Rattle.fc2_compact.specs.Compact.{symmetrized_compact}

-- two atoms, rows 0 1 / 1 0: block (0, 0) is transposed, the half-shift block (0, 1) stays
half-shift : transposed2 0 pair (tab 18 (λ k. k))
    ≡ 0 ∷ 3 ∷ 6 ∷ 1 ∷ 4 ∷ 7 ∷ 2 ∷ 5 ∷ 8 ∷ 9 ∷ 10 ∷ 11 ∷ 12 ∷ 13 ∷ 14 ∷ 15 ∷ 16 ∷ 17 ∷ []
unfolding transposed2 traded fill tab place legs_of rest digits size set_length stays is_null every row p2s_at s2pp_at nsym_at at address horner source stored legs_at shift pick
half-shift = refl

-- three atoms that shifts turn in a ring: blocks (0, 1) and (0, 2) change places, transposed
third-shift : transposed2 0 three (tab 27 (λ k. k))
    ≡ 0 ∷ 3 ∷ 6 ∷ 1 ∷ 4 ∷ 7 ∷ 2 ∷ 5 ∷ 8
    ∷ 18 ∷ 21 ∷ 24 ∷ 19 ∷ 22 ∷ 25 ∷ 20 ∷ 23 ∷ 26
    ∷ 9 ∷ 12 ∷ 15 ∷ 10 ∷ 13 ∷ 16 ∷ 11 ∷ 14 ∷ 17 ∷ []
unfolding transposed2 traded fill tab place legs_of rest digits size set_length stays is_null every row p2s_at s2pp_at nsym_at at address horner source stored legs_at shift pick
third-shift = refl

-- one atom, whatever the set and the level: nine times -0.0
one : Shifts
one = record { n_satom = 1; n_patom = 1; num_trans = 1; perms = 0 ∷ []; p2s = 0 ∷ []; s2pp = 0 ∷ []; nsym_list = 0 ∷ [] }

one-atom : (level : ℕ) (set : List Float) → symmetrized_compact one level set ≡ replicate 9 (of_bits binary64 0x8000_0000_0000_0000)
unfolding one symmetrized_compact on_site off_site_sum_compact fill tab times place legs_of rest digits size set_length p2s_at of_bits div neg add
one-atom level set = refl
