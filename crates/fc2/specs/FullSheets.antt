-- Sheets 3 and 4 of document 01, of the full symmetrizer's definition. Assumes nothing.
use Rattle.std.specs.Prelude.{Ok, ◌≡◌, refl, List, [], ◌∷◌, ℕ, ◌≤◌, length, get_or, replicate, Float}
use Rattle.std.proofs.Common.{ap, ◌∙◌, lit≤}
use Rattle.std.specs.Float.{nan, binary64}
use Rattle.std.specs.Float.Ieee.{add, div, neg, of_bits}
use Rattle.lists.specs.Tab.{tab, tab_from, times}
use Rattle.blocks.specs.Block.{block}
use Rattle.tables.specs.Lengths.{set_length}
use Rattle.lists.specs.Digits.{horner, rest, digits}
use Rattle.places.specs.Places.{address, size, legs_of, place, at, fill as fillPlaces}
use Rattle.places.specs.WholeLaws.{full_shifts}
use Rattle.lists.specs.Floats.{plus_zero}
use Rattle.lines.specs.Sums3x3.{half}
use Rattle.blocks.specs.Block9.{nine, across_diagonal}
use Rattle.fc2.specs.Full.{fill_full, full_entry, off_site_sum, on_site_blocks, symmetrized_full, perm_trans_symmetrize_fc}
use Rattle.fc2.specs.FullWorkLaws.{call_within}

-- -0.0, 2.0, 4.0 and -3.0
abbrev minus_zero : Float
minus_zero = of_bits binary64 0x8000_0000_0000_0000

abbrev two : Float
two = of_bits binary64 0x4000_0000_0000_0000

abbrev four : Float
four = of_bits binary64 0x4010_0000_0000_0000

abbrev minus_three : Float
minus_three = of_bits binary64 0xC008_0000_0000_0000

one-atom : (level : ℕ) (xs : List Float) → symmetrized_full 1 level xs ≡ replicate 9 minus_zero
unfolding symmetrized_full on_site_blocks fill_full fillPlaces full_shifts place legs_of rest digits size set_length tab tab_from off_site_sum times of_bits div neg add
one-atom level xs = refl

-- 3: one atom, any level that is not refused, whatever the set holds: nine times -0.0
pub sheet3 : (level : ℕ) (xs : List Float) → level ≤ 1000 → length xs ≡ 9 → perm_trans_symmetrize_fc xs 1 level ≡ (Ok tt, replicate 9 minus_zero)
sheet3 level xs h e = call_within xs 1 level (lit≤ tt) h e ∙ ap (λ l. (Ok tt, l)) (one-atom level xs)

-- block (0, 0) of two atoms at level 0, from block (0, 1)
from_other : List Float → List Float
from_other b = nine (λ p. half (neg (add binary64 (add binary64 plus_zero (get_or b p nan)) (add binary64 plus_zero (get_or b (across_diagonal p) nan)))))

from-other : (xs : List Float) → block 9 0 (symmetrized_full 2 0 xs) ≡ from_other (block 9 1 xs)
unfolding from_other block symmetrized_full on_site_blocks fill_full fillPlaces full_shifts place legs_of rest digits size set_length tab tab_from off_site_sum times full_entry at address horner
from-other xs = refl

abbrev sheet4-given : List Float
sheet4-given = plus_zero ∷ two ∷ plus_zero ∷ four ∷ plus_zero ∷ plus_zero ∷ plus_zero ∷ plus_zero ∷ plus_zero ∷ []

abbrev sheet4_wanted : List Float
sheet4_wanted = minus_zero ∷ minus_three ∷ minus_zero ∷ minus_three ∷ minus_zero ∷ minus_zero ∷ minus_zero ∷ minus_zero ∷ minus_zero ∷ []

sums4 : from_other sheet4-given ≡ sheet4_wanted
unfolding from_other of_bits div neg add
sums4 = refl

-- 4: level 0 on two atoms, where block (0, 1) has 2 at [0][1], 4 at [1][0] and else zeros, the other blocks anything: block (0, 0) is -3 there, else -0.0
pub sheet4 : (xs : List Float) → length xs ≡ 36 → block 9 1 xs ≡ sheet4-given
    → ((perm_trans_symmetrize_fc xs 2 0).0 ≡ Ok tt) × (block 9 0 (perm_trans_symmetrize_fc xs 2 0).1 ≡ sheet4_wanted)
sheet4 xs e g =
    let c = call_within xs 2 0 (lit≤ tt) (lit≤ tt) e in
    (ap (λ r. r.0) c, ap (λ r. block 9 0 r.1) c ∙ from-other xs ∙ ap from_other g ∙ sums4)
