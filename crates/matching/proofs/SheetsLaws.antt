-- The law of document 02, A.3, used on a sheet. Assumes nothing.
use Rattle.std.specs.Prelude.{Ok, ◌≡◌, refl, [], ◌∷◌, ℤ}
use Rattle.std.proofs.Common.{inl, not-suc-le-zero, lit<}
use Rattle.std.specs.Float.{nan}
use Rattle.std.specs.Float.Ieee.{of_bits, add, sub, mul, lt, is_nan, round}
use Rattle.lists.specs.Tab.{times}
use Rattle.common.specs.Whole.{nearest_whole}
use Rattle.common.specs.Root.{sqrt}
use Rattle.distances.specs.Near.{squares, distance2, distance}
use Rattle.matching.specs.declared.cells.Matching.TheVariants.{NoNumber}
use Rattle.matching.specs.Matching.{placed_to, judged_matching, compute_permutation}
use Rattle.matching.proofs.Named.{names-first}
use Rattle.matching.specs.Sheets.{zero64, eighth, unit_cell, at_x}

-- By the law: the pair of position 1, whose distance is no number either, cannot be named.
pub not_the_second : (old old' : ℤ)
    → (compute_permutation (old ∷ old' ∷ []) (unit_cell eighth) (at_x zero64 (at_x nan [])) (at_x nan (at_x zero64 [])) 2).0 ≡ Ok (NoNumber (record { position = 1; slot = 0 })) → ⊥
unfolding judged_matching placed_to times distance distance2 squares of_bits add sub mul lt is_nan nearest_whole sqrt round
not_the_second old old' e =
    (names-first (old ∷ old' ∷ []) (unit_cell eighth) (at_x zero64 (at_x nan [])) (at_x nan (at_x zero64 [])) 2 refl (record { position = 1; slot = 0 }) e).first 0 0
    (record { position = lit< tt; slot = lit< tt; free = refl; none-lower = λ k h. absurd (not-suc-le-zero h) }) (inl (lit< tt)) refl
