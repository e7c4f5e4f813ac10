-- The law of sequences for `swap_pairs_compact_fc4`, whose calls specs/SwapLists.antt makes a kind. Assumes nothing.
use Rattle.std.specs.Prelude.{◌≡◌, List, [], ◌∷◌, length, Float}
use Rattle.std.proofs.Common.{ap}
use Rattle.tables.specs.Compact.{ShiftTables, shifts_of}
use Rattle.places.specs.Places.{size}
use Rattle.places.specs.Permutations.{permute_legs}
use Rattle.orbits.specs.Exchanging.{exchanging}
use Rattle.transposes_fc4.specs.Swaps.{judged_swap}
use Rattle.transposes_fc4.proofs.GuardLaws.{swap-sound}
use Rattle.laws.specs.CallLists.{Own, Law}
use Rattle.laws.specs.TrueLists.{ask4}
use Rattle.laws.proofs.TrueListsLaws.{true_law}
use Rattle.laws.specs.SwapLists.{Swap, swaps, exchange_legs, four}

pub law-swaps : (T : ShiftTables) (set : List Float) (cs : List Swap) → length set ≡ size (shifts_of T) 3 → Own swaps T (length set) cs → Law swaps T set cs
law-swaps T =
    true_law 3 (λ (c : Swap). c.tables) (λ n (c : Swap). judged_swap n (length c.work) c.tables c.leg_a c.leg_b) (λ (c : Swap). (c.leg_a, c.leg_b))
    (λ f x y z w. f (x ∷ y ∷ z ∷ w ∷ [])) (λ (c : Swap). exchange_legs c.leg_a c.leg_b) ask4
    (λ n c e. swap-sound n (length c.work) c.tables c.leg_a c.leg_b e)
    (λ f xs l. ap f (four xs l))
    (λ c t xs l. ap (λ xs. ask4 t (permute_legs (exchanging 3 c.leg_a c.leg_b) xs)) (four xs l))
    T
