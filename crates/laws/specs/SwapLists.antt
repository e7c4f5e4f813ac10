-- The law of sequences for `swap_pairs_compact_fc4`: any list of calls, refused ones among them, acts as the order of four pairs that it spells.
-- Assumes nothing.
use Rattle.std.specs.Prelude.{◌≡◌, refl, ℕ, List, [], ◌∷◌, pos, length, get_or, Float}
use Rattle.lists.specs.Tab.{tab, tab_from}
use Rattle.lists.specs.Elements.{pick, straight, pick-straight}
use Rattle.tables.specs.Answers.{is_refusal}
use Rattle.tables.specs.Compact.{ShiftTables, judged_entries, judged_tables, judged_compact}
use Rattle.places.specs.Places.{Leg}
use Rattle.places.specs.Permutations.{permute_legs}
use Rattle.orbits.specs.Exchanging.{partner, exchanging}
use Rattle.orbits.specs.TrueTransposes.{legs4, true_transpose, true_transpose_compact_fc4}
use Rattle.transposes_fc4.specs.Swaps.{judged_swap, swap_pairs_compact_fc4}
use Rattle.laws.specs.CallLists.{Kind}
use Rattle.laws.specs.TrueLists.{true_kind, Plain4, ask4}

-- a call, by its arguments besides the set
pub record Swap : Type 0 where
  pub leg_a : ℕ
  pub leg_b : ℕ
  pub tables : ShiftTables
  pub work : List ℕ

-- the number at four pairs is the one that stood at these pairs with pairs a and b exchanged
abbrev pub exchange_legs : ℕ → ℕ → Plain4 → Plain4
exchange_legs a b t x y z w = ask4 t (permute_legs (exchanging 3 a b) (x ∷ y ∷ z ∷ w ∷ []))

-- that is, of the six swaps
pub six-swaps : (t : Plain4) (x y z w : Leg) → (exchange_legs 0 1 t x y z w ≡ t y x z w) × (exchange_legs 0 2 t x y z w ≡ t z y x w) × (exchange_legs 0 3 t x y z w ≡ t w y z x)
    × (exchange_legs 1 2 t x y z w ≡ t x z y w) × (exchange_legs 1 3 t x y z w ≡ t x w z y) × (exchange_legs 2 3 t x y z w ≡ t x y w z)
unfolding exchanging partner pick tab tab_from
six-swaps t x y z w = (refl, refl, refl, refl, refl, refl)

-- the same with the legs named falling, and with equal legs
pub falling-swaps : (t : Plain4) (x y z w : Leg) → (exchange_legs 1 0 t x y z w ≡ t y x z w) × (exchange_legs 2 0 t x y z w ≡ t z y x w) × (exchange_legs 3 0 t x y z w ≡ t w y z x)
    × (exchange_legs 2 1 t x y z w ≡ t x z y w) × (exchange_legs 3 1 t x y z w ≡ t x w z y) × (exchange_legs 3 2 t x y z w ≡ t x y w z)
unfolding exchanging partner pick tab tab_from
falling-swaps t x y z w = (refl, refl, refl, refl, refl, refl)

pub equal_swaps : (t : Plain4) (x y z w : Leg) → (exchange_legs 0 0 t x y z w ≡ t x y z w) × (exchange_legs 1 1 t x y z w ≡ t x y z w)
    × (exchange_legs 2 2 t x y z w ≡ t x y z w) × (exchange_legs 3 3 t x y z w ≡ t x y z w)
unfolding exchanging partner pick tab tab_from
equal_swaps t x y z w = (refl, refl, refl, refl)

abbrev pub swaps : Kind Swap Plain4
swaps = true_kind 3 (λ (c : Swap). c.tables) (λ n (c : Swap). judged_swap n (length c.work) c.tables c.leg_a c.leg_b) (λ (c : Swap). (c.leg_a, c.leg_b))
    (λ f x y z w. f (x ∷ y ∷ z ∷ w ∷ [])) (λ (c : Swap). exchange_legs c.leg_a c.leg_b) ask4

-- what its calls leave, and whether they are refused, is what the definition of the call says
pub swaps_are : (c : Swap) (set : List Float) → swaps.left_by c set ≡ (swap_pairs_compact_fc4 set c.tables c.work c.leg_a c.leg_b).1
unfolding swap_pairs_compact_fc4
swaps_are c set = refl

pub swaps_refuse : (c : Swap) (set : List Float) → swaps.refused (length set) c ≡ is_refusal (swap_pairs_compact_fc4 set c.tables c.work c.leg_a c.leg_b).0
unfolding swap_pairs_compact_fc4
swaps_refuse c set = refl

-- the true transpose of type 0 is the swap of legs 0 and 1
pub legs_0_1 : (set : List Float) (T : ShiftTables) (work : List ℕ) → swap_pairs_compact_fc4 set T work 0 1 ≡ true_transpose_compact_fc4 set T work (pos 0)
unfolding swap_pairs_compact_fc4 judged_swap true_transpose_compact_fc4 true_transpose legs4 judged_compact judged_tables judged_entries
legs_0_1 set T work = refl

pub four : (xs : List Leg) → length xs ≡ 4 → get_or xs 0 (0, 0) ∷ get_or xs 1 (0, 0) ∷ get_or xs 2 (0, 0) ∷ get_or xs 3 (0, 0) ∷ [] ≡ xs
unfolding pick straight tab tab_from
four xs l = pick-straight (0, 0) 4 xs l
