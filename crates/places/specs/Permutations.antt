-- Laws of permutations of legs, which Places defines as lists of positions: the legs x0, x1, x2 taken by 2, 0, 1 are x2, x0, x1. Assumes nothing.
use Rattle.std.specs.Prelude.{◌≡◌, refl, Bool, true, not, ◌&&◌, ◌||◌, ℕ, suc, ◌<◌, List, [], ◌∷◌, length, get_or, eqb, ltb}
use Rattle.std.proofs.Common.{◌∙◌, eqb-true, ne_eqb}
use Rattle.lists.specs.Tests.{every, every-at, says}
use Rattle.lists.specs.Tab.{tab}
use Rattle.lists.specs.Elements.{Below, pick, length-pick, all-pick, straight}
use Rattle.lists.specs.Members.{In, in_all, all_of, one_of, one_of_lem, alike, alike_true, alike_says, members_say}
use Rattle.tables.specs.Shifts.{Shifts}
use Rattle.places.specs.Places.{Leg, Fit, Legs}
pub use Rattle.places.specs.Places.{permute_legs}
unfoldable pub use Rattle.places.specs.Places.{perms2, perms3, perms4}

-- m + 1 positions below m + 1. That no position comes twice is not asked here; it holds of the three lists of Places, which are groups.
abbrev pub Permutation : ℕ → List ℕ → Type 0
Permutation m σ = (length σ ≡ suc m) × Below (suc m) σ

-- ---- each of the three lists is a group: one computed test each

-- m + 1 positions each, the permutation that changes nothing among them, one after another again one of them,
-- and from any of them to any other by one of them
unfoldable pub is_group : ℕ → List (List ℕ) → Bool
is_group m os =
    all_of (λ σ. eqb (length σ) (suc m) && all_of (λ k. ltb k (suc m)) σ) os
    && (one_of (alike (straight (suc m))) os && (all_of (λ σ. all_of (λ τ. one_of (alike (pick 0 σ τ)) os) os) os
    && all_of (λ ρ. all_of (λ τ. one_of (λ σ. alike (pick 0 σ τ) ρ) os) os) os))

pub record Group (m : ℕ) (os : List (List ℕ)) : Type 0 where
  pub each : (σ : List ℕ) → In σ os → Permutation m σ
  pub plain : In (straight (suc m)) os
  pub closed : (σ τ : List ℕ) → In σ os → In τ os → In (pick 0 σ τ) os
  pub solved : (ρ τ : List ℕ) → In ρ os → In τ os → (σ : List ℕ) × In σ os × (pick 0 σ τ ≡ ρ)

pub group : (m : ℕ) (os : List (List ℕ)) → is_group m os ≡ true → Group m os
unfolding is_group
group m os e =
    let (o, (p, (c, s))) = simp (says, members_say) at e in
    record {
      each = λ σ h. ((o σ h).0, in_all (λ k. k < suc m) σ (o σ h).1);
      plain = rw p.2 p.1;
      closed = λ σ τ h k. let (ρ, i, q) = c σ h τ k in rw q i;
      solved = λ ρ τ h k. s ρ h τ k;
    }

pub two-group : Group 1 perms2
unfolding perms2 is_group all_of one_of alike pick straight tab
two-group = group 1 perms2 refl

pub six-group : Group 2 perms3
unfolding perms3 is_group all_of one_of alike pick straight tab
six-group = group 2 perms3 refl

pub twenty_four_group : Group 3 perms4
unfolding perms4 is_group all_of one_of alike pick straight tab
twenty_four_group = group 3 perms4 refl

-- ---- each of the three lists has every order of its legs, and none twice: one computed test each

-- an order of three legs is three different positions
pub record Order3 (a b c : ℕ) : Type 0 where
  pub below : (a < 3) × (b < 3) × (c < 3)
  pub apart : (a ≡ b → ⊥) × (a ≡ c → ⊥) × (b ≡ c → ⊥)

pub record Order4 (a b c d : ℕ) : Type 0 where
  pub below : (a < 4) × (b < 4) × (c < 4) × (d < 4)
  pub apart : (a ≡ b → ⊥) × (a ≡ c → ⊥) × (a ≡ d → ⊥) × (b ≡ c → ⊥) × (b ≡ d → ⊥) × (c ≡ d → ⊥)

is_listed : (σ : List ℕ) (os : List (List ℕ)) → one_of (alike σ) os ≡ true → In σ os
is_listed σ os e = let (τ, i, q) = one_of_lem (alike σ) os e in rw (alike_true σ τ q) i

listed3 : ℕ → ℕ → ℕ → Bool
listed3 a b c = eqb a b || (eqb a c || (eqb b c || one_of (alike (a ∷ b ∷ c ∷ [])) perms3))

all-listed3 : every 3 (λ a. every 3 (λ b. every 3 (listed3 a b))) ≡ true
unfolding every listed3 one_of alike perms3
all-listed3 = refl

pub six-all : (a b c : ℕ) → Order3 a b c → In (a ∷ b ∷ c ∷ []) perms3
unfolding listed3
six-all a b c o =
    let (ha, hb, hc) = o.below in
    let (ab, ac, bc) = o.apart in
    let f = every-at 3 (listed3 a b) (every-at 3 (λ b. every 3 (listed3 a b)) (every-at 3 (λ a. every 3 (λ b. every 3 (listed3 a b))) all-listed3 a ha) b hb) c hc in
    is_listed (a ∷ b ∷ c ∷ []) perms3 (rw (ne_eqb a b ab, ne_eqb a c ac, ne_eqb b c bc) at f)

listed4 : ℕ → ℕ → ℕ → ℕ → Bool
listed4 a b c d = eqb a b || (eqb a c || (eqb a d || (eqb b c || (eqb b d || (eqb c d || one_of (alike (a ∷ b ∷ c ∷ d ∷ [])) perms4)))))

all-listed4 : every 4 (λ a. every 4 (λ b. every 4 (λ c. every 4 (listed4 a b c)))) ≡ true
unfolding every listed4 one_of alike perms4
all-listed4 = refl

pub twenty_four_all : (a b c d : ℕ) → Order4 a b c d → In (a ∷ b ∷ c ∷ d ∷ []) perms4
unfolding listed4
twenty_four_all a b c d o =
    let (ha, hb, hc, hd) = o.below in
    let (ab, ac, ad, bc, bd, cd) = o.apart in
    let f = every-at 4 (listed4 a b c) (every-at 4 (λ c. every 4 (listed4 a b c)) (every-at 4 (λ b. every 4 (λ c. every 4 (listed4 a b c)))
    (every-at 4 (λ a. every 4 (λ b. every 4 (λ c. every 4 (listed4 a b c)))) all-listed4 a ha) b hb) c hc) d hd in
    is_listed (a ∷ b ∷ c ∷ d ∷ []) perms4 (rw (ne_eqb a b ab, ne_eqb a c ac, ne_eqb a d ad, ne_eqb b c bc, ne_eqb b d bd, ne_eqb c d cd) at f)

-- no two entries of a list of permutations are the same
abbrev pub Once : List (List ℕ) → Type 0
Once os = (s t : ℕ) → s < length os → t < length os → get_or os s [] ≡ get_or os t [] → s ≡ t

differs : List (List ℕ) → ℕ → ℕ → Bool
differs os s t = not (alike (get_or os s []) (get_or os t [])) || eqb s t

once : (os : List (List ℕ)) → every (length os) (λ s. every (length os) (differs os s)) ≡ true → Once os
unfolding differs
once os e s t hs ht q =
    let f = every-at (length os) (differs os s) (every-at (length os) (λ s. every (length os) (differs os s)) e s hs) t ht in
    eqb-true s t (rw ((alike_says (get_or os s []) (get_or os t [])).1 q) at f)

pub two-once : Once perms2
unfolding every differs alike perms2
two-once = once perms2 refl

pub six-once : Once perms3
unfolding every differs alike perms3
six-once = once perms3 refl

pub twenty_four_once : Once perms4
unfolding every differs alike perms4
twenty_four_once = once perms4 refl

-- ---- permuted legs are legs

pub taken_legs : (S : Shifts) (m : ℕ) (σ : List ℕ) (xs : List Leg) → Permutation m σ → Legs S m xs → Legs S m (permute_legs σ xs)
taken_legs S m σ xs o p = (length-pick (0, 0) σ xs ∙ o.0, all-pick (0, 0) (Fit S) σ xs (rw p.0 o.1) p.1)
