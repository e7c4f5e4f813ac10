-- The grid of document 02, A.10: the multiples of 2^-20 from -2^20 to 2^20. -0.0 is the multiple 0, so it is on the grid.
-- A number on the grid is a count of steps of 2^-20, up or down. Assumes nothing.
use Rattle.std.specs.Prelude.{◌≡◌, refl, ◌⊎◌, Bool, true, false, not, ◌&&◌, ℕ, ◌+◌, ◌*◌, ◌/◌, ◌%◌, ◌^◌, ◌≤◌, ◌<◌, eqb, leb, Float, get_or, List}
use Rattle.std.proofs.Common.{sym, ap, ◌∙◌, inl, inr, div-add-mod', le_of_mul-le-mul_right, add-zero, arith, eqb-true, leb-true}
use Rattle.std.proofs.lemmas.Bool.{false≢true}
use Rattle.std.specs.Float.{nan, inf, fin}
use Rattle.std.specs.Float.Ieee.{up, down, neg}
use Rattle.std.specs.Float.Ieee.Exact.{HasValue}
use Rattle.std.specs.Float.Ieee.Fits.{down_pos}
use Rattle.lists.specs.Tests.{and_fst, and_snd, every}

-- x is a multiple of 2^-20 from -2^20 to 2^20
unfoldable pub on_grid : Float → Bool
on_grid nan = false
on_grid (inf s) = false
on_grid (fin s m e) = eqb (m * up e * 2 ^ 20 % down e) 0 && leb (m * up e) (2 ^ 20 * down e)

-- nine numbers on the grid: a block's
unfoldable pub nine_on_grid : List Float → Bool
nine_on_grid v = every 9 (λ k. on_grid (get_or v k nan))

-- how many steps x is up from 0, and how many down; one of them is 0
abbrev pub steps_up : Float → ℕ
steps_up nan = 0
steps_up (inf s) = 0
steps_up (fin true m e) = 0
steps_up (fin false m e) = m * up e * 2 ^ 20 / down e

abbrev pub steps_down : Float → ℕ
steps_down nan = 0
steps_down (inf s) = 0
steps_down (fin true m e) = m * up e * 2 ^ 20 / down e
steps_down (fin false m e) = 0

-- x is a steps up and b down; -0.0 counts
abbrev pub Steps : Float → ℕ → ℕ → Type 0
Steps x a b = (HasValue x false a (2 ^ 20) × (b ≡ 0)) ⊎ (HasValue x true b (2 ^ 20) × (a ≡ 0))

-- the same but for -0.0
abbrev pub Proper : Float → ℕ → ℕ → Type 0
Proper x a b = (HasValue x false a (2 ^ 20) × (b ≡ 0)) ⊎ (HasValue x true b (2 ^ 20) × (a ≡ 0) × (0 < b))

-- ---- laws

divided : (m d : ℕ) → m % d ≡ 0 → m ≡ m / d * d
divided m d e = sym (div-add-mod' m d) ∙ ap (λ r. m / d * d + r) e ∙ add-zero (m / d * d)

small : (n d k : ℕ) → 0 < d → n * 2 ^ 20 ≡ k * d → n ≤ 2 ^ 20 * d → k ≤ 2 ^ 40
small n d k h e b = le_of_mul-le-mul_right {k = d} (over e b) h
  where
    over : n * 2 ^ 20 ≡ k * d → n ≤ 2 ^ 20 * d → k * d ≤ 2 ^ 40 * d
    over e b = omega arith

pub grid-steps : (x : Float) → on_grid x ≡ true → Steps x (steps_up x) (steps_down x)
unfolding on_grid
grid-steps nan e = absurd (false≢true e)
grid-steps (inf s) e = absurd (false≢true e)
grid-steps (fin true m e) g = inr ((refl, divided (m * up e * 2 ^ 20) (down e) (eqb-true _ _ (and_fst (eqb (m * up e * 2 ^ 20 % down e) 0) _ g))), refl)
grid-steps (fin false m e) g = inl ((refl, divided (m * up e * 2 ^ 20) (down e) (eqb-true _ _ (and_fst (eqb (m * up e * 2 ^ 20 % down e) 0) _ g))), refl)

pub grid-few : (x : Float) → on_grid x ≡ true → (steps_up x ≤ 2 ^ 40) × (steps_down x ≤ 2 ^ 40)
unfolding on_grid
grid-few nan e = absurd (false≢true e)
grid-few (inf s) e = absurd (false≢true e)
grid-few (fin true m e) g = (
  omega arith,
  small (m * up e) (down e) (m * up e * 2 ^ 20 / down e) (down_pos e) (divided (m * up e * 2 ^ 20) (down e) (eqb-true _ _ (and_fst (eqb (m * up e * 2 ^ 20 % down e) 0) _ g)))
      (leb-true (m * up e) (2 ^ 20 * down e) (and_snd (eqb (m * up e * 2 ^ 20 % down e) 0) _ g)),
)
grid-few (fin false m e) g = (
  small (m * up e) (down e) (m * up e * 2 ^ 20 / down e) (down_pos e) (divided (m * up e * 2 ^ 20) (down e) (eqb-true _ _ (and_fst (eqb (m * up e * 2 ^ 20 % down e) 0) _ g)))
      (leb-true (m * up e) (2 ^ 20 * down e) (and_snd (eqb (m * up e * 2 ^ 20 % down e) 0) _ g)),
  omega arith,
)

pub neg_steps : (x : Float) (a b : ℕ) → Steps x a b → Steps (neg x) b a
unfolding neg
neg_steps nan a b (inl h) = absurd h.0
neg_steps nan a b (inr h) = absurd h.0
neg_steps (inf s) a b (inl h) = absurd h.0
neg_steps (inf s) a b (inr h) = absurd h.0
neg_steps (fin s m e) a b (inl h) = inr ((ap not h.0.0, h.0.1), h.1)
neg_steps (fin s m e) a b (inr h) = inl ((ap not h.0.0, h.0.1), h.1)
