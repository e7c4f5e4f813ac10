-- A walk over the blocks of a set passes a block if that is alike where all before it are: because its group has an earlier block. For every rank at once.
-- Assumes nothing.
use Rattle.std.specs.Prelude.{◌≡◌, List, ℕ, zero, suc, ◌+◌, ◌<◌, Float}
use Rattle.std.proofs.Common.{subst, arith}
use Rattle.lists.specs.Members.{In}
use Rattle.lists.specs.Digits.{times_power}
use Rattle.tables.specs.Shifts.{Shifts, Laws}
use Rattle.places.specs.Permutations.{Group}
use Rattle.orbits.specs.Transposed.{counterpart}
use Rattle.audits.proofs.EarlierLaws.{earlier_tells}
use Rattle.audits.specs.Blocks.{AlikeTo, alike-more}

-- ---- one block

-- it is alike if all before it are
abbrev pub Passes : Shifts → ℕ → List (List ℕ) → List Float → ℕ → Type 0
Passes S m os set b = AlikeTo S m os set b → AlikeTo S m os set (b + 1)

module _ (S : Shifts) (L : Laws S) (m : ℕ) (os : List (List ℕ)) (G : Group m os) (set : List Float) (b : ℕ) (hb : b < times_power S.n_satom m S.n_patom) where
  -- its group has an earlier block
  pub pass-later : (σ : List ℕ) → In σ os → counterpart S m σ b < b → Passes S m os set b
  pass-later σ s d A = alike-more S m os set b (λ k hk. earlier_tells S L m os G set b k hb hk σ s d A) A

-- ---- blocks in turn

-- d blocks from a on
pub walk : (S : Shifts) (m : ℕ) (os : List (List ℕ)) (set : List Float) (a d : ℕ) → ((k : ℕ) → k < d → Passes S m os set (a + k))
    → AlikeTo S m os set a → AlikeTo S m os set (a + d)
walk S m os set a zero f A = let e : a ≡ a + 0 = omega arith in subst (λ (x : ℕ). AlikeTo S m os set x) e A
walk S m os set a (suc d) f A =
    let e : a + d + 1 ≡ a + suc d = omega arith in
    subst (λ (x : ℕ). AlikeTo S m os set x) e (f d (omega arith) (walk S m os set a d (λ k h. f k (omega arith)) A))
