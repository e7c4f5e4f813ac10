-- What the audits answer through C, and what they leave in their two slots. Assumes nothing.
use Rattle.std.specs.Prelude.{Err, None, Ok, Option, Result, Some, ◌≡◌, Bool, true, false, cond, ◌&&◌, List, [], ◌∷◌, ℕ, eqb, length, set, Float}
use Rattle.std.proofs.Math.Path.{refl, ap}
use Rattle.std.proofs.Common.{◌∙◌, arith, eqb-true}
use Rattle.lists.specs.Tests.{and_fst, and_snd}
use Rattle.tables.specs.declared.Refusal.{Refusal}
use Rattle.tables.specs.Answers.{refusal_number}
use Rattle.audits.specs.declared.Difference.{Difference}
use Rattle.audits.specs.Audit.{audit_number}

-- The number of the verdict. Only one that the set is not alike writes the slots: place and permutation, and both numbers.
unfoldable pub audit_slots : Result (Option Difference) Refusal → List ℕ → List Float → ℕ × List ℕ × List Float
audit_slots (Ok None) place numbers = (audit_number (Ok None), place, numbers)
audit_slots (Ok (Some d)) place numbers = (audit_number (Ok (Some d)), d.place ∷ d.order ∷ [], d.here ∷ d.there ∷ [])
audit_slots (Err r) place numbers = (audit_number (Err r), place, numbers)

-- two slots each
abbrev pub slots_fit : ℕ → ℕ → Bool
slots_fit lenPlace lenNumbers = eqb lenPlace 2 && eqb lenNumbers 2

-- Slots of other lengths are refusal 2, which comes after refusal 1: `above` says that a count is above its limit.
unfoldable pub audit_call : Bool → Result (Option Difference) Refusal → List ℕ → List Float → ℕ × List ℕ × List Float
audit_call above a place numbers = cond (slots_fit (length place) (length numbers)) (audit_slots a place numbers) (cond above 1 2, place, numbers)

-- ---- laws

pub fits : (p v : ℕ) → slots_fit p v ≡ true → (p ≡ 2) × (v ≡ 2)
fits p v e = (eqb-true p 2 (and_fst (eqb p 2) (eqb v 2) e), eqb-true v 2 (and_snd (eqb p 2) (eqb v 2) e))

two_slots : {A : Type 0} (l : List A) (x y : A) → length l ≡ 2 → set (set l 0 x) 1 y ≡ (x ∷ y ∷ [])
two_slots [] x y e = absurd (omega (arith, e))
two_slots (_ ∷ []) x y e = absurd (omega (arith, e))
two_slots (_ ∷ (_ ∷ [])) x y e = refl
two_slots (_ ∷ (_ ∷ (_ ∷ _))) x y e = absurd (omega (arith, e))

module _ (place : List ℕ) (numbers : List Float) where
  pub put-alike : (a : Result (Option Difference) Refusal) → a ≡ Ok None → (73, place, numbers) ≡ audit_slots a place numbers
  unfolding audit_slots
  put-alike a e = rw e refl

  pub put_unlike : (a : Result (Option Difference) Refusal) (d : Difference) → (length place ≡ 2) × (length numbers ≡ 2) → a ≡ Ok (Some d)
      → (74, set (set place 0 d.place) 1 d.order, set (set numbers 0 d.here) 1 d.there) ≡ audit_slots a place numbers
  unfolding audit_slots
  put_unlike a d (hp, hn) e =
      let p = two_slots place d.place d.order hp in
      let n = two_slots numbers d.here d.there hn in
      rw (p, n, e) refl

  pub put_refused : (a : Result (Option Difference) Refusal) (r : Refusal) (k : ℕ) → a ≡ Err r → k ≡ refusal_number r → (k, place, numbers) ≡ audit_slots a place numbers
  unfolding audit_slots
  put_refused a r k e ek = rw (ek, e) refl

  module _ (above : Bool) (a : Result (Option Difference) Refusal) where
    pub call_told : {b : Result (Option Difference) Refusal} (r : ℕ × List ℕ × List Float) → slots_fit (length place) (length numbers) ≡ true → b ≡ a → r ≡ audit_slots b place numbers → r ≡ audit_call above a place numbers
    unfolding audit_call
    call_told r f eb e = e ∙ ap (λ x. audit_slots x place numbers) eb ∙ rw f refl

    pub call_wrong : {k : ℕ} → slots_fit (length place) (length numbers) ≡ false → k ≡ cond above 1 2 → (k, place, numbers) ≡ audit_call above a place numbers
    unfolding audit_call
    call_wrong f e = rw (f, e) refl
