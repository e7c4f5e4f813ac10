-- What the reports answer through C, and what they leave in their slots. Assumes nothing.
use Rattle.std.specs.Prelude.{Err, Ok, Result, ◌≡◌, Bool, true, false, cond, ◌&&◌, ◌||◌, List, [], ◌∷◌, ℕ, zero, suc, ◌+◌, ◌/◌, ◌%◌, ◌≤◌, ◌<◌, eqb, length, set, Float}
use Rattle.std.proofs.Math.Path.{refl, ap}
use Rattle.std.proofs.Common.{◌∙◌, zero-lt-suc, arith, eqb-true}
use Rattle.lists.specs.Tests.{and_fst, and_snd}
use Rattle.tables.specs.declared.Refusal.{Refusal}
use Rattle.tables.specs.Answers.{refusal_number}
use Rattle.reports.specs.declared.Deviation.{Deviation}
use Rattle.reports.specs.declared.Deviation.TheVariants.{Still, Worst, NoNumber}
use Rattle.reports.specs.declared.Report.{Report}
use Rattle.reports.specs.Report.{deviation_number, value_of}

-- 65 still, 66 worst, 67 no number, with the value and the place in the slots; or the number of a refusal, which leaves the slots. The places of a report
-- are rows of n: the number of the row and the number in it say which.
unfoldable pub report_slots : ℕ → Result Report Refusal → List Float → List ℕ → ℕ × List Float × List ℕ
report_slots n (Ok r) value place = (65 + deviation_number r.deviation, value_of r.deviation ∷ [], r.index / n ∷ r.index % n ∷ [])
report_slots n (Err r) value place = (refusal_number r, value, place)

-- how many places an operation has on a set of len numbers; those of a set of none are counted in rows of one
unfoldable pub row_length : ℕ → ℕ
row_length zero = 1
row_length (suc n) = suc n

-- one slot for the value, two for the place
abbrev pub report_slots_fit : ℕ → ℕ → Bool
report_slots_fit lenValue lenPlace = eqb lenValue 1 && eqb lenPlace 2

-- Slots of other lengths are refusal 2, which comes after refusal 1: `above` says that a count is above its limit.
unfoldable pub report_call : Bool → ℕ → Result Report Refusal → List Float → List ℕ → ℕ × List Float × List ℕ
report_call above n a value place = cond (report_slots_fit (length value) (length place)) (report_slots n a value place) (cond above 1 2, value, place)

-- ---- laws

pub row-none : (n : ℕ) → n ≡ 0 → 1 ≡ row_length n
unfolding row_length
row-none n e = rw e refl

pub row-some : (n : ℕ) → (n ≡ 0 → ⊥) → (n ≡ row_length n) × (0 < n)
unfolding row_length
row-some zero h = absurd (h refl)
row-some (suc n) h = (refl, zero-lt-suc n)

-- refusal 1 for one count or for another
pub either_above : (a b : Bool) {k : ℕ} → k ≡ cond b 1 2 → cond a 1 k ≡ cond (a || b) 1 2
either_above true b e = refl
either_above false b e = e

pub few : (d : Deviation) → deviation_number d ≤ 2
few Still = omega arith
few (Worst x) = omega arith
few NoNumber = omega arith

pub fits : (v p : ℕ) → report_slots_fit v p ≡ true → (v ≡ 1) × (p ≡ 2)
fits v p e = (eqb-true v 1 (and_fst (eqb v 1) (eqb p 2) e), eqb-true p 2 (and_snd (eqb v 1) (eqb p 2) e))

one-slot : (value : List Float) (x : Float) → length value ≡ 1 → set value 0 x ≡ (x ∷ [])
one-slot [] x e = absurd (omega (arith, e))
one-slot (_ ∷ []) x e = refl
one-slot (_ ∷ (_ ∷ _)) x e = absurd (omega (arith, e))

two_slots : (l : List ℕ) (x y : ℕ) → length l ≡ 2 → set (set l 0 x) 1 y ≡ (x ∷ y ∷ [])
two_slots [] x y e = absurd (omega (arith, e))
two_slots (_ ∷ []) x y e = absurd (omega (arith, e))
two_slots (_ ∷ (_ ∷ [])) x y e = refl
two_slots (_ ∷ (_ ∷ (_ ∷ _))) x y e = absurd (omega (arith, e))

module _ (n : ℕ) (value : List Float) (place : List ℕ) where
  -- a report, written: x is its value, k its number, i and j say its place
  pub put-given : (a : Result Report Refusal) (q : Report) (x : Float) (i j k : ℕ) → (length value ≡ 1) × (length place ≡ 2) → a ≡ Ok q
      → x ≡ value_of q.deviation → i ≡ q.index / n → j ≡ q.index % n → k ≡ deviation_number q.deviation
      → (65 + k, set value 0 x, set (set place 0 i) 1 j) ≡ report_slots n a value place
  unfolding report_slots
  put-given a q x i j k (hv, hp) e ex ei ej ek =
      let v = one-slot value x hv in
      let p = two_slots place i j hp in
      rw (v, p, ex, ei, ej, ek, e) refl

  -- a refusal leaves the slots
  pub put_refused : (a : Result Report Refusal) (refusal : Refusal) (r : ℕ) → a ≡ Err refusal → r ≡ refusal_number refusal → (r, value, place) ≡ report_slots n a value place
  unfolding report_slots
  put_refused a refusal r e er = rw (er, e) refl

  module _ (above : Bool) (a : Result Report Refusal) where
    pub call_given : {b : Result Report Refusal} (r : ℕ × List Float × List ℕ) → report_slots_fit (length value) (length place) ≡ true → b ≡ a → r ≡ report_slots n b value place → r ≡ report_call above n a value place
    unfolding report_call
    call_given r f eb e = e ∙ ap (λ x. report_slots n x value place) eb ∙ rw f refl

    pub call_wrong : {k : ℕ} → report_slots_fit (length value) (length place) ≡ false → k ≡ cond above 1 2 → (k, value, place) ≡ report_call above n a value place
    unfolding report_call
    call_wrong f e = rw (f, e) refl
