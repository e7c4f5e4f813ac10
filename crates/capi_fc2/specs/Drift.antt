-- What gf_drift_report answers and leaves in its two slots. Assumes nothing.
use Rattle.std.specs.Prelude.{Err, Ok, Result, ◌≡◌, Bool, true, false, cond, ◌&&◌, List, [], ◌∷◌, ℕ, ◌+◌, ◌≤◌, ◌<◌, eqb, length, set, Float}
use Rattle.std.proofs.Math.Path.{refl, ap}
use Rattle.std.proofs.Common.{◌∙◌, arith}
use borrow.Author.Tests.{eqb-true, lt-ltb, le-ltb}
use Rattle.lists.specs.Tests.{and_fst, and_snd}
use Rattle.tables.specs.declared.Refusal.{Refusal}
use Rattle.tables.specs.declared.Refusal.TheVariants.{CountAboveLimit, WrongLength}
use Rattle.tables.specs.Answers.{refusal_number, number_of, refuse_if}
use Rattle.tables.specs.Limits.{limit2}
use Rattle.tables.specs.Conditions.{any_above}
use Rattle.reports.specs.declared.Deviation.{Deviation}
use Rattle.reports.specs.declared.Deviation.TheVariants.{Still, Worst, NoNumber}
use Rattle.drift.specs.declared.DriftReport.{DriftReport}
use Rattle.drift.specs.Drift.{along_number, drift_report}
use Rattle.reports.specs.Report.{deviation_number, value_of}

-- An answer as C gets it: 65 still, 66 worst, 67 no number, with the value and the place in the slots; or the number of a refusal, which leaves the slots.
unfoldable pub drift_slots : Result DriftReport Refusal → List Float → List ℕ → ℕ × List Float × List ℕ
drift_slots (Ok r) value place = (65 + deviation_number r.drift, value_of r.drift ∷ [], along_number r.along ∷ r.atom ∷ r.k ∷ r.l ∷ [])
drift_slots (Err r) value place = (refusal_number r, value, place)

-- one slot for the value, four for the place: 0 for rows or 1 for columns, the atom and two directions
abbrev pub drift_slots_fit : ℕ → ℕ → Bool
drift_slots_fit lenValue lenPlace = eqb lenValue 1 && eqb lenPlace 4

-- Slots of other lengths are refusal 2, which comes after refusal 1.
unfoldable pub drift_call : List Float → ℕ → List Float → List ℕ → ℕ × List Float × List ℕ
drift_call fc n value place =
    cond (drift_slots_fit (length value) (length place))
    (drift_slots (drift_report fc n) value place)
    (number_of (refuse_if (any_above limit2 (n ∷ [])) CountAboveLimit (Err WrongLength)), value, place)

-- ---- laws

pub few : (d : Deviation) → deviation_number d ≤ 2
few Still = omega arith
few (Worst x) = omega arith
few NoNumber = omega arith

pub fits : (v p : ℕ) → drift_slots_fit v p ≡ true → (v ≡ 1) × (p ≡ 4)
fits v p e = (eqb-true v 1 (and_fst (eqb v 1) (eqb p 4) e), eqb-true p 4 (and_snd (eqb v 1) (eqb p 4) e))

-- the slots after their writes
pub one-slot : (value : List Float) (x : Float) → length value ≡ 1 → set value 0 x ≡ (x ∷ [])
one-slot [] x e = absurd (omega (arith, e))
one-slot (_ ∷ []) x e = refl
one-slot (_ ∷ (_ ∷ _)) x e = absurd (omega (arith, e))

four_slots : (place : List ℕ) (w a k l : ℕ) → length place ≡ 4 → set (set (set (set place 0 w) 1 a) 2 k) 3 l ≡ (w ∷ a ∷ k ∷ l ∷ [])
four_slots [] w a k l e = absurd (omega (arith, e))
four_slots (_ ∷ []) w a k l e = absurd (omega (arith, e))
four_slots (_ ∷ (_ ∷ [])) w a k l e = absurd (omega (arith, e))
four_slots (_ ∷ (_ ∷ (_ ∷ []))) w a k l e = absurd (omega (arith, e))
four_slots (_ ∷ (_ ∷ (_ ∷ (_ ∷ [])))) w a k l e = refl
four_slots (_ ∷ (_ ∷ (_ ∷ (_ ∷ (_ ∷ _))))) w a k l e = absurd (omega (arith, e))

module _ (value : List Float) (place : List ℕ) where
  -- a report, written: x is its value, k its number, and w says rows or columns
  pub put : (q : DriftReport) (a : Result DriftReport Refusal) (x : Float) (w k : ℕ) → (length value ≡ 1) × (length place ≡ 4) → a ≡ Ok q
      → x ≡ value_of q.drift → w ≡ along_number q.along → k ≡ deviation_number q.drift
      → (65 + k, set value 0 x, set (set (set (set place 0 w) 1 q.atom) 2 q.k) 3 q.l) ≡ drift_slots a value place
  unfolding drift_slots
  put q a x w k (hv, hp) e ex ew ek =
      let v = one-slot value x hv in
      let p = four_slots place w q.atom q.k q.l hp in
      rw (v, p, ex, ew, ek, e) refl

  -- a refusal leaves the slots
  pub kept : (a : Result DriftReport Refusal) (refusal : Refusal) (r : ℕ) → a ≡ Err refusal → r ≡ refusal_number refusal → (r, value, place) ≡ drift_slots a value place
  unfolding drift_slots
  kept a refusal r e er = rw (er, e) refl

  module _ (fc : List Float) (n : ℕ) where
    -- the call, step by step: a is the drift's answer, told what `report` made of it
    pub told_of : (a : Result DriftReport Refusal) (told : ℕ × List Float × List ℕ) → drift_slots_fit (length value) (length place) ≡ true → a ≡ drift_report fc n → told ≡ drift_slots a value place
        → told ≡ drift_call fc n value place
    unfolding drift_call
    told_of a told fit d e = e ∙ ap (λ x. drift_slots x value place) d ∙ rw fit refl

    -- slots of other lengths: refusal 1 comes before refusal 2
    pub above : drift_slots_fit (length value) (length place) ≡ false → limit2 < n → (1, value, place) ≡ drift_call fc n value place
    unfolding drift_call
    above fit h = rw (fit, lt-ltb limit2 n h) refl

    pub wrong : drift_slots_fit (length value) (length place) ≡ false → n ≤ limit2 → (2, value, place) ≡ drift_call fc n value place
    unfolding drift_call
    wrong fit h = rw (fit, le-ltb limit2 n h) refl
