-- What the drift reports of compact sets and of third order answer through C, and what they leave in their slots. Assumes nothing.
use Rattle.drift.specs.declared.DriftReport.{DriftReport}
use Rattle.std.specs.Prelude.{Err, Ok, Result, ◌≡◌, Bool, true, false, cond, ◌&&◌, List, [], ◌∷◌, ℕ, ◌+◌, eqb, length, set, Float}
use Rattle.std.proofs.Math.Path.{refl, ap}
use Rattle.std.proofs.Common.{◌∙◌, arith, eqb-true}
use Rattle.lists.specs.Tests.{and_fst, and_snd}
use Rattle.tables.specs.declared.Refusal.{Refusal}
use Rattle.tables.specs.Answers.{refusal_number}
use Rattle.tables.specs.Limits.{limit2, limit3}
use Rattle.tables.specs.Conditions.{any_above}
use Rattle.tables.specs.Compact.{ShiftTables}
use Rattle.reports.specs.Report.{deviation_number, value_of}
use Rattle.drift.specs.CompactReport.{drift_report_compact_fc2}
use Rattle.drift.specs.declared.third.LegReport.{LegReport}
use Rattle.drift.specs.ThirdReport.{drift_report_fc3}
use Rattle.capi_fc2.specs.Drift.{drift_slots_fit, drift_slots, one-slot}

-- The report of a compact set has the slots of gf_drift_report. Slots of other lengths are refusal 2, which comes after refusal 1.
unfoldable pub compact_drift_call : List Float → ShiftTables → List Float → List ℕ → ℕ × List Float × List ℕ
compact_drift_call fc T value place =
    cond (drift_slots_fit (length value) (length place))
    (drift_slots (drift_report_compact_fc2 fc T) value place)
    (cond (any_above limit2 (T.n_satom ∷ (T.n_patom ∷ (T.num_trans ∷ [])))) 1 2, value, place)

-- third order: one slot for the value, six for the place, the leg that is summed over, two atoms and three directions
unfoldable pub leg_reported : Result LegReport Refusal → List Float → List ℕ → ℕ × List Float × List ℕ
leg_reported (Ok r) value place = (65 + deviation_number r.drift, value_of r.drift ∷ [], r.leg ∷ r.first ∷ r.second ∷ r.k ∷ r.l ∷ r.m ∷ [])
leg_reported (Err r) value place = (refusal_number r, value, place)

abbrev pub leg_slots_fit : ℕ → ℕ → Bool
leg_slots_fit lenValue lenPlace = eqb lenValue 1 && eqb lenPlace 6

unfoldable pub leg_drift_call : List Float → ℕ → List Float → List ℕ → ℕ × List Float × List ℕ
leg_drift_call fc n value place =
    cond (leg_slots_fit (length value) (length place))
    (leg_reported (drift_report_fc3 fc n) value place)
    (cond (any_above limit3 (n ∷ [])) 1 2, value, place)

-- ---- laws

pub leg_fits : (v p : ℕ) → leg_slots_fit v p ≡ true → (v ≡ 1) × (p ≡ 6)
leg_fits v p e = (eqb-true v 1 (and_fst (eqb v 1) (eqb p 6) e), eqb-true p 6 (and_snd (eqb v 1) (eqb p 6) e))

six_slots : (place : List ℕ) (a b c d e f : ℕ) → length place ≡ 6
    → set (set (set (set (set (set place 0 a) 1 b) 2 c) 3 d) 4 e) 5 f ≡ (a ∷ b ∷ c ∷ d ∷ e ∷ f ∷ [])
six_slots [] a b c d e f h = absurd (omega (arith, h))
six_slots (_ ∷ []) a b c d e f h = absurd (omega (arith, h))
six_slots (_ ∷ (_ ∷ [])) a b c d e f h = absurd (omega (arith, h))
six_slots (_ ∷ (_ ∷ (_ ∷ []))) a b c d e f h = absurd (omega (arith, h))
six_slots (_ ∷ (_ ∷ (_ ∷ (_ ∷ [])))) a b c d e f h = absurd (omega (arith, h))
six_slots (_ ∷ (_ ∷ (_ ∷ (_ ∷ (_ ∷ []))))) a b c d e f h = absurd (omega (arith, h))
six_slots (_ ∷ (_ ∷ (_ ∷ (_ ∷ (_ ∷ (_ ∷ [])))))) a b c d e f h = refl
six_slots (_ ∷ (_ ∷ (_ ∷ (_ ∷ (_ ∷ (_ ∷ (_ ∷ _))))))) a b c d e f h = absurd (omega (arith, h))

module _ (value : List Float) (place : List ℕ) where
  -- a report, written: x is its value, k its number
  pub leg-put : (q : LegReport) (a : Result LegReport Refusal) (x : Float) (k : ℕ) → (length value ≡ 1) × (length place ≡ 6) → a ≡ Ok q → x ≡ value_of q.drift → k ≡ deviation_number q.drift
      → (65 + k, set value 0 x, set (set (set (set (set (set place 0 q.leg) 1 q.first) 2 q.second) 3 q.k) 4 q.l) 5 q.m) ≡ leg_reported a value place
  unfolding leg_reported
  leg-put q a x k (hv, hp) e ex ek =
      let v = one-slot value x hv in
      let p = six_slots place q.leg q.first q.second q.k q.l q.m hp in
      rw (v, p, ex, ek, e) refl

  -- a refusal leaves the slots
  pub leg-kept : (a : Result LegReport Refusal) (refusal : Refusal) (r : ℕ) → a ≡ Err refusal → r ≡ refusal_number refusal → (r, value, place) ≡ leg_reported a value place
  unfolding leg_reported
  leg-kept a refusal r e er = rw (er, e) refl

  -- the calls, step by step: a is the drift's answer, told what was made of it
  module _ (fc : List Float) (n : ℕ) where
    pub leg-told : (a : Result LegReport Refusal) (told : ℕ × List Float × List ℕ) → leg_slots_fit (length value) (length place) ≡ true → a ≡ drift_report_fc3 fc n → told ≡ leg_reported a value place
        → told ≡ leg_drift_call fc n value place
    unfolding leg_drift_call
    leg-told a told fit d e = e ∙ ap (λ x. leg_reported x value place) d ∙ rw fit refl

    pub leg-wrong : {k : ℕ} → leg_slots_fit (length value) (length place) ≡ false → k ≡ cond (any_above limit3 (n ∷ [])) 1 2 → (k, value, place) ≡ leg_drift_call fc n value place
    unfolding leg_drift_call
    leg-wrong fit e = rw (fit, e) refl

  module _ (fc : List Float) (T : ShiftTables) where
    pub compact_told : (a : Result DriftReport Refusal) (told : ℕ × List Float × List ℕ) → drift_slots_fit (length value) (length place) ≡ true → a ≡ drift_report_compact_fc2 fc T → told ≡ drift_slots a value place
        → told ≡ compact_drift_call fc T value place
    unfolding compact_drift_call
    compact_told a told fit d e = e ∙ ap (λ x. drift_slots x value place) d ∙ rw fit refl

    pub compact_wrong : {k : ℕ} → drift_slots_fit (length value) (length place) ≡ false → k ≡ cond (any_above limit2 (T.n_satom ∷ (T.n_patom ∷ (T.num_trans ∷ [])))) 1 2
        → (k, value, place) ≡ compact_drift_call fc T value place
    unfolding compact_drift_call
    compact_wrong fit e = rw (fit, e) refl
