-- What the explanation of shift tables leaves in its five slots. Assumes nothing.
use Rattle.std.specs.Prelude.{◌≡◌, cond, List, [], ◌∷◌, ℕ, eqb, length, set}
use Rattle.std.proofs.Math.Path.{refl, ap}
use Rattle.std.proofs.Common.{◌∙◌, arith, eq-eqb, ne_eqb}
use Rattle.tables.specs.Answers.{number_of}
use Rattle.tables.specs.Compact.{ShiftTables}
use Rattle.explain.specs.declared.Explanation.{Explanation}
use Rattle.explain.specs.Explain.{explain_shift_tables}

-- the guard's number, which count, table or rule, and the numbers that show it
unfoldable pub slots_of : Explanation → List ℕ
slots_of e = number_of e.answer ∷ (e.which ∷ (e.first ∷ (e.second ∷ (e.third ∷ []))))

-- 0, or refusal 2 of slots that are not five, which leaves them
unfoldable pub explain_call : ShiftTables → List ℕ → ℕ × List ℕ
explain_call T place = cond (eqb (length place) 5) (0, slots_of (explain_shift_tables T)) (2, place)

-- ---- laws

pub five_slots : (l : List ℕ) (v w x y z : ℕ) → length l ≡ 5 → set (set (set (set (set l 0 v) 1 w) 2 x) 3 y) 4 z ≡ (v ∷ (w ∷ (x ∷ (y ∷ (z ∷ [])))))
five_slots [] v w x y z e = absurd (omega (arith, e))
five_slots (_ ∷ []) v w x y z e = absurd (omega (arith, e))
five_slots (_ ∷ (_ ∷ [])) v w x y z e = absurd (omega (arith, e))
five_slots (_ ∷ (_ ∷ (_ ∷ []))) v w x y z e = absurd (omega (arith, e))
five_slots (_ ∷ (_ ∷ (_ ∷ (_ ∷ [])))) v w x y z e = absurd (omega (arith, e))
five_slots (_ ∷ (_ ∷ (_ ∷ (_ ∷ (_ ∷ []))))) v w x y z e = refl
five_slots (_ ∷ (_ ∷ (_ ∷ (_ ∷ (_ ∷ (_ ∷ _)))))) v w x y z e = absurd (omega (arith, e))

module _ (T : ShiftTables) (place : List ℕ) where
  pub call_wrong : (length place ≡ 5 → ⊥) → (2, place) ≡ explain_call T place
  unfolding explain_call
  call_wrong n = rw (ne_eqb (length place) 5 n) refl

  pub call_told : length place ≡ 5 → {e : Explanation} {now : List ℕ} → e ≡ explain_shift_tables T → now ≡ slots_of e → (0, now) ≡ explain_call T place
  unfolding explain_call
  call_told h ee en = rw (eq-eqb (length place) 5 h) (ap (λ l. (0, l)) (en ∙ ap slots_of ee))
