-- How far two sets of one length are apart: the number of the one minus that of the other, at each address. Assumes nothing.
use Rattle.reports.specs.declared.Report.{Report}
use Rattle.tables.specs.declared.Refusal.{Refusal}
use Rattle.std.specs.Prelude.{Err, Ok, Result, ◌≡◌, List, [], ◌∷◌, ℕ, length, get_or, Float}
use Rattle.std.proofs.Math.Path.{refl}
use Rattle.std.proofs.Common.{◌∙◌, eq-eqb, ne_eqb}
use Rattle.std.specs.Float.{nan}
use Rattle.std.specs.Float.Ieee.{sub, binary64}
use Rattle.tables.specs.Answers.{Answer}
use Rattle.tables.specs.declared.Refusal.TheVariants.{WrongLength}
use Rattle.tables.specs.Answers.{refuse_if}
use Rattle.tables.specs.Conditions.{any_wrong}
use Rattle.reports.specs.declared.seen.Seen.{Seen}
use Rattle.reports.specs.Report.{report, reported_after}
use Rattle.reports.specs.Loops.{nothing_seen, look_differences, concluded}
use Rattle.reports.specs.Seen.{report_of, from_first, after-done, after-refused}

-- sets of other lengths are refused
abbrev judged_pair : List Float → List Float → Answer
judged_pair a b = refuse_if (any_wrong ((length b, length a) ∷ [])) WrongLength (Ok tt)

-- the call
unfoldable pub set_difference : List Float → List Float → Result Report Refusal
set_difference a b =
    reported_after (judged_pair a b) (report (length a) (λ q. sub binary64 (get_or a q nan) (get_or b q nan)))

-- ---- laws

module _ (a b : List Float) where
  pub difference-refused : (length b ≡ length a → ⊥) → Err WrongLength ≡ set_difference a b
  unfolding set_difference
  difference-refused n =
      let g : judged_pair a b ≡ Err WrongLength = rw (ne_eqb (length b) (length a) n) refl in
      after-refused (report (length a) (λ q. sub binary64 (get_or a q nan) (get_or b q nan))) g

  pub difference-given : length b ≡ length a → {c : Seen} → c ≡ look_differences 0 a b nothing_seen → Ok (concluded c) ≡ set_difference a b
  unfolding set_difference
  difference-given e f =
      let g : judged_pair a b ≡ Ok tt = rw (eq-eqb (length b) (length a) e) refl in
      after-done g
      (report_of (length a) (λ q. sub binary64 (get_or a q nan) (get_or b q nan)) (f ∙ from_first (length a) (λ q. sub binary64 (get_or a q nan) (get_or b q nan)) nothing_seen))
