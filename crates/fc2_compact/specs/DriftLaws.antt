-- The row drift, and the on-site blocks: the loops over rows make what Passes.antt says. Assumes nothing.
use Rattle.std.specs.Prelude.{◌≡◌, List, ℕ, ◌+◌, ◌*◌, ◌/◌, ◌%◌, eqb, length, Float}
use Rattle.std.proofs.Math.Path.{sym, ap, ap₂}
use Rattle.std.proofs.Common.{◌∙◌, div-add-mod'}
use Rattle.std.proofs.Math.Bool.{cond}
use Rattle.std.specs.Float.Ieee.{binary64, neg, add, sub, mul}
use Rattle.lists.specs.Tab.{times-same}
use Rattle.tables.specs.Shifts.{Shifts, Laws, p2s_at}
use Rattle.lists.specs.Floats.{plus_zero}
use Rattle.lines.specs.Sums3x3.{half, inverse}
use Rattle.lines.specs.Lines.{row_drifts, balances}
use Rattle.lines.specs.DriftLaws.{sum_row, rows_make}
use Rattle.lines.specs.OtherLaws.{sum_but, balances_make}
use Rattle.fc2_compact.specs.Passes.{row_sum_compact, off_site_sum_compact, without_row_drift_compact, on_site}
use Rattle.lines.specs.LegLaws.{fill_is, at_is, own_at}

module _ (S : Shifts) (set : List Float) where
  abbrev atoms : ℕ
  atoms = S.n_satom

  -- the sums of the definition
  row_is : (p k l : ℕ) → row_sum_compact S set (p, k) l ≡ sum_row atoms set p (k * 3 + l)
  unfolding row_sum_compact
  row_is p k l = times-same atoms _ _ plus_zero (λ j h s. ap (add binary64 s) (at_is S set p k j l))

  other_is : (p k l : ℕ) → off_site_sum_compact S set (p, k) l ≡ sum_but atoms set p (p2s_at S p) (k * 3 + l)
  unfolding off_site_sum_compact
  other_is p k l = times-same atoms _ _ plus_zero (λ j h s. ap (λ x. cond (eqb (p2s_at S p) j) s (add binary64 s x)) (at_is S set p k j l))

  module _ (e : length set ≡ S.n_patom * atoms * 9) where
    pub drift_made : row_drifts S.n_patom atoms (inverse atoms) set ≡ without_row_drift_compact S set
    unfolding without_row_drift_compact
    drift_made =
        rows_make S.n_patom atoms (inverse atoms) set e
        ∙ sym (fill_is S _ _ (λ q h.
        ap₂ (λ x s. sub binary64 x (mul binary64 s (inverse atoms))) (own_at S set q)
        (row_is (q / 9 / atoms) (q % 9 / 3) (q % 9 % 3) ∙ ap (sum_row atoms set (q / 9 / atoms)) (div-add-mod' (q % 9) 3))))

    pub site_made : Laws S → balances S.n_patom atoms (p2s_at S) set ≡ on_site S set
    unfolding on_site
    site_made L =
        balances_make S.n_patom atoms (p2s_at S) L.p2s-below set e
        ∙ sym (fill_is S _ _ (λ q h.
        let p = q / 9 / atoms in
        ap₂ (cond (eqb (p2s_at S p) (q / 9 % atoms)))
        (ap₂ (λ x y. half (neg (add binary64 x y)))
        (other_is p (q % 9 / 3) (q % 9 % 3) ∙ ap (sum_but atoms set p (p2s_at S p)) (div-add-mod' (q % 9) 3))
        (other_is p (q % 9 % 3) (q % 9 / 3)))
        (own_at S set q)))
