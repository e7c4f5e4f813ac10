-- A swap that is not refused has lawful tables and legs below 4, and what it leaves is what its definition says. Assumes nothing.
use Rattle.std.specs.Prelude.{Ok, ◌≡◌, true, false, List, ℕ, ◌<◌, length, replicate, Float}
use Rattle.std.proofs.Common.{sym, ◌∙◌, lit≤}
use Rattle.std.proofs.Math.Path.{ap, ap₂}
use Rattle.tables.specs.Answers.{Answer}
use Rattle.tables.specs.Answers.{is_refusal, after, is_done, refused_call, done_call}
use Rattle.tables.specs.Shifts.{Laws}
use Rattle.tables.specs.Compact.{ShiftTables, shifts_of, judged_compact}
use Rattle.tables.proofs.CompactLaws.{done_compact}
use Rattle.tables.specs.Limits.{limit4}
use Rattle.orbits.specs.HalfShift.{Trading, trading}
use Rattle.orbits.specs.TrueTransposes.{swapped}
use Rattle.transposes_fc4.specs.Swaps.{judged_swap, swap_pairs_compact_fc4}
use Rattle.transposes_fc4.specs.Guard.{with_legs, judged_legs, legs_done}

pub swap-sound : (lenSet lenWork : ℕ) (T : ShiftTables) (a b : ℕ) → judged_swap lenSet lenWork T a b ≡ Ok tt → Laws (shifts_of T) × (a < 4) × (b < 4)
swap-sound lenSet lenWork T a b e =
    let (d, ha, hb) = legs_done (judged_compact limit4 3 lenSet 1 lenWork T) a b (judged_legs lenSet lenWork T a b ∙ e) in
    ((done_compact limit4 3 lenSet 1 lenWork T d).rules, ha, hb)

module _ (set : List Float) (T : ShiftTables) (work : List ℕ) (a b : ℕ) (t r : Answer)
    (et : t ≡ judged_compact limit4 3 (length set) 1 (length work) T) (er : r ≡ with_legs t a b) where
  judged : r ≡ judged_swap (length set) (length work) T a b
  judged = er ∙ ap (λ t. with_legs t a b) et ∙ judged_legs (length set) (length work) T a b

  pub swap-refused : is_refusal r ≡ true → ◌≡◌ {A = Answer × List Float × List ℕ} (r, set, work) (swap_pairs_compact_fc4 set T work a b)
  unfolding swap_pairs_compact_fc4
  swap-refused e = refused_call r (swapped (shifts_of T) 3 (a, b) set) set (replicate (length work) 0) work e
      ∙ ap (λ r. (r, after r (swapped (shifts_of T) 3 (a, b) set) set, after r (replicate (length work) 0) work)) judged

  pub swap-ready : is_refusal r ≡ false → Trading 3 (length set) T × (a < 4) × (b < 4)
  swap-ready e =
      let (d, ha, hb) = legs_done t a b (sym er ∙ is_done r e) in
      (trading T (lit≤ tt) (done_compact limit4 3 (length set) 1 (length work) T (sym et ∙ d)), ha, hb)

  pub swap-done : is_refusal r ≡ false → {new : List Float} {clear : List ℕ} → new ≡ swapped (shifts_of T) 3 (a, b) set → clear ≡ replicate (length work) 0
      → ◌≡◌ {A = Answer × List Float × List ℕ} (Ok tt, new, clear) (swap_pairs_compact_fc4 set T work a b)
  unfolding swap_pairs_compact_fc4
  swap-done e n c =
      ap₂ (λ x y. (Ok tt, x, y)) n c
      ∙ done_call r (swapped (shifts_of T) 3 (a, b) set) set (replicate (length work) 0) work e
      ∙ ap (λ r. (r, after r (swapped (shifts_of T) 3 (a, b) set) set, after r (replicate (length work) 0) work)) judged
