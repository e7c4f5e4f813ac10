-- The loops over the blocks leave the transposed set at fourth order: the Rust's where half shifts stay (h), the true transpose where none does.
-- Assumes nothing.
use Rattle.std.specs.Prelude.{Ok, ◌≡◌, refl, Bool, true, false, cond, ℕ, zero, suc, List, [], ◌∷◌, ℤ, pos, negsuc, length, replicate, Float}
use Rattle.std.proofs.Common.{sym, ◌∙◌, arith, lit<, lit≤}
use Rattle.std.proofs.Math.Path.{ap, ap₂}
use Rattle.std.specs.Float.{nan}
use Rattle.lists.specs.Tab.{tab, tab_from}
use Rattle.lists.specs.Elements.{pick, pick-pick, straight, pick-straight}
use Rattle.tables.specs.Shifts.{Shifts, Laws}
use Rattle.tables.specs.Limits.{limit4}
use Rattle.tables.specs.Answers.{Answer}
use Rattle.tables.specs.Answers.{is_refusal, after, is_done, refused_call, done_call}
use Rattle.tables.specs.Compact.{ShiftTables, shifts_of, judged_compact}
use Rattle.tables.proofs.CompactLaws.{done_compact}
use Rattle.places.specs.Places.{Leg, size}
use Rattle.places.specs.Permutations.{permute_legs}
use Rattle.places.specs.Moves.{order4, transposed4}
use Rattle.orbits.specs.Trading.{Trades}
use Rattle.transposes_fc4.specs.Fc4.{transposed_by4, transpose_compact_fc4}
use Rattle.orbits.specs.Exchanging.{exchanging}
use Rattle.orbits.specs.HalfShift.{Trading, trading}
use Rattle.orbits.specs.TrueTransposes.{swapped, legs4}
use Rattle.orbits.specs.Moved.{exchanges4, trades_if, either, moved_4}
use Rattle.transposes_fc4.specs.Loops.{pairs4, one_loop}

trades4 : Trades 3 0 (order4 0)
unfolding order4
trades4 = record { is_order = (refl, omega arith); leg = lit< tt; first = refl; second = refl; twice = λ xs l. t xs l }
  where
    t : (xs : List Leg) → length xs ≡ 4 → permute_legs (1 ∷ 0 ∷ 2 ∷ 3 ∷ []) (permute_legs (1 ∷ 0 ∷ 2 ∷ 3 ∷ []) xs) ≡ xs
    t xs l = pick-pick (0, 0) (1 ∷ 0 ∷ 2 ∷ 3 ∷ []) (1 ∷ 0 ∷ 2 ∷ 3 ∷ []) xs (omega arith) ∙ (unfold pick straight tab tab_from in pick-straight (0, 0) 4 xs l)

-- THE LOOPS LEAVE THE TRANSPOSED SET
transposes4 : (h : Bool) (T : ShiftTables) → Laws (shifts_of T) → (old : List Float) → length old ≡ size (shifts_of T) 3
    → pairs4 h (exchanging 3 0 1) T old ≡ cond h (transposed4 nan (shifts_of T) 0 old) (swapped (shifts_of T) 3 (legs4 (pos 0)) old)
unfolding transposed4
transposes4 h T L old e =
    ap (λ o. pairs4 h o T old) exchanges4 ∙ one_loop h (order4 0) T old ∙ trades_if (shifts_of T) L 3 0 (order4 0) trades4 h old e
    ∙ ap (cond h (transposed4 nan (shifts_of T) 0 old)) (moved_4 (shifts_of T) old)

-- ---- the call

pub by_zero : (h : Bool) (T : ShiftTables) → Laws (shifts_of T) → (old : List Float) → length old ≡ size (shifts_of T) 3 → (t : ℤ) → t ≡ pos 0
    → pairs4 h (exchanging 3 0 1) T old ≡ cond h (transposed_by4 (shifts_of T) t old) (swapped (shifts_of T) 3 (legs4 t) old)
unfolding transposed_by4
by_zero h T L old e t z = transposes4 h T L old e ∙ ap (λ t. cond h (transposed_by4 (shifts_of T) t old) (swapped (shifts_of T) 3 (legs4 t) old)) (sym z)

pub by-other : (h : Bool) (S : Shifts) (old : List Float) (t : ℤ) → (t ≡ pos 0 → ⊥) → old ≡ cond h (transposed_by4 S t old) (swapped S 3 (legs4 t) old)
unfolding transposed_by4 transposed4 swapped legs4
by-other h S old (pos zero) n = absurd (n refl)
by-other h S old (pos (suc t)) n = either h old
by-other h S old (negsuc t) n = either h old

module _ (set : List Float) (T : ShiftTables) (work : List ℕ) (t : ℤ) (a : Answer) (e : a ≡ judged_compact limit4 3 (length set) 1 (length work) T) where
  pub transpose_refused : is_refusal a ≡ true → ◌≡◌ {A = Answer × List Float × List ℕ} (a, set, work) (transpose_compact_fc4 set T work t)
  unfolding transpose_compact_fc4
  transpose_refused r = refused_call a (transposed_by4 (shifts_of T) t set) set (replicate (length work) 0) work r
      ∙ ap (λ a. (a, after a (transposed_by4 (shifts_of T) t set) set, after a (replicate (length work) 0) work)) e

  pub transpose_ready : is_refusal a ≡ false → Trading 3 (length set) T
  transpose_ready r = trading T (lit≤ tt) (done_compact limit4 3 (length set) 1 (length work) T (sym e ∙ is_done a r))

  pub transpose_done : is_refusal a ≡ false → {new : List Float} {clear : List ℕ} → new ≡ transposed_by4 (shifts_of T) t set → clear ≡ replicate (length work) 0
      → ◌≡◌ {A = Answer × List Float × List ℕ} (Ok tt, new, clear) (transpose_compact_fc4 set T work t)
  unfolding transpose_compact_fc4
  transpose_done r n c =
      ap₂ (λ x y. (Ok tt, x, y)) n c
      ∙ done_call a (transposed_by4 (shifts_of T) t set) set (replicate (length work) 0) work r
      ∙ ap (λ a. (a, after a (transposed_by4 (shifts_of T) t set) set, after a (replicate (length work) 0) work)) e
