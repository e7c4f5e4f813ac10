-- What the loops see, block by block, are the differences of the definition, one after another, and so is the call's answer. For every rank at once.
-- Assumes nothing.
use Rattle.std.specs.Prelude.{Err, Ok, ◌≡◌, List, [], get_or, Float}
use Rattle.std.proofs.Math.Path.{sym, ap, ap₂}
use Rattle.std.proofs.Common.{◌∙◌, subst, mul-le-mul_left, arith}
use Prim.Native.Nat.{ℕ, ◌+◌, ◌*◌, ◌≤◌, ◌<◌}
use Rattle.std.proofs.Math.ListN.{length, length-map}
use Rattle.std.specs.Float.{nan}
use Rattle.std.specs.Float.Ieee.{sub, binary64}
use Rattle.lists.specs.Tab.{times, times-same, times_nest}
use Rattle.lists.specs.Digits.{times_power, quotient, remainder, in_row}
use Rattle.tables.specs.declared.Refusal.{Refusal}
use Rattle.tables.specs.Shifts.{Shifts, Laws}
use Rattle.tables.specs.Full.{judged_full}
use Rattle.tables.specs.Compact.{ShiftTables, shifts_of, judged_set}
use Rattle.places.specs.Places.{size, in_block, full_shifts}
use Rattle.orbits.specs.Transposed.{counterpart, size_blocks}
use Rattle.orbits.specs.Groups.{group_blocks}
use Rattle.audits.specs.Audit.{reads}
use Rattle.audits.specs.Kernel.{there}
use Rattle.audits.specs.Blocks.{Orders, there_is}
use Rattle.audits.specs.Guard.{full_tables, whole-shifts}
use Rattle.reports.specs.declared.seen.Seen.{Seen}
use Rattle.reports.specs.Loops.{look, look_at, nothing_seen, concluded}
use Rattle.reports.specs.Seen.{rows-looked, look-same, report_of, after-done, after-refused}
use Rattle.differences.specs.Difference.{difference, difference_at, order_report, difference_report_compact, difference_report_full}

-- ---- what the functions compute of one block: bs has the block of each permutation, t the position that each gives to each position of a block of w

-- position k of block b
unfoldable pub look_place : ℕ → List ℕ → List ℕ → List Float → ℕ → ℕ → Seen → Seen
look_place w bs t set b k c = look_at ((b * w + k) * length bs) (length bs) (λ i. sub binary64 (there w bs t set i k) (get_or set (b * w + k) nan)) c

unfoldable pub look_block : ℕ → List ℕ → List ℕ → List Float → ℕ → Seen → Seen
look_block w bs t set b c = times w (look_place w bs t set b) c

-- its index is small enough
pub few-places : (q len p i : ℕ) → q < len → len < 281474976710656 → p ≤ 24 → i < p → q * p + i < 4611686018427387904
few-places q len p i hq hl hp hi =
    let a : q * p + i < len * p = in_row len p q i hq hi in
    let b : len * p ≤ len * 24 = mul-le-mul_left len hp in
    omega arith

-- ---- of a set: block b, and all that was seen of it

module _ (S : Shifts) (m : ℕ) (os : List (List ℕ)) (set : List Float) where
  abbrev p : ℕ
  p = length os

  unfoldable pub block_seen : ℕ → ℕ → Seen → Seen
  block_seen w b c = times w (λ k. look_at ((b * w + k) * p) p (λ i. difference S m os set (b * w + k) i)) c

  unfoldable pub all_seen : Seen
  all_seen = times (size S m * p) (λ r. look r (difference_at S m os set r)) nothing_seen

  -- the blocks one after another
  pub blocks-seen : (w n : ℕ) → in_block m ≡ w → n ≡ times_power S.n_satom m S.n_patom → {c : Seen} → c ≡ times n (block_seen w) nothing_seen → c ≡ all_seen
  unfolding block_seen all_seen
  blocks-seen w n ew en e =
      let G : ℕ → Seen → Seen = λ q. look_at (q * p) p (λ i. difference S m os set q i) in
      let s : n * w ≡ size S m = ap₂ ◌*◌ en (sym ew) ∙ sym (size_blocks S m) in
      e ∙ sym (times_nest n w G nothing_seen)
      ∙ rows-looked (n * w) p (difference_at S m os set) G nothing_seen (λ q h c.
      look-same (q * p) p (λ i. difference S m os set q i) (λ k. difference_at S m os set (q * p + k)) c (λ k l.
      ap₂ (difference S m os set) (sym (quotient p q k l)) (sym (remainder p q k l))))
      ∙ ap (λ z. times (z * p) (λ r. look r (difference_at S m os set r)) nothing_seen) s

  pub report_is : {c : Seen} → c ≡ all_seen → concluded c ≡ order_report S m os set
  unfolding all_seen
  report_is e = report_of (size S m * p) (difference_at S m os set) e

-- ---- the look at one block is that of the definition

module _ (S : Shifts) (L : Laws S) (m : ℕ) (os : List (List ℕ)) (t : List ℕ) (O : Orders m os t) (set : List Float) (ls : length set ≡ size S m) (w : ℕ) (ew : in_block m ≡ w)
    (b : ℕ) (hb : b < times_power S.n_satom m S.n_patom) (bs : List ℕ) (eb : bs ≡ group_blocks S m os b) where
  count-bs : length bs ≡ length os
  count-bs = ap length eb ∙ (unfold group_blocks in length-map os (λ σ. counterpart S m σ b))

  there-read : (i k : ℕ) → i < length os → k < w → there w bs t set i k ≡ reads S m os set (b * w + k) (get_or os i [])
  there-read i k hi hk =
      subst (λ (w : ℕ). there w bs t set i k ≡ reads S m os set (b * w + k) (get_or os i [])) ew (there_is S L m os t O set ls b hb bs eb i k hi (rw ew hk))

  pub block_is : (c : Seen) → look_block w bs t set b c ≡ block_seen S m os set w b c
  unfolding look_block look_place block_seen difference
  block_is c =
      times-same w _ _ c (λ k hk s.
      ap (λ n. look_at ((b * w + k) * n) n (λ i. sub binary64 (there w bs t set i k) (get_or set (b * w + k) nan)) s) count-bs
      ∙ look-same ((b * w + k) * length os) (length os) _ _ s (λ i hi. ap (λ x. sub binary64 x (get_or set (b * w + k) nan)) (there-read i k hi hk)))

-- ---- the answer

module _ (limit m : ℕ) (os : List (List ℕ)) (set : List Float) where
  pub compact_given : (T : ShiftTables) → judged_set limit m (length set) [] T ≡ Ok tt → {c : Seen} → c ≡ all_seen (shifts_of T) m os set → Ok (concluded c) ≡ difference_report_compact limit m os set T
  unfolding difference_report_compact
  compact_given T e f = after-done e (report_is (shifts_of T) m os set f)

  pub compact_refused : (T : ShiftTables) (r : Refusal) → judged_set limit m (length set) [] T ≡ Err r → Err r ≡ difference_report_compact limit m os set T
  unfolding difference_report_compact
  compact_refused T r e = after-refused (order_report (shifts_of T) m os set) e

  pub full-given : (n : ℕ) → judged_full limit m (length set) [] n ≡ Ok tt → {c : Seen} → c ≡ all_seen (shifts_of (full_tables n)) m os set → Ok (concluded c) ≡ difference_report_full limit m os set n
  unfolding difference_report_full
  full-given n e f = after-done e (report_is (full_shifts n) m os set (f ∙ ap (λ S. all_seen S m os set) (whole-shifts n)))

  pub full-refused : (n : ℕ) (r : Refusal) → judged_full limit m (length set) [] n ≡ Err r → Err r ≡ difference_report_full limit m os set n
  unfolding difference_report_full
  full-refused n r e = after-refused (order_report (full_shifts n) m os set) e
