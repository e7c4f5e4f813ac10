-- The sums that the loops look at, leg by leg, are those of the definition, one after another. Assumes nothing.
use Rattle.std.specs.Prelude.{◌≡◌, length, replicate, Float}
use Rattle.std.proofs.Math.Path.{refl, sym, ap, ap₂}
use Rattle.std.proofs.Common.{◌∙◌, mod-eq_of_lt, not-suc-le-zero, suc-ne-zero, le_refl, arith, length-set, get_or-set_other}
use mathlib.Core.List.{List, [], ◌∷◌}
use Prim.Native.Nat.{ℕ, zero, suc, ◌+◌, ◌*◌, ◌-◌, ◌/◌, ◌%◌, ◌≤◌, ◌<◌}
use Rattle.std.proofs.Math.Nat.{suc_inj}
use Rattle.std.proofs.Math.ListN.{get_or, set}
use Rattle.std.proofs.lemmas.List.{length-replicate, get_or-replicate}
use Rattle.std.specs.Float.Ieee.{nan, add, binary64}
use Rattle.lists.specs.Tab.{tab, length-tab, get_or-tab, is_tab, tab_ext, fill_more, times, times_more, times-same, times_nest}
use Rattle.lists.specs.Floats.{plus_zero}
use Rattle.lists.specs.Digits.{times_power, rest, digits, length_digits, digits-below, quotient, remainder}
use Rattle.lists.specs.Elements.{Below}
use Rattle.blocks.specs.Block.{block, get_or-block}
use Rattle.tables.specs.declared.Refusal.{Refusal}
use Rattle.tables.specs.Shifts.{Shifts}
use Rattle.tables.specs.Full.{judged_full}
use Rattle.tables.specs.Compact.{ShiftTables, shifts_of, judged_set}
use Rattle.places.specs.Places.{legs_of, read_out, in_block, full_shifts}
use Rattle.places.specs.Addresses.{stored_block}
use Rattle.places.specs.ReadOuts.{stored_in, stored_in_lem}
use Rattle.read_out.specs.Blocks.{block_of, read_at_lem}
use Rattle.audits.specs.Guard.{Ready, block_inside, stored-within, full_tables, whole-shifts}
use Rattle.reports.specs.declared.seen.Seen.{Seen}
use Rattle.reports.specs.Loops.{look, look_at, look_numbers, nothing_seen, concluded}
use Rattle.reports.specs.Seen.{rows-looked, look-same, report_of, after-done, after-refused}
use Rattle.legs.specs.Legs.{insert_at, leg_sum, others, leg_sum_at, leg_report, leg_report_compact, leg_report_full}
use Rattle.legs.specs.Laws.{leg_seen, all_seen, line-seen}

module _ (S : Shifts) (m : ℕ) (set : List Float) where
  pub legs_seen : {c : Seen} → c ≡ times (suc m) (leg_seen S m set (in_block m)) nothing_seen → c ≡ all_seen S m set
  unfolding leg_seen all_seen
  legs_seen e =
      let G : ℕ → Seen → Seen = λ q. look_at (q * in_block m) (in_block m) (λ k. leg_sum_at S m set (q * in_block m + k)) in
      e
      ∙ times-same (suc m) _ _ nothing_seen (λ l hl s. times-same (others S m set) _ _ s (λ t ht u. line-seen S m set l t ht u))
      ∙ sym (times_nest (suc m) (others S m set) G nothing_seen)
      ∙ rows-looked (suc m * others S m set) (in_block m) (leg_sum_at S m set) G nothing_seen (λ q h c. refl)

  -- the same with the width of a block as the program has it
  pub legs_seen-w : (c : ℕ) → in_block m ≡ c → {s : Seen} → s ≡ times (suc m) (leg_seen S m set c) nothing_seen → s ≡ all_seen S m set
  legs_seen-w c ec e = legs_seen (e ∙ ap (λ c. times (suc m) (leg_seen S m set c) nothing_seen) (sym ec))
