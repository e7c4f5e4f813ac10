-- What `compact_to_full` leaves where its guard lets a call pass. Assumes nothing.
use Rattle.std.specs.Prelude.{Ok, ◌≡◌, refl, true, false, List, ℕ, suc, ◌*◌, ◌≤◌, ℤ, length, Float}
use Rattle.std.proofs.Common.{sym, ap, ◌∙◌}
use Rattle.std.proofs.Math.Nat.{le_trans}
use Rattle.std.specs.Float.Ieee.{nan}
use Rattle.lists.specs.Digits.{times_power, room-mul}
use Rattle.tables.specs.Answers.{Answer}
use Rattle.tables.specs.Answers.{is_refusal, is_done, after_refusal, after-done}
use Rattle.tables.specs.Lengths.{set_length, set_rooms}
use Rattle.tables.specs.Shifts.{Laws}
use Rattle.tables.specs.Compact.{ShiftTables, shifts_of}
use Rattle.tables.proofs.CompactLaws.{done-tables}
use Rattle.places.specs.ReadOuts.{Tables}
use Rattle.orbits.specs.Blockwise.{in_block}
use Rattle.read_out.specs.FullSet.{full_set}
use Rattle.read_out.specs.ReadOut.{judged_read_out, compact_to_full}
use Rattle.read_out.specs.Copies.{copy_rows}
use Rattle.read_out.proofs.CopiesLaws.{rows_make}
use Rattle.read_out.specs.Guard.{done, reading}

module _ (limit m w : ℕ) (wide : in_block m ≡ w) (small : limit ≤ 1024) (full set : List Float) (T : ShiftTables) (a : Answer) (e : a ≡ judged_read_out limit m (length full) (length set) T) where
  module _ (h : is_refusal a ≡ false) where
    rules : Laws (shifts_of T)
    unfolding judged_read_out
    rules = (done-tables limit _ T (done limit m w wide small full set T a e h)).2

    pub read-out-done : {full' : List Float} → full' ≡ copy_rows T.s2pp T.nsym_list T.perms T.n_satom w m set full → (Ok tt, full') ≡ compact_to_full limit m full set T
    unfolding compact_to_full
    read-out-done p = rw (← e, after-done a (full_set nan (shifts_of T) m set) full h, p, rows_make T rules w m wide set full (reading limit m w wide small full set T a e h).full-length, is_done a h)
