-- What is known of `compact_to_full` where its guard lets a call pass. Assumes nothing.
use Rattle.std.specs.Prelude.{Ok, ◌≡◌, refl, true, false, List, ℕ, suc, ◌*◌, ◌≤◌, ℤ, length, Float}
use Rattle.std.proofs.Common.{sym, ap, ◌∙◌}
use Rattle.std.proofs.Math.Nat.{le_trans}
use Rattle.std.specs.Float.Ieee.{nan}
use Rattle.lists.specs.Digits.{times_power, room-mul}
use Rattle.tables.specs.Answers.{Answer}
use Rattle.tables.specs.Answers.{is_refusal, is_done, after_refusal, after-done}
use Rattle.tables.specs.Lengths.{set_length, set_rooms}
use Rattle.tables.specs.Shifts.{Laws}
use Rattle.tables.specs.Compact.{ShiftTables, shifts_of}
use Rattle.tables.proofs.CompactLaws.{done-tables}
use Rattle.places.specs.ReadOuts.{Tables}
use Rattle.orbits.specs.Blockwise.{in_block}
use Rattle.read_out.specs.FullSet.{full_set}
use Rattle.read_out.specs.ReadOut.{judged_read_out, compact_to_full}
use Rattle.read_out.specs.Copies.{copy_rows}

-- ---- what is known where a call is not refused

-- the lengths in blocks of w numbers, and the tables that are read
pub record Reading (m w lenFull lenSet n : ℕ) (s2pp nsym_list perms : List ℤ) : Type 0 where
  pub read-tables : Tables n s2pp nsym_list perms
  pub set-length : lenSet ≡ times_power n m read-tables.n_patom * w
  pub full-length : lenFull ≡ times_power n m n * w

-- a stated length in blocks
in_blocks : (m w F n : ℕ) → in_block m ≡ w → set_length F n m ≡ times_power n m F * w
unfolding in_block
in_blocks m w F n e =
    set_rooms F n m ∙ room-mul 3 (suc m) (times_power n m F) ∙ ap (λ c. times_power n m F * c) e

module _ (limit m w : ℕ) (wide : in_block m ≡ w) (small : limit ≤ 1024) (full set : List Float) (T : ShiftTables) (a : Answer) (e : a ≡ judged_read_out limit m (length full) (length set) T) where
  pub read-out-refused : is_refusal a ≡ true → (a, full) ≡ compact_to_full limit m full set T
  unfolding compact_to_full
  read-out-refused h = rw (← e, after_refusal a (full_set nan (shifts_of T) m set) full h)

  module _ (h : is_refusal a ≡ false) where
    pub done : judged_read_out limit m (length full) (length set) T ≡ Ok tt
    done = sym e ∙ is_done a h

    pub reading : Reading m w (length full) (length set) T.n_satom T.s2pp T.nsym_list T.perms
    unfolding judged_read_out
    reading =
        let (l, F, L) = done-tables limit _ T done in
        let R : Tables T.n_satom T.s2pp T.nsym_list T.perms = record {
          n_patom = T.n_patom;
          num_trans = T.num_trans;
          satoms = le_trans F.satoms small;
          patoms = le_trans F.patoms small;
          s2pp-fit = F.s2pp-fit;
          nsym_fit = F.nsym_fit;
          perms-fit = F.perms-fit;
        } in
        record {
          read-tables = R;
          set-length = l.0 ∙ in_blocks m w T.n_patom T.n_satom wide;
          full-length = l.1.0 ∙ in_blocks m w T.n_satom T.n_satom wide;
        }

-- ---- the widths of blocks

pub in9 : in_block 1 ≡ 9
unfolding in_block times_power
in9 = refl

pub in27 : in_block 2 ≡ 27
unfolding in_block times_power
in27 = refl

pub in81 : in_block 3 ≡ 81
unfolding in_block times_power
in81 = refl
