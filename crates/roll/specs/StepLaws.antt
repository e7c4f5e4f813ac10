-- What the reader's code makes of its tests. Assumes nothing.
use Rattle.std.specs.Prelude.{◌≡◌, Bool, true, false, List, [], ℕ, ◌+◌, ◌-◌, ◌≤◌, ◌<◌, eqb, length, get_or, take, drop, Ok, Err}
use Rattle.std.proofs.Math.Path.{refl, ap}
use Rattle.std.proofs.Common.{arith}
use borrow.Author.Tests.{eq-eqb, ne_eqb, eqb-true}
use Rattle.lists.specs.Tests.{some_at, and_fst, and_snd}
use Rattle.tables.specs.declared.Refusal.TheVariants.{NotARoll}
use Rattle.roll.specs.Reading.{four_at, trailer_at, count_of, entry_at, size_at, record_start, is_start, framed}
use Rattle.roll.specs.StartLaws.{ends-before, head-before}
use Rattle.roll.specs.HoldingLaws.{framed-sized}
use Rattle.roll.specs.ReadCalls.{read_entry, holds_record, read_by, label_by, past_by}
use Rattle.roll.specs.declared.read.Item.{Item}
use Rattle.roll.specs.declared.read.Item.TheVariants.{Record, End}

pub record_is : (b : List ℕ) (at x y : ℕ) → x ≡ four_at b (at + 1) → y ≡ four_at b (at + 5) → Record (get_or b at 0) x y ≡ read_entry (entry_at b at)
unfolding entry_at
record_is b at x y e f = rw (e, f) refl

pub its_trailer : (b : List ℕ) {r : ℕ} → r ≡ four_at b (length b - 4) → r ≡ trailer_at b
unfolding trailer_at
its_trailer b e = e

-- a record that starts in a roll ends in it
pub ends_in : (b : List ℕ) (at : ℕ) → framed b ≡ true → is_start b at ≡ true → at + (10 + get_or b (at + 9) 0) ≤ length b
unfolding is_start size_at
ends_in b at F e =
    let S = framed-sized b F in
    let (k, l, q) = some_at (count_of b) (λ i. eqb (record_start b i) at) e in
    let s : record_start b k ≡ at = eqb-true (record_start b k) at q in
    let h : at + (10 + get_or b (at + 9) 0) ≤ record_start b (count_of b) = subst_end b k at (count_of b) s (ends-before b k (count_of b) l) in
    omega (arith, S.ends, S.whole)
  where
    subst_end : (b : List ℕ) (k at n : ℕ) → record_start b k ≡ at → record_start b k + (10 + get_or b (record_start b k + 9) 0) ≤ record_start b n → at + (10 + get_or b (at + 9) 0) ≤ record_start b n
    subst_end b k at n s h = rw s at h

-- the head of record i is inside the roll
pub inside : (b : List ℕ) → framed b ≡ true → (i p : ℕ) → i < count_of b → p ≡ record_start b i → (p + 10 ≤ 65536) × (p + 10 ≤ length b)
inside b F i p h e =
    let S = framed-sized b F in
    (omega (arith, head-before b i (count_of b) h, S.ends, S.whole, S.small), omega (arith, head-before b i (count_of b) h, S.ends, S.whole))

-- ok is the answer of either rule
module _ (ok : Bool) (b : List ℕ) (at : ℕ) where
  pub not-held : ok ≡ false → false ≡ holds_record ok b at
  unfolding holds_record
  not-held e = rw e refl

  pub held_by : {r : Bool} → ok ≡ true → r ≡ is_start b at → r ≡ holds_record ok b at
  unfolding holds_record
  held_by e h = rw e h

  pub read-not : ok ≡ false → Err NotARoll ≡ read_by ok b at
  unfolding read_by holds_record
  read-not e = rw e refl

  module _ (R : ok ≡ true) where
    pub read_record : {r : Item} → is_start b at ≡ true → r ≡ read_entry (entry_at b at) → Ok r ≡ read_by ok b at
    unfolding read_by holds_record
    read_record e h = rw (R, e) (ap Ok h)

    pub read_end : is_start b at ≡ false → at ≡ trailer_at b → Ok End ≡ read_by ok b at
    unfolding read_by holds_record
    read_end e h = rw (R, e, eq-eqb at (trailer_at b) h) refl

    pub read_none : is_start b at ≡ false → (at ≡ trailer_at b → ⊥) → Err NotARoll ≡ read_by ok b at
    unfolding read_by holds_record
    read_none e h = rw (R, e, ne_eqb at (trailer_at b) h) refl

  pub no_label : holds_record ok b at ≡ false → [] ≡ label_by ok b at
  unfolding label_by
  no_label e = rw e refl

  pub stays : holds_record ok b at ≡ false → at ≡ past_by ok b at
  unfolding past_by
  stays e = rw e refl

  module _ (H : holds_record ok b at ≡ true) where
    is_start_lem : is_start b at ≡ true
    unfolding holds_record
    is_start_lem = and_snd ok (is_start b at) H

    is_roll_lem : ok ≡ true
    unfolding holds_record
    is_roll_lem = and_fst ok (is_start b at) H

    pub record_label : take (get_or b (at + 9) 0) (drop (at + 10) b) ≡ label_by ok b at
    unfolding label_by entry_at
    record_label = rw H refl

    pub goes_on : {p : ℕ} → p ≡ at + size_at b at → p ≡ past_by ok b at
    unfolding past_by
    goes_on e = rw H e

    -- where the code says that the record ends
    pub its_end : {p : ℕ} → p ≡ at + size_at b at → p ≡ at + (10 + get_or b (at + 9) 0)
    unfolding size_at
    its_end e = e

    -- the record is inside the roll
    pub record_room : (ok ≡ true → framed b ≡ true) → (at + (10 + get_or b (at + 9) 0) ≤ length b) × (length b ≤ 65536)
    record_room F = (ends_in b at (F is_roll_lem) is_start_lem, (framed-sized b (F is_roll_lem)).small)
