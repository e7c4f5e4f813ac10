-- Document 02, A.7, as laws about the reader: it walks a roll record by record from byte 0, and says end at the trailer. They hold for
-- either rule: ok is its answer.
-- Assumes nothing.
use Rattle.std.specs.Prelude.{◌≡◌, Bool, true, List, ℕ, ◌+◌, ◌<◌, Ok}
use Rattle.std.proofs.Math.Path.{refl}
use Rattle.std.proofs.Common.{sym, arith}
use Rattle.std.proofs.Math.Dec.{eqb}
use borrow.Author.Tests.{eq-eqb}
use Rattle.lists.specs.Tests.{some_of, both}
use Rattle.roll.specs.Reading.{trailer_at, count_of, entry_at, record_start, is_start, framed}
use Rattle.roll.specs.StartLaws.{start-next, no_start}
use Rattle.roll.specs.HoldingLaws.{framed-sized}
use Rattle.roll.specs.ReadCalls.{read_entry, holds_record, read_by, label_by, past_by}
use Rattle.roll.specs.declared.read.Item.TheVariants.{End}

module _ (ok : Bool) (b : List ℕ) (R : ok ≡ true) where
  holds : (i : ℕ) → i < count_of b → holds_record ok b (record_start b i) ≡ true
  unfolding holds_record is_start
  holds i h = both ok (is_start b (record_start b i)) R (some_of (count_of b) (λ k. eqb (record_start b k) (record_start b i)) i h (eq-eqb (record_start b i) (record_start b i) refl))

  -- at the start of record i it gives that record and its label, and goes on to where record i + 1 starts
  pub reads_record : (i : ℕ) → i < count_of b → read_by ok b (record_start b i) ≡ Ok (read_entry (entry_at b (record_start b i)))
  unfolding read_by
  reads_record i h = rw (holds i h) refl

  pub reads-label : (i : ℕ) → i < count_of b → label_by ok b (record_start b i) ≡ (entry_at b (record_start b i)).label
  unfolding label_by
  reads-label i h = rw (holds i h) refl

  pub goes_next : (i : ℕ) → i < count_of b → past_by ok b (record_start b i) ≡ record_start b (i + 1)
  unfolding past_by
  goes_next i h = rw (holds i h) (sym (start-next b i))

  -- after the last one it says end
  pub reads_end : framed b ≡ true → read_by ok b (record_start b (count_of b)) ≡ Ok End
  unfolding read_by holds_record
  reads_end F =
      let S = framed-sized b F in
      rw (R, no_start b (trailer_at b) (record_start b (count_of b)) S.ends (omega (arith, S.ends)), eq-eqb (record_start b (count_of b)) (trailer_at b) S.ends) refl
