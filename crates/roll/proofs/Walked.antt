-- Document 02, A.7, of the calls themselves: who reads from byte 0 and asks at each position for the record, its label and the next position gets the
-- records of the roll with their labels and then the end; and of an appended roll the records of before, then the new one. Assumes nothing.
use Rattle.std.specs.Prelude.{◌≡◌, Bool, true, take, Result, Ok}
use Rattle.std.proofs.Math.Path.{refl, ap, ap₂}
use Rattle.std.proofs.Common.{◌∙◌}
use mathlib.Core.List.{List, [], ◌∷◌, ◌++◌, map, append_assoc}
use Prim.Native.Nat.{ℕ, zero, suc, ◌+◌, ◌<◌}
use native.Mathlib.Omega.{arith}
use Rattle.lists.specs.Tab.{tab, tab_from}
use Rattle.roll.specs.Format.{Entry}
use Rattle.roll.specs.Reading.{count_of, record_start, entry_at, framed, is_roll, is_former_roll, entries_of}
use Rattle.roll.specs.NumberLaws.{Bytes}
use Rattle.roll.specs.Rendering.{Fits}
use Rattle.roll.specs.StartLaws.{no_start}
use Rattle.roll.specs.HoldingLaws.{is_framed, is_roll_lem, former-framed}
use Rattle.roll.specs.ReadCalls.{read_entry, holds_record, read_by, label_by, past_by}
use Rattle.roll.specs.ReadLaws.{reads_record, reads-label, goes_next, reads_end}
use Rattle.roll.specs.AppendCalls.{judged_append, appended}
use Rattle.roll.proofs.AppendLaws.{done_says, grown}
use Rattle.roll.specs.declared.read.Item.{Item}
use Rattle.roll.specs.declared.read.Item.TheVariants.{End}
use Rattle.tables.specs.declared.Refusal.{Refusal}

-- a record and its label, as the reader gives them
abbrev pub read_whole : Entry → Result Item Refusal × List ℕ
read_whole e = (Ok (read_entry e), e.label)

-- what n readings give, each where the one before went on to; ok is the answer of the rule that says whether b is a roll
unfoldable pub readings : Bool → List ℕ → ℕ → ℕ → List (Result Item Refusal × List ℕ)
readings ok b zero at = []
readings ok b (suc n) at = (read_by ok b at, label_by ok b at) ∷ readings ok b n (past_by ok b at)

-- one reading more than there are records, from byte 0
abbrev pub walked : List ℕ → List (Result Item Refusal × List ℕ)
walked b = readings (is_roll b) b (suc (count_of b)) 0

abbrev pub walked_former : List ℕ → List (Result Item Refusal × List ℕ)
walked_former b = readings (is_former_roll b) b (suc (count_of b)) 0

-- ---- the walk

module _ (ok : Bool) (b : List ℕ) (R : ok ≡ true) (F : framed b ≡ true) where
  -- where no record starts there is no label
  no_label : label_by ok b (record_start b (count_of b)) ≡ []
  unfolding label_by holds_record
  no_label = rw (R, no_start b (record_start b (count_of b)) (record_start b (count_of b)) refl (omega arith)) refl

  from : (n i : ℕ) → i + n ≡ count_of b
      → readings ok b (suc n) (record_start b i) ≡ map read_whole (tab_from i n (λ j. entry_at b (record_start b j))) ++ ((Ok End, []) ∷ [])
  unfolding readings tab_from
  from zero i e =
      let q : i ≡ count_of b = omega arith in
      ap (λ at. (read_by ok b at, label_by ok b at) ∷ []) (ap (record_start b) q) ∙ ap₂ (λ x l. (x, l) ∷ []) (reads_end ok b R F) no_label
  from (suc n) i e =
      let h : i < count_of b = omega arith in
      let next : i + 1 ≡ suc i = omega arith in
      let rest : readings ok b (suc n) (past_by ok b (record_start b i)) ≡ map read_whole (tab_from (suc i) n (λ j. entry_at b (record_start b j))) ++ ((Ok End, []) ∷ []) =
      ap (readings ok b (suc n)) (goes_next ok b R i h ∙ ap (record_start b) next) ∙ from n (suc i) (omega arith) in
      ap₂ ◌∷◌ (ap₂ (λ x l. (x, l)) (reads_record ok b R i h) (reads-label ok b R i h)) rest

  walk-by : readings ok b (suc (count_of b)) 0 ≡ map read_whole (entries_of b) ++ ((Ok End, []) ∷ [])
  unfolding entries_of tab record_start
  walk-by = from (count_of b) 0 (omega arith)

-- reading a roll from byte 0 gives its records with their labels, and then the end; by the former rule as well
pub walk : (b : List ℕ) → is_roll b ≡ true → walked b ≡ map read_whole (entries_of b) ++ ((Ok End, []) ∷ [])
walk b R = walk-by (is_roll b) b R (is_framed b R)

pub walk-former : (b : List ℕ) → is_former_roll b ≡ true → walked_former b ≡ map read_whole (entries_of b) ++ ((Ok End, []) ∷ [])
walk-former b R = walk-by (is_former_roll b) b R (former-framed b R)

-- ---- an appended roll

map-append : {A B : Type 0} (f : A → B) (xs ys : List A) → map f (xs ++ ys) ≡ map f xs ++ map f ys
map-append f [] ys = refl
map-append f (x ∷ xs) ys = ap (λ l. f x ∷ l) (map-append f xs ys)

-- WHAT AN APPENDED ROLL GIVES TO A READER: the readings of the old roll are some and then the end, those of the new one
-- the same, the added record with its label, and then the end
pub appended-walk : (s : List ℕ) (count : ℕ) (e : Entry) → Bytes s → Fits e → (m : ℕ) → judged_append s count e ≡ Ok m
    → (former : List (Result Item Refusal × List ℕ)) × (walked (take count s) ≡ former ++ ((Ok End, []) ∷ []))
    × (walked (take m (appended s count e).1) ≡ former ++ (read_whole e ∷ (Ok End, []) ∷ []))
appended-walk s count e B F m done =
    let old = take count s in
    let new = take m (appended s count e).1 in
    let G = grown s count e B F m done in
    let end : List (Result Item Refusal × List ℕ) = (Ok End, []) ∷ [] in
    let f : List (Result Item Refusal × List ℕ) = map read_whole (entries_of old) in (
      f,
      walk old (is_roll_lem s count (done_says s count e m done).0),
      walk new (is_roll_lem (appended s count e).1 m G.holds)
          ∙ ap (λ rs. map read_whole rs ++ end) G.reads
          ∙ ap (λ l. l ++ end) (map-append read_whole (entries_of old) (e ∷ []))
          ∙ append_assoc f (read_whole e ∷ []) end,
    )
