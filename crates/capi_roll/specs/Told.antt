-- What the code of the C names makes of its tests. Assumes nothing.
use Rattle.std.specs.Prelude.{◌≡◌, Bool, ◌&&◌, cond, eqb, set, take, drop, Result, Ok, Err}
use Rattle.std.proofs.Math.Path.{refl, sym, ap}
use Rattle.std.proofs.Common.{◌∙◌, arith, eq-eqb, ne_eqb}
use Rattle.std.proofs.Math.Bool.{true, false}
use mathlib.Core.List.{List, [], ◌∷◌}
use Prim.Native.Nat.{ℕ, ◌+◌, ◌≤◌}
use Rattle.std.proofs.Math.ListN.{length, get_or, length-drop}
use Rattle.std.proofs.Math.Seq.{length-take-le}
use Rattle.tables.specs.declared.Refusal.{Refusal}
use Rattle.tables.specs.declared.Refusal.TheVariants.{NotARoll}
use Rattle.tables.specs.Answers.{refusal_number}
use Rattle.roll.specs.Format.{Entry}
use Rattle.roll.specs.Reading.{framed, trailer_at, entry_at, size_at, roll_bytes, holds_roll}
use Rattle.roll.specs.ReadCalls.{item_number, read_entry, holds_record, read_by, read_at, read_at_former}
use Rattle.roll.specs.StepLaws.{record_room}
use Rattle.roll.specs.declared.read.Item.{Item}
use Rattle.roll.specs.declared.read.Item.TheVariants.{Record, End}
use Rattle.roll.specs.AppendCalls.{number_of_appended, judged_append, appended}
use Rattle.standing.specs.Register.{standing_number, stands_now}
use Rattle.standing.specs.RetireAll.{retire_all}
use Rattle.standing.specs.declared.Standing.{Standing}
use Rattle.standing.specs.declared.Standing.TheVariants.{Unknown, Retired, Current}
use Rattle.capi_roll.specs.Roll.{seven_or_two, slots_of, item_slots, told_in, read_roll, read_roll_former, appended_slots, append_roll, standing_slots, set_now, retire_all_slots}

pub is_seven : {n : ℕ} → n ≡ 7 → 7 ≡ seven_or_two n
unfolding seven_or_two
is_seven e = sym (ap seven_or_two e)

pub is_two : {n : ℕ} → (n ≡ 7 → ⊥) → 2 ≡ seven_or_two n
unfolding seven_or_two
is_two {n} e = rw (ne_eqb n 7 e) refl

-- the slots after their writes
pub six_slots : (l : List ℕ) (a b c d e f : ℕ) → length l ≡ 6 → set (set (set (set (set (set l 0 a) 1 b) 2 c) 3 d) 4 e) 5 f ≡ (a ∷ b ∷ c ∷ d ∷ e ∷ f ∷ [])
six_slots [] a b c d e f h = absurd (omega (arith, h))
six_slots (_ ∷ []) a b c d e f h = absurd (omega (arith, h))
six_slots (_ ∷ (_ ∷ [])) a b c d e f h = absurd (omega (arith, h))
six_slots (_ ∷ (_ ∷ (_ ∷ []))) a b c d e f h = absurd (omega (arith, h))
six_slots (_ ∷ (_ ∷ (_ ∷ (_ ∷ [])))) a b c d e f h = absurd (omega (arith, h))
six_slots (_ ∷ (_ ∷ (_ ∷ (_ ∷ (_ ∷ []))))) a b c d e f h = absurd (omega (arith, h))
six_slots (_ ∷ (_ ∷ (_ ∷ (_ ∷ (_ ∷ (_ ∷ [])))))) a b c d e f h = refl
six_slots (_ ∷ (_ ∷ (_ ∷ (_ ∷ (_ ∷ (_ ∷ (_ ∷ _))))))) a b c d e f h = absurd (omega (arith, h))

one-slot : (l : List ℕ) (n : ℕ) → length l ≡ 1 → set l 0 n ≡ (n ∷ [])
one-slot [] n h = absurd (omega (arith, h))
one-slot (_ ∷ []) n h = refl
one-slot (_ ∷ (_ ∷ _)) n h = absurd (omega (arith, h))

-- ---- the reader

-- a record that was read lies in the bytes
abbrev pub ItemFits : List ℕ → ℕ → Result Item Refusal → Type 0
ItemFits b at a = (k s e : ℕ) → a ≡ Ok (Record k s e) → (at + (10 + get_or b (at + 9) 0) ≤ length b) × (length b ≤ 65536)

pick : (h e : Bool) (x : Result Item Refusal) {k s l : ℕ} → cond h x (cond e (Ok End) (Err NotARoll)) ≡ Ok (Record k s l) → h ≡ true
pick true e x p = refl
pick false true x p = let z : ◌≡◌ {A = ℕ} 68 0 = ap item_number p in absurd (omega (arith, z))
pick false false x p = let z : ◌≡◌ {A = ℕ} 7 0 = ap item_number p in absurd (omega (arith, z))

-- by either rule, whose answer ok is
pub read-within : (ok : Bool) (b : List ℕ) (at : ℕ) {a : Result Item Refusal} → (ok ≡ true → framed b ≡ true) → a ≡ read_by ok b at → ItemFits b at a
unfolding read_by
read-within ok b at F p k s e q = record_room ok b at (pick (holds_record ok b at) (ok && eqb at (trailer_at b)) (Ok (read_entry (entry_at b at))) (sym p ∙ q)) F

module _ (b : List ℕ) (at : ℕ) (slots : List ℕ) {a : Result Item Refusal} where
  pub told_record : {k s e n p : ℕ} {z : List ℕ} → ItemFits b at a → a ≡ Ok (Record k s e) → n ≡ get_or b (at + 9) 0 → p ≡ at + size_at b at → z ≡ (k ∷ s ∷ e ∷ (at + 10) ∷ n ∷ p ∷ [])
      → (0, z) ≡ item_slots b at a slots
  unfolding item_slots slots_of entry_at size_at
  told_record {k} {s} {e} {n} W q l m h =
      let L = get_or b (at + 9) 0 in
      let long : length (take L (drop (at + 10) b)) ≡ L = length-take-le L (drop (at + 10) b) (omega (arith, (W k s e q).0, length-drop (at + 10) b)) in
      ap (λ (x : List ℕ). (0, x)) (h ∙ ap (λ (x : ℕ). k ∷ s ∷ e ∷ (at + 10) ∷ n ∷ x ∷ []) m ∙ ap (λ (x : ℕ). k ∷ s ∷ e ∷ (at + 10) ∷ x ∷ (at + (10 + L)) ∷ []) (l ∙ sym long))
      ∙ ap (λ (x : Result Item Refusal). item_slots b at x slots) (sym q)

  pub told_end : a ≡ Ok End → (68, slots) ≡ item_slots b at a slots
  unfolding item_slots slots_of
  told_end q = ap (λ (x : Result Item Refusal). item_slots b at x slots) (sym q)

  pub told-refused : {r : Refusal} {n : ℕ} → a ≡ Err r → n ≡ refusal_number r → (n, slots) ≡ item_slots b at a slots
  unfolding item_slots slots_of
  told-refused q h = ap (λ (x : ℕ). (x, slots)) h ∙ ap (λ (x : Result Item Refusal). item_slots b at x slots) (sym q)

module _ (b : List ℕ) (at : ℕ) (slots : List ℕ) (a : Result Item Refusal) where
  pub told-six : {n : ℕ} {z : List ℕ} → length slots ≡ 6 → (n, z) ≡ item_slots b at a slots → (n, z) ≡ told_in b at a slots
  unfolding told_in
  told-six l h = rw (eq-eqb (length slots) 6 l) h

  pub told_slots : {n m : ℕ} → (length slots ≡ 6 → ⊥) → m ≡ item_number a → n ≡ seven_or_two m → (n, slots) ≡ told_in b at a slots
  unfolding told_in
  told_slots l h k = rw (ne_eqb (length slots) 6 l) (ap (λ (x : ℕ). (x, slots)) (k ∙ ap seven_or_two h))

module _ (s : List ℕ) (count at : ℕ) (slots : List ℕ) {b : List ℕ} {a : Result Item Refusal} {x : ℕ × List ℕ} (e : b ≡ roll_bytes s count) (h : x ≡ told_in b at a slots) where
  pub read_told : a ≡ read_at b at → x ≡ read_roll s count at slots
  unfolding read_roll
  read_told p = h ∙ ap (λ (y : Result Item Refusal). told_in b at y slots) p ∙ ap (λ (y : List ℕ). told_in y at (read_at y at) slots) e

  pub read-told-former : a ≡ read_at_former b at → x ≡ read_roll_former s count at slots
  unfolding read_roll_former
  read-told-former p = h ∙ ap (λ (y : Result Item Refusal). told_in b at y slots) p ∙ ap (λ (y : List ℕ). told_in y at (read_at_former y at) slots) e

-- ---- the appender

module _ (slot : List ℕ) (l : length slot ≡ 1) {a : Result ℕ Refusal} where
  pub reported-count : {n : ℕ} → a ≡ Ok n → (0, set slot 0 n) ≡ appended_slots a slot
  unfolding appended_slots
  reported-count {n} q = ap (λ x. (0, x)) (one-slot slot n l) ∙ ap (λ x. appended_slots x slot) (sym q)

  pub reported-refused : {r : Refusal} {n : ℕ} → a ≡ Err r → n ≡ refusal_number r → (n, slot) ≡ appended_slots a slot
  unfolding appended_slots
  reported-refused q h = ap (λ x. (x, slot)) h ∙ ap (λ x. appended_slots x slot) (sym q)

module _ (s : List ℕ) (count : ℕ) (r : Entry) (slot : List ℕ) where
  pub append-told : {a : Result ℕ Refusal} {left : List ℕ} {n : ℕ} {z : List ℕ} → length slot ≡ 1 → (a, left) ≡ appended s count r → (n, z) ≡ appended_slots a slot
      → (n, left, z) ≡ append_roll s count r slot
  unfolding append_roll
  append-told {a} {left} l p q =
      rw (eq-eqb (length slot) 1 l) (ap (λ (x : ℕ × List ℕ). (x.0, left, x.1)) q ∙ ap (λ (x : Result ℕ Refusal × List ℕ). ((appended_slots x.0 slot).0, x.1, (appended_slots x.0 slot).1)) p)

  pub append-slot : {n m : ℕ} {a : Result ℕ Refusal} → (length slot ≡ 1 → ⊥) → a ≡ judged_append s count r → m ≡ number_of_appended a → n ≡ seven_or_two m → (n, s, slot) ≡ append_roll s count r slot
  unfolding append_roll
  append-slot l p h k = rw (ne_eqb (length slot) 1 l) (ap (λ x. (x, s, slot)) (k ∙ ap seven_or_two (h ∙ ap number_of_appended p)))

-- ---- which set stands now

module _ (slot : List ℕ) {a : Result Standing Refusal} where
  pub named_current : {n : ℕ} → length slot ≡ 1 → a ≡ Ok (Current n) → (0, set slot 0 n) ≡ standing_slots a slot
  unfolding standing_slots
  named_current {n} l q = ap (λ (x : List ℕ). (0, x)) (one-slot slot n l) ∙ ap (λ (x : Result Standing Refusal). standing_slots x slot) (sym q)

  pub named-unknown : a ≡ Ok Unknown → (70, slot) ≡ standing_slots a slot
  unfolding standing_slots
  named-unknown q = ap (λ (x : Result Standing Refusal). standing_slots x slot) (sym q)

  pub named-retired : a ≡ Ok Retired → (71, slot) ≡ standing_slots a slot
  unfolding standing_slots
  named-retired q = ap (λ (x : Result Standing Refusal). standing_slots x slot) (sym q)

  pub named-refused : {r : Refusal} {n : ℕ} → a ≡ Err r → n ≡ refusal_number r → (n, slot) ≡ standing_slots a slot
  unfolding standing_slots
  named-refused q h = ap (λ (x : ℕ). (x, slot)) h ∙ ap (λ (x : Result Standing Refusal). standing_slots x slot) (sym q)

module _ (s : List ℕ) (count x : ℕ) (slot : List ℕ) {a : Result Standing Refusal} (e : a ≡ stands_now (roll_bytes s count) x) where
  pub set_told : {n : ℕ} {z : List ℕ} → length slot ≡ 1 → (n, z) ≡ standing_slots a slot → (n, z) ≡ set_now s count x slot
  unfolding set_now
  set_told l h = rw (eq-eqb (length slot) 1 l) (h ∙ ap (λ (y : Result Standing Refusal). standing_slots y slot) e)

  pub set-slot : {n m : ℕ} → (length slot ≡ 1 → ⊥) → m ≡ standing_number a → n ≡ seven_or_two m → (n, slot) ≡ set_now s count x slot
  unfolding set_now
  set-slot l h k = rw (ne_eqb (length slot) 1 l) (ap (λ (y : ℕ). (y, slot)) (k ∙ ap seven_or_two (h ∙ ap standing_number e)))

-- ---- a set retired everywhere

module _ (s : List ℕ) (count x : ℕ) (slot : List ℕ) where
  pub retire_told : {a : Result ℕ Refusal} {left : List ℕ} {n : ℕ} {z : List ℕ} → length slot ≡ 1 → (a, left) ≡ retire_all s count x → (n, z) ≡ appended_slots a slot
      → (n, left, z) ≡ retire_all_slots s count x slot
  unfolding retire_all_slots
  retire_told {a} {left} l p q =
      rw (eq-eqb (length slot) 1 l) (ap (λ (y : ℕ × List ℕ). (y.0, left, y.1)) q ∙ ap (λ (y : Result ℕ Refusal × List ℕ). ((appended_slots y.0 slot).0, y.1, (appended_slots y.0 slot).1)) p)

  module _ (l : length slot ≡ 1 → ⊥) {t : Bool} (h : t ≡ holds_roll s count) where
    pub retire_slot : t ≡ true → (2, s, slot) ≡ retire_all_slots s count x slot
    unfolding retire_all_slots
    retire_slot q = let e : holds_roll s count ≡ true = sym h ∙ q in rw (ne_eqb (length slot) 1 l, e) refl

    pub retire_seven : t ≡ false → (7, s, slot) ≡ retire_all_slots s count x slot
    unfolding retire_all_slots
    retire_seven q = let e : holds_roll s count ≡ false = sym h ∙ q in rw (ne_eqb (length slot) 1 l, e) refl
