-- Document 02, A.7, as laws about the appender: the new roll has the records of the old one and then the new record, and no byte behind
-- it changes.
-- Assumes nothing.
use Rattle.std.specs.Prelude.{◌≡◌, Bool, true, false, not, ◌&&◌, ◌||◌, cond, ◌⊎◌, List, [], ◌∷◌, ◌++◌, ℕ, ◌+◌, ◌≤◌, leb, Result, Ok, Err}
use Rattle.std.proofs.Math.Path.{refl, ap, subst}
use Rattle.std.proofs.Common.{sym, ◌∙◌, true≢false, inl, inr, arith}
use Rattle.std.proofs.Math.Dec.{ltb}
use Rattle.std.proofs.Math.ListN.{length, take, drop, length-append}
use Rattle.std.proofs.Math.Seq.{take_at, drop_at}
use borrow.Author.Tests.{ltb-false, leb-true, le-leb}
use Rattle.lists.specs.Tests.{and_fst, and_snd, both}
use Rattle.lists.specs.Elements.{All}
use Rattle.roll.specs.Format.{Entry, starts_of, record_ruled, keeps_rules, rendered}
use Rattle.roll.specs.Reading.{entries_of, holds_roll}
use Rattle.roll.specs.NumberLaws.{Bytes}
use Rattle.roll.specs.Rendering.{Fits}
use Rattle.roll.specs.HoldingLaws.{is_roll_lem, bytes_take}
use Rattle.roll.proofs.Laws.{Good, good_entries, rendered_is, entries_back}
use Rattle.roll.specs.AppendingLaws.{new-length}
use Rattle.tables.specs.declared.Refusal.{Refusal}
use Rattle.tables.specs.declared.Refusal.TheVariants.{NotARoll, NoRoom}
use Rattle.roll.specs.AppendCalls.{with_entry, passes, judged_append, leaves, appended}
use Rattle.roll.specs.AppendLaws.{Grown}

-- ---- the appender

or_false : (a b : Bool) → (a || b) ≡ false → (a ≡ false) × (b ≡ false)
or_false true b e = absurd (true≢false e)
or_false false b e = (refl, e)

all_append : (P : Entry → Type 0) (xs ys : List Entry) → All P xs → All P ys → All P (xs ++ ys)
all_append P [] ys p q = q
all_append P (x ∷ xs) ys p q = (p.0, all_append P xs ys p.1 q)

never : {a : Result ℕ Refusal} (m : ℕ) → (a ≡ (Err NotARoll)) ⊎ (a ≡ (Err NoRoom)) → a ≡ Ok m → ⊥
never m (inl p) q = let z : ◌≡◌ {A = ℕ} 0 1 = cc in omega arith
never m (inr p) q = let z : ◌≡◌ {A = ℕ} 0 1 = cc in omega arith

-- what an answer other than a refusal says
pick_says : (held over : Bool) (n m : ℕ) → cond (not held) (Err NotARoll) (cond over (Err NoRoom) (Ok n)) ≡ Ok m → (held ≡ true) × (over ≡ false) × (n ≡ m)
pick_says true true n m d = absurd (never m (inr refl) d)
pick_says true false n m d = (refl, refl, cc)
pick_says false over n m d = absurd (never m (inl refl) d)

pub done_says : (s : List ℕ) (count : ℕ) (e : Entry) (m : ℕ) → judged_append s count e ≡ Ok m
    → (holds_roll s count ≡ true) × (keeps_rules e ≡ true) × (passes s (length (entries_of (take count s)) + 1) (length (with_entry (take count s) e)) ≡ false) × (length (with_entry (take count s) e) ≡ m)
unfolding judged_append
done_says s count e m d =
    let (p, q, l) = pick_says (holds_roll s count && keeps_rules e) (passes s (length (entries_of (take count s)) + 1) (length (with_entry (take count s) e))) (length (with_entry (take count s) e)) m d in
    (and_fst (holds_roll s count) (keeps_rules e) p, and_snd (holds_roll s count) (keeps_rules e) p, q, l)

-- what the appender's code needs of its answer, and what it leaves by it
pub may_add : (s : List ℕ) (count : ℕ) (e : Entry) (m : ℕ) → Bytes s → judged_append s count e ≡ Ok m
    → (holds_roll s count ≡ true) × (length e.label ≤ 255) × (count + (14 + length e.label) ≤ length s) × (count + (14 + length e.label) ≡ m)
unfolding passes
may_add s count e m B d =
    let (H, k, p, l) = done_says s count e m d in
    let w = length (with_entry (take count s) e) in
    let a = length (entries_of (take count s)) + 1 in
    let n = new-length s count e H B in
    let c = ltb-false (length s) w (or_false (ltb 65536 w) (ltb (length s) w) (or_false (ltb 1000 a) (ltb 65536 w || ltb (length s) w) p).1).1 in
    (H, leb-true (length e.label) 255 (and_snd (record_ruled e.kind e.number e.earlier) (leb (length e.label) 255) k), subst (λ x. x ≤ length s) n c, sym n ∙ l)

module _ (s : List ℕ) (count : ℕ) (e : Entry) where
  pub leaves-new : (m : ℕ) (z : List ℕ) → Bytes s → judged_append s count e ≡ Ok m → z ≡ with_entry (take count s) e ++ drop (count + (14 + length e.label)) s
      → ◌≡◌ {A = Result ℕ Refusal × List ℕ} (Ok m, z) (appended s count e)
  unfolding appended
  leaves-new m z B d q =
      let l = (may_add s count e m B d).3 in
      ap (λ x. (Ok m, x)) (q ∙ ap (λ k. with_entry (take count s) e ++ drop k s) l) ∙ ap (λ a. (a, leaves a (with_entry (take count s) e) s)) (sym d)

  pub leaves-old : (x : Refusal) → Err x ≡ judged_append s count e → ◌≡◌ {A = Result ℕ Refusal × List ℕ} (Err x, s) (appended s count e)
  unfolding appended
  leaves-old x d = ap (λ a. (a, leaves a (with_entry (take count s) e) s)) d

module _ (s : List ℕ) (count : ℕ) (e : Entry) (B : Bytes s) (F : Fits e) (m : ℕ) (done : judged_append s count e ≡ Ok m) where
  abbrev old : List ℕ
  old = take count s

  abbrev all : List Entry
  all = entries_of old ++ (e ∷ [])

  abbrev new : List ℕ
  new = rendered all (starts_of all)

  is_new : with_entry old e ≡ new
  unfolding with_entry
  is_new = refl

  long-new : length new ≡ m
  long-new = ap length (sym is_new) ∙ (done_says s count e m done).3

  pub left-new : (appended s count e).1 ≡ new ++ drop m s
  unfolding appended
  left-new = ap (λ a. leaves a (with_entry old e) s) done ∙ ap (λ l. l ++ drop m s) is_new

  limits : (length all ≤ 1000) × (length new ≤ 65536)
  unfolding passes
  limits =
      let p = (done_says s count e m done).2 in
      let k = length (entries_of old) + 1 in
      let w = length (with_entry old e) in
      let a = ltb-false 1000 k (or_false (ltb 1000 k) (ltb 65536 w || ltb (length s) w) p).0 in
      let c = ltb-false 65536 w (or_false (ltb 65536 w) (ltb (length s) w) (or_false (ltb 1000 k) (ltb 65536 w || ltb (length s) w) p).1).0 in
      (omega (arith, length-append (entries_of old) (e ∷ []), a), subst (λ l. length l ≤ 65536) is_new c)

  good_all : All Good all
  good_all =
      let H = (done_says s count e m done).0 in
      all_append Good (entries_of old) (e ∷ []) (good_entries old (bytes_take s count B) (is_roll_lem s count H)) ((F, (done_says s count e m done).1), tt)

  fits_all : (l : List Entry) → All Good l → All Fits l
  fits_all [] g = tt
  fits_all (x ∷ xs) g = (g.0.0, fits_all xs g.1)

  pub grown : Grown s count e m
  unfolding holds_roll
  grown =
      let t : take m (new ++ drop m s) ≡ new = take_at new (drop m s) m long-new in
      let l : m ≤ length (new ++ drop m s) = omega (arith, length-append new (drop m s), long-new) in
      record {
        holds = rw left-new (both (leb m (length (new ++ drop m s))) _ (le-leb m (length (new ++ drop m s)) l) (rw t (rendered_is all limits.0 limits.1 good_all)));
        reads = ap (λ x. entries_of (take m x)) left-new ∙ ap entries_of t ∙ entries_back all (starts_of all) limits.0 limits.1 (fits_all all good_all);
        rest = ap (drop m) left-new ∙ drop_at new (drop m s) m long-new;
      }
