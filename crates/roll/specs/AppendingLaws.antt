-- How the appender's stores make the new roll, and what its tests say of its answer. Assumes nothing.
use Rattle.std.specs.Prelude.{◌≡◌, Bool, true, false, ◌&&◌, ◌||◌, ◌⊎◌, List, [], ◌∷◌, ◌++◌, ℕ, ◌+◌, ◌≤◌, ◌<◌, leb, Ok, Err}
use Rattle.std.proofs.Math.Path.{refl, sym, ap}
use Rattle.std.proofs.Common.{ap₂, ◌∙◌, inl, inr, append_assoc, arith, length-take-le}
use Rattle.std.proofs.Math.Bool.{cond}
use Rattle.std.proofs.Math.Dec.{ltb}
use Rattle.std.proofs.Math.ListN.{length, take, drop, length-append}
use Rattle.std.proofs.Math.Seq.{take-take}
use borrow.Author.Tests.{lt-ltb, le-ltb}
use Rattle.lists.specs.Tests.{or_true}
use Rattle.lists.specs.Tab.{tab, length-tab}
use Rattle.roll.specs.Format.{Entry, bytes_of, size_of, in_four, in_fours, joined, starts_of, record_ruled, keeps_rules, rendered}
use Rattle.roll.specs.Reading.{trailer_at, count_of, entry_at, record_start, entries_of, holds_roll}
use Rattle.roll.specs.Laid.{laid, laid-laid}
use Rattle.roll.specs.NumberLaws.{Bytes, length_fours}
use Rattle.roll.specs.Rendering.{start_at, start_list, start-at, tab-starts, starts_in, joined-more, joined-one, length-bytes, records_back}
use Rattle.roll.specs.HoldingLaws.{is_sized, is_there, is_roll_lem, has-count, within-limits, bytes_take, length-starts-from, length-rendered}
use Rattle.tables.specs.declared.Refusal.TheVariants.{NotARoll, NoRoom}
use Rattle.roll.specs.AppendCalls.{with_entry, passes, judged_append}

-- ---- the record to add

module _ (s : List ℕ) (count : ℕ) (r : Entry) (H : holds_roll s count ≡ true) (B : Bytes s) where
  abbrev b : List ℕ
  b = take count s

  abbrev rs : List Entry
  rs = entries_of b ++ (r ∷ [])

  pub entries-count : length (entries_of b) ≡ count_of b
  unfolding entries_of
  entries-count = length-tab (count_of b) (λ i. entry_at b (record_start b i))

  -- the former records are the bytes before the trailer
  pub former : joined (entries_of b) ≡ take (trailer_at b) s
  unfolding entries_of
  former =
      let S = is_sized b (is_roll_lem s count H) in
      let h : record_start b (count_of b) ≤ length b = omega (arith, S.ends, S.whole) in
      let t : trailer_at b ≤ count = omega (arith, S.whole, has-count s count H) in
      records_back b (bytes_take s count B) (count_of b) h ∙ ap (λ n. take n b) S.ends ∙ take-take (trailer_at b) count s t

  pub records_are : joined rs ≡ take (trailer_at b) s ++ bytes_of r
  records_are = joined-more (entries_of b) (r ∷ []) ∙ ap₂ ◌++◌ former (joined-one r)

  abbrev t : ℕ
  t = trailer_at b

  before_end : t ≤ length s
  before_end = let L = within-limits s count H in let g = is_there s count H in omega arith

  length_records : length (joined rs) ≡ t + size_of r
  length_records = ap length records_are ∙ length-append (take t s) (bytes_of r) ∙ omega (arith, length-take-le t s before_end, length-bytes r)

  length-entries : length rs ≡ count_of b + 1
  length-entries = length-append (entries_of b) (r ∷ []) ∙ ap (λ n. n + 1) entries-count

  pub new-length : length (with_entry b r) ≡ count + (14 + length r.label)
  unfolding with_entry
  new-length =
      let L = within-limits s count H in
      length-rendered rs (starts_of rs) ∙ omega (arith, L.2, length_records, length-starts-from 0 rs, length-entries)

  -- the answer, by the code's tests
  pub answer-long : (999 < count_of b) ⊎ ((65536 < count + (14 + length r.label)) ⊎ (length s < count + (14 + length r.label))) → keeps_rules r ≡ true → (Err NoRoom) ≡ judged_append s count r
  unfolding judged_append passes
  answer-long h k = rw (H, k, entries-count, new-length) (go h)
    where
      go : (999 < count_of b) ⊎ ((65536 < count + (14 + length r.label)) ⊎ (length s < count + (14 + length r.label)))
          → (Err NoRoom) ≡ cond (ltb 1000 (count_of b + 1) || (ltb 65536 (count + (14 + length r.label)) || ltb (length s) (count + (14 + length r.label)))) (Err NoRoom) (Ok (count + (14 + length r.label)))
      go (inl g) = rw (lt-ltb 1000 (count_of b + 1) (omega arith)) refl
      go (inr (inl g)) = rw (lt-ltb 65536 (count + (14 + length r.label)) g, or_true (ltb 1000 (count_of b + 1))) refl
      go (inr (inr g)) = rw (lt-ltb (length s) (count + (14 + length r.label)) g, or_true (ltb 65536 (count + (14 + length r.label))), or_true (ltb 1000 (count_of b + 1))) refl

  pub answer-done : count_of b ≤ 999 → count + (14 + length r.label) ≤ 65536 → count + (14 + length r.label) ≤ length s → keeps_rules r ≡ true → Ok (count + (14 + length r.label)) ≡ judged_append s count r
  unfolding judged_append passes
  answer-done h g l k =
      rw (H, k, entries-count, new-length) (
      rw (le-ltb 1000 (count_of b + 1) (omega arith), le-ltb 65536 (count + (14 + length r.label)) g, le-ltb (length s) (count + (14 + length r.label)) l) refl)

  -- ---- the stores

  module _ (room : count + (14 + length r.label) ≤ length s) where
    abbrev s₁ : List ℕ
    s₁ = laid s t (bytes_of r)

    abbrev z : List ℕ
    z = drop (t + length (bytes_of r)) s

    begins : s₁ ≡ joined rs ++ z
    unfolding laid
    begins = sym (append_assoc (take t s) (bytes_of r) z) ∙ ap (λ l. l ++ z) (sym records_are)

    starts_are : (record_start s₁ (count_of b + 1) ≡ length (joined rs)) × (tab (count_of b + 1) (record_start s₁) ≡ starts_of rs)
    starts_are =
        let i = starts_in s₁ rs 0 z begins in
        let n = length-entries in
        let e : 0 + length (joined rs) ≡ length (joined rs) = omega arith in
        (start-at s₁ (count_of b + 1) ∙ ap (start_at s₁ 0) (sym n) ∙ i.0 ∙ e, sym (tab-starts s₁ (count_of b + 1)) ∙ ap (start_list s₁ 0) (sym n) ∙ i.1)

    -- the records of the slice with the record laid end where it ends
    pub records_end : record_start s₁ (count_of b + 1) ≡ t + (10 + length r.label)
    records_end = starts_are.0 ∙ length_records

    -- the record, and the trailer after it, make the new roll
    pub record_laid :
        laid s₁ (t + (10 + length r.label)) (in_fours (tab (count_of b + 1) (record_start s₁)) ++ (in_four (count_of b + 1) ++ in_four (t + (10 + length r.label))))
        ≡ with_entry b r ++ drop (count + (14 + length r.label)) s
    unfolding with_entry rendered laid
    record_laid =
        let T = in_fours (starts_of rs) ++ (in_four (length rs) ++ in_four (length (joined rs))) in
        let fits : t + length (bytes_of r) ≤ length s = let L = within-limits s count H in omega (arith, length-bytes r, L.2) in
        let same : in_fours (tab (count_of b + 1) (record_start s₁)) ++ (in_four (count_of b + 1) ++ in_four (t + (10 + length r.label))) ≡ T =
        rw (starts_are.1, ← length-entries, ← length_records) refl in
        let long : t + length (bytes_of r ++ T) ≡ count + (14 + length r.label) =
        let a = length-append (bytes_of r) T in
        let c = length-append (in_fours (starts_of rs)) (in_four (length rs) ++ in_four (length (joined rs))) in
        let L = within-limits s count H in
        omega (arith, a, c, length-bytes r, length_fours (starts_of rs), length-starts-from 0 rs, length-entries, L.2) in
        ap (λ x. laid s₁ (t + (10 + length r.label)) x) same
        ∙ ap (λ k. laid s₁ (t + k) T) (sym (length-bytes r))
        ∙ laid-laid s t (bytes_of r) fits T
        ∙ ap (λ k. take t s ++ ((bytes_of r ++ T) ++ drop k s)) long
        ∙ ap (λ x. take t s ++ x) (append_assoc (bytes_of r) T (drop (count + (14 + length r.label)) s))
        ∙ sym (append_assoc (take t s) (bytes_of r) (T ++ drop (count + (14 + length r.label)) s))
        ∙ ap (λ x. x ++ (T ++ drop (count + (14 + length r.label)) s)) (sym records_are)
        ∙ sym (append_assoc (joined rs) T (drop (count + (14 + length r.label)) s))

    -- the same for what the code holds
    module _ (w : List ℕ) (n u : ℕ) (e : n ≡ count_of b) (f : u ≡ trailer_at b) (q : w ≡ laid s u (bytes_of r)) where
      pub trailer_ready : record_start w (n + 1) ≡ u + (10 + length r.label)
      trailer_ready =
          ap₂ (λ x m. record_start x (m + 1)) (q ∙ ap (λ k. laid s k (bytes_of r)) f) e ∙ records_end ∙ ap (λ k. k + (10 + length r.label)) (sym f)

      pub new-roll : (y : List ℕ) → y ≡ laid w (u + (10 + length r.label)) (in_fours (tab (n + 1) (record_start w)) ++ (in_four (n + 1) ++ in_four (u + (10 + length r.label))))
          → y ≡ with_entry b r ++ drop (count + (14 + length r.label)) s
      new-roll y p =
          p
          ∙ ap (λ x. laid x (u + (10 + length r.label)) (in_fours (tab (n + 1) (record_start x)) ++ (in_four (n + 1) ++ in_four (u + (10 + length r.label))))) (q ∙ ap (λ k. laid s k (bytes_of r)) f)
          ∙ ap₂ (λ m k. laid s₁ (k + (10 + length r.label)) (in_fours (tab (m + 1) (record_start s₁)) ++ (in_four (m + 1) ++ in_four (k + (10 + length r.label))))) e f
          ∙ record_laid

pub answer-not : (s : List ℕ) (count : ℕ) (r : Entry)
    → (holds_roll s count ≡ false) ⊎ ((record_ruled r.kind r.number r.earlier ≡ false) ⊎ (leb (length r.label) 255 ≡ false)) → (Err NotARoll) ≡ judged_append s count r
unfolding judged_append
answer-not s count r h = rw (none (holds_roll s count) (record_ruled r.kind r.number r.earlier) (leb (length r.label) 255) h) refl
  where
    none : (a b c : Bool) → (a ≡ false) ⊎ ((b ≡ false) ⊎ (c ≡ false)) → (a && (b && c)) ≡ false
    none a b c (inl e) = rw e refl
    none true b c (inr (inl e)) = rw e refl
    none false b c (inr (inl e)) = refl
    none true true c (inr (inr e)) = e
    none true false c (inr (inr e)) = refl
    none false b c (inr (inr e)) = refl
