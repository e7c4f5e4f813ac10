-- Document 02, A.13: two desks that append the same records hold identical rolls. Assumes nothing.
use Rattle.std.specs.Prelude.{◌≡◌, true, List, [], ◌∷◌, ◌++◌, ℕ, ◌<◌, leb, length, drop, Ok}
use Rattle.std.proofs.Common.{sym, ap, ◌∙◌, append_assoc, append-nil, arith}
use Rattle.std.proofs.Math.Path.{subst}
use Rattle.std.proofs.Math.ListN.{take}
use borrow.Author.Tests.{leb-true}
use Rattle.lists.specs.Tests.{and_fst, and_snd}
use Rattle.lists.specs.Elements.{All}
use Rattle.roll.specs.Format.{Entry, bytes_of, in_four, in_fours, joined, starts_of, record_ruled, rendered}
use Rattle.roll.specs.Reading.{trailer_at, entries_of, holds_roll}
use Rattle.roll.specs.NumberLaws.{Bytes, bytes_cons, bytes-append, bytes_drop, bytes-four, bytes_fours}
use Rattle.roll.specs.Rendering.{Fits}
use Rattle.roll.specs.HoldingLaws.{is_roll_lem, bytes_take}
use Rattle.roll.proofs.Laws.{same_bytes}
use Rattle.roll.specs.AppendCalls.{judged_append, appended}
use Rattle.roll.specs.AppendingLaws.{records_are}
use Rattle.roll.proofs.AppendLaws.{done_says, left-new, grown}

-- a record as the appender takes it: numbers of 4 bytes, a label of bytes
abbrev pub Given : Entry → Type 0
Given e = Fits e × Bytes e.label

-- a desk's slice of bytes begins with the roll of these records
pub record Desk (s : List ℕ) (count : ℕ) (rs : List Entry) : Type 0 where
  pub bytes : Bytes s
  pub holds : holds_roll s count ≡ true
  pub reads : entries_of (take count s) ≡ rs

-- these records are appended one after the other, each call done: from the slice s with its count to the slice u with its count m
abbrev pub Appends : List ℕ → ℕ → List Entry → List ℕ → ℕ → Type 0
Appends s count [] u m = (s ≡ u) × (count ≡ m)
Appends s count (e ∷ es) u m = (k : ℕ) × (judged_append s count e ≡ Ok k) × Appends (appended s count e).1 k es u m

-- ---- one record

module _ (s : List ℕ) (count : ℕ) (rs : List Entry) (D : Desk s count rs) (e : Entry) (G : Given e) (k : ℕ) (done : judged_append s count e ≡ Ok k) where
  abbrev all : List Entry
  all = entries_of (take count s) ++ (e ∷ [])

  -- its kind and its label's length are bytes
  small : (e.kind < 256) × (length e.label < 256)
  unfolding record_ruled
  small =
      let (H, r, p, l) = done_says s count e k done in
      let three = leb-true e.kind 3 (and_fst (leb e.kind 3) _ (and_snd (leb 1 e.kind) _ (and_fst (record_ruled e.kind e.number e.earlier) (leb (length e.label) 255) r))) in
      let short = leb-true (length e.label) 255 (and_snd (record_ruled e.kind e.number e.earlier) (leb (length e.label) 255) r) in
      (omega (arith, three), omega (arith, short))

  record_bytes : Bytes (bytes_of e)
  record_bytes =
      let tail = length e.label ∷ e.label in
      let rest = in_four e.earlier ++ tail in
      bytes_cons e.kind (in_four e.number ++ rest) small.0
      (bytes-append (in_four e.number) rest (bytes-four e.number)
      (bytes-append (in_four e.earlier) tail (bytes-four e.earlier) (bytes_cons (length e.label) e.label small.1 G.1)))

  new-bytes : Bytes (appended s count e).1
  unfolding rendered
  new-bytes =
      let b = take count s in
      let ends = in_four (length all) ++ in_four (length (joined all)) in
      let records = subst Bytes (sym (records_are s count e D.holds D.bytes))
      (bytes-append (take (trailer_at b) s) (bytes_of e) (bytes_take s (trailer_at b) D.bytes) record_bytes) in
      let trailer = bytes-append (in_fours (starts_of all)) ends (bytes_fours (starts_of all))
      (bytes-append (in_four (length all)) (in_four (length (joined all))) (bytes-four (length all)) (bytes-four (length (joined all)))) in
      subst Bytes (sym (left-new s count e D.bytes G.0 k done))
      (bytes-append (rendered all (starts_of all)) (drop k s) (bytes-append (joined all) (in_fours (starts_of all) ++ ends) records trailer) (bytes_drop k s D.bytes))

  pub one_more : Desk (appended s count e).1 k (rs ++ (e ∷ []))
  one_more =
      let g = grown s count e D.bytes G.0 k done in
      record { bytes = new-bytes; holds = g.holds; reads = g.reads ∙ ap (λ l. l ++ (e ∷ [])) D.reads }

-- ---- the law

-- a desk holds the records that it had and then those that it appended
pub keeps : (es : List Entry) → All Given es → (s : List ℕ) (count : ℕ) (rs : List Entry) → Desk s count rs → (u : List ℕ) (m : ℕ) → Appends s count es u m → Desk u m (rs ++ es)
keeps [] G s count rs D u m (p, q) = subst (Desk u m) (sym (append-nil rs)) (subst (λ n. Desk u n rs) q (subst (λ l. Desk l count rs) p D))
keeps (e ∷ es) G s count rs D u m (k, done, more) =
    subst (Desk u m) (append_assoc rs (e ∷ []) es) (keeps es G.1 (appended s count e).1 k (rs ++ (e ∷ [])) (one_more s count rs D e G.0 k done) u m more)

-- desks that hold the same records hold the same bytes, whatever the bytes after their rolls are
pub same-roll : (s t : List ℕ) (m n : ℕ) (rs : List Entry) → Desk s m rs → Desk t n rs → take m s ≡ take n t
same-roll s t m n rs D E =
    (same_bytes (take m s) (take n t) (bytes_take s m D.bytes) (bytes_take t n E.bytes) (is_roll_lem s m D.holds) (is_roll_lem t n E.holds)).0 (D.reads ∙ sym E.reads)

-- two desks that append the same records hold identical rolls
pub two-desks : (rs es : List Entry) → All Given es → (s t u v : List ℕ) (m n j k : ℕ) → Desk s m rs → Desk t n rs → Appends s m es u j → Appends t n es v k → take j u ≡ take k v
two-desks rs es G s t u v m n j k D E p q = same-roll u v j k (rs ++ es) (keeps es G s m rs D u j p) (keeps es G t n rs E v k q)
