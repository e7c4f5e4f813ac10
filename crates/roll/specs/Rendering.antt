-- Records as bytes and bytes as records: a roll is its records one after the other and a trailer, and they are read back. Assumes nothing.
use Rattle.std.specs.Prelude.{◌≡◌, drop}
use Rattle.std.proofs.Math.Path.{refl, sym, ap, ap₂}
use Rattle.std.proofs.Common.{◌∙◌, subst, add-zero, not-suc-le-zero, le_of_suc-le-suc, length-append, drop-cons, take-add, drop-drop, get_or-drop}
use mathlib.Core.List.{List, [], ◌∷◌, ◌++◌, append_assoc, append-nil}
use Prim.Native.Nat.{ℕ, zero, suc, ◌+◌, ◌-◌, ◌≤◌, ◌<◌}
use native.Mathlib.Omega.{arith}
use Rattle.std.proofs.Math.ListN.{length, get_or, take, length-drop}
use Rattle.std.proofs.Math.Seq.{take-append_seam, drop-append_seam, length-take-le}
use Rattle.lists.specs.Tab.{tab, is_tab}
use Rattle.lists.specs.Elements.{All}
use Rattle.roll.specs.Format.{Entry, bytes_of, size_of, in_four, joined, starts_from}
use Rattle.roll.specs.Reading.{four_at, entry_at, size_at, record_start}
use Rattle.roll.specs.NumberLaws.{Bytes, four-written, read_back}

-- ---- sizes

pub length-bytes : (r : Entry) → length (bytes_of r) ≡ size_of r
length-bytes r = omega arith

pub joined-more : (rs qs : List Entry) → joined (rs ++ qs) ≡ joined rs ++ joined qs
unfolding joined
joined-more [] qs = refl
joined-more (r ∷ rs) qs = ap (λ z. bytes_of r ++ z) (joined-more rs qs) ∙ sym (append_assoc (bytes_of r) (joined rs) (joined qs))

pub joined-one : (r : Entry) → joined (r ∷ []) ≡ bytes_of r
unfolding joined
joined-one r = append-nil (bytes_of r)

-- ---- from a position on

-- where record i starts when the first starts at p
unfoldable pub start_at : List ℕ → ℕ → ℕ → ℕ
start_at b p zero = p
start_at b p (suc i) = start_at b (p + size_at b p) i

-- the starts and the records of the first n from p
unfoldable pub start_list : List ℕ → ℕ → ℕ → List ℕ
start_list b p zero = []
start_list b p (suc n) = p ∷ start_list b (p + size_at b p) n

unfoldable pub entry_list : List ℕ → ℕ → ℕ → List Entry
entry_list b p zero = []
entry_list b p (suc n) = entry_at b p ∷ entry_list b (p + size_at b p) n

module _ (b : List ℕ) where
  start-after : (i p : ℕ) → start_at b p (suc i) ≡ start_at b p i + size_at b (start_at b p i)
  unfolding start_at
  start-after zero p = refl
  start-after (suc i) p = start-after i (p + size_at b p)

  pub start-at : (i : ℕ) → record_start b i ≡ start_at b 0 i
  unfolding record_start start_at
  start-at zero = refl
  start-at (suc i) = ap (λ x. x + size_at b x) (start-at i) ∙ sym (start-after i 0)

  pub start-later : (i p : ℕ) → p ≤ start_at b p i
  unfolding start_at
  start-later zero p = omega arith
  start-later (suc i) p = let h = start-later i (p + size_at b p) in omega arith

  length-starts : (n p : ℕ) → length (start_list b p n) ≡ n
  unfolding start_list
  length-starts zero p = refl
  length-starts (suc n) p = ap suc (length-starts n (p + size_at b p))

  get_or-starts : (n p k : ℕ) → k < n → get_or (start_list b p n) k 0 ≡ start_at b p k
  unfolding start_list start_at
  get_or-starts zero p k h = absurd (not-suc-le-zero h)
  get_or-starts (suc n) p zero h = refl
  get_or-starts (suc n) p (suc k) h = get_or-starts n (p + size_at b p) k (le_of_suc-le-suc h)

  pub tab-starts : (n : ℕ) → start_list b 0 n ≡ tab n (record_start b)
  tab-starts n = is_tab 0 n (record_start b) (start_list b 0 n) (length-starts n 0) (λ k h. get_or-starts n 0 k h ∙ sym (start-at k))

  length-entries : (n p : ℕ) → length (entry_list b p n) ≡ n
  unfolding entry_list
  length-entries zero p = refl
  length-entries (suc n) p = ap suc (length-entries n (p + size_at b p))

  get_or-entries : (d : Entry) (n p k : ℕ) → k < n → get_or (entry_list b p n) k d ≡ entry_at b (start_at b p k)
  unfolding entry_list start_at
  get_or-entries d zero p k h = absurd (not-suc-le-zero h)
  get_or-entries d (suc n) p zero h = refl
  get_or-entries d (suc n) p (suc k) h = get_or-entries d n (p + size_at b p) k (le_of_suc-le-suc h)

  pub tab-entries : (n : ℕ) → entry_list b 0 n ≡ tab n (λ i. entry_at b (record_start b i))
  tab-entries n =
      is_tab (entry_at b 0) n (λ i. entry_at b (record_start b i)) (entry_list b 0 n) (length-entries n 0)
      (λ k h. get_or-entries (entry_at b 0) n 0 k h ∙ ap (entry_at b) (sym (start-at k)))

-- ---- bytes that begin with a record

-- its two numbers are of 4 bytes
abbrev pub Fits : Entry → Type 0
Fits r = (r.number < 4294967296) × (r.earlier < 4294967296)

module _ (b : List ℕ) (p : ℕ) (r : Entry) (z : List ℕ) (e : drop p b ≡ bytes_of r ++ z) where
  get_or_in : (k : ℕ) → get_or b (p + k) 0 ≡ get_or (bytes_of r ++ z) k 0
  get_or_in k = sym (get_or-drop p b k 0) ∙ ap (λ l. get_or l k 0) e

  pub size_in : size_at b p ≡ size_of r
  unfolding size_at
  size_in = ap (λ n. 10 + n) (get_or_in 9)

  pub rest_in : drop (p + size_at b p) b ≡ z
  rest_in =
      sym (drop-drop (size_at b p) p b) ∙ ap (drop (size_at b p)) e ∙ ap (λ n. drop n (bytes_of r ++ z)) (size_in ∙ sym (length-bytes r)) ∙ drop-append_seam (bytes_of r) z

  four_in : (k : ℕ) → four_at b (p + k) ≡ four_at (bytes_of r ++ z) k
  unfolding four_at
  four_in k =
      let a1 : p + k + 1 ≡ p + (k + 1) = omega arith in
      let a2 : p + k + 2 ≡ p + (k + 2) = omega arith in
      let a3 : p + k + 3 ≡ p + (k + 3) = omega arith in
      rw (a1, a2, a3, get_or_in k, get_or_in (k + 1), get_or_in (k + 2), get_or_in (k + 3)) refl

  label_in : take (get_or b (p + 9) 0) (drop (p + 10) b) ≡ r.label
  label_in =
      ap (λ n. take n (drop (p + 10) b)) (get_or_in 9)
      ∙ ap (take (length r.label)) (sym (drop-drop 10 p b) ∙ ap (drop 10) e)
      ∙ take-append_seam r.label z

  pub entry_in : Fits r → entry_at b p ≡ r
  unfolding entry_at
  entry_in f =
      let k : get_or b p 0 ≡ r.kind = ap (λ n. get_or b n 0) (sym (add-zero p)) ∙ get_or_in 0 in
      let n : four_at b (p + 1) ≡ r.number = four_in 1 ∙ four-written (r.kind ∷ []) r.number (in_four r.earlier ++ (length r.label ∷ (r.label ++ z))) f.0 in
      let m : four_at b (p + 5) ≡ r.earlier = four_in 5 ∙ four-written (r.kind ∷ in_four r.number) r.earlier (length r.label ∷ (r.label ++ z)) f.1 in
      rw (k, n, m, label_in) refl

-- bytes that begin with records one after the other
pub starts_in : (b : List ℕ) (rs : List Entry) (p : ℕ) (z : List ℕ) → drop p b ≡ joined rs ++ z
    → (start_at b p (length rs) ≡ p + length (joined rs)) × (start_list b p (length rs) ≡ starts_from p rs)
unfolding joined start_at start_list starts_from
starts_in b [] p z e = (omega arith, refl)
starts_in b (r ∷ rs) p z e =
    let e' : drop p b ≡ bytes_of r ++ (joined rs ++ z) = e ∙ append_assoc (bytes_of r) (joined rs) z in
    let s = size_in b p r (joined rs ++ z) e' in
    let i = starts_in b rs (p + size_at b p) z (rest_in b p r (joined rs ++ z) e') in (
      i.0 ∙ omega (arith, s, length-append (bytes_of r) (joined rs), length-bytes r),
      ap (λ l. p ∷ l) (i.1 ∙ ap (λ n. starts_from (p + n) rs) s),
    )

pub entries_in : (b : List ℕ) (rs : List Entry) (p : ℕ) (z : List ℕ) → All Fits rs → drop p b ≡ joined rs ++ z → entry_list b p (length rs) ≡ rs
unfolding joined entry_list
entries_in b [] p z f e = refl
entries_in b (r ∷ rs) p z f e =
    let e' : drop p b ≡ bytes_of r ++ (joined rs ++ z) = e ∙ append_assoc (bytes_of r) (joined rs) z in
    ap₂ ◌∷◌ (entry_in b p r (joined rs ++ z) e' f.0) (entries_in b rs (p + size_at b p) z f.1 (rest_in b p r (joined rs ++ z) e'))

-- ---- records read from bytes, written back

module _ (b : List ℕ) (B : Bytes b) where
  one_back : (k m : ℕ) → k < length b → take (suc m) (drop k b) ≡ get_or b k 0 ∷ take m (drop (k + 1) b)
  one_back k m h =
      let n : suc k ≡ k + 1 = omega arith in
      ap (take (suc m)) (drop-cons b k 0 h) ∙ ap (λ j. get_or b k 0 ∷ take m (drop j b)) n

  four_back : (k m : ℕ) → k + 4 ≤ length b → take (4 + m) (drop k b) ≡ in_four (four_at b k) ++ take m (drop (k + 4) b)
  four_back k m h =
      take-add 4 m (drop k b) ∙ ap₂ ◌++◌ (sym (read_back b k B h)) (ap (take m) (drop-drop 4 k b))

  -- a record's bytes are those it was read from
  pub entry_back : (p : ℕ) → p + size_at b p ≤ length b → bytes_of (entry_at b p) ≡ take (size_at b p) (drop p b)
  unfolding size_at entry_at
  entry_back p h =
      let L = get_or b (p + 9) 0 in
      let n : 10 + L ≡ suc (4 + (4 + suc L)) = omega arith in
      let a5 : p + 1 + 4 ≡ p + 5 = omega arith in
      let a9 : p + 5 + 4 ≡ p + 9 = omega arith in
      let a10 : p + 9 + 1 ≡ p + 10 = omega arith in
      let len : length (take L (drop (p + 10) b)) ≡ L = length-take-le L (drop (p + 10) b) (omega (arith, length-drop (p + 10) b)) in
      let last : take (suc L) (drop (p + 9) b) ≡ L ∷ take L (drop (p + 10) b) = one_back (p + 9) L (omega arith) ∙ ap (λ j. L ∷ take L (drop j b)) a10 in
      let second : take (4 + suc L) (drop (p + 5) b) ≡ in_four (four_at b (p + 5)) ++ (L ∷ take L (drop (p + 10) b)) =
      four_back (p + 5) (suc L) (omega arith) ∙ ap (λ l. in_four (four_at b (p + 5)) ++ l) (ap (λ j. take (suc L) (drop j b)) a9 ∙ last) in
      let first : take (4 + (4 + suc L)) (drop (p + 1) b) ≡ in_four (four_at b (p + 1)) ++ (in_four (four_at b (p + 5)) ++ (L ∷ take L (drop (p + 10) b))) =
      four_back (p + 1) (4 + suc L) (omega arith) ∙ ap (λ l. in_four (four_at b (p + 1)) ++ l) (ap (λ j. take (4 + suc L) (drop j b)) a5 ∙ second) in
      let all : take (10 + L) (drop p b) ≡ get_or b p 0 ∷ (in_four (four_at b (p + 1)) ++ (in_four (four_at b (p + 5)) ++ (L ∷ take L (drop (p + 10) b)))) =
      ap (λ j. take j (drop p b)) n ∙ one_back p (4 + (4 + suc L)) (omega arith) ∙ ap (λ l. get_or b p 0 ∷ l) first in
      ap (λ j. get_or b p 0 ∷ (in_four (four_at b (p + 1)) ++ (in_four (four_at b (p + 5)) ++ (j ∷ take L (drop (p + 10) b))))) len ∙ sym all

  pub joined_back : (n p : ℕ) → start_at b p n ≤ length b → joined (entry_list b p n) ≡ take (start_at b p n - p) (drop p b)
  unfolding joined entry_list start_at
  joined_back zero p h = let e : p - p ≡ 0 = omega arith in rw e refl
  joined_back (suc n) p h =
      let q = p + size_at b p in
      let l = start-later b n q in
      let e : start_at b q n - p ≡ size_at b p + (start_at b q n - q) = omega arith in
      ap₂ ◌++◌ (entry_back p (omega arith)) (joined_back n q h)
      ∙ ap (λ l. take (size_at b p) (drop p b) ++ take (start_at b q n - q) l) (sym (drop-drop (size_at b p) p b))
      ∙ sym (take-add (size_at b p) (start_at b q n - q) (drop p b))
      ∙ ap (λ j. take j (drop p b)) (sym e)

  -- the records of the first bytes, one after the other, are those bytes
  pub records_back : (n : ℕ) → record_start b n ≤ length b → joined (tab n (λ i. entry_at b (record_start b i))) ≡ take (record_start b n) b
  records_back n h =
      let e = start-at b n in
      let g : start_at b 0 n ≤ length b = subst (λ m. m ≤ length b) e h in
      ap joined (sym (tab-entries b n)) ∙ joined_back n 0 g ∙ ap (λ m. take m b) (let d : start_at b 0 n - 0 ≡ start_at b 0 n = omega arith in d ∙ sym e)
