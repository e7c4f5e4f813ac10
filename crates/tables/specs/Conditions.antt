-- The conditions of refusals 1 to 4 (document 01, "The refusal line on a job sheet") as tests, and what is known where one does not apply.
-- An index table holds integers, negative ones too: it is judged as it stands, and only then are its entries read as numbers.
-- Assumes nothing.
use Rattle.std.specs.Prelude.{◌≡◌, Bool, false, not, ◌||◌, leb, ltb, eqb, ℤ, pos, negsuc, length, get_or}
use Rattle.std.proofs.Math.Path.{refl}
use Rattle.std.proofs.Common.{sym, true≢false, le_of_suc-le-suc, not-suc-le-zero, arith}
use Rattle.std.proofs.Math.Bool.{true}
use mathlib.Core.List.{List, [], ◌∷◌}
use Prim.Native.Nat.{ℕ, zero, suc, ◌≤◌, ◌<◌}
use borrow.Author.Tests.{ltb-true, ltb-false, leb-false, eqb-true, eqb-false, not-false}
use Rattle.lists.specs.Elements.{All}

-- 1: a count is above its limit
abbrev pub any_above : ℕ → List ℕ → Bool
any_above limit [] = false
any_above limit (n ∷ ns) = ltb limit n || any_above limit ns

-- 2: a slice is not as long as stated; the pairs are (length, stated length)
abbrev pub any_wrong : List (ℕ × ℕ) → Bool
any_wrong [] = false
any_wrong (l ∷ ls) = not (eqb l.0 l.1) || any_wrong ls

-- what a test's answer tells
abbrev pub Tells : Bool → Type 0 → Type 0
Tells r A = (r ≡ true → A) × (A → r ≡ true)

-- x is an index into n things: not negative, and below n
abbrev pub below : ℕ → ℤ → Bool
below n (pos k) = ltb k n
below n (negsuc k) = false

-- 3: an entry of the table is negative, or not below n, the count that it points into
unfoldable pub out_of_range : ℕ → List ℤ → Bool
out_of_range n [] = false
out_of_range n (x ∷ xs) = not (below n x) || out_of_range n xs

-- 4: the set, of num_first slabs, does not have the target or the source, or they are one slab
abbrev pub bad_slab : ℕ → ℕ → ℕ → Bool
bad_slab num_first target source = leb num_first target || (leb num_first source || eqb target source)

-- ---- reading a table

-- an integer as a number; 0 for a negative one
abbrev pub nat : ℤ → ℕ
nat (pos k) = k
nat (negsuc k) = 0

-- entry i of a table as a number
unfoldable pub index_at : List ℤ → ℕ → ℕ
index_at t i = nat (get_or t i (pos 0))

-- entry i is there, and it is not negative
abbrev pub Readable : List ℤ → ℕ → Type 0
Readable t i = (i < length t) × (get_or t i (pos 0) ≡ pos (index_at t i))

-- a table that passed refusals 2 and 3: len entries, each an index into n things
pub record IndexTable (len n : ℕ) (t : List ℤ) : Type 0 where
  pub has : length t ≡ len
  pub within : out_of_range n t ≡ false

-- ---- what is known where a condition does not apply

pub or_false : (a b : Bool) → (a || b) ≡ false → (a ≡ false) × (b ≡ false)
or_false true b e = absurd (true≢false e)
or_false false b e = (refl, e)

-- every count is within the limit
pub not_above : (limit : ℕ) (ns : List ℕ) → any_above limit ns ≡ false → All (λ n. n ≤ limit) ns
not_above limit [] e = tt
not_above limit (n ∷ ns) e = let (h, r) = or_false (ltb limit n) (any_above limit ns) e in (ltb-false limit n h, not_above limit ns r)

-- every length is the stated one
pub not-wrong : (ls : List (ℕ × ℕ)) → any_wrong ls ≡ false → All (λ l. l.0 ≡ l.1) ls
not-wrong [] e = tt
not-wrong (l ∷ ls) e =
    let (h, r) = or_false (not (eqb l.0 l.1)) (any_wrong ls) e in
    (eqb-true l.0 l.1 (not-false (eqb l.0 l.1) h), not-wrong ls r)

-- both slabs are below num_first, and they differ
pub not_bad_slab : (num_first target source : ℕ) → bad_slab num_first target source ≡ false → (target < num_first) × (source < num_first) × (target ≡ source → ⊥)
not_bad_slab n t s e =
    let (h, r) = or_false (leb n t) (leb n s || eqb t s) e in
    let (g, d) = or_false (leb n s) (eqb t s) r in
    (leb-false n t h, leb-false n s g, eqb-false t s d)

-- an index is a number below n
pub below_pos : (n : ℕ) (x : ℤ) → below n x ≡ true → (x ≡ pos (nat x)) × (nat x < n)
below_pos n (pos k) e = (refl, ltb-true k n e)
below_pos n (negsuc k) e = absurd (true≢false (sym e))

module _ (n : ℕ) where
  -- entry by entry
  pub below_at : (t : List ℤ) → out_of_range n t ≡ false → (i : ℕ) → i < length t → below n (get_or t i (pos 0)) ≡ true
  unfolding out_of_range
  below_at [] e i h = absurd (not-suc-le-zero h)
  below_at (x ∷ xs) e zero h = not-false (below n x) (or_false (not (below n x)) (out_of_range n xs) e).0
  below_at (x ∷ xs) e (suc i) h = below_at xs (or_false (not (below n x)) (out_of_range n xs) e).1 i (le_of_suc-le-suc h)

  -- every entry can be read, and is below n
  pub in_range : (t : List ℤ) → out_of_range n t ≡ false → (i : ℕ) → i < length t → Readable t i × (index_at t i < n)
  unfolding index_at
  in_range t e i h = let (p, q) = below_pos n (get_or t i (pos 0)) (below_at t e i h) in ((h, p), q)

  -- back: a table with such entries passes
  pub none_out : (t : List ℤ) → ((i : ℕ) → i < length t → below n (get_or t i (pos 0)) ≡ true) → out_of_range n t ≡ false
  unfolding out_of_range
  none_out [] h = refl
  none_out (x ∷ xs) h =
      let e : below n x ≡ true = h zero (omega arith) in
      rw e (none_out xs (λ i g. h (suc i) (omega arith)))

-- what is read from a table that passed
pub read : {len n : ℕ} {t : List ℤ} → IndexTable len n t → (i : ℕ) → i < len → Readable t i × (index_at t i < n)
read {n = n} {t = t} T i h = in_range n t T.within i (rw T.has h)
