-- Integers in 4 bytes: written and read back, read and written back. Assumes nothing.
use Rattle.std.specs.Prelude.{◌≡◌, refl, true, ◌⊎◌, List, [], ◌∷◌, ◌++◌, ℕ, zero, suc, ◌+◌, ◌*◌, ◌/◌, ◌%◌, ◌≤◌, ◌<◌, length, get_or, take, drop, ltb}
use Rattle.std.proofs.Common.{sym, ap, ap₂, ◌∙◌, subst, inl, inr, add-zero, arith, length-append, get_or-append-add, drop-cons, ltb-true}
use Rattle.std.proofs.Math.ListN.{get_or-append}
use Rattle.std.proofs.lemmas.List.{get_or_at}
use Rattle.lists.specs.Tests.{and_fst, and_snd}
use Rattle.lists.specs.Members.{all_of}
use Rattle.lists.specs.Tab.{tab, is_tab, length-tab, get_or-tab}
use Rattle.lists.specs.Cases.{lt_or_le}
use Rattle.roll.specs.Format.{in_four, in_fours}
use Rattle.roll.specs.Reading.{four_at}

-- every element is a byte
abbrev pub Bytes : List ℕ → Type 0
Bytes b = (k : ℕ) → get_or b k 0 < 256

pub bytes-none : Bytes []
bytes-none k = omega arith

pub bytes_cons : (x : ℕ) (xs : List ℕ) → x < 256 → Bytes xs → Bytes (x ∷ xs)
bytes_cons x xs h p zero = h
bytes_cons x xs h p (suc k) = p k

pub bytes-append : (a b : List ℕ) → Bytes a → Bytes b → Bytes (a ++ b)
bytes-append [] b p q k = q k
bytes-append (x ∷ xs) b p q zero = p 0
bytes-append (x ∷ xs) b p q (suc k) = bytes-append xs b (λ j. p (suc j)) q k

-- a list that is written out, by one computed test
pub bytes_of : (l : List ℕ) → all_of (λ x. ltb x 256) l ≡ true → Bytes l
unfolding all_of
bytes_of [] e = bytes-none
bytes_of (x ∷ xs) e = bytes_cons x xs (ltb-true x 256 (and_fst (ltb x 256) (all_of (λ x. ltb x 256) xs) e)) (bytes_of xs (and_snd (ltb x 256) (all_of (λ x. ltb x 256) xs) e))

pub bytes_drop : (n : ℕ) (l : List ℕ) → Bytes l → Bytes (drop n l)
bytes_drop zero l B = B
bytes_drop (suc n) [] B = bytes-none
bytes_drop (suc n) (x ∷ xs) B = bytes_drop n xs (λ k. B (suc k))

pub bytes-four : (n : ℕ) → Bytes (in_four n)
bytes-four n =
    let a = n % 256 in
    let b = n / 256 % 256 in
    let c = n / 65536 % 256 in
    let d = n / 16777216 % 256 in
    bytes_cons a (b ∷ c ∷ d ∷ []) (omega arith) (bytes_cons b (c ∷ d ∷ []) (omega arith) (bytes_cons c (d ∷ []) (omega arith) (bytes_cons d [] (omega arith) bytes-none)))

pub bytes_fours : (ns : List ℕ) → Bytes (in_fours ns)
unfolding in_fours
bytes_fours [] = bytes-none
bytes_fours (n ∷ ns) = bytes-append (in_four n) (in_fours ns) (bytes-four n) (bytes_fours ns)

-- a number of at most 4 bytes is the sum of its bytes
sum_of : (n : ℕ) → n < 4294967296 → n % 256 + 256 * (n / 256 % 256) + 65536 * (n / 65536 % 256) + 16777216 * (n / 16777216 % 256) ≡ n
sum_of n h =
    let a : n / 256 / 256 ≡ n / 65536 = omega arith in
    let b : n / 65536 / 256 ≡ n / 16777216 = omega arith in
    let c : n / 16777216 % 256 ≡ n / 16777216 = omega arith in
    omega arith

-- each byte of a sum of bytes
module _ (p q r s : ℕ) (hp : p < 256) (hq : q < 256) (hr : r < 256) (hs : s < 256) where
  byte_0 : (p + 256 * q + 65536 * r + 16777216 * s) % 256 ≡ p
  byte_0 = omega arith

  byte_1 : (p + 256 * q + 65536 * r + 16777216 * s) / 256 % 256 ≡ q
  byte_1 = let e : (p + 256 * q + 65536 * r + 16777216 * s) / 256 ≡ q + 256 * r + 65536 * s = omega arith in omega arith

  byte_2 : (p + 256 * q + 65536 * r + 16777216 * s) / 65536 % 256 ≡ r
  byte_2 = let e : (p + 256 * q + 65536 * r + 16777216 * s) / 65536 ≡ r + 256 * s = omega arith in omega arith

  byte_3 : (p + 256 * q + 65536 * r + 16777216 * s) / 16777216 % 256 ≡ s
  byte_3 = let e : (p + 256 * q + 65536 * r + 16777216 * s) / 16777216 ≡ s = omega arith in omega arith

-- what is read where a number was written
pub four-written : (x : List ℕ) (n : ℕ) (y : List ℕ) → n < 4294967296 → four_at (x ++ (in_four n ++ y)) (length x) ≡ n
unfolding four_at
four-written x n y h =
    let l = in_four n ++ y in
    let e0 : get_or (x ++ l) (length x) 0 ≡ n % 256 = ap (λ k. get_or (x ++ l) k 0) (sym (add-zero (length x))) ∙ get_or-append-add x l 0 0 in
    let e1 : get_or (x ++ l) (length x + 1) 0 ≡ n / 256 % 256 = get_or-append-add x l 1 0 in
    let e2 : get_or (x ++ l) (length x + 2) 0 ≡ n / 65536 % 256 = get_or-append-add x l 2 0 in
    let e3 : get_or (x ++ l) (length x + 3) 0 ≡ n / 16777216 % 256 = get_or-append-add x l 3 0 in
    rw (e0, e1, e2, e3) (sum_of n h)

-- what is read depends on the 4 bytes alone
pub four_same : (b c : List ℕ) (at : ℕ) → ((k : ℕ) → k < at + 4 → get_or b k 0 ≡ get_or c k 0) → four_at b at ≡ four_at c at
unfolding four_at
four_same b c at h =
    let e0 = h at (omega arith) in
    let e1 = h (at + 1) (omega arith) in
    let e2 = h (at + 2) (omega arith) in
    let e3 = h (at + 3) (omega arith) in
    rw (e0, e1, e2, e3) refl

pub four-small : (b : List ℕ) (at : ℕ) → Bytes b → four_at b at < 4294967296
unfolding four_at
four-small b at B = omega (arith, B at, B (at + 1), B (at + 2), B (at + 3))

-- the 4 bytes from which a number was read
pub read_back : (b : List ℕ) (at : ℕ) → Bytes b → at + 4 ≤ length b → in_four (four_at b at) ≡ take 4 (drop at b)
unfolding four_at
read_back b at B h =
    let p = get_or b at 0 in
    let q = get_or b (at + 1) 0 in
    let r = get_or b (at + 2) 0 in
    let s = get_or b (at + 3) 0 in
    let d0 : drop at b ≡ p ∷ drop (suc at) b = drop-cons b at 0 (omega arith) in
    let d1 : drop (suc at) b ≡ get_or b (suc at) 0 ∷ drop (suc (suc at)) b = drop-cons b (suc at) 0 (omega arith) in
    let d2 : drop (suc (suc at)) b ≡ get_or b (suc (suc at)) 0 ∷ drop (suc (suc (suc at))) b = drop-cons b (suc (suc at)) 0 (omega arith) in
    let d3 : drop (suc (suc (suc at))) b ≡ get_or b (suc (suc (suc at))) 0 ∷ drop (suc (suc (suc (suc at)))) b = drop-cons b (suc (suc (suc at))) 0 (omega arith) in
    let n1 : suc at ≡ at + 1 = omega arith in
    let n2 : suc (suc at) ≡ at + 2 = omega arith in
    let n3 : suc (suc (suc at)) ≡ at + 3 = omega arith in
    let e1 : get_or b (suc at) 0 ≡ q = ap (λ k. get_or b k 0) n1 in
    let e2 : get_or b (suc (suc at)) 0 ≡ r = ap (λ k. get_or b k 0) n2 in
    let e3 : get_or b (suc (suc (suc at))) 0 ≡ s = ap (λ k. get_or b k 0) n3 in
    let four : take 4 (drop at b) ≡ p ∷ q ∷ r ∷ s ∷ [] = rw (d0, d1, d2, d3, e1, e2, e3) refl in
    let bp = B at in
    let bq = B (at + 1) in
    let br = B (at + 2) in
    let bs = B (at + 3) in
    ap₂ ◌∷◌ (byte_0 p q r s bp bq br bs) (ap₂ ◌∷◌ (byte_1 p q r s bp bq br bs) (ap₂ ◌∷◌ (byte_2 p q r s bp bq br bs) (ap (λ z. z ∷ []) (byte_3 p q r s bp bq br bs))))
    ∙ sym four

-- ---- numbers one after the other

pub length_fours : (ns : List ℕ) → length (in_fours ns) ≡ 4 * length ns
unfolding in_fours
length_fours [] = refl
length_fours (n ∷ ns) = let r = length_fours ns in omega arith

pub fours_more : (ns ms : List ℕ) → in_fours (ns ++ ms) ≡ in_fours ns ++ in_fours ms
unfolding in_fours
fours_more [] ms = refl
fours_more (n ∷ ns) ms = ap (λ z. in_four n ++ z) (fours_more ns ms)

pub four-one : (n : ℕ) → in_fours (n ∷ []) ≡ in_four n
unfolding in_fours
four-one n = refl

-- one number more
pub tab-more : (n : ℕ) (f : ℕ → ℕ) → tab n f ++ (f n ∷ []) ≡ tab (n + 1) f
tab-more n f =
    is_tab 0 (n + 1) f (tab n f ++ (f n ∷ [])) (length-append (tab n f) (f n ∷ []) ∙ ap (λ m. m + 1) (length-tab n f)) (λ k h. at k h (lt_or_le k n))
  where
    at : (k : ℕ) → k < n + 1 → (k < n) ⊎ (n ≤ k) → get_or (tab n f ++ (f n ∷ [])) k 0 ≡ f k
    at k h (inl l) = get_or-append (tab n f) (f n ∷ []) 0 k (subst (λ m. k < m) (sym (length-tab n f)) l) ∙ get_or-tab n f k 0 l
    at k h (inr l) =
        let e : k ≡ n = omega arith in
        get_or_at (tab n f) (f n) [] 0 k (length-tab n f ∙ sym e) ∙ ap f (sym e)

pub fours_tab : (n : ℕ) (f : ℕ → ℕ) → in_fours (tab n f) ++ in_four (f n) ≡ in_fours (tab (n + 1) f)
fours_tab n f = ap (λ l. in_fours (tab n f) ++ l) (sym (four-one (f n))) ∙ sym (fours_more (tab n f) (f n ∷ [])) ∙ ap in_fours (tab-more n f)

pub length_fours_tab : (n : ℕ) (f : ℕ → ℕ) → length (in_fours (tab n f)) ≡ 4 * n
length_fours_tab n f = length_fours (tab n f) ∙ ap (λ m. 4 * m) (length-tab n f)
