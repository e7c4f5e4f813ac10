-- A block of fourth order whose first two directions are exchanged where it stands, by its nine blocks of nine numbers: the last two directions stay side
-- by side. Assumes nothing.
use Rattle.std.specs.Prelude.{◌≡◌, refl, Bool, true, cond, List, ℕ, ◌+◌, ◌*◌, ◌/◌, ◌%◌, ◌≤◌, ◌<◌, eqb, length, get_or, Float}
use Rattle.std.proofs.Common.{sym, ap, ap₂, ◌∙◌, ⊎_elim, mod-lt, arith, lit<, eqb-true, eq-eqb, ne_eqb}
use Rattle.std.specs.Float.{nan}
use Rattle.lists.specs.Cases.{eq_or_ne}
use Rattle.lists.specs.Tests.{every, every-at}
use Rattle.lists.specs.Tab.{is_tab}
use Rattle.lists.specs.Elements.{pick}
use Rattle.lists.specs.Digits.{horner, rest, digits}
use Rattle.blocks.specs.Block.{block, put_block, length-put_block, get_or-block, put-inside, put-outside}
use Rattle.blocks.specs.Permuted.{permuted, permuted_block}
use Rattle.places.specs.Moves.{order4}
use Rattle.orbits.specs.InnerLaws.{With, with-own, with-block, with-put}

-- a set in which blocks x and y of nine numbers have changed places
abbrev pub traded : ℕ → ℕ → List Float → List Float
traded x y xs = put_block 9 y (block 9 x xs) (put_block 9 x (block 9 y xs) xs)

-- xs holds the numbers of v at places f 0, f 1, ..; its blocks x and y change places
step : (v xs : List Float) (f : ℕ → ℕ) (x y : ℕ) → length xs ≡ 81 → x < 9 → y < 9 → ((k : ℕ) → k < 81 → get_or xs k nan ≡ get_or v (f k) nan)
    → (k : ℕ) → k < 81 → get_or (traded x y xs) k nan ≡ get_or v (cond (eqb (k / 9) y) (f (x * 9 + k % 9)) (cond (eqb (k / 9) x) (f (y * 9 + k % 9)) (f k))) nan
step v xs f x y l hx hy h k hk =
    let one = put_block 9 x (block 9 y xs) xs in
    let l1 : length one ≡ 81 = length-put_block 9 x (block 9 y xs) xs ∙ l in
    let m : k % 9 < 9 = mod-lt k (lit< tt) in
    ⊎_elim
    (λ (e : k / 9 ≡ y). put-inside 9 y (block 9 x xs) one k (rw l1 hk) e ∙ get_or-block 9 x xs (k % 9) m ∙ h (x * 9 + k % 9) (omega arith) ∙ sym (rw (eq-eqb (k / 9) y e) refl))
    (λ (e : k / 9 ≡ y → ⊥).
    put-outside 9 y (block 9 x xs) one k (rw l1 hk) e
    ∙ ⊎_elim
    (λ (d : k / 9 ≡ x). put-inside 9 x (block 9 y xs) xs k (rw l hk) d ∙ get_or-block 9 y xs (k % 9) m ∙ h (y * 9 + k % 9) (omega arith) ∙ sym (rw (ne_eqb (k / 9) y e, eq-eqb (k / 9) x d) refl))
    (λ (d : k / 9 ≡ x → ⊥). put-outside 9 x (block 9 y xs) xs k (rw l hk) d ∙ h k hk ∙ sym (rw (ne_eqb (k / 9) y e, ne_eqb (k / 9) x d) refl))
    (eq_or_ne (k / 9) x))
    (eq_or_ne (k / 9) y)

-- where the numbers come from once three pairs have changed places, by computation over all of them
abbrev from1 : ℕ → ℕ
from1 k = cond (eqb (k / 9) 3) (1 * 9 + k % 9) (cond (eqb (k / 9) 1) (3 * 9 + k % 9) k)

abbrev from2 : ℕ → ℕ
from2 k = cond (eqb (k / 9) 6) (from1 (2 * 9 + k % 9)) (cond (eqb (k / 9) 2) (from1 (6 * 9 + k % 9)) (from1 k))

abbrev from3 : ℕ → ℕ
from3 k = cond (eqb (k / 9) 7) (from2 (5 * 9 + k % 9)) (cond (eqb (k / 9) 5) (from2 (7 * 9 + k % 9)) (from2 k))

is_from : ℕ → Bool
is_from k = eqb (from3 k) (permuted 3 (order4 0) k)

all_from : every 81 is_from ≡ true
unfolding every is_from permuted order4 pick horner digits rest
all_from = refl

from-pairs : (k : ℕ) → k < 81 → from3 k ≡ permuted 3 (order4 0) k
unfolding is_from
from-pairs k h = eqb-true (from3 k) (permuted 3 (order4 0) k) (every-at 81 is_from all_from k h)

length-traded : (x y : ℕ) (xs : List Float) → length xs ≡ 81 → length (traded x y xs) ≡ 81
length-traded x y xs l = length-put_block 9 y (block 9 x xs) (put_block 9 x (block 9 y xs) xs) ∙ length-put_block 9 x (block 9 y xs) xs ∙ l

traded-all : (v : List Float) → length v ≡ 81 → traded 5 7 (traded 2 6 (traded 1 3 v)) ≡ permuted_block 81 (permuted 3 (order4 0)) v
unfolding permuted_block
traded-all v l =
    let v1 = traded 1 3 v in
    let v2 = traded 2 6 v1 in
    let l1 = length-traded 1 3 v l in
    let l2 = length-traded 2 6 v1 l1 in
    let s1 = step v v (λ k. k) 1 3 l (lit< tt) (lit< tt) (λ k h. refl) in
    let s2 = step v v1 from1 2 6 l1 (lit< tt) (lit< tt) s1 in
    let s3 = step v v2 from2 5 7 l2 (lit< tt) (lit< tt) s2 in
    is_tab nan 81 (λ k. get_or v (permuted 3 (order4 0) k) nan) (traded 5 7 v2) (length-traded 5 7 v2 l2) (λ k h. s3 k h ∙ ap (λ p. get_or v p nan) (from-pairs k h))

-- three pairs of the blocks of block b change places, one after the other
pub runs_are : (b : ℕ) (xs : List Float) {g1 g3 g2 g6 g5 g7 : ℕ} {x y z : List Float} → b * 81 + 81 ≤ length xs
    → g1 ≡ b * 9 + 1 → g3 ≡ b * 9 + 3 → g2 ≡ b * 9 + 2 → g6 ≡ b * 9 + 6 → g5 ≡ b * 9 + 5 → g7 ≡ b * 9 + 7
    → x ≡ traded g1 g3 xs → y ≡ traded g2 g6 x → z ≡ traded g5 g7 y → z ≡ put_block 81 b (permuted_block 81 (permuted 3 (order4 0)) (block 81 b xs)) xs
runs_are b xs {x = x} {y = y} {z = z} l e1 e3 e2 e6 e5 e7 p q r =
    let v = block 81 b xs in
    let I = with-own 9 b xs (lit< tt) l in
    let J : With 9 b xs (traded 1 3 v) x = trade I 1 3 (lit< tt) (lit< tt) (p ∙ ap₂ (λ g h. traded g h xs) e1 e3) in
    let K : With 9 b xs (traded 2 6 (traded 1 3 v)) y = trade J 2 6 (lit< tt) (lit< tt) (q ∙ ap₂ (λ g h. traded g h x) e2 e6) in
    let L : With 9 b xs (traded 5 7 (traded 2 6 (traded 1 3 v))) z = trade K 5 7 (lit< tt) (lit< tt) (r ∙ ap₂ (λ g h. traded g h y) e5 e7) in
    L.is ∙ ap (λ v. put_block 81 b v xs) (traded-all v I.long)
  where
    trade : {v x y : List Float} → With 9 b xs v x → (i j : ℕ) → i < 9 → j < 9 → y ≡ traded (b * 9 + i) (b * 9 + j) x → With 9 b xs (traded i j v) y
    trade {v} {x} {y} I i j hi hj e =
        let M = with-put 9 b xs (lit< tt) l I i hi (block 9 j v) {y = put_block 9 (b * 9 + i) (block 9 (b * 9 + j) x) x} (ap (λ u. put_block 9 (b * 9 + i) u x) (with-block 9 b xs (lit< tt) l I j hj)) in
        with-put 9 b xs (lit< tt) l M j hj (block 9 i v) (e ∙ ap (λ u. put_block 9 (b * 9 + j) u (put_block 9 (b * 9 + i) (block 9 (b * 9 + j) x) x)) (with-block 9 b xs (lit< tt) l I i hi))
