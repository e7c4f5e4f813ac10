-- A block of third order permuted: written out, and, where its last two directions are exchanged, by its three blocks of nine numbers where it
-- stands. Assumes nothing.
use Rattle.std.specs.Prelude.{◌≡◌, Bool, true, cond, List, ℕ, ◌+◌, ◌*◌, ◌/◌, ◌%◌, ◌≤◌, ◌<◌, eqb, length, get_or, Float}
use Rattle.std.proofs.Math.Path.{refl}
use Rattle.std.proofs.Common.{sym, ap, ◌∙◌, ⊎_elim, mod-lt, arith, lit<, eqb-true, eq-eqb, ne_eqb}
use Rattle.std.specs.Float.{nan}
use Rattle.lists.specs.Cases.{eq_or_ne}
use Rattle.lists.specs.Tests.{every, every-at}
use Rattle.lists.specs.Tab.{tab, tab_from, get_or-tab, is_tab}
use Rattle.lists.specs.Elements.{pick}
use Rattle.lists.specs.Digits.{horner, rest, digits}
use Rattle.blocks.specs.Block.{block, put_block, length-put_block, get_or-block, put-inside, put-outside}
use Rattle.blocks.specs.Block9.{across_diagonal, transposed9}
use Rattle.blocks.specs.Permuted.{permuted, permuted_block, gathered, mln, nml, mln_is, nml_is}
use Rattle.places.specs.Moves.{order}
use Rattle.orbits.specs.InnerLaws.{With, with-own, with-block, with-put}

-- a set with its block g of nine numbers transposed
abbrev pub turned : ℕ → List Float → List Float
turned g xs = put_block 9 g (transposed9 (block 9 g xs)) xs

-- a number of a transposed block
across-below : (p : ℕ) → p < 9 → across_diagonal p < 9
across-below p h = omega arith

at-transposed : (v : List Float) (p : ℕ) → p < 9 → get_or (transposed9 v) p nan ≡ get_or v (across_diagonal p) nan
at-transposed v p h = ap (λ l. get_or l p nan) nine-tab ∙ get_or-tab 9 (λ p. get_or v (across_diagonal p) nan) p nan h
  where
    nine-tab : transposed9 v ≡ tab 9 (λ p. get_or v (across_diagonal p) nan)
    nine-tab = unfold tab tab_from in refl

-- xs holds the numbers of v at places f 0, f 1, ..; its block g transposed
step : (v xs : List Float) (f : ℕ → ℕ) (g : ℕ) → length xs ≡ 27 → g < 3 → ((k : ℕ) → k < 27 → get_or xs k nan ≡ get_or v (f k) nan)
    → (k : ℕ) → k < 27 → get_or (turned g xs) k nan ≡ get_or v (cond (eqb (k / 9) g) (f (g * 9 + across_diagonal (k % 9))) (f k)) nan
step v xs f g l hg h k hk =
    ⊎_elim
    (λ (e : k / 9 ≡ g).
    let m : k % 9 < 9 = mod-lt k (lit< tt) in
    let c : across_diagonal (k % 9) < 9 = across-below (k % 9) m in
    put-inside 9 g (transposed9 (block 9 g xs)) xs k (rw l hk) e ∙ at-transposed (block 9 g xs) (k % 9) m ∙ get_or-block 9 g xs (across_diagonal (k % 9)) c
    ∙ h (g * 9 + across_diagonal (k % 9)) (omega arith) ∙ sym (rw (eq-eqb (k / 9) g e) refl))
    (λ (e : k / 9 ≡ g → ⊥). put-outside 9 g (transposed9 (block 9 g xs)) xs k (rw l hk) e ∙ h k hk ∙ sym (rw (ne_eqb (k / 9) g e) refl))
    (eq_or_ne (k / 9) g)

-- where the numbers come from once all three are transposed, by computation over all of them
abbrev from0 : ℕ → ℕ
from0 k = cond (eqb (k / 9) 0) (0 * 9 + across_diagonal (k % 9)) k

abbrev from1 : ℕ → ℕ
from1 k = cond (eqb (k / 9) 1) (from0 (1 * 9 + across_diagonal (k % 9))) (from0 k)

abbrev from2 : ℕ → ℕ
from2 k = cond (eqb (k / 9) 2) (from1 (2 * 9 + across_diagonal (k % 9))) (from1 k)

is_from : ℕ → Bool
is_from k = eqb (from2 k) (permuted 2 (order 2) k)

all_from : every 27 is_from ≡ true
unfolding every is_from permuted order pick horner digits rest
all_from = refl

from-nines : (k : ℕ) → k < 27 → from2 k ≡ permuted 2 (order 2) k
unfolding is_from
from-nines k h = eqb-true (from2 k) (permuted 2 (order 2) k) (every-at 27 is_from all_from k h)

length-turned : (g : ℕ) (xs : List Float) → length xs ≡ 27 → length (turned g xs) ≡ 27
length-turned g xs l = length-put_block 9 g (transposed9 (block 9 g xs)) xs ∙ l

turned-all : (v : List Float) → length v ≡ 27 → turned 2 (turned 1 (turned 0 v)) ≡ permuted_block 27 (permuted 2 (order 2)) v
unfolding permuted_block
turned-all v l =
    let l0 = length-turned 0 v l in
    let l1 = length-turned 1 (turned 0 v) l0 in
    let s0 = step v v (λ k. k) 0 l (lit< tt) (λ k h. refl) in
    let s1 = step v (turned 0 v) from0 1 l0 (lit< tt) s0 in
    let s2 = step v (turned 1 (turned 0 v)) from1 2 l1 (lit< tt) s1 in
    is_tab nan 27 (λ k. get_or v (permuted 2 (order 2) k) nan) (turned 2 (turned 1 (turned 0 v))) (length-turned 2 (turned 1 (turned 0 v)) l1) (λ k h.
    s2 k h ∙ ap (λ p. get_or v p nan) (from-nines k h))

-- the three blocks of block b transposed, one after the other
pub nines_are : (b : ℕ) (xs : List Float) {g0 g1 g2 : ℕ} {x y z : List Float} → b * 27 + 27 ≤ length xs → g0 ≡ b * 3 + 0 → g1 ≡ b * 3 + 1 → g2 ≡ b * 3 + 2
    → x ≡ turned g0 xs → y ≡ turned g1 x → z ≡ turned g2 y → z ≡ put_block 27 b (permuted_block 27 (permuted 2 (order 2)) (block 27 b xs)) xs
nines_are b xs {g0} {g1} {g2} {x} {y} {z} l e0 e1 e2 p q r =
    let v = block 27 b xs in
    let I = with-own 3 b xs (lit< tt) l in
    let J : With 3 b xs (turned 0 v) x = turn I 0 (lit< tt) (p ∙ ap (λ g. turned g xs) e0) in
    let K : With 3 b xs (turned 1 (turned 0 v)) y = turn J 1 (lit< tt) (q ∙ ap (λ g. turned g x) e1) in
    let L : With 3 b xs (turned 2 (turned 1 (turned 0 v))) z = turn K 2 (lit< tt) (r ∙ ap (λ g. turned g y) e2) in
    L.is ∙ ap (λ v. put_block 27 b v xs) (turned-all v I.long)
  where
    turn : {v x y : List Float} → With 3 b xs v x → (i : ℕ) → (h : i < 3) → y ≡ turned (b * 3 + i) x → With 3 b xs (turned i v) y
    turn {v} {x} {y} I i h e = with-put 3 b xs (lit< tt) l I i h (transposed9 (block 9 i v)) (e ∙ ap (λ u. put_block 9 (b * 3 + i) (transposed9 u) x) (with-block 3 b xs (lit< tt) l I i h))

-- ---- a block permuted as a type says, from the numbers written out

pub permuted_0 : {r : List Float} (v : List Float) (t : ℕ) → t ≡ 0 → r ≡ gathered v mln → r ≡ permuted_block 27 (permuted 2 (order t)) v
unfolding order permuted_block
permuted_0 v t e f = f ∙ mln_is v ∙ ap (λ t. permuted_block 27 (permuted 2 (order t)) v) (sym e)

pub permuted_1 : {r : List Float} (v : List Float) (t : ℕ) → t ≡ 1 → r ≡ gathered v nml → r ≡ permuted_block 27 (permuted 2 (order t)) v
unfolding order permuted_block
permuted_1 v t e f = f ∙ nml_is v ∙ ap (λ t. permuted_block 27 (permuted 2 (order t)) v) (sym e)
