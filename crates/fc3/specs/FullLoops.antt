-- The loops of a full set of third order: they go over sorted atoms, whose blocks are the first of their groups.
-- Assumes nothing.
use Rattle.std.specs.Prelude.{Ok, ◌≡◌, true, false, ℕ, ◌+◌, ◌*◌, ◌-◌, ◌≤◌, ◌<◌, List, [], ◌∷◌, length, Float}
use Rattle.std.proofs.Math.Path.{refl, sym, ap, ap₂}
use Rattle.std.proofs.Common.{◌∙◌, subst, inl, inr, le_trans, le_refl, mul-le-mul, mul-le-mul_right}
use native.Mathlib.Omega.{arith}
use Rattle.std.specs.Float.Ieee.{nan}
use Rattle.lists.specs.Tab.{times, times-add, times-same, times_nest, times-idle, times-tail}
use Rattle.lists.specs.Elements.{All, pick}
use Rattle.lists.specs.Digits.{horner, times_power, in_row}
use Rattle.tables.specs.Limits.{limit3}
use Rattle.tables.specs.Answers.{Answer}
use Rattle.tables.specs.Answers.{is_refusal, after, is_done, after_refusal, after-done}
use Rattle.tables.specs.Full.{judged_full, done_full}
use Rattle.tables.specs.Lengths.{set_length3}
use Rattle.places.specs.Places.{size}
use Rattle.places.specs.Permutations.{perms3, six-group}
use Rattle.places.specs.WholeLaws.{full_shifts, whole-laws, size_whole}
use Rattle.places.specs.Addresses.{block-below}
use Rattle.orbits.specs.Transposed.{counterpart}
use Rattle.orbits.specs.AtBlockLaws.{whole-block, whole-counterpart}
use Rattle.orbits.specs.Groups.{group_blocks, mean_block, spread_block, Distinct}
use Rattle.orbits.specs.Symmetric.{symmetrized}
use Rattle.orbits.specs.GroupLoop.{worked, first_visit, is_first, visit-first, visit-later}
use Rattle.orbits.proofs.GroupLoopLaws.{lowest-leaves}
use Rattle.fc3.specs.Mean.{mean6, Blocks6}
use Rattle.fc3.specs.Loops.{plain3, six-same}
use Rattle.fc3.specs.Symmetrize.{set_permutation_symmetry_fc3}

-- a full set of third order that passed its guard
pub record FullReady (lenSet n : ℕ) : Type 0 where
  pub atoms : n ≤ 256
  pub set-length : lenSet ≡ size (full_shifts n) 2

-- atoms in rising order, none above another before it
pub record Sorted (n a b c : ℕ) : Type 0 where
  pub ab : a ≤ b
  pub bc : b ≤ c
  pub last : c < n

-- the number of block (a, b, c)
abbrev pub full3_at : ℕ → ℕ → ℕ → ℕ → ℕ
full3_at n a b c = (a * n + b) * n + c

-- the six blocks of atoms a, b, c
abbrev pub six_of : ℕ → ℕ → ℕ → ℕ → List ℕ
six_of n a b c = full3_at n a b c ∷ full3_at n a c b ∷ full3_at n b a c ∷ full3_at n b c a ∷ full3_at n c a b ∷ full3_at n c b a ∷ []

-- ---- which of the six is the lowest

-- two digits: the number is lower with the lower one before
two_le : (n x y : ℕ) → x ≤ y → y < n → x * n + y ≤ y * n + x
two_le n x y h l =
    let m : (y - x) * 1 ≤ (y - x) * n = mul-le-mul (le_refl (y - x)) (omega arith) in
    let e : y ≡ x + (y - x) = omega arith in
    go (y - x) e m
  where
    go : (d : ℕ) → y ≡ x + d → d * 1 ≤ d * n → x * n + y ≤ y * n + x
    go d e m = rw e (omega arith)

two_lt : (n x y : ℕ) → x < y → y < n → x * n + y < y * n + x
two_lt n x y h l =
    let m : (y - x) * 2 ≤ (y - x) * n = mul-le-mul (le_refl (y - x)) (omega arith) in
    let e : y ≡ x + (y - x) = omega arith in
    go (y - x) e m (omega arith)
  where
    go : (d : ℕ) → y ≡ x + d → d * 2 ≤ d * n → 0 < d → x * n + y < y * n + x
    go d e m p = rw e (omega arith)

-- of three digits, the last two or the first two change places
module _ (n x y z : ℕ) (l : y < n) where
  last_le : x ≤ y → full3_at n z x y ≤ full3_at n z y x
  last_le h = let t = two_le n x y h l in omega arith

  last_lt : x < y → full3_at n z x y < full3_at n z y x
  last_lt h = let t = two_lt n x y h l in omega arith

  first_le : x ≤ y → full3_at n x y z ≤ full3_at n y x z
  first_le h = let t = mul-le-mul_right n (two_le n x y h l) in omega arith

  first_lt : z < n → x < y → full3_at n x y z < full3_at n y x z
  first_lt k h = let t = mul-le-mul_right n (two_lt n x y h l) in omega arith

-- a lower first digit
lead_lt : (n x y z u v w : ℕ) → x < u → y < n → z < n → full3_at n x y z < full3_at n u v w
lead_lt n x y z u v w h hy hz =
    let s = in_row (x + 1) n x y (omega arith) hy in
    let t = in_row ((x + 1) * n) n (x * n + y) z s hz in
    let r : (x + 1) * n ≤ u * n = mul-le-mul_right n (omega arith) in
    let q = mul-le-mul_right n r in
    omega arith

module _ (n a b c : ℕ) (s : Sorted n a b c) where
  lt_a : a < n
  lt_a = let h = s.ab in let k = s.bc in let l = s.last in omega arith

  lt_b : b < n
  lt_b = let k = s.bc in let l = s.last in omega arith

  -- sorted atoms are the lowest of the six
  sorted_lowest : All (λ q. full3_at n a b c ≤ q) (six_of n a b c)
  sorted_lowest =
      let ac : a ≤ c = le_trans s.ab s.bc in
      let acb = last_le n b c a s.last s.bc in
      let bac = first_le n a b c lt_b s.ab in
      let bca = le_trans bac (last_le n a c b s.last ac) in
      let cab = le_trans acb (first_le n a c b s.last ac) in
      let cba = le_trans bca (first_le n b c a s.last s.bc) in
      (le_refl (full3_at n a b c), (acb, (bac, (bca, (cab, (cba, tt))))))

  -- and where no two atoms are the same, the six differ
  sorted_distinct : a < b → b < c → Distinct (six_of n a b c)
  sorted_distinct ab bc =
      let u = last_lt n b c a s.last bc in
      let v = lead_lt n a c b b a c ab s.last lt_b in
      let w = last_lt n a c b s.last (omega arith) in
      let x = lead_lt n b c a c a b bc s.last lt_a in
      let y = last_lt n a b c lt_b ab in
      apart _ _ _ _ _ _ u v w x y
    where
      apart : (p q r s t u : ℕ) → p < q → q < r → r < s → s < t → t < u → Distinct (p ∷ q ∷ r ∷ s ∷ t ∷ u ∷ [])
      apart p q r s t u h1 h2 h3 h4 h5 = (
        ((λ e. omega arith), ((λ e. omega arith), ((λ e. omega arith), ((λ e. omega arith), ((λ e. omega arith), tt))))),
        (
          ((λ e. omega arith), ((λ e. omega arith), ((λ e. omega arith), ((λ e. omega arith), tt)))),
          (
            ((λ e. omega arith), ((λ e. omega arith), ((λ e. omega arith), tt))),
            (((λ e. omega arith), ((λ e. omega arith), tt)), (((λ e. omega arith), tt), (tt, tt))),
          ),
        ),
      )

-- ---- the group of a block

module _ (n a b c : ℕ) (ha : a < n) (hb : b < n) (hc : c < n) where
  at-order : (σ : List ℕ) (x y z : ℕ) → pick 0 σ (a ∷ b ∷ c ∷ []) ≡ x ∷ y ∷ z ∷ [] → x < n → y < n → z < n → counterpart (full_shifts n) 2 σ (full3_at n a b c) ≡ full3_at n x y z
  unfolding horner
  at-order σ x y z e hx hy hz = whole-counterpart n a (b ∷ c ∷ []) ha (hb, (hc, tt)) σ x (y ∷ z ∷ []) e ∙ whole-block n x (y ∷ z ∷ []) hx (hy, (hz, tt))

  group-six : group_blocks (full_shifts n) 2 perms3 (full3_at n a b c) ≡ six_of n a b c
  unfolding group_blocks perms3 pick
  group-six =
      six-same (at-order (0 ∷ 1 ∷ 2 ∷ []) a b c refl ha hb hc) (at-order (0 ∷ 2 ∷ 1 ∷ []) a c b refl ha hc hb) (at-order (1 ∷ 0 ∷ 2 ∷ []) b a c refl hb ha hc)
      (at-order (1 ∷ 2 ∷ 0 ∷ []) b c a refl hb hc ha) (at-order (2 ∷ 0 ∷ 1 ∷ []) c a b refl hc ha hb) (at-order (2 ∷ 1 ∷ 0 ∷ []) c b a refl hc hb ha)

-- ---- the loops

-- a loop whose first turn stands before it
pub first-turn : {A : Type 0} (b n : ℕ) (f : ℕ → A → A) {y z : A} (x : A) → b < n → y ≡ f b x → {c : ℕ} → c ≡ n → z ≡ times (c - (b + 1)) (λ i. f (b + 1 + i)) y
    → z ≡ times (n - b) (λ i. f (b + i)) x
unfolding times
first-turn b n f {y} {z} x h e {c} d g =
    let q : 1 + (n - (b + 1)) ≡ n - b = omega arith in
    let m = n - (b + 1) in
    let o : b ≡ b + 0 = omega arith in
    g ∙ ap (λ k. times (k - (b + 1)) (λ i. f (b + 1 + i)) y) d ∙ ap (times m (λ i. f (b + 1 + i))) (e ∙ ap (λ k. f k x) o)
    ∙ times-same m (λ i. f (b + 1 + i)) (λ i. f (b + (1 + i))) (f (b + 0) x) (λ i l w. ap (λ k. f k w) (omega arith))
    ∙ sym (times-add 1 m (λ i. f (b + i)) x) ∙ ap (λ k. times k (λ i. f (b + i)) x) q

-- the group of atoms a, b, c worked out and written
unfoldable pub group_at : ℕ → ℕ → ℕ → ℕ → List Float → List Float
group_at n a b c = worked mean6 2 perms3 (full_shifts n) (full3_at n a b c)

-- the groups of a and b with each c from b on
unfoldable pub line_of : ℕ → ℕ → ℕ → List Float → List Float
line_of n a b xs = times (n - b) (λ i. group_at n a b (b + i)) xs

-- the same with each b from a on
unfoldable pub lines_of : ℕ → ℕ → List Float → List Float
lines_of n a xs = times (n - a) (λ i. line_of n a (a + i)) xs

-- a visit of every block of slab a, sorted or not, in loop order
abbrev pub visit_at : ℕ → ℕ → List Float → List Float
visit_at n = first_visit mean6 2 perms3 (is_first 2 perms3 (full_shifts n)) (full_shifts n)

unfoldable pub slab_of : ℕ → ℕ → List Float → List Float
slab_of n a xs = times n (λ b. times n (λ c. visit_at n (full3_at n a b c))) xs

unfoldable pub slabs_of : ℕ → List Float → List Float
slabs_of n xs = times n (slab_of n) xs

module _ (n : ℕ) where
  at_sorted : (a b c : ℕ) → Sorted n a b c → (xs : List Float) → visit_at n (full3_at n a b c) xs ≡ group_at n a b c xs
  unfolding group_at
  at_sorted a b c s xs =
      let g = group-six n a b c (lt_a n a b c s) (lt_b n a b c s) s.last in
      visit-first mean6 2 perms3 (full_shifts n) (full3_at n a b c) xs (rw g (inl refl)) (rw g (sorted_lowest n a b c s))

  at-first_above : (a b c : ℕ) → b < a → a < n → c < n → (xs : List Float) → visit_at n (full3_at n a b c) xs ≡ xs
  at-first_above a b c h ha hc xs =
      let g = group-six n a b c ha (omega arith) hc in
      visit-later mean6 2 perms3 (full_shifts n) (full3_at n a b c) (full3_at n b a c) xs (rw g (inr (inr (inl refl)))) (first_lt n b a c ha hc h)

  at-last_above : (a b c : ℕ) → c < b → a < n → b < n → (xs : List Float) → visit_at n (full3_at n a b c) xs ≡ xs
  at-last_above a b c h ha hb xs =
      let g = group-six n a b c ha hb (omega arith) in
      visit-later mean6 2 perms3 (full_shifts n) (full3_at n a b c) (full3_at n a c b) xs (rw g (inr (inl refl))) (last_lt n c b a hb h)

  -- of all visits only those of sorted atoms do anything
  all-line : (a b : ℕ) → a ≤ b → b < n → (xs : List Float) → times n (λ c. visit_at n (full3_at n a b c)) xs ≡ line_of n a b xs
  unfolding line_of
  all-line a b h hb xs =
      times-tail b n (λ c. visit_at n (full3_at n a b c)) (λ c. group_at n a b c) xs (omega arith)
      (λ c hc ys. at-last_above a b c hc (omega arith) hb ys) (λ c l hc ys. at_sorted a b c (record { ab = h; bc = l; last = hc }) ys)

  pub slab_lines : (a : ℕ) → a < n → (xs : List Float) → lines_of n a xs ≡ slab_of n a xs
  unfolding lines_of slab_of
  slab_lines a ha xs =
      sym (times-tail a n (λ b. times n (λ c. visit_at n (full3_at n a b c))) (λ b. line_of n a b) xs (omega arith)
      (λ b hb ys. times-idle n (λ c. visit_at n (full3_at n a b c)) ys (λ c hc zs. at-first_above a b c hb ha hc zs)) (λ b l hb ys. all-line a b l hb ys))

  -- THE LOOPS OVER SORTED ATOMS LEAVE THE SYMMETRIZED SET
  pub slabs_leave : (old : List Float) → length old ≡ size (full_shifts n) 2 → slabs_of n old ≡ symmetrized nan mean6 (full_shifts n) 2 perms3 old
  slabs_leave old lo = sym (by_blocks old) ∙ every old lo
    where
      by_blocks : (old : List Float) → times (n * n * n) (visit_at n) old ≡ slabs_of n old
      by_blocks old = unfold slabs_of slab_of in (times_nest (n * n) n (visit_at n) old ∙ times_nest n n (λ i. times n (λ c. visit_at n (i * n + c))) old)

      every : (old : List Float) → length old ≡ size (full_shifts n) 2 → times (n * n * n) (visit_at n) old ≡ symmetrized nan mean6 (full_shifts n) 2 perms3 old
      every old lo = unfold full_shifts times_power in lowest-leaves mean6 (full_shifts n) (whole-laws n) 2 perms3 six-group old lo

-- ---- the work on one group

-- the six blocks as the program finds them
pub record Found (n a b c b0 b1 b2 b3 b4 b5 : ℕ) : Type 0 where
  pub abc : b0 ≡ horner n a (b ∷ c ∷ [])
  pub acb : b1 ≡ horner n a (c ∷ b ∷ [])
  pub bac : b2 ≡ horner n b (a ∷ c ∷ [])
  pub bca : b3 ≡ horner n b (c ∷ a ∷ [])
  pub cab : b4 ≡ horner n c (a ∷ b ∷ [])
  pub cba : b5 ≡ horner n c (b ∷ a ∷ [])

-- of atoms of which two are the same, or all three
pub found_first : {n a c x y z : ℕ} → x ≡ horner n a (a ∷ c ∷ []) → y ≡ horner n a (c ∷ a ∷ []) → z ≡ horner n c (a ∷ a ∷ []) → Found n a a c x y x y z z
found_first e f g = record { abc = e; acb = f; bac = e; bca = f; cab = g; cba = g }

pub found-last : {n a b x y z : ℕ} → x ≡ horner n a (b ∷ b ∷ []) → y ≡ horner n b (a ∷ b ∷ []) → z ≡ horner n b (b ∷ a ∷ []) → Found n a b b x x y z y z
found-last e f g = record { abc = e; acb = e; bac = f; bca = g; cab = f; cba = g }

pub found-same : {n a x : ℕ} → x ≡ horner n a (a ∷ a ∷ []) → Found n a a a x x x x x x
found-same e = record { abc = e; acb = e; bac = e; bca = e; cab = e; cba = e }

module _ {n a b c : ℕ} (s : Sorted n a b c) {b0 b1 b2 b3 b4 b5 : ℕ} (F : Found n a b c b0 b1 b2 b3 b4 b5) where
  found-six : b0 ∷ b1 ∷ b2 ∷ b3 ∷ b4 ∷ b5 ∷ [] ≡ six_of n a b c
  found-six =
      six-same (F.abc ∙ plain3 n a b c) (F.acb ∙ plain3 n a c b) (F.bac ∙ plain3 n b a c) (F.bca ∙ plain3 n b c a) (F.cab ∙ plain3 n c a b) (F.cba ∙ plain3 n c b a)

  pub found_in : {lenSet : ℕ} → FullReady lenSet n → Blocks6 lenSet b0 b1 b2 b3 b4 b5
  found_in {lenSet} R =
      let ha = lt_a n a b c s in
      let hb = lt_b n a b c s in
      let hc = s.last in
      record {
        in0 = at b0 F.abc (block-below n n a (b ∷ c ∷ []) ha (hb, (hc, tt)));
        in1 = at b1 F.acb (block-below n n a (c ∷ b ∷ []) ha (hc, (hb, tt)));
        in2 = at b2 F.bac (block-below n n b (a ∷ c ∷ []) hb (ha, (hc, tt)));
        in3 = at b3 F.bca (block-below n n b (c ∷ a ∷ []) hb (hc, (ha, tt)));
        in4 = at b4 F.cab (block-below n n c (a ∷ b ∷ []) hc (ha, (hb, tt)));
        in5 = at b5 F.cba (block-below n n c (b ∷ a ∷ []) hc (hb, (ha, tt)));
      }
    where
      in_set : (q : ℕ) → q < times_power n 2 n → q * 27 + 27 ≤ n * n * n * 27
      in_set q h = unfold times_power in omega arith

      at : (q : ℕ) {k : ℕ} → q ≡ k → k < times_power n 2 n → q * 27 + 27 ≤ lenSet
      at q {k} e h = rw (R.set-length ∙ size_whole n 2 ∙ set_length3 n n) (in_set q (rw e h))

  -- where no two atoms are the same, they differ
  pub found-distinct : a < b → b < c → Distinct (b0 ∷ b1 ∷ b2 ∷ b3 ∷ b4 ∷ b5 ∷ [])
  found-distinct ab bc = subst Distinct (sym found-six) (sorted_distinct n a b c s ab bc)

  pub found_is : {new : List Float} (old : List Float) → new ≡ spread_block 2 perms3 (b0 ∷ b1 ∷ b2 ∷ b3 ∷ b4 ∷ b5 ∷ []) (mean_block mean6 2 perms3 (b0 ∷ b1 ∷ b2 ∷ b3 ∷ b4 ∷ b5 ∷ []) old) old → new ≡ group_at n a b c old
  unfolding group_at worked
  found_is old e =
      e ∙ ap (λ bs. spread_block 2 perms3 bs (mean_block mean6 2 perms3 bs old) old) (found-six ∙ sym (group-six n a b c (lt_a n a b c s) (lt_b n a b c s) s.last))

-- where two atoms are the same, three blocks are left, which differ
rise : (x y z : ℕ) → x < y → y < z → Distinct (x ∷ y ∷ z ∷ [])
rise x y z h k = (((λ e. omega arith), ((λ e. omega arith), tt)), (((λ e. omega arith), tt), (tt, tt)))

pub first-distinct : {n a c x y z : ℕ} → a < c → c < n → x ≡ horner n a (a ∷ c ∷ []) → y ≡ horner n a (c ∷ a ∷ []) → z ≡ horner n c (a ∷ a ∷ []) → Distinct (x ∷ y ∷ z ∷ [])
unfolding horner
first-distinct {n} {a} {c} l h e f g = rw (e, f, g) (rise _ _ _ (last_lt n a c a h l) (lead_lt n a c a c a a l h (omega arith)))

pub last-distinct : {n a b x y z : ℕ} → a < b → b < n → x ≡ horner n a (b ∷ b ∷ []) → y ≡ horner n b (a ∷ b ∷ []) → z ≡ horner n b (b ∷ a ∷ []) → Distinct (x ∷ y ∷ z ∷ [])
unfolding horner
last-distinct {n} {a} {b} l h e f g = rw (e, f, g) (rise _ _ _ (lead_lt n a b b b a b l h h) (last_lt n a b b h l))

-- ---- the call

module _ (set : List Float) (n : ℕ) (a : Answer) (e : a ≡ judged_full limit3 2 (length set) [] n) where
  -- what the call leaves, by the guard's answer
  abbrev leaves : Answer → Answer × List Float
  leaves a = (a, after a (symmetrized nan mean6 (full_shifts n) 2 perms3 set) set)

  pub full-refused : is_refusal a ≡ true → ◌≡◌ {A = Answer × List Float} (a, set) (set_permutation_symmetry_fc3 set n)
  unfolding set_permutation_symmetry_fc3
  full-refused r = ap (λ x. (a, x)) (sym (after_refusal a (symmetrized nan mean6 (full_shifts n) 2 perms3 set) set r)) ∙ ap leaves e

  pub full-ready : is_refusal a ≡ false → FullReady (length set) n
  full-ready r =
      let (few, long, _) = done_full limit3 2 (length set) [] n (sym e ∙ is_done a r) in
      record { atoms = few; set-length = long ∙ sym (size_whole n 2) }

  pub full-done : is_refusal a ≡ false → {new : List Float} → new ≡ symmetrized nan mean6 (full_shifts n) 2 perms3 set → ◌≡◌ {A = Answer × List Float} (Ok tt, new) (set_permutation_symmetry_fc3 set n)
  unfolding set_permutation_symmetry_fc3
  full-done r {new} l =
      ap₂ (λ x y. (x, y)) (sym (is_done a r)) (l ∙ sym (after-done a (symmetrized nan mean6 (full_shifts n) 2 perms3 set) set r))
      ∙ ap leaves e
