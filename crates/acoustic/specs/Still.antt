-- Where sums are exact, on the grid of document 02, A.10, a set of third order that is alike and has no drift stays as it is, at every level: no number
-- changes, a -0.0 neither. Assumes nothing.
use Rattle.std.specs.Prelude.{Ok, ◌≡◌, Bool, true, false, cond, ◌⊎◌, List, [], ◌∷◌, map, T, ltb, ℤ, pos, length, get_or, Float}
use Rattle.std.proofs.Math.Path.{refl, sym, ap}
use Rattle.std.proofs.Common.{ap₂, ◌∙◌, subst, inl, inr, mul-pos, mul_assoc, mul_right_comm, zero-mul, mod-lt, lit<, lit≤, pow-add, le-ltb, ne_eqb}
use Prim.Native.Nat.{ℕ, zero, suc, ◌+◌, ◌*◌, ◌-◌, ◌/◌, ◌%◌, ◌^◌, ◌≤◌, ◌<◌, compare}
use native.Mathlib.Omega.{arith}
use Rattle.std.specs.Float.Ieee.{nan, binary64, prec, emax, low, odd, units, nearest, size as digitsIn, fits, up, down, unlike, neg, add, sub, mul, div, sum, round, le, of_int, of_bits}
use Rattle.std.specs.Float.{inf, fin}
use Rattle.std.specs.Float.Ieee.Exact.{HasValue}
use Rattle.std.specs.Float.Ieee.Fits.{down_pos, round-fits}
use Rattle.std.specs.Float.Ieee.Scale.{finite, round_same, round_val, round_under}
use Rattle.std.specs.Float.Ieee.Order.{round_mono}
use Rattle.std.specs.Float.Ieee.Back.{round_whole}
use Rattle.lists.specs.Floats.{plus_zero}
use Rattle.lists.specs.Tab.{tab, is_tab, times}
use Rattle.lists.specs.Members.{In, in_all}
use Rattle.lists.specs.Elements.{map_same}
use Rattle.lists.specs.Digits.{times_power, room_pos}
use Rattle.common.specs.Laws.Fields.{same-value}
use Rattle.tables.specs.Answers.{is_refusal, after-done}
use Rattle.tables.specs.Limits.{limit3}
use Rattle.tables.specs.Shifts.{Shifts, Laws}
use Rattle.tables.specs.Compact.{ShiftTables, shifts_of, TablesFit}
use Rattle.places.specs.Places.{Leg, Legs, read_out, at, stored, address, size, in_block, permute_legs, perms3, full_shifts, length-fill, stored-place, address_below}
use Rattle.places.proofs.PlacesLaws.{same-read_out}
use Rattle.places.specs.Permutations.{Permutation, six-group, taken_legs}
use Rattle.orbits.specs.Blockwise.{block-below}
use Rattle.orbits.specs.Transposed.{in_block_pos}
use Rattle.orbits.specs.Symmetric.{symmetrized, mean6}
use Rattle.orbits.proofs.MeanLaws.{symmetrized_is_mean}
use Rattle.grid.specs.Grid.{on_grid, steps_up, steps_down, Steps, grid-steps, grid-few}
use Rattle.grid.specs.ExactLaws.{whole-steps}
use Rattle.lines.specs.Sums3x3.{inverse}
use Rattle.audits.specs.Guard.{full_tables, whole-shifts}
use Rattle.legs.specs.Legs.{leg_sum}
use Rattle.acoustic.specs.Acoustic.{drift_at, without_drift, without_drifts, leveled, perm_trans_symmetrized, judged_levels, judged_full_levels, perm_trans_symmetrize_compact, perm_trans_symmetrize_full}
use Rattle.acoustic.specs.Laws.{line_of, other_block, line-below, other-below}
use Rattle.acoustic.specs.Calls.{compact_work, full-room}
use Rattle.acoustic.specs.Meaning.{Alike}

-- ---- one number on the grid, k steps from 0 with the sign s

rescaled : (a p q w k d : ℕ) → p * q ≡ w → a * p ≡ k * d → a * w ≡ k * q * d
rescaled a p q w k d e f = ap (λ w. a * w) (sym e) ∙ sym (mul_assoc a p q) ∙ ap (λ z. z * q) f ∙ mul_right_comm k d q

finer : (x : Float) (s : Bool) (k p q w : ℕ) → p * q ≡ w → HasValue x s k p → HasValue x s (k * q) w
finer nan s k p q w e v = v
finer (inf t) s k p q w e v = v
finer (fin t m d) s k p q w e v = (v.0, rescaled (m * up d) p q w k (down d) e v.1)

by_value : (x : Float) (s : Bool) (k : ℕ) → k ≤ 2 ^ 40 → T (fits binary64 x) → HasValue x s k (2 ^ 20) → x ≡ round binary64 s k (2 ^ 20)
by_value x s k h F v =
    let e : 2 ^ 20 * 2 ^ 1054 ≡ 2 ^ 1074 = sym (pow-add 2 20 1054) in
    same-value x (round binary64 s k (2 ^ 20)) s (k * 2 ^ 1054) F (round-fits binary64 s k (2 ^ 20)) (finer x s k (2 ^ 20) (2 ^ 1054) (2 ^ 1074) e v)
    (finer (round binary64 s k (2 ^ 20)) s k (2 ^ 20) (2 ^ 1054) (2 ^ 1074) e (whole-steps s k (omega arith)))

pub record Held (x : Float) : Type 0 where
  pub sign : Bool
  pub steps : ℕ
  pub few : steps ≤ 2 ^ 40
  pub value : HasValue x sign steps (2 ^ 20)
  pub is : x ≡ round binary64 sign steps (2 ^ 20)

held : (x : Float) → on_grid x ≡ true → T (fits binary64 x) → Held x
held x g F = go (grid-steps x g)
  where
    go : Steps x (steps_up x) (steps_down x) → Held x
    go (inl (v, _)) = record { sign = false; steps = steps_up x; few = (grid-few x g).0; value = v; is = by_value x false (steps_up x) (grid-few x g).0 F v }
    go (inr (v, _)) = record { sign = true; steps = steps_down x; few = (grid-few x g).1; value = v; is = by_value x true (steps_down x) (grid-few x g).1 F v }

-- ---- less 0.0 it is itself

zero_is : plus_zero ≡ fin false 0 (pos 0)
unfolding of_bits
zero_is = refl

down_sum : (a b c : ℕ) → b ≡ 0 → sum binary64 true a true b c ≡ round binary64 true a c
unfolding sum
down_sum a b c e = let q : a + b ≡ a = omega arith in ap (λ n. round binary64 true n c) q

up_sum : (a b c : ℕ) → b ≡ 0 → sum binary64 false a true b c ≡ round binary64 false a c
unfolding sum
up_sum a b c e = let q : a - b ≡ a = omega arith in rw (le-ltb a b (omega arith)) (ap (λ n. round binary64 false n c) q)

zero-sum : (s : Bool) (a b c : ℕ) → b ≡ 0 → sum binary64 s a true b c ≡ round binary64 s a c
zero-sum true = down_sum
zero-sum false = up_sum

less_fin : (s : Bool) (m : ℕ) (e : ℤ) → sub binary64 (fin s m e) (fin false 0 (pos 0)) ≡ round binary64 s (m * up e) (down e)
unfolding sub neg add
less_fin s m e =
    zero-sum s (m * up e * 1) (0 * 1 * down e) (down e * 1) (none (down e))
    ∙ round_same binary64 s (m * up e * 1) (down e * 1) (m * up e) (down e) (one (down e) (down_pos e)) (down_pos e) (same (m * up e) (down e))
  where
    none : (d : ℕ) → 0 * 1 * d ≡ 0
    none d = omega arith

    one : (d : ℕ) → 0 < d → 0 < d * 1
    one d h = omega arith

    same : (a d : ℕ) → a * 1 * d ≡ a * (d * 1)
    same a d = omega arith

less_zero : (x : Float) → Held x → sub binary64 x plus_zero ≡ x
less_zero nan H = absurd H.value
less_zero (inf t) H = absurd H.value
less_zero (fin t m e) H =
    ap (sub binary64 (fin t m e)) zero_is ∙ less_fin t m e
    ∙ ap (λ t. round binary64 t (m * up e) (down e)) H.value.0
    ∙ round_same binary64 H.sign (m * up e) (down e) H.steps (2 ^ 20) (down_pos e) (lit< tt) H.value.1 ∙ sym H.is

-- ---- a sum that is 0.0 gives the drift 0.0

zero-times : (s : Bool) (m : ℕ) (e : ℤ) → s ≡ false → mul binary64 (fin false 0 (pos 0)) (fin s m e) ≡ plus_zero
unfolding mul
zero-times s m e h =
    ap (λ s. round binary64 (unlike false s) (0 * 1 * (m * up e)) (1 * down e)) h
    ∙ round_same binary64 false (0 * 1 * (m * up e)) (1 * down e) 0 1 (pos_of (down e) (down_pos e)) (lit< tt) (none (m * up e) (down e))
    ∙ (unfold round of_bits in refl)
  where
    pos_of : (d : ℕ) → 0 < d → 0 < 1 * d
    pos_of d h = omega arith

    none : (a d : ℕ) → 0 * 1 * a * 1 ≡ 0 * (1 * d)
    none a d = omega arith

times_positive : (x : Float) (a c : ℕ) → HasValue x false a c → mul binary64 plus_zero x ≡ plus_zero
times_positive nan a c v = absurd v
times_positive (inf t) a c v = absurd v
times_positive (fin t m e) a c v = ap (λ z. mul binary64 z (fin t m e)) zero_is ∙ zero-times t m e v.0

-- 1 / n is a rounded fraction, 1 at most, so it is finite
over : (y : Float) (n : ℕ) → 0 < n → HasValue y false n 1 → div binary64 (fin false 1 (pos 0)) y ≡ round binary64 false 1 n
unfolding div
over nan n h v = absurd v
over (inf t) n h v = absurd v
over (fin t m e) n h v =
    let z : 0 < m * up e * 1 = rw v.1 (mul-pos h (down_pos e)) in
    rw (ne_eqb m 0 (λ q. empty m (up e) q z))
    (ap (λ t. round binary64 (unlike false t) (1 * 1 * down e) (m * up e * 1)) v.0
    ∙ round_same binary64 false (1 * 1 * down e) (m * up e * 1) 1 n z h (cross (down e) n (m * up e) v.1))
  where
    empty : (m u : ℕ) → m ≡ 0 → 0 < m * u * 1 → ⊥
    empty m u q h = let r : m * u ≡ 0 = ap (λ m. m * u) q ∙ zero-mul u in omega arith

    cross : (d n a : ℕ) → a * 1 ≡ n * d → 1 * 1 * d * n ≡ 1 * (a * 1)
    cross d n a e = omega arith

inverse_is : (n : ℕ) → 0 < n → n ≤ 1024 → inverse n ≡ round binary64 false 1 n
unfolding inverse of_bits of_int
inverse_is n h l = over (round binary64 false n 1) n h (round_whole binary64 false n (omega arith))

finite_odd : (d : ℕ) (s : Bool) (q k l : ℕ) → T (finite (odd d s q k l))
unfolding odd
finite_odd d s zero k l = tt
finite_odd d s (suc q) k l = tt

finite_units : (q k : ℕ) (t : Bool) (n : ℕ) (d : ℤ) → T (le (units binary64 false q k) (fin t n d)) → T (finite (units binary64 false q k))
unfolding units
finite_units q k t n d = go (ltb (q * 2 ^ k) (2 ^ (low binary64 + suc (emax binary64))))
  where
    go : (b : Bool) → T (le (cond b (odd (suc (prec binary64)) false q k (low binary64)) (inf false)) (fin t n d))
        → T (finite (cond b (odd (suc (prec binary64)) false q k (low binary64)) (inf false)))
    go true l = finite_odd (suc (prec binary64)) false q k (low binary64)
    go false l = absurd (unfold le in l)

finite_round : (a c : ℕ) (t : Bool) (n : ℕ) (d : ℤ) → T (le (round binary64 false a c) (fin t n d)) → T (finite (round binary64 false a c))
unfolding round
finite_round a c t n d l =
    let N = a * 2 ^ low binary64 in
    let k = digitsIn (N / c) - prec binary64 in
    let u = c * 2 ^ k in
    finite_units (nearest (N / u) (compare (N % u * 2) u)) k t n d l

one_is : round binary64 false 1 1 ≡ fin false 1 (pos 0)
unfolding round
one_is = refl

no_drift : (n : ℕ) → 0 < n → n ≤ 1024 → mul binary64 plus_zero (inverse n) ≡ plus_zero
no_drift n h l =
    let w : 1 * 1 ≤ 1 * n = omega arith in
    let below : T (le (round binary64 false 1 n) (fin false 1 (pos 0))) = subst (λ z. T (le (round binary64 false 1 n) z)) one_is (round_mono binary64 1 n 1 1 h (lit< tt) w) in
    ap (mul binary64 plus_zero) (inverse_is n h l)
    ∙ times_positive (round binary64 false 1 n) _ _ (round_val binary64 1 n (round_under binary64 1 n (finite_round 1 n false 1 (pos 0) below)))

-- ---- the mean of six times the same number

like_sum : (s : Bool) (a b c : ℕ) → sum binary64 s a s b c ≡ round binary64 s (a + b) c
unfolding sum
like_sum true a b c = refl
like_sum false a b c = refl

add_like : (x y : Float) (s : Bool) (a b : ℕ) → HasValue x s a (2 ^ 20) → HasValue y s b (2 ^ 20) → add binary64 x y ≡ round binary64 s (a + b) (2 ^ 20)
unfolding add
add_like nan y s a b v w = absurd v
add_like (inf t) y s a b v w = absurd v
add_like (fin t m e) nan s a b v w = absurd w
add_like (fin t m e) (inf u) s a b v w = absurd w
add_like (fin t m e) (fin u n d) s a b v w =
    ap₂ (λ t u. sum binary64 t (m * up e * down d) u (n * up d * down e) (down e * down d)) v.0 w.0
    ∙ like_sum s (m * up e * down d) (n * up d * down e) (down e * down d)
    ∙ round_same binary64 s (m * up e * down d + n * up d * down e) (down e * down d) (a + b) (2 ^ 20) (mul-pos (down_pos e) (down_pos d)) (lit< tt)
    (cross (m * up e) (down e) (n * up d) (down d) (2 ^ 20) v.1 w.1)
  where
    cross : (x p y q g : ℕ) → x * g ≡ a * p → y * g ≡ b * q → (x * q + y * p) * g ≡ (a + b) * (p * q)
    cross x p y q g e f = omega (arith, ap (λ z. z * q) e, ap (λ z. z * p) f)

unlike_up : (s : Bool) → unlike s false ≡ s
unlike_up true = refl
unlike_up false = refl

six_is : of_bits binary64 0x4018_0000_0000_0000 ≡ fin false 3 (pos 1)
unfolding of_bits
six_is = refl

sixth : (x : Float) (s : Bool) (n k : ℕ) → n ≡ 6 * k → HasValue x s n (2 ^ 20) → div binary64 x (fin false 3 (pos 1)) ≡ round binary64 s k (2 ^ 20)
unfolding div
sixth nan s n k q v = absurd v
sixth (inf t) s n k q v = absurd v
sixth (fin t m e) s n k q v =
    ap (λ t. round binary64 t (m * up e * 1) (3 * 2 * down e)) (unlike_up t ∙ v.0)
    ∙ round_same binary64 s (m * up e * 1) (3 * 2 * down e) k (2 ^ 20) (six_pos (down e) (down_pos e)) (lit< tt) (cross (m * up e) (down e) (2 ^ 20) v.1)
  where
    six_pos : (d : ℕ) → 0 < d → 0 < 3 * 2 * d
    six_pos d h = omega arith

    cross : (a d g : ℕ) → a * g ≡ n * d → a * 1 * g ≡ k * (3 * 2 * d)
    cross a d g e = omega (arith, e, ap (λ z. z * d) q)

mean-same : (x : Float) → Held x → mean6 (x ∷ x ∷ x ∷ x ∷ x ∷ x ∷ []) ≡ x
mean-same x H =
    let s = H.sign in
    let k = H.steps in
    let few = H.few in
    let r : ℕ → Float = λ j. round binary64 s j (2 ^ 20) in
    let more : (y : Float) (j : ℕ) → j ≤ 8 * 2 ^ 40 → y ≡ r j → add binary64 y x ≡ r (j + k) =
    λ y j h e. ap (λ y. add binary64 y x) e ∙ add_like (r j) x s j k (whole-steps s j (omega arith)) H.value in
    let s2 = add_like x x s k k H.value H.value in
    let s3 = more (add binary64 x x) (k + k) (omega arith) s2 in
    let s4 = more (add binary64 (add binary64 x x) x) (k + k + k) (omega arith) s3 in
    let s5 = more (add binary64 (add binary64 (add binary64 x x) x) x) (k + k + k + k) (omega arith) s4 in
    let s6 = more (add binary64 (add binary64 (add binary64 (add binary64 x x) x) x) x) (k + k + k + k + k) (omega arith) s5 in
    ap₂ (div binary64) s6 six_is
    ∙ sixth (r (k + k + k + k + k + k)) s (k + k + k + k + k + k) k (omega arith) (whole-steps s (k + k + k + k + k + k) (omega arith))
    ∙ sym H.is

-- ---- the set

-- a set of third order on the grid, alike, whose sums over each leg are 0.0
pub record Still (S : Shifts) (set : List Float) : Type 0 where
  pub long : length set ≡ size S 2
  pub grid : (q : ℕ) → q < length set → (on_grid (get_or set q nan) ≡ true) × T (fits binary64 (get_or set q nan))
  pub alike : Alike S 2 perms3 set
  pub sums : (leg t k : ℕ) → leg ≤ 2 → t < times_power S.n_satom 2 1 → k < in_block 2 → leg_sum S 2 set leg t k ≡ plus_zero

module _ (T' : ShiftTables) (F : TablesFit limit3 T') (L : Laws (shifts_of T')) (set : List Float) (Z : Still (shifts_of T') set) where
  abbrev S : Shifts
  S = shifts_of T'

  held_at : (q : ℕ) → q < length set → Held (get_or set q nan)
  held_at q h = held (get_or set q nan) (Z.grid q h).0 (Z.grid q h).1

  leg-stays : (leg : ℕ) → leg ≤ 2 → without_drift S 2 leg set ≡ set
  unfolding without_drift
  leg-stays leg hl = sym (is_tab nan (size S 2) _ set Z.long (λ q h.
      let b = q / in_block 2 in
      let hb = block-below S 2 q h in
      let r = other_block S 2 leg b in
      let t = line_of S 2 r in
      let ht : t < times_power T'.n_satom 2 1 = line-below limit3 T' (lit≤ tt) F L 1 r (other-below limit3 T' (lit≤ tt) F L 1 leg b hl hb) in
      let few = F.satoms in
      let d : drift_at S 2 leg set r (q % in_block 2) ≡ plus_zero =
      ap (λ x. mul binary64 x (inverse T'.n_satom)) (Z.sums leg t (q % in_block 2) hl ht (mod-lt q (in_block_pos 2)))
      ∙ no_drift T'.n_satom (room_pos T'.n_satom 1 1 t ht) (omega (arith, few)) in
      sym (ap (sub binary64 (get_or set q nan)) d ∙ less_zero (get_or set q nan) (held_at q (rw Z.long h)))))

  legs_stay : without_drifts S 2 set ≡ set
  unfolding without_drifts times
  legs_stay = ap (λ s. without_drift S 2 2 (without_drift S 2 1 s)) (leg-stays 0 (lit≤ tt)) ∙ ap (without_drift S 2 2) (leg-stays 1 (lit≤ tt)) ∙ leg-stays 2 (lit≤ tt)

  read_held : (xs : List Leg) → Legs S 2 xs → Held (read_out nan S set xs)
  unfolding read_out at
  read_held xs p = held_at (address S (stored S xs)) (rw Z.long (address_below S 2 (stored S xs) (stored-place S L 2 xs p)))

  same-six : (f : List ℕ → Float) (x : Float) → ((σ : List ℕ) → In σ perms3 → f σ ≡ x) → map f perms3 ≡ x ∷ x ∷ x ∷ x ∷ x ∷ x ∷ []
  unfolding perms3
  same-six f x h = map_same (λ σ. In σ perms3) f (λ _. x) perms3 h (in_all (λ σ. In σ perms3) perms3 (λ σ i. i))

  means-stay : symmetrized nan mean6 S 2 perms3 set ≡ set
  means-stay =
      same-read_out S L nan 2 (symmetrized nan mean6 S 2 perms3 set) set (unfold symmetrized in length-fill S 2 _) Z.long (λ xs p.
      let M = symmetrized_is_mean nan mean6 S L 2 perms3 six-group set xs p in
      let q = taken_legs S 2 M.τ xs (six-group.each M.τ M.is_one) p in
      let x = read_out nan S set xs in
      M.value
      ∙ ap mean6 (same-six (λ σ. read_out nan S set (permute_legs σ (permute_legs M.τ xs))) x (λ σ i. Z.alike σ (permute_legs M.τ xs) i q ∙ Z.alike M.τ xs M.is_one p))
      ∙ mean-same x (read_held xs p))

  level_stays : leveled mean6 S 2 perms3 set ≡ set
  unfolding leveled
  level_stays = ap (symmetrized nan mean6 S 2 perms3) legs_stay ∙ means-stay

  times-stay : (level : ℕ) → times level (λ _. leveled mean6 S 2 perms3) set ≡ set
  unfolding times
  times-stay zero = refl
  times-stay (suc level) = ap (leveled mean6 S 2 perms3) (times-stay level) ∙ level_stays

  stays : (level : ℕ) → perm_trans_symmetrized mean6 S 2 perms3 level set ≡ set
  unfolding perm_trans_symmetrized
  stays zero = means-stay
  stays (suc level) = times-stay (suc level)

-- SUCH A SET STAYS AS IT IS, at every level, compact and full
pub compact_stays : (set : List Float) (T' : ShiftTables) (done : List ℕ) (drift : List Float) (level : ℕ) → Still (shifts_of T') set
    → (perm_trans_symmetrize_compact limit3 2 mean6 perms3 set T' done drift level).0 ≡ Ok tt → (perm_trans_symmetrize_compact limit3 2 mean6 perms3 set T' done drift level).1 ≡ set
unfolding perm_trans_symmetrize_compact
compact_stays set T' done drift level Z e =
    let a = judged_levels limit3 2 (length set) (length done) (length drift) T' level in
    let W = compact_work limit3 2 mean6 perms3 set T' done drift level refl (ap is_refusal e) in
    after-done a (perm_trans_symmetrized mean6 (shifts_of T') 2 perms3 level set) set (ap is_refusal e)
    ∙ stays T' W.room.ready.fit W.room.ready.rules set Z level

pub full-stays : (set : List Float) (n : ℕ) (drift : List Float) (level : ℕ) → Still (full_shifts n) set
    → (perm_trans_symmetrize_full limit3 2 mean6 perms3 set n drift level).0 ≡ Ok tt → (perm_trans_symmetrize_full limit3 2 mean6 perms3 set n drift level).1 ≡ set
unfolding perm_trans_symmetrize_full
full-stays set n drift level Z e =
    let a = judged_full_levels limit3 2 (length set) (length drift) n level in
    let (R, _) = full-room limit3 2 mean6 perms3 set n drift level refl (lit≤ tt) (ap is_refusal e) in
    after-done a (perm_trans_symmetrized mean6 (full_shifts n) 2 perms3 level set) set (ap is_refusal e)
    ∙ ap (λ S. perm_trans_symmetrized mean6 S 2 perms3 level set) (sym (whole-shifts n))
    ∙ stays (full_tables n) R.ready.fit R.ready.rules set (subst (λ S. Still S set) (sym (whole-shifts n)) Z) level
