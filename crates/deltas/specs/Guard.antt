-- What is known of a call that is not refused: everything it reads is there. Assumes nothing.
use Rattle.std.specs.Prelude.{Ok, ◌≡◌, Bool, true, false, List, [], ◌∷◌, ℤ, length, replicate, Float}
use Rattle.std.proofs.Common.{sym, ap, ◌∙◌, le_trans, div-lt_iff_lt-mul, mod-lt, mul_assoc, mul_comm, one-mul, pow-suc, mul-le-mul, mul-le-mul_right, arith, lit≤}
use Rattle.std.proofs.Math.Path.{subst}
use Prim.Native.Nat.{ℕ, zero, suc, ◌+◌, ◌*◌, ◌/◌, ◌%◌, ◌^◌, ◌<◌, ◌≤◌}
use Rattle.std.proofs.Math.Nat.{mul-one, pow-zero}
use Rattle.lists.specs.Digits.{in_row, times_power, room_power}
use Rattle.lists.specs.Floats.{plus_zero}
use Rattle.tables.specs.Answers.{Answer}
use Rattle.tables.specs.declared.Refusal.TheVariants.{CountAboveLimit, WrongLength, IndexOutOfRange}
use Rattle.tables.specs.Answers.{is_refusal, refuse_if, is_done, after_refusal, after-done, passed}
use Rattle.tables.specs.Conditions.{any_above, any_wrong, out_of_range, index_at, Readable, IndexTable, read, or_false, not_above, not-wrong}
use Rattle.tables.specs.Lengths.{set_blocks, set_length, slab_length}
use Rattle.tables.specs.Limits.{limit_list}
use Rattle.blocks.specs.Inside.{BlocksIn, inside_slab}
use Rattle.deltas.specs.RotateDelta.{Deltas, delta_total, delta_source, rotated_deltas, delta_counts_above, delta_lengths, judged_deltas, rotate_delta}

pub record Ready (D : Deltas) (m : ℕ) : Type 0 where
  pub atoms-few : D.num_atom ≤ 256
  pub symmetries_few : D.num_site_sym ≤ 1024
  pub displacements_few : D.num_disp ≤ 1024
  pub deltas-length : length D.deltas ≡ D.num_disp * D.num_atom ^ m * 3 ^ m
  pub inverse-length : length D.inv_u ≡ 3 * delta_total D
  pub symmetries_length : length D.site_sym_cart ≡ D.num_site_sym * 9
  pub images-fit : IndexTable (D.num_site_sym * D.num_atom) D.num_atom D.rot_map_syms

-- the result's length, and that of the work slice
pub record Lengths (D : Deltas) (m lengthResult lengthWork : ℕ) : Type 0 where
  pub result_length : lengthResult ≡ D.num_atom ^ m * (3 * 3 ^ m)
  pub work-length : lengthWork ≡ delta_total D * 3 ^ m

pub ready : (limit m : ℕ) (D : Deltas) (lengthResult lengthWork : ℕ) → limit ≤ 256 → judged_deltas limit m D lengthResult lengthWork ≡ Ok tt
    → Ready D m × Lengths D m lengthResult lengthWork
unfolding judged_deltas
ready limit m D lengthResult lengthWork h e =
    let (q1, e1) = passed _ _ _ e in
    let (q2, e2) = passed _ _ _ e1 in
    let (q3, e3) = passed _ _ _ e2 in
    let (f1, f2) = or_false (any_above limit (D.num_atom ∷ [])) _ q1 in
    let (atoms, _) = not_above limit (D.num_atom ∷ []) f1 in
    let (syms, (disps, _)) = not_above limit_list (D.num_site_sym ∷ D.num_disp ∷ []) f2 in
    let (l1, (l2, (l3, (l4, (l5, (l6, _)))))) = not-wrong (delta_lengths D (set_length 1 D.num_atom m) (D.num_atom ^ m) (3 ^ m) lengthResult lengthWork) q2 in
    let R : Ready D m =
    record {
      atoms-few = le_trans atoms h;
      symmetries_few = syms;
      displacements_few = disps;
      deltas-length = l2;
      inverse-length = l3;
      symmetries_length = l4;
      images-fit = record { has = l5; within = q3 };
    } in
    (R, record { result_length = l1 ∙ slab_length D.num_atom m; work-length = l6 })

-- ---- powers

next_power : (d a k : ℕ) → d * a ^ k * a ≡ d * a ^ suc k
next_power d a k = mul_assoc d (a ^ k) a ∙ ap (λ x. d * x) (sym (pow-suc a k))

one_power : (a : ℕ) → a ≡ a ^ 1
one_power a = sym (pow-suc a 0 ∙ ap (λ x. x * a) (pow-zero a) ∙ one-mul a)

pub square : (a : ℕ) → a * a ≡ a ^ 2
square a = ap (λ x. x * a) (one_power a) ∙ sym (pow-suc a 1)

pub cube : (a : ℕ) → a * a * a ≡ a ^ 3
cube a = ap (λ x. x * a) (square a) ∙ sym (pow-suc a 2)

pub slab_blocks : (n m : ℕ) → set_blocks 1 n m ≡ n ^ m
unfolding set_blocks
slab_blocks n m = one-mul (n ^ m)

pub power_few : (n m : ℕ) → n ≤ 256 → m ≤ 3 → n ^ m ≤ 16777216
power_few n zero h g = subst (λ (x : ℕ). x ≤ 16777216) (sym (pow-zero n)) (lit≤ tt)
power_few n (suc zero) h g = subst (λ (x : ℕ). x ≤ 16777216) (one_power n) (omega arith)
power_few n (suc (suc zero)) h g = subst (λ (x : ℕ). x ≤ 16777216) (square n) (omega (arith, mul-le-mul h h))
power_few n (suc (suc (suc zero))) h g = subst (λ (x : ℕ). x ≤ 16777216) (cube n) (omega (arith, mul-le-mul (mul-le-mul h h) h))
power_few n (suc (suc (suc (suc m)))) h g = absurd (omega arith)

pub width_few : (m : ℕ) → m ≤ 3 → 3 ^ m ≤ 27
width_few zero g = lit≤ tt
width_few (suc zero) g = lit≤ tt
width_few (suc (suc zero)) g = lit≤ tt
width_few (suc (suc (suc zero))) g = lit≤ tt
width_few (suc (suc (suc (suc m)))) g = absurd (omega arith)

-- ---- one pair of a displacement and a site symmetry

module _ (D : Deltas) (n : ℕ) (h : n < delta_total D) where
  some_symmetry : (s : ℕ) → n < D.num_disp * s → 0 < s
  some_symmetry zero l = omega arith
  some_symmetry (suc s) l = omega arith

  pub some_syms : 0 < D.num_site_sym
  some_syms = some_symmetry D.num_site_sym h

  pub symmetry_below : n % D.num_site_sym < D.num_site_sym
  symmetry_below = mod-lt n some_syms

  pub displacement_below : n / D.num_site_sym < D.num_disp
  displacement_below = (div-lt_iff_lt-mul some_syms).1 h

  -- the place of an atom's image in the table
  pub image-place : (j : ℕ) → j < D.num_atom → n % D.num_site_sym * D.num_atom + j < D.num_site_sym * D.num_atom
  image-place j l = in_row D.num_site_sym D.num_atom (n % D.num_site_sym) j symmetry_below l

  pub image : (m : ℕ) → Ready D m → (j : ℕ) → j < D.num_atom
      → Readable D.rot_map_syms (n % D.num_site_sym * D.num_atom + j) × (index_at D.rot_map_syms (n % D.num_site_sym * D.num_atom + j) < D.num_atom)
  image m R j l = read R.images-fit (n % D.num_site_sym * D.num_atom + j) (image-place j l)

  -- the source is a block of the deltas
  pub source-below : (m k b : ℕ) → Ready D m → 0 < D.num_atom → delta_source D n k b < D.num_disp * D.num_atom ^ k
  unfolding delta_source
  source-below m zero b R z = subst (λ (x : ℕ). n / D.num_site_sym < x) (sym (ap (λ x. D.num_disp * x) (pow-zero D.num_atom) ∙ mul-one D.num_disp)) displacement_below
  source-below m (suc k) b R z =
      let a = D.num_atom in
      let i = index_at D.rot_map_syms (n % D.num_site_sym * a + b % a) in
      let s = in_row (D.num_disp * a ^ k) a (delta_source D n k (b / a)) i (source-below m k (b / a) R z) (image m R (b % a) (mod-lt b z)).1 in
      subst (λ (x : ℕ). delta_source D n k (b / a) * a + i < x) (next_power D.num_disp a k) s

-- ---- the guard

-- what the lengths are compared with
pub record Sizes (b w num_atom num_site_sym num_disp : ℕ) : Type 0 where
  pub total-few : num_disp * num_site_sym ≤ 1048576
  pub result_few : b * (3 * w) ≤ 1358954496
  pub blocks-few : num_disp * b ≤ 17179869184
  pub deltas-few : num_disp * b * w ≤ 463856467968
  pub images-few : num_site_sym * num_atom ≤ 262144
  pub work-few : num_disp * num_site_sym * w ≤ 28311552

pub sizes : (b w num_atom num_site_sym num_disp : ℕ) → (b ≤ 16777216) × (w ≤ 27) × (num_atom ≤ 256) × (num_site_sym ≤ 1024) × (num_disp ≤ 1024)
    → Sizes b w num_atom num_site_sym num_disp
sizes b w num_atom num_site_sym num_disp (hb, hw, ha, hs, hd) =
    let t : num_disp * num_site_sym ≤ 1048576 = mul-le-mul hd hs in
    let k : num_disp * b ≤ 17179869184 = mul-le-mul hd hb in
    let v : 3 * w ≤ 81 = omega arith in
    record {
      total-few = t;
      result_few = mul-le-mul hb v;
      blocks-few = k;
      deltas-few = mul-le-mul k hw;
      images-few = mul-le-mul hs ha;
      work-few = mul-le-mul t hw;
    }

pub counts-small : (limit num_atom num_site_sym num_disp : ℕ) → delta_counts_above limit num_atom num_site_sym num_disp ≡ false
    → (num_atom ≤ limit) × (num_site_sym ≤ 1024) × (num_disp ≤ 1024)
counts-small limit num_atom num_site_sym num_disp e =
    let (f, g) = or_false (any_above limit (num_atom ∷ [])) _ e in
    let (p, _) = not_above limit (num_atom ∷ []) f in
    let (q, (r, _)) = not_above limit_list (num_site_sym ∷ num_disp ∷ []) g in
    (p, q, r)

pub judged_is : {q1 q2 q3 : Bool} (limit m : ℕ) (D : Deltas) (lengthResult lengthWork b w : ℕ) → b ≡ set_blocks 1 D.num_atom m → w ≡ 3 ^ m
    → q1 ≡ delta_counts_above limit D.num_atom D.num_site_sym D.num_disp
    → q2 ≡ any_wrong (delta_lengths D (b * (3 * w)) b w lengthResult lengthWork) → q3 ≡ out_of_range D.num_atom D.rot_map_syms
    → refuse_if q1 CountAboveLimit (refuse_if q2 WrongLength (refuse_if q3 IndexOutOfRange (Ok tt))) ≡ judged_deltas limit m D lengthResult lengthWork
unfolding judged_deltas
judged_is limit m D lengthResult lengthWork b w eb ew e1 e2 e3 =
    let e : _ ≡ any_wrong (delta_lengths D (set_length 1 D.num_atom m) (D.num_atom ^ m) (3 ^ m) lengthResult lengthWork) =
    e2 ∙ ap (λ x. any_wrong (delta_lengths D (b * (3 * x)) b x lengthResult lengthWork)) ew
    ∙ ap (λ x. any_wrong (delta_lengths D (x * (3 * 3 ^ m)) x (3 ^ m) lengthResult lengthWork)) (eb ∙ slab_blocks D.num_atom m)
    ∙ ap (λ s. any_wrong (delta_lengths D s (D.num_atom ^ m) (3 ^ m) lengthResult lengthWork)) (sym (slab_length D.num_atom m)) in
    rw (e1, e, e3)

-- ---- the call

module _ (limit m : ℕ) (D : Deltas) (result work : List Float) (a : Answer) (e : a ≡ judged_deltas limit m D (length result) (length work)) where
  pub refused : is_refusal a ≡ true → (a, result, work) ≡ rotate_delta limit m D result work
  unfolding rotate_delta
  refused h =
      rw (← e, after_refusal a (rotated_deltas D m) result h, after_refusal a (replicate (length work) plus_zero) work h)

  pub done_call : {result' work' : List Float} → is_refusal a ≡ false → result' ≡ rotated_deltas D m → work' ≡ replicate (length work) plus_zero
      → (Ok tt, result', work') ≡ rotate_delta limit m D result work
  unfolding rotate_delta
  done_call h p q =
      rw (← e, after-done a (rotated_deltas D m) result h, after-done a (replicate (length work) plus_zero) work h, p, q, is_done a h)

-- ---- what a row reads

-- entries at, .., at + n - 1 of a table are indices into n things
pub record Images (t : List ℤ) (at n : ℕ) : Type 0 where
  pub few : n ≤ 256
  pub fits : at + n ≤ length t
  pub image-at : (j : ℕ) → j < n → Readable t (at + j) × (index_at t (at + j) < n)

-- pair n of a call that is not refused
pub record Pair (D : Deltas) (n : ℕ) : Type 0 where
  pub some : 0 < D.num_site_sym
  pub total-few : D.num_disp * D.num_site_sym ≤ 1048576
  pub symmetry_fits : n % D.num_site_sym * 9 + 9 ≤ length D.site_sym_cart
  pub displacement_few : n / D.num_site_sym * D.num_atom ≤ 262144
  pub images : Images D.rot_map_syms (n % D.num_site_sym * D.num_atom) D.num_atom

pub few : {D : Deltas} {m : ℕ} → Ready D m → delta_total D ≤ 1048576
few R = mul-le-mul R.displacements_few R.symmetries_few

pub pair : {D : Deltas} {m : ℕ} → Ready D m → (n : ℕ) → n < delta_total D → Pair D n
pair {D} {m} R n h =
    let d : n / D.num_site_sym ≤ 1024 = omega (arith, displacement_below D n h, R.displacements_few) in
    record {
      some = some_syms D n h;
      total-few = few R;
      symmetry_fits = omega (arith, R.symmetries_length, symmetry_below D n h);
      displacement_few = mul-le-mul d R.atoms-few;
      images = record {
        few = R.atoms-few;
        fits = omega (arith, R.images-fit.has, mul-le-mul_right D.num_atom (symmetry_below D n h));
        image-at = image D n h m R;
      };
    }

-- ---- what lies inside: t is a row of the result, and s is the source of its first atom

pub target_inside : (D : Deltas) (k t len : ℕ) → t < D.num_atom → len ≡ D.num_atom ^ suc k * (3 * 3 ^ suc k) → BlocksIn D.num_atom (3 * 3 ^ suc k) k t len
target_inside D k t len h e =
    inside_slab D.num_atom (3 * 3 ^ suc k) k t D.num_atom len h (e ∙ ap (λ x. x * (3 * 3 ^ suc k)) (pow-suc D.num_atom k ∙ mul_comm (D.num_atom ^ k) D.num_atom ∙ sym (room_power D.num_atom k D.num_atom)))

pub source-inside : (D : Deltas) (k n i s : ℕ) → Ready D (suc k) → n < delta_total D → 0 < D.num_atom → s ≡ delta_source D n 1 i
    → BlocksIn D.num_atom (3 ^ suc k) k s (length D.deltas)
source-inside D k n i s R h z e =
    let a = D.num_atom in
    let l : s < D.num_disp * a = subst (λ (x : ℕ). s < D.num_disp * x) (sym (one_power a)) (rw e (source-below D n h (suc k) 1 i R z)) in
    let f : D.num_disp * a ^ suc k ≡ times_power a k (D.num_disp * a) =
    ap (λ x. D.num_disp * x) (pow-suc a k ∙ mul_comm (a ^ k) a) ∙ sym (mul_assoc D.num_disp a (a ^ k)) ∙ sym (room_power a k (D.num_disp * a)) in
    inside_slab a (3 ^ suc k) k s (D.num_disp * a) (length D.deltas) l (R.deltas-length ∙ ap (λ x. x * 3 ^ suc k) f)
