-- What the loops see, operation by operation and block by block, are the deviations of the definition, one after another, and so is the call's answer.
-- For every rank at once. Assumes nothing.
use Rattle.std.specs.Prelude.{Err, Ok, ◌≡◌, refl, Bool, true, false, cond, ◌⊎◌, List, [], ◌∷◌, map, eqb, leb, ℤ, length, Float}
use Rattle.std.proofs.Math.Path.{sym, ap, ap₂}
use Rattle.std.proofs.Common.{◌∙◌, inl, inr, mul-le-mul_right, ne_eqb, le-leb}
use Prim.Native.Nat.{ℕ, suc, ◌+◌, ◌*◌, ◌%◌, ◌≤◌, ◌<◌}
use native.Mathlib.Omega.{arith}
use Rattle.std.proofs.lemmas.List.{length-map}
use Rattle.lists.specs.Tab.{times}
use Rattle.lists.specs.Digits.{times_power, rest, digits, length_digits, rest_below, digits-below, in_row}
use Rattle.lists.specs.Elements.{Below, all_map}
use Rattle.blocks.specs.Block.{block, fits}
use Rattle.tables.specs.Answers.{Answer}
use Rattle.tables.specs.declared.Refusal.{Refusal}
use Rattle.tables.specs.declared.Refusal.TheVariants.{CountAboveLimit, WrongLength, IndexOutOfRange, BadSlab, BadRepresentative, BadShiftTables, NotARoll, NoRoom, NotLawful, OffGrid, UnknownSet}
use Rattle.tables.specs.Answers.{number_of, refusal_number, refuse_if, passed}
use Rattle.tables.specs.Conditions.{Readable, IndexTable, read, not_above, not-wrong}
use Rattle.tables.specs.Shifts.{Shifts, p2s_at}
use Rattle.tables.specs.Full.{judged_full}
use Rattle.tables.specs.Compact.{ShiftTables, shifts_of, judged_tables, judged_set}
use Rattle.places.specs.Places.{atom, dir, legs_of, legs_at, place, size, in_block, full_shifts}
use Rattle.places.specs.Addresses.{stored_block}
use Rattle.places.specs.ReadOuts.{stored_in_lem}
use Rattle.rotations.specs.Rotation.{rotated}
use Rattle.read_out.specs.Blocks.{block_of}
use Rattle.audits.specs.Guard.{Ready, block_inside, stored-within, full_tables, whole-shifts}
use Rattle.reports.specs.declared.seen.Seen.{Seen}
use Rattle.reports.specs.Loops.{look, look_differences, nothing_seen, concluded}
use Rattle.reports.specs.Seen.{report_of, after-done, after-refused}
use Rattle.crystal.specs.Crystal.{image, image_legs, deviation_at, crystal_report, judged_operations, earlier, crystal_report_compact, crystal_report_full}

-- ---- the block at the images of the atoms of block b

unfoldable pub image_atoms : Shifts → ℕ → List ℤ → ℕ → ℕ → List ℕ
image_atoms S m operations r b =
    let n = S.n_satom in
    let f = image n operations r in
    f (p2s_at S (rest n m b)) ∷ map f (digits n m b)

abbrev pub image_block : Shifts → ℕ → List ℤ → ℕ → ℕ → ℕ
image_block S m operations r b = block_of S (image_atoms S m operations r b)

map_legs : (f : ℕ → ℕ) (ks ds : List ℕ) → map (λ x. (f (atom x), dir x)) (legs_of ks ds) ≡ legs_of (map f ks) ds
unfolding legs_of
map_legs f [] ds = refl
map_legs f (k ∷ ks) [] = refl
map_legs f (k ∷ ks) (d ∷ ds) = ap (λ l. (f k, d) ∷ l) (map_legs f ks ds)

module _ (S : Shifts) (m : ℕ) (r_carts : List Float) (operations : List ℤ) (set : List Float) where
  abbrev w : ℕ
  w = in_block m

  pub images_legs : (r q : ℕ) → image_legs S m r_carts operations set r q ≡ legs_of (image_atoms S m operations r (rest 3 (suc m) q)) (digits 3 (suc m) q)
  unfolding image_legs image_atoms place legs_of legs_at digits
  images_legs r q =
      let f = image S.n_satom operations r in
      let b = rest 3 (suc m) q in
      ap (λ l. (f (p2s_at S (rest S.n_satom m b)), rest 3 m q % 3) ∷ l) (map_legs f (digits S.n_satom m b) (digits 3 m q))

  -- ---- what the loops compute: block b under operation r, all blocks, all operations

  unfoldable pub block_seen : ℕ → ℕ → ℕ → Seen → Seen
  block_seen c r b s = look_differences (r * size S m + b * c) (block c (image_block S m operations r b) set) (rotated (block 9 r r_carts) (suc m) (block c b set)) s

  unfoldable pub operation_seen : ℕ → ℕ → ℕ → Seen → Seen
  operation_seen c n r s = times n (block_seen c r) s

  unfoldable pub all_seen : ℕ → Seen
  all_seen num_rot = times (num_rot * size S m) (λ z. look z (deviation_at S m r_carts operations set z)) nothing_seen

  -- a look at one block is that of the definition
  pub look_is : (c r b : ℕ) (s : Seen) {first to : ℕ} → first ≡ r * size S m + b * c → to ≡ image_block S m operations r b
      → look_differences first (block c to set) (rotated (block 9 r r_carts) (suc m) (block c b set)) s ≡ block_seen c r b s
  unfolding block_seen
  look_is c r b s e f = ap₂ (λ first to. look_differences first (block c to set) (rotated (block 9 r r_carts) (suc m) (block c b set)) s) e f

  pub report_is : (num_rot : ℕ) {c : Seen} → c ≡ all_seen num_rot → concluded c ≡ crystal_report S m r_carts operations set num_rot
  unfolding all_seen
  report_is num_rot e = report_of (num_rot * size S m) (deviation_at S m r_carts operations set) e

-- ---- what the functions ask of the operations

-- operation r sends every atom to one
pub record Sends (n : ℕ) (operations : List ℤ) (r : ℕ) : Type 0 where
  pub each : (a : ℕ) → a < n → Readable operations (r * n + a) × (image n operations r a < n)

pub record Operating (n num_rot lenCarts : ℕ) (operations : List ℤ) : Type 0 where
  pub few : num_rot ≤ 1024
  pub matrices : lenCarts ≡ num_rot * 9
  pub maps : IndexTable (num_rot * n) n operations

pub sends : {n num_rot lenCarts : ℕ} {operations : List ℤ} → Operating n num_rot lenCarts operations → (r : ℕ) → r < num_rot → Sends n operations r
sends {n} {num_rot} O r h = record { each = λ a l. read O.maps (r * n + a) (in_row num_rot n r a h l) }

-- ---- the guard

pub operating : (n num_rot lenCarts : ℕ) (operations : List ℤ) → judged_operations n num_rot lenCarts operations ≡ Ok tt → Operating n num_rot lenCarts operations
unfolding judged_operations
operating n num_rot lenCarts operations e =
    let (c, e1) = passed _ _ _ e in
    let (l, e2) = passed _ _ _ e1 in
    let (o, _) = passed _ _ _ e2 in
    let ls = not-wrong ((lenCarts, num_rot * 9) ∷ ((length operations, num_rot * n) ∷ [])) l in
    record { few = (not_above 1024 (num_rot ∷ []) c).0; matrices = ls.0; maps = record { has = ls.1.0; within = o } }

-- an answer's number is 0 where it is done, and 1 or more where it is refused
number-done : (a : Answer) → (a ≡ Ok tt) ⊎ (1 ≤ number_of a)
number-done (Ok u) = inl refl
number-done (Err r) = inr (by r)
  where
    by : (r : Refusal) → 1 ≤ refusal_number r
    by CountAboveLimit = omega arith
    by WrongLength = omega arith
    by IndexOutOfRange = omega arith
    by BadSlab = omega arith
    by BadRepresentative = omega arith
    by BadShiftTables = omega arith
    by NotARoll = omega arith
    by NoRoom = omega arith
    by NotLawful = omega arith
    by OffGrid = omega arith
    by UnknownSet = omega arith

-- refusal 1 comes first
pub earlier-one : (a b : Answer) → number_of a ≡ 1 → a ≡ earlier a b
unfolding earlier
earlier-one a b e = go (number-done b)
  where
    go : (b ≡ Ok tt) ⊎ (1 ≤ number_of b) → a ≡ cond (eqb (number_of a) 0) b (cond (eqb (number_of b) 0) a (cond (leb (number_of a) (number_of b)) a b))
    go (inl d) = rw (ne_eqb (number_of a) 0 (λ z. omega (arith, e, z)), d) refl
    go (inr h) = rw (ne_eqb (number_of a) 0 (λ z. omega (arith, e, z)), ne_eqb (number_of b) 0 (λ z. omega (arith, h, z)), le-leb (number_of a) (number_of b) (omega (arith, e, h))) refl

-- where both are done
pub both-done : (a b : Answer) → earlier a b ≡ Ok tt → (a ≡ Ok tt) × (b ≡ Ok tt)
unfolding earlier
both-done a b e = go (number-done a) (number-done b)
  where
    go : (a ≡ Ok tt) ⊎ (1 ≤ number_of a) → (b ≡ Ok tt) ⊎ (1 ≤ number_of b) → (a ≡ Ok tt) × (b ≡ Ok tt)
    go (inl d) _ = (d, sym (ap (λ k. cond (eqb k 0) b (cond (eqb (number_of b) 0) a (cond (leb k (number_of b)) a b))) (ap number_of d)) ∙ e)
    go (inr h) (inl d) =
        let n = ne_eqb (number_of a) 0 (λ z. omega (arith, h, z)) in
        let x : cond (eqb (number_of a) 0) b (cond (eqb (number_of b) 0) a (cond (leb (number_of a) (number_of b)) a b)) ≡ a = rw (n, d) refl in
        let y : number_of a ≡ 0 = ap number_of (sym x ∙ e) in
        absurd (omega (arith, h, y))
    go (inr h) (inr g) = absurd (either (leb (number_of a) (number_of b)) refl)
      where
        n : eqb (number_of a) 0 ≡ false
        n = ne_eqb (number_of a) 0 (λ z. omega (arith, h, z))

        k : eqb (number_of b) 0 ≡ false
        k = ne_eqb (number_of b) 0 (λ z. omega (arith, g, z))

        all : cond (leb (number_of a) (number_of b)) a b ≡ Ok tt
        all = sym (ap₂ (λ x y. cond x b (cond y a (cond (leb (number_of a) (number_of b)) a b))) n k) ∙ e

        either : (t : Bool) → leb (number_of a) (number_of b) ≡ t → ⊥
        either true q = let y : number_of a ≡ 0 = ap number_of (sym (ap (λ t. cond t a b) q) ∙ all) in omega (arith, h, y)
        either false q = let y : number_of b ≡ 0 = ap number_of (sym (ap (λ t. cond t a b) q) ∙ all) in omega (arith, g, y)

-- where no count of the set is above its limit the atoms are few
not-one : (b : Bool) (next : Answer) {a : Answer} → a ≡ refuse_if b CountAboveLimit next → (number_of a ≡ 1 → ⊥) → b ≡ false
not-one true next e d = absurd (d (ap number_of e))
not-one false next e d = refl

pub set-few : (limit m len : ℕ) (T : ShiftTables) {a : Answer} → a ≡ judged_set limit m len [] T → (number_of a ≡ 1 → ⊥) → T.n_satom ≤ limit
unfolding judged_tables
set-few limit m len T e d = (not_above limit (T.n_satom ∷ (T.n_patom ∷ (T.num_trans ∷ []))) (not-one _ _ e d)).0

pub whole-set-few : (limit m len n : ℕ) {a : Answer} → a ≡ judged_full limit m len [] n → (number_of a ≡ 1 → ⊥) → n ≤ limit
unfolding judged_full
whole-set-few limit m len n e d = (not_above limit (n ∷ []) (not-one _ _ e d)).0

-- ---- what is read lies inside

pub carts_inside : {n num_rot lenCarts : ℕ} {operations : List ℤ} → Operating n num_rot lenCarts operations → (r : ℕ) → r < num_rot → r * 9 + 9 ≤ lenCarts
carts_inside {num_rot = num_rot} O r h = rw O.matrices (fits 9 r num_rot h)

pub few_index : (r len x : ℕ) → r < 1024 → len < 281474976710656 → x < len → (r * len + x < 4611686018427387904) × (r * len + x + 81 < 4611686018427387904)
few_index r len x hr hl hx =
    let a : r * len ≤ 1024 * len = mul-le-mul_right len (omega arith) in
    (omega arith, omega arith)

-- the block at the images is one of the set
pub image-inside : (limit m len : ℕ) (T : ShiftTables) → Ready limit m len T → limit ≤ 1024 → (operations : List ℤ) (r : ℕ) → Sends T.n_satom operations r
    → (b : ℕ) → b < times_power T.n_satom m T.n_patom → (w : ℕ) → in_block m ≡ w → image_block (shifts_of T) m operations r b * w + w ≤ len
unfolding block_of image_atoms
image-inside limit m len T R h operations r O b hb w e =
    let n = T.n_satom in
    let f = image n operations r in
    let i = f (p2s_at (shifts_of T) (rest n m b)) in
    let js = map f (digits n m b) in
    let hi : i < n = (O.each (p2s_at (shifts_of T) (rest n m b)) (R.rules.p2s-below (rest n m b) (rest_below n m T.n_patom b hb))).1 in
    let hj : Below n js = all_map (λ k. k < n) (λ k. k < n) f (digits n m b) (λ k l. (O.each k l).1) (digits-below n m T.n_patom b hb) in
    let l : length js ≡ m = length-map (digits n m b) f ∙ length_digits n m b in
    block_inside limit m len T R w e (stored_block (shifts_of T) i js) (rw (stored_in_lem T i js, l) at (stored-within limit T h R.fit i hi js hj))

-- ---- the answer

module _ (limit m : ℕ) (set r_carts : List Float) (operations : List ℤ) (num_rot : ℕ) where
  pub compact_given : (T : ShiftTables) → earlier (judged_set limit m (length set) [] T) (judged_operations T.n_satom num_rot (length r_carts) operations) ≡ Ok tt
      → {c : Seen} → c ≡ all_seen (shifts_of T) m r_carts operations set num_rot → Ok (concluded c) ≡ crystal_report_compact limit m set r_carts operations T num_rot
  unfolding crystal_report_compact
  compact_given T e f = after-done e (report_is (shifts_of T) m r_carts operations set num_rot f)

  pub compact_refused : (T : ShiftTables) (r : Refusal) → earlier (judged_set limit m (length set) [] T) (judged_operations T.n_satom num_rot (length r_carts) operations) ≡ Err r
      → Err r ≡ crystal_report_compact limit m set r_carts operations T num_rot
  unfolding crystal_report_compact
  compact_refused T r e = after-refused (crystal_report (shifts_of T) m r_carts operations set num_rot) e

  pub full-given : (n : ℕ) → earlier (judged_full limit m (length set) [] n) (judged_operations n num_rot (length r_carts) operations) ≡ Ok tt
      → {c : Seen} → c ≡ all_seen (shifts_of (full_tables n)) m r_carts operations set num_rot → Ok (concluded c) ≡ crystal_report_full limit m set r_carts operations n num_rot
  unfolding crystal_report_full
  full-given n e f = after-done e (report_is (full_shifts n) m r_carts operations set num_rot (f ∙ ap (λ S. all_seen S m r_carts operations set num_rot) (whole-shifts n)))

  pub full-refused : (n : ℕ) (r : Refusal) → earlier (judged_full limit m (length set) [] n) (judged_operations n num_rot (length r_carts) operations) ≡ Err r
      → Err r ≡ crystal_report_full limit m set r_carts operations n num_rot
  unfolding crystal_report_full
  full-refused n r e = after-refused (crystal_report (full_shifts n) m r_carts operations set num_rot) e
