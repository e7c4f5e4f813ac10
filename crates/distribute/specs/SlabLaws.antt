-- The loops fill the target slab. Assumes nothing.
use Rattle.std.specs.Prelude.{Ok, ◌≡◌, true, false, ◌⊎◌, eqb, ℤ}
use Rattle.std.proofs.Math.Path.{refl, sym, ap, subst}
use Rattle.std.proofs.Common.{◌∙◌, inl, inr, div-lt_iff_lt-mul, div-add-mod', mod-lt, add-zero, zero-add, add_assoc, add-one, length-append, ext_get_or, eq-eqb, ne_eqb}
use Rattle.std.proofs.Math.Bool.{cond}
use mathlib.Core.List.{List, [], ◌∷◌, ◌++◌, map}
use Rattle.std.proofs.Math.Logic.{⊎_elim}
use Prim.Native.Nat.{ℕ, zero, suc, ◌+◌, ◌-◌, ◌*◌, ◌/◌, ◌%◌, ◌^◌, ◌<◌, ◌≤◌}
use Rattle.std.proofs.Math.Nat.{mul-le-mul_right, mul_assoc}
use native.Mathlib.Omega.{arith}
use Rattle.std.proofs.Math.ListN.{length, get_or, length-map}
use Rattle.std.specs.Float.Ieee.{Float, nan}
use Rattle.lists.specs.Tab.{tab, length-tab, get_or-tab, is_tab, tab_ext, times}
use Rattle.lists.specs.Cases.{eq_or_ne, lt_or_le, within, within_in, within-below, within_above}
use Rattle.lists.specs.Elements.{Below}
use Rattle.lists.specs.Digits.{horner, times_power, rest, digits, rest_horner, digits-horner, horner-below, room-mul, room-suc, rest_div}
use Rattle.blocks.specs.Block.{block, put_block, get_or-block, length-block, length-put_block, put-inside, put-outside, block_of_lem, inside}
use Rattle.rotations.specs.Rotation.{rotated}
use Rattle.tables.specs.Answers.{Answer}
use Rattle.tables.specs.Answers.{is_refusal, passed, is_done, after_refusal, after-done}
use Rattle.tables.specs.Conditions.{index_at, IndexTable, not_above, not-wrong, not_bad_slab}
use Rattle.tables.specs.Lengths.{set_length}
use Rattle.distribute.specs.Slab.{slab_source, distributed, judged_slabs, distribute_slab, move_block, move}

-- ---- the blocks from lo to hi are new, the others old

unfoldable pub filled : (w lo hi : ℕ) → (ℕ → List Float) → List Float → List Float
filled w lo hi new x = tab (length x) (λ q. cond (within lo hi (q / w)) (get_or (new (q / w)) (q % w) nan) (get_or x q nan))

module _ (w lo : ℕ) (new : ℕ → List Float) (x : List Float) where
  abbrev at : ℕ → ℕ → Float
  at hi q = cond (within lo hi (q / w)) (get_or (new (q / w)) (q % w) nan) (get_or x q nan)

  pub length-filled : (hi : ℕ) → length (filled w lo hi new x) ≡ length x
  unfolding filled
  length-filled hi = length-tab (length x) _

  get_or-filled : (hi q : ℕ) → q < length x → get_or (filled w lo hi new x) q nan ≡ at hi q
  unfolding filled
  get_or-filled hi q h = get_or-tab (length x) _ q nan h

  pub filled_none : x ≡ filled w lo lo new x
  unfolding filled
  filled_none =
      is_tab nan (length x) _ x refl (λ q h.
      ⊎_elim
      (λ (l : q / w < lo). sym (rw (within-below lo lo (q / w) l) refl))
      (λ (l : lo ≤ q / w). sym (rw (within_above lo lo (q / w) l) refl))
      (lt_or_le (q / w) lo))

  -- a range that grows by a block keeps the answer for the others
  grows : (hi b : ℕ) → (b ≡ hi → ⊥) → lo ≤ hi → within lo hi b ≡ within lo (hi + 1) b
  grows hi b n h =
      ⊎_elim
      (λ (l : b < lo). within-below lo hi b l ∙ sym (within-below lo (hi + 1) b l))
      (λ (l : lo ≤ b).
      ⊎_elim
      (λ (m : b < hi). within_in lo hi b l m ∙ sym (within_in lo (hi + 1) b l (omega arith)))
      (λ (m : hi ≤ b).
      let g : hi + 1 ≤ b = ⊎_elim (λ (e : b ≡ hi). absurd (n e)) (λ (e : b ≡ hi → ⊥). omega arith) (eq_or_ne b hi) in
      within_above lo hi b m ∙ sym (within_above lo (hi + 1) b g))
      (lt_or_le b hi))
      (lt_or_le b lo)

  -- one more block
  pub filled_more : {y z : List Float} (hi : ℕ) → lo ≤ hi → y ≡ filled w lo hi new x → z ≡ put_block w hi (new hi) y → z ≡ filled w lo (hi + 1) new x
  unfolding filled
  filled_more {y} {z} hi h ey ez =
      let ly : length y ≡ length x = ap length ey ∙ length-filled hi in
      is_tab nan (length x) _ z (ap length ez ∙ length-put_block w hi (new hi) y ∙ ly) (λ q g.
      let gy : q < length y = rw ly g in
      ap (λ l. get_or l q nan) ez
      ∙ ⊎_elim
      (λ (e : q / w ≡ hi).
      put-inside w hi (new hi) y q gy e
      ∙ sym (rw (within_in lo (hi + 1) (q / w) (omega arith) (omega arith)) (ap (λ b. get_or (new b) (q % w) nan) e)))
      (λ (n : q / w ≡ hi → ⊥).
      put-outside w hi (new hi) y q gy n ∙ ap (λ l. get_or l q nan) ey ∙ get_or-filled hi q g
      ∙ ap (λ t. cond t (get_or (new (q / w)) (q % w) nan) (get_or x q nan)) (grows hi (q / w) n h))
      (eq_or_ne (q / w) hi))

  -- a block outside the range is the old one
  pub filled-outside : (hi b : ℕ) → (b < lo) ⊎ (hi ≤ b) → b * w + w ≤ length x → block w b (filled w lo hi new x) ≡ block w b x
  filled-outside hi b o l =
      let y = filled w lo hi new x in
      ext_get_or nan (block w b y) (block w b x) (length-block w b y ∙ sym (length-block w b x)) (λ k g.
      let h : k < w = subst (λ (n : ℕ). k < n) (length-block w b y) g in
      let e : within lo hi b ≡ false = ⊎_elim (within-below lo hi b) (within_above lo hi b) o in
      get_or-block w b y k h ∙ get_or-filled hi (b * w + k) (inside w b k (length x) h l)
      ∙ ap (λ c. cond (within lo hi c) (get_or (new c) ((b * w + k) % w) nan) (get_or x (b * w + k) nan)) (block_of_lem w b k h)
      ∙ rw e (sym (get_or-block w b x k h)))

-- ---- numbers by their digits

horner_snoc : (b n : ℕ) (ds : List ℕ) (i : ℕ) → horner b n (ds ++ (i ∷ [])) ≡ horner b n ds * b + i
unfolding horner
horner_snoc b n [] i = refl
horner_snoc b n (d ∷ ds) i = horner_snoc b (n * b + d) ds i

map_snoc : (f : ℕ → ℕ) (ds : List ℕ) (i : ℕ) → map f (ds ++ (i ∷ [])) ≡ map f ds ++ (f i ∷ [])
map_snoc f [] i = refl
map_snoc f (d ∷ ds) i = ap (λ l. f d ∷ l) (map_snoc f ds i)

below_snoc : (n : ℕ) (ds : List ℕ) (i : ℕ) → Below n ds → i < n → Below n (ds ++ (i ∷ []))
below_snoc n [] i p h = (h, tt)
below_snoc n (d ∷ ds) i p h = (p.0, below_snoc n ds i p.1 h)

-- a number with quotient c by N
quotient : (a N c : ℕ) → 0 < N → a / N ≡ c → (c * N ≤ a) × (a < c * N + N)
quotient a N c h e =
    let p : c * N + a % N ≡ a = ap (λ x. x * N + a % N) (sym e) ∙ div-add-mod' a N in
    let r = mod-lt a h in
    (omega arith, omega arith)

quotient_of : (a N c : ℕ) → c * N ≤ a → a < c * N + N → a / N ≡ c
quotient_of a N c h g =
    let i : a ≡ c * N + (a - c * N) = omega arith in
    ap (λ x. x / N) i ∙ block_of_lem N c (a - c * N) (omega arith)

times-chain : {A : Type 0} (n : ℕ) (g : ℕ → A → A) (P : ℕ → A) → ((i : ℕ) → i < n → (y : A) → y ≡ P i → g i y ≡ P (i + 1))
    → (y : A) → y ≡ P 0 → (i : ℕ) → i ≤ n → times i g y ≡ P i
unfolding times
times-chain n g P step y e zero h = e
times-chain n g P step y e (suc i) h = step i (omega arith) (times i g y) (times-chain n g P step y e i (omega arith)) ∙ ap P (add-one i)

-- ---- the loops

module _ (mapping : List ℤ) (n w K target source F : ℕ) (f : List Float → List Float) (x : List Float)
    (images : (i : ℕ) → i < n → index_at mapping i < n) (len : length x ≡ times_power n K F * w) (ht : target < F) (hs : source < F) (ne : target ≡ source → ⊥) where
  abbrev N : ℕ
  N = times_power n K 1

  abbrev lo : ℕ
  lo = target * N

  abbrev m : ℕ → ℕ
  m = index_at mapping

  abbrev new : ℕ → List Float
  new b = f (block w (slab_source mapping n K source b) x)

  below-images : (ds : List ℕ) → Below n ds → Below n (map m ds)
  below-images [] p = tt
  below-images (d ∷ ds) p = (images d p.0, below-images ds p.1)

  -- one block
  one_block : (ds : List ℕ) → length ds ≡ K → Below n ds → (y : List Float) → y ≡ filled w lo (horner n target ds) new x
      → move_block w f (horner n target ds) (horner n source (map m ds)) y ≡ filled w lo (horner n target ds + 1) new x
  unfolding move_block slab_source
  one_block ds e p y ey =
      let t = horner n target ds in
      let s = horner n source (map m ds) in
      let q = below-images ds p in
      let el : length (map m ds) ≡ K = length-map ds m ∙ e in
      let bt : t < times_power n K (target + 1) = subst (λ j. t < times_power n j (target + 1)) e (horner-below n (target + 1) target ds (omega arith) p) in
      let bs : s < times_power n K F = subst (λ j. s < times_power n j F) el (horner-below n F source (map m ds) hs q) in
      let bt' : t < (target + 1) * N = subst (λ j. t < j) (room-mul n K (target + 1)) bt in
      let pos : 0 < N = positive N (target + 1) t bt' in
      let dt : t / N ≡ target = sym (rest_div n K t) ∙ ap (λ j. rest n j t) (sym e) ∙ rest_horner n target ds p in
      let ds' : s / N ≡ source = sym (rest_div n K s) ∙ ap (λ j. rest n j s) (sym el) ∙ rest_horner n source (map m ds) q in
      let (l1, _) = quotient t N target pos dt in
      let fits : s * w + w ≤ length x = subst (λ j. s * w + w ≤ j) (sym len) (omega (arith, mul-le-mul_right w bs)) in
      let src : block w s y ≡ block w (horner n source (map m (digits n K t))) x =
      ap (block w s) ey ∙ filled-outside w lo new x t s (apart t s pos dt ds') fits
      ∙ ap (λ l. block w (horner n source (map m l)) x) (sym (ap (λ j. digits n j t) (sym e) ∙ digits-horner n target ds p)) in
      filled_more w lo new x t l1 ey (ap (λ v. put_block w t (f v) y) src)
    where
      positive : (N c t : ℕ) → t < c * N → 0 < N
      positive zero c t h = omega arith
      positive (suc N) c t h = omega arith

      apart : (t s : ℕ) → 0 < N → t / N ≡ target → s / N ≡ source → (s < lo) ⊎ (t ≤ s)
      apart t s pos dt ds =
          let (a, b) = quotient t N target pos dt in
          let (c, d) = quotient s N source pos ds in
          ⊎_elim
          (λ (l : source < target). inl (omega (arith, mul-le-mul_right N l)))
          (λ (l : target ≤ source).
          let g : target < source = ⊎_elim (λ (e : target ≡ source). absurd (ne e)) (λ (e : target ≡ source → ⊥). omega arith) (eq_or_ne target source) in
          inr (omega (arith, mul-le-mul_right N g)))
          (lt_or_le source target)

  pub moved : (k : ℕ) (ds : List ℕ) → length ds + k ≡ K → Below n ds → (y : List Float) → y ≡ filled w lo (horner n target ds * times_power n k 1) new x
      → move mapping n w f k (horner n target ds) (horner n source (map m ds)) y ≡ filled w lo ((horner n target ds + 1) * times_power n k 1) new x
  unfolding move times_power
  moved zero ds e p y ey =
      let t = horner n target ds in
      let a : t * 1 ≡ t = omega arith in
      let b : (t + 1) * 1 ≡ t + 1 = omega arith in
      let i : length ds ≡ K = sym (add-zero (length ds)) ∙ e in
      rw b (one_block ds i p y (ey ∙ ap (λ h. filled w lo h new x) a))
  moved (suc k) ds e p y ey =
      let t = horner n target ds in
      let s = horner n source (map m ds) in
      let R = times_power n k 1 in
      let P : ℕ → List Float = λ i. filled w lo ((t * n + i) * R) new x in
      let rs : times_power n (suc k) 1 ≡ n * R = room-suc n k in
      let a : t * times_power n (suc k) 1 ≡ (t * n + 0) * R = ap (λ r. t * r) rs ∙ sym (mul_assoc t n R) ∙ ap (λ r. r * R) (sym (add-zero (t * n))) in
      let b : (t * n + n) * R ≡ (t + 1) * times_power n (suc k) 1 = ap (λ r. r * R) (rows t) ∙ mul_assoc (t + 1) n R ∙ ap (λ r. (t + 1) * r) (sym rs) in
      let step : (i : ℕ) → i < n → (y : List Float) → y ≡ P i → move mapping n w f k (t * n + i) (s * n + m i) y ≡ P (i + 1) = λ i h y q.
      (rw (horner_snoc n target ds i, map_snoc m ds i, horner_snoc n source (map m ds) (m i)) at
      (moved k (ds ++ (i ∷ [])) (snoc_length ds i k e) (below_snoc n ds i p h) y)) q
      ∙ ap (λ j. filled w lo (j * R) new x) (add_assoc (t * n) i 1) in
      times-chain n (λ i. move mapping n w f k (t * n + i) (s * n + m i)) P step y (ey ∙ ap (λ h. filled w lo h new x) a) n (omega arith)
      ∙ ap (λ h. filled w lo h new x) b
    where
      rows : (t : ℕ) → t * n + n ≡ (t + 1) * n
      rows t = omega arith

      snoc_length : (ds : List ℕ) (i k : ℕ) → length ds + suc k ≡ K → length (ds ++ (i ∷ [])) + k ≡ K
      snoc_length ds i k e = simp length-append (omega arith)

  -- the whole slab
  pub slab_moved : 0 < w → move mapping n w f K target source x ≡ filled w lo ((target + 1) * N) new x
  unfolding horner
  slab_moved hw = moved K [] (omega arith) tt x (filled_none w lo new x)

-- ---- the closed form

positive : (N c t : ℕ) → t < c * N → 0 < N
positive zero c t h = omega arith
positive (suc N) c t h = omega arith

in_slab : (N target b : ℕ) → 0 < N → within (target * N) ((target + 1) * N) b ≡ eqb (b / N) target
in_slab N target b pos =
    let lo = target * N in
    let hi = (target + 1) * N in
    ⊎_elim
    (λ (e : b / N ≡ target).
    let (l, g) = quotient b N target pos e in
    within_in lo hi b l (omega arith) ∙ sym (eq-eqb (b / N) target e))
    (λ (n : b / N ≡ target → ⊥).
    ⊎_elim
    (λ (l : b < lo). within-below lo hi b l)
    (λ (l : lo ≤ b). ⊎_elim (λ (g : b < hi). absurd (n (quotient_of b N target l (omega arith)))) (λ (g : hi ≤ b). within_above lo hi b g) (lt_or_le b hi))
    (lt_or_le b lo)
    ∙ sym (ne_eqb (b / N) target n))
    (eq_or_ne (b / N) target)

pub slab_distributed : (mapping : List ℤ) (rotation : List Float) (n k target source F : ℕ) (fc : List Float) → 0 < 3 ^ suc k → length fc ≡ times_power n k F * 3 ^ suc k
    → filled (3 ^ suc k) (target * times_power n k 1) ((target + 1) * times_power n k 1)
    (λ b. rotated rotation (suc k) (block (3 ^ suc k) (slab_source mapping n k source b) fc)) fc
    ≡ distributed mapping rotation n k target source fc
unfolding filled distributed
slab_distributed mapping rotation n k target source F fc hw len =
    let w = 3 ^ suc k in
    let N = times_power n k 1 in
    tab_ext nan (length fc) _ _ (λ q h.
    let b = q / w in
    let l : b < times_power n k F = (div-lt_iff_lt-mul hw).1 (subst (λ j. q < j) len h) in
    let pos : 0 < N = positive N F b (subst (λ j. b < j) (room-mul n k F) l) in
    ap (λ t. cond t (get_or (rotated rotation (suc k) (block w (slab_source mapping n k source b) fc)) (q % w) nan) (get_or fc q nan))
    (in_slab N target b pos ∙ ap (λ r. eqb r target) (sym (rest_div n k b))))

-- ---- the code's loops

-- a matrix of nine numbers read as a block
pub whole-block : (m : List Float) → length m ≡ 9 → block 9 0 m ≡ m
whole-block m e =
    ext_get_or nan (block 9 0 m) m (length-block 9 0 m ∙ sym e) (λ k h.
    let g : k < 9 = subst (λ (n : ℕ). k < n) (length-block 9 0 m) h in
    get_or-block 9 0 m k g ∙ ap (λ i. get_or m i nan) (zero-add k))

-- ---- the guard and the call

pub record Ready (limit k lengthFc : ℕ) (mapping : List ℤ) (n lengthRotation F target source : ℕ) : Type 0 where
  pub atoms-few : n ≤ limit
  pub slabs_few : F ≤ limit
  pub set-length : lengthFc ≡ set_length F n k
  pub mapping_fit : IndexTable n n mapping
  pub rotation_length : lengthRotation ≡ 9
  pub target_below : target < F
  pub source-below : source < F
  pub apart : target ≡ source → ⊥

pub ready : (limit k lengthFc : ℕ) (mapping : List ℤ) (n lengthRotation F target source : ℕ)
    → judged_slabs limit k lengthFc mapping n lengthRotation F target source ≡ Ok tt → Ready limit k lengthFc mapping n lengthRotation F target source
unfolding judged_slabs
ready limit k lengthFc mapping n lengthRotation F target source e =
    let (q1, e1) = passed _ _ _ e in
    let (q2, e2) = passed _ _ _ e1 in
    let (q3, e3) = passed _ _ _ e2 in
    let (q4, e4) = passed _ _ _ e3 in
    let (a, (b, _)) = not_above limit (n ∷ F ∷ []) q1 in
    let (l1, (l2, (l3, _))) = not-wrong ((lengthFc, set_length F n k) ∷ (length mapping, n) ∷ (lengthRotation, 9) ∷ []) q2 in
    let (t, s, d) = not_bad_slab F target source q4 in
    record {
      atoms-few = a;
      slabs_few = b;
      set-length = l1;
      mapping_fit = record { has = l2; within = q3 };
      rotation_length = l3;
      target_below = t;
      source-below = s;
      apart = d;
    }

module _ (limit k : ℕ) (fc : List Float) (target source : ℕ) (mapping : List ℤ) (n : ℕ) (rotation : List Float) (F : ℕ) (a : Answer)
    (e : a ≡ judged_slabs limit k (length fc) mapping n (length rotation) F target source) where
  pub refused : is_refusal a ≡ true → (a, fc) ≡ distribute_slab limit k fc target source mapping n rotation F
  unfolding distribute_slab
  refused h = rw (← e, after_refusal a (distributed mapping rotation n k target source fc) fc h)

  pub done_call : {fc' : List Float} → is_refusal a ≡ false → fc' ≡ distributed mapping rotation n k target source fc
      → (Ok tt, fc') ≡ distribute_slab limit k fc target source mapping n rotation F
  unfolding distribute_slab
  done_call h p = rw (← e, after-done a (distributed mapping rotation n k target source fc) fc h, p, is_done a h)
