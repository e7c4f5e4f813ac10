-- The loops of third order: what the six blocks of a group are at given atoms, and the nested loops as one loop over all blocks. Assumes nothing.
use Rattle.std.specs.Prelude.{Ok, ◌≡◌, true, false, cond, ℕ, ◌+◌, ◌*◌, ◌≤◌, ◌<◌, List, [], ◌∷◌, eqb, length, get_or, replicate, Float}
use Rattle.std.proofs.Math.Path.{refl, ap, ap₂}
use Rattle.std.proofs.Common.{sym, ◌∙◌, eq-eqb, ne_eqb}
use native.Mathlib.Omega.{arith}
use Rattle.std.proofs.lemmas.List.{length-replicate, get_or-replicate}
use Rattle.std.specs.Float.Ieee.{nan}
use Rattle.lists.specs.Tab.{times, times_nest}
use Rattle.lists.specs.Elements.{pick}
use Rattle.lists.specs.Digits.{horner, times_power, in_row}
use Rattle.tables.specs.Shifts.{Shifts, p2s_at}
use Rattle.tables.specs.Limits.{limit3}
use Rattle.tables.specs.Answers.{Answer}
use Rattle.tables.specs.Answers.{is_refusal, after, is_done, refused_call, done_call}
use Rattle.tables.specs.Conditions.{Readable, index_at, read}
use Rattle.tables.specs.Compact.{ShiftTables, shifts_of, Compact, judged_compact, p2s_is}
use Rattle.tables.proofs.CompactLaws.{done_compact}
use Rattle.tables.specs.Lengths.{set_length, set_length3}
use Rattle.places.specs.Places.{size}
use Rattle.places.specs.Permutations.{perms3, six-group}
use Rattle.places.specs.Addresses.{stored_block, block-below}
use Rattle.places.specs.ReadOuts.{Tables, stored_in, stored_in_lem, stored-below}
use Rattle.orbits.specs.Transposed.{counterpart}
use Rattle.orbits.specs.AtBlockLaws.{counterpart-at, stored-own}
use Rattle.orbits.specs.Groups.{group_blocks, mean_block, spread_block}
use Rattle.orbits.specs.Spread.{set_all}
use Rattle.orbits.specs.Symmetric.{symmetrized}
use Rattle.orbits.specs.GroupLoop.{State, worked, marked_visit}
use Rattle.orbits.proofs.GroupLoopLaws.{marked-leaves}
use Rattle.fc3.specs.Mean.{mean6, Blocks6}
use Rattle.fc3.specs.Symmetrize.{set_permutation_symmetry_compact_fc3}

-- a compact set of third order that passed the guard, and a work slice of k atoms' places
abbrev pub Ready : ℕ → ℕ → ℕ → ShiftTables → Type 0
Ready lenSet k lenWork T = Compact limit3 2 lenSet k lenWork T

-- atoms of a block
abbrev pub Atoms : ShiftTables → ℕ → ℕ → ℕ → Type 0
Atoms T p j k = (p < T.n_patom) × (j < T.n_satom) × (k < T.n_satom)

-- the number of block (p, j, k)
abbrev pub at3 : ShiftTables → ℕ → ℕ → ℕ → ℕ
at3 T p j k = (p * T.n_satom + j) * T.n_satom + k

-- six entries of a done table
pub record Marks6 (n b0 b1 b2 b3 b4 b5 : ℕ) : Type 0 where
  pub in0 : b0 < n
  pub in1 : b1 < n
  pub in2 : b2 < n
  pub in3 : b3 < n
  pub in4 : b4 < n
  pub in5 : b5 < n

pub small : (n : ℕ) → n ≤ limit3 → n ≤ 1024
small n h = omega arith

-- the number of a block, spelled out
pub plain3 : (n p j k : ℕ) → horner n p (j ∷ k ∷ []) ≡ (p * n + j) * n + k
unfolding horner
plain3 n p j k = refl

pub six-same : {a b c d e f a' b' c' d' e' f' : ℕ} → a ≡ a' → b ≡ b' → c ≡ c' → d ≡ d' → e ≡ e' → f ≡ f'
    → a ∷ b ∷ c ∷ d ∷ e ∷ f ∷ [] ≡ a' ∷ b' ∷ c' ∷ d' ∷ e' ∷ f' ∷ []
six-same p q r s t u = cc

-- of the set and its done table: the group of block n marked, worked out and written
unfoldable pub work_at : ShiftTables → ℕ → State → State
work_at T n s = (worked mean6 2 perms3 (shifts_of T) n s.0, set_all (group_blocks (shifts_of T) 2 perms3 n) 1 s.1)

module _ (lenSet w lenWork : ℕ) (T : ShiftTables) (R : Ready lenSet w lenWork T) where
  abbrev S : Shifts
  S = shifts_of T

  abbrev pub read-tables : Tables T.n_satom T.s2pp T.nsym_list T.perms
  read-tables = record {
    n_patom = T.n_patom;
    num_trans = T.num_trans;
    satoms = small T.n_satom R.fit.satoms;
    patoms = small T.n_patom R.fit.patoms;
    s2pp-fit = R.fit.s2pp-fit;
    nsym_fit = R.fit.nsym_fit;
    perms-fit = R.fit.perms-fit;
  }

  -- what the set's length says of a block
  pub block_in : (b : ℕ) → b < times_power T.n_satom 2 T.n_patom → b * 27 + 27 ≤ lenSet
  unfolding times_power
  block_in b h = rw (R.set-length ∙ set_length3 T.n_patom T.n_satom) (go b h)
    where
      go : (b : ℕ) → b < T.n_patom * T.n_satom * T.n_satom → b * 27 + 27 ≤ T.n_patom * T.n_satom * T.n_satom * 27
      go b h = omega arith

  module _ (p j k : ℕ) (a : Atoms T p j k) where
    -- the representative of p
    pub p2s-read : Readable T.p2s p × (index_at T.p2s p < T.n_satom)
    p2s-read = read R.fit.p2s-fit p a.0

    pub at-below : at3 T p j k < times_power T.n_satom 2 T.n_patom
    unfolding times_power
    at-below = in_row (T.n_patom * T.n_satom) T.n_satom (p * T.n_satom + j) k (in_row T.n_patom T.n_satom p j a.0 a.1) a.2

    abbrev i : ℕ
    i = p2s_at S p

    i_is : index_at T.p2s p ≡ i
    i_is = p2s_is T p

    -- the counterpart for a permutation, from the tables
    at-order : (σ : List ℕ) (x : ℕ) (ys : List ℕ) → pick 0 σ (i ∷ j ∷ k ∷ []) ≡ x ∷ ys → counterpart S 2 σ (at3 T p j k) ≡ stored_block S x ys
    unfolding horner
    at-order σ = counterpart-at S p (j ∷ k ∷ []) (a.1, (a.2, tt)) σ

    own : stored_block S i (j ∷ k ∷ []) ≡ at3 T p j k
    unfolding horner
    own = stored-own S p (j ∷ k ∷ []) (a.1, (a.2, tt)) R.rules a.0

    own-other : stored_block S i (k ∷ j ∷ []) ≡ at3 T p k j
    unfolding horner
    own-other = stored-own S p (k ∷ j ∷ []) (a.2, (a.1, tt)) R.rules a.0

    -- the six blocks
    pub group_are : group_blocks S 2 perms3 (at3 T p j k)
        ≡ at3 T p j k ∷ at3 T p k j ∷ stored_block S j (i ∷ k ∷ []) ∷ stored_block S j (k ∷ i ∷ []) ∷ stored_block S k (i ∷ j ∷ []) ∷ stored_block S k (j ∷ i ∷ []) ∷ []
    unfolding group_blocks perms3 pick
    group_are =
        six-same (at-order (0 ∷ 1 ∷ 2 ∷ []) i (j ∷ k ∷ []) refl ∙ own) (at-order (0 ∷ 2 ∷ 1 ∷ []) i (k ∷ j ∷ []) refl ∙ own-other)
        (at-order (1 ∷ 0 ∷ 2 ∷ []) j (i ∷ k ∷ []) refl) (at-order (1 ∷ 2 ∷ 0 ∷ []) j (k ∷ i ∷ []) refl)
        (at-order (2 ∷ 0 ∷ 1 ∷ []) k (i ∷ j ∷ []) refl) (at-order (2 ∷ 1 ∷ 0 ∷ []) k (j ∷ i ∷ []) refl)

    -- the blocks as the program finds them: v is the representative of p
    pub record Found (v b0 b1 b2 b3 b4 b5 : ℕ) : Type 0 where
      pub rep : v ≡ index_at T.p2s p
      pub ijk : b0 ≡ horner T.n_satom p (j ∷ k ∷ [])
      pub ikj : b1 ≡ horner T.n_satom p (k ∷ j ∷ [])
      pub jik : b2 ≡ stored_in T.n_satom T.s2pp T.nsym_list T.perms j (v ∷ k ∷ [])
      pub jki : b3 ≡ stored_in T.n_satom T.s2pp T.nsym_list T.perms j (k ∷ v ∷ [])
      pub kij : b4 ≡ stored_in T.n_satom T.s2pp T.nsym_list T.perms k (v ∷ j ∷ [])
      pub kji : b5 ≡ stored_in T.n_satom T.s2pp T.nsym_list T.perms k (j ∷ v ∷ [])

    module _ (v b0 b1 b2 b3 b4 b5 : ℕ) (F : Found v b0 b1 b2 b3 b4 b5) where
      v_below : v < T.n_satom
      v_below = rw F.rep p2s-read.1

      v_is : v ≡ i
      v_is = F.rep ∙ i_is

      own_below : (x y : ℕ) → x < T.n_satom → y < T.n_satom → horner T.n_satom p (x ∷ y ∷ []) < times_power T.n_satom 2 T.n_patom
      own_below x y hx hy = block-below T.n_satom T.n_patom p (x ∷ y ∷ []) a.0 (hx, (hy, tt))

      found_below : (x y z : ℕ) → x < T.n_satom → y < T.n_satom → z < T.n_satom
          → stored_in T.n_satom T.s2pp T.nsym_list T.perms x (y ∷ z ∷ []) < times_power T.n_satom 2 T.n_patom
      found_below x y z hx hy hz = stored-below read-tables x hx (y ∷ z ∷ []) (hy, (hz, tt))

      pub all-below : (b0 < times_power T.n_satom 2 T.n_patom) × (b1 < times_power T.n_satom 2 T.n_patom) × (b2 < times_power T.n_satom 2 T.n_patom) × (b3 < times_power T.n_satom 2 T.n_patom) × (b4 < times_power T.n_satom 2 T.n_patom) × (b5 < times_power T.n_satom 2 T.n_patom)
      all-below = (
        rw F.ijk (own_below j k a.1 a.2),
        rw F.ikj (own_below k j a.2 a.1),
        rw F.jik (found_below j v k a.1 v_below a.2),
        rw F.jki (found_below j k v a.1 a.2 v_below),
        rw F.kij (found_below k v j a.2 v_below a.1),
        rw F.kji (found_below k j v a.2 a.1 v_below),
      )

      pub all_in : Blocks6 lenSet b0 b1 b2 b3 b4 b5
      all_in =
          let (h0, h1, h2, h3, h4, h5) = all-below in
          record { in0 = block_in b0 h0; in1 = block_in b1 h1; in2 = block_in b2 h2; in3 = block_in b3 h3; in4 = block_in b4 h4; in5 = block_in b5 h5 }

      pub found_are : b0 ∷ b1 ∷ b2 ∷ b3 ∷ b4 ∷ b5 ∷ [] ≡ group_blocks S 2 perms3 (at3 T p j k)
      found_are = six-same (F.ijk ∙ plain j k) (F.ikj ∙ plain k j) (F.jik ∙ stored j v k) (F.jki ∙ stored' j k v) (F.kij ∙ stored k v j) (F.kji ∙ stored' k j v) ∙ sym group_are
        where
          plain : (x y : ℕ) → horner T.n_satom p (x ∷ y ∷ []) ≡ at3 T p x y
          plain x y = unfold horner in refl

          stored : (x y z : ℕ) → stored_in T.n_satom T.s2pp T.nsym_list T.perms x (v ∷ z ∷ []) ≡ stored_block S x (i ∷ z ∷ [])
          stored x y z = stored_in_lem T x (v ∷ z ∷ []) ∙ ap (λ w. stored_block S x (w ∷ z ∷ [])) v_is

          stored' : (x y z : ℕ) → stored_in T.n_satom T.s2pp T.nsym_list T.perms x (y ∷ v ∷ []) ≡ stored_block S x (y ∷ i ∷ [])
          stored' x y z = stored_in_lem T x (y ∷ v ∷ []) ∙ ap (λ w. stored_block S x (y ∷ w ∷ [])) v_is

      pub marks_in : Marks6 (times_power T.n_satom 2 T.n_patom) b0 b1 b2 b3 b4 b5
      marks_in =
          let (h0, h1, h2, h3, h4, h5) = all-below in
          record { in0 = h0; in1 = h1; in2 = h2; in3 = h3; in4 = h4; in5 = h5 }

      -- the work of `take`
      pub took : (old : List Float) (done : List ℕ) {new : List Float} {marked : List ℕ}
          → new ≡ spread_block 2 perms3 (b0 ∷ b1 ∷ b2 ∷ b3 ∷ b4 ∷ b5 ∷ []) (mean_block mean6 2 perms3 (b0 ∷ b1 ∷ b2 ∷ b3 ∷ b4 ∷ b5 ∷ []) old) old
          → marked ≡ set_all (b0 ∷ b1 ∷ b2 ∷ b3 ∷ b4 ∷ b5 ∷ []) 1 done
          → ◌≡◌ {A = State} (new, marked) (work_at T (at3 T p j k) (old, done))
      unfolding work_at worked
      took old done e f =
          ap₂ (λ x y. (x, y)) (e ∙ ap (λ bs. spread_block 2 perms3 bs (mean_block mean6 2 perms3 bs old) old) found_are) (f ∙ ap (λ bs. set_all bs 1 done) found_are)

-- ---- the loops

-- one visit
unfoldable pub visit_at : ShiftTables → ℕ → State → State
unfolding work_at
visit_at T n s = cond (eqb (get_or s.1 n 0) 0) (work_at T n s) s

-- a block that is not marked, and one that is
pub visit-free : (T : ShiftTables) (n : ℕ) (s : State) → get_or s.1 n 0 ≡ 0 → visit_at T n s ≡ work_at T n s
unfolding visit_at
visit-free T n s e = rw (eq-eqb (get_or s.1 n 0) 0 e)

pub visit-met : (T : ShiftTables) (n : ℕ) (s : State) → (get_or s.1 n 0 ≡ 0 → ⊥) → visit_at T n s ≡ s
unfolding visit_at
visit-met T n s e = rw (ne_eqb (get_or s.1 n 0) 0 e)

-- the three loops as the program nests them
unfoldable pub row3 : ShiftTables → ℕ → ℕ → State → State
row3 T p j s = times T.n_satom (λ k. visit_at T (at3 T p j k)) s

unfoldable pub slab3 : ShiftTables → ℕ → State → State
slab3 T p s = times T.n_satom (λ j. row3 T p j) s

unfoldable pub all3 : ShiftTables → State → State
all3 T s = times T.n_patom (λ p. slab3 T p) s

-- they are one loop over all blocks
pub one_loop : (T : ShiftTables) (s : State) → all3 T s ≡ times (times_power T.n_satom 2 T.n_patom) (marked_visit mean6 2 perms3 (shifts_of T)) s
unfolding all3 slab3 row3 times_power
one_loop T s =
    let n = T.n_satom in
    let f = visit_at T in
    sym (times_nest (T.n_patom * n) n f s ∙ times_nest T.n_patom n (λ i. times n (λ k. f (i * n + k))) s)
    ∙ ap (λ g. times (T.n_patom * n * n) g s) same
  where
    same : visit_at T ≡ marked_visit mean6 2 perms3 (shifts_of T)
    same = unfold visit_at work_at marked_visit in refl

-- THE COMPACT SYMMETRIZER'S LOOPS LEAVE THE SYMMETRIZED SET
pub symmetrizes : (lenSet lenWork : ℕ) (T : ShiftTables) → Ready lenSet 2 lenWork T → (old : List Float) (done : List ℕ)
    → length old ≡ lenSet → length done ≡ lenWork → ((b : ℕ) → b < lenWork → get_or done b 0 ≡ 0) → (all3 T (old, done)).0 ≡ symmetrized nan mean6 (shifts_of T) 2 perms3 old
symmetrizes lenSet lenWork T R old done lo ld z =
    ap (λ s. s.0) (one_loop T (old, done))
    ∙ marked-leaves mean6 (shifts_of T) R.rules 2 perms3 six-group old done (lo ∙ R.set-length ∙ sized T) (ld ∙ R.work-length) (λ b h. z b (rw R.work-length h))
  where
    sized : (T : ShiftTables) → set_length T.n_patom T.n_satom 2 ≡ size (shifts_of T) 2
    sized T = unfold size in refl

-- the work slice cleared, the loops run, and the work slice cleared again
pub worked_clear : (T : ShiftTables) (set : List Float) (work : List ℕ) → Ready (length set) 2 (length work) T → {cleared marked clear : List ℕ} {new : List Float}
    → cleared ≡ replicate (length work) 0 → ◌≡◌ {A = State} (new, marked) (all3 T (set, cleared)) → clear ≡ replicate (length marked) 0 → length marked ≡ length cleared
    → (new ≡ symmetrized nan mean6 (shifts_of T) 2 perms3 set) × (clear ≡ replicate (length work) 0)
worked_clear T set work R {cleared} {marked} {clear} {new} c l z k =
    let lc : length cleared ≡ length work = ap length c ∙ length-replicate (length work) 0 in (
      ap (λ s. s.0) l ∙ symmetrizes (length set) (length work) T R set cleared refl lc (λ b h. ap (λ l. get_or l b 0) c ∙ get_or-replicate (length work) b 0 0 h),
      z ∙ ap (λ m. replicate m 0) (k ∙ lc),
    )

-- ---- the call

module _ (set : List Float) (T : ShiftTables) (work : List ℕ) (a : Answer) (e : a ≡ judged_compact limit3 2 (length set) 2 (length work) T) where
  pub symmetrize_refused : is_refusal a ≡ true → ◌≡◌ {A = Answer × List Float × List ℕ} (a, set, work) (set_permutation_symmetry_compact_fc3 set T work)
  unfolding set_permutation_symmetry_compact_fc3
  symmetrize_refused r = refused_call a (symmetrized nan mean6 (shifts_of T) 2 perms3 set) set (replicate (length work) 0) work r
      ∙ ap (λ a. (a, after a (symmetrized nan mean6 (shifts_of T) 2 perms3 set) set, after a (replicate (length work) 0) work)) e

  pub symmetrize_ready : is_refusal a ≡ false → Ready (length set) 2 (length work) T
  symmetrize_ready r = done_compact limit3 2 (length set) 2 (length work) T (sym e ∙ is_done a r)

  pub symmetrize_done : is_refusal a ≡ false → {new : List Float} {clear : List ℕ} → new ≡ symmetrized nan mean6 (shifts_of T) 2 perms3 set → clear ≡ replicate (length work) 0
      → ◌≡◌ {A = Answer × List Float × List ℕ} (Ok tt, new, clear) (set_permutation_symmetry_compact_fc3 set T work)
  unfolding set_permutation_symmetry_compact_fc3
  symmetrize_done r n w =
      ap₂ (λ x y. (Ok tt, x, y)) n w
      ∙ done_call a (symmetrized nan mean6 (shifts_of T) 2 perms3 set) set (replicate (length work) 0) work r
      ∙ ap (λ a. (a, after a (symmetrized nan mean6 (shifts_of T) 2 perms3 set) set, after a (replicate (length work) 0) work)) e
