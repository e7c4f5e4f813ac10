-- The loops over the blocks of a compact set of fourth order, for any order of four legs that undoes itself: pairs of first two atoms, then the other
-- two atoms; where half shifts stay (h) or not. And that they leave the moved set where none stays. Assumes nothing.
use Rattle.std.specs.Prelude.{◌≡◌, Bool, true, ◌&&◌, ℕ, zero, suc, ◌+◌, ◌*◌, ◌/◌, ◌%◌, ◌≤◌, ◌<◌, length, get_or, ℤ, Float, eqb}
use Rattle.std.proofs.Math.Path.{refl, sym, ap, ap₂}
use Rattle.std.proofs.Common.{◌∙◌, mul-le-mul, div-add-mod', mod-lt, div-lt_iff_lt-mul, suc-ne-zero, arith, eqb-true, lt-ltb, le-ltb, ne_eqb}
use Rattle.std.proofs.Math.Bool.{false}
use Rattle.std.proofs.Math.Nat.{suc_inj}
use mathlib.Core.List.{List, [], ◌∷◌}
use Rattle.std.specs.Float.Ieee.{nan}
use Rattle.lists.specs.Tab.{times, times_nest, times-same}
use Rattle.lists.specs.Elements.{Below, all-at, pick}
use Rattle.lists.specs.Digits.{horner, times_power, rest, digits, quotient, remainder}
use Rattle.tables.specs.Shifts.{Laws, p2s_at}
use Rattle.tables.specs.Conditions.{index_at}
use Rattle.tables.specs.Compact.{ShiftTables, shifts_of, p2s_is}
use Rattle.places.specs.Places.{Leg, size}
use Rattle.places.specs.Permutations.{permute_legs, Permutation}
use Rattle.places.specs.Moves.{order4, stays}
use Rattle.places.specs.Addresses.{block-below}
use Rattle.places.specs.ReadOuts.{stored_in, stored_in_lem}
use Rattle.orbits.specs.Blockwise.{in_block}
use Rattle.orbits.specs.Counterparts.{visit, worked_over}
use Rattle.orbits.specs.BlockPairs.{joined_pair, pair_is}
use Rattle.orbits.specs.Transposed.{counterpart, blocks_by, counterpart-below, paired}
use Rattle.orbits.specs.AtBlockLaws.{counterpart-at}
use Rattle.orbits.specs.Trading.{the_other, never, stays_at, moves}
use Rattle.blocks.specs.Permuted.{permuted}
use Rattle.orbits.specs.Exchanging.{exchanging, exchanging_permutes, exchanging-twice}
use Rattle.orbits.specs.HalfShift.{Sound, block_in, PairAt}
use Rattle.orbits.specs.TrueTransposes.{swapped}
use Rattle.orbits.specs.Moved.{stay_if, stay_if_lem}
use Rattle.transposes_fc4.specs.Pairs.{from_pairs, Inside54, FirstTwo, same-positions}

-- an order of four legs that undoes itself and moves leg 1 to leg 0 only where no other moves, and the pairs of numbers of a block that change places
-- under it
pub record Swap (o m : List ℕ) : Type 0 where
  pub is_order : Permutation 3 o
  pub twice : (xs : List Leg) → length xs ≡ 4 → permute_legs o (permute_legs o xs) ≡ xs
  pub runs : get_or o 0 0 ≡ 1 → o ≡ order4 0
  pub inside : Inside54 m
  pub exchanges : (k : ℕ) → k < 81 → from_pairs m 27 k ≡ permuted 3 o k

-- atoms of a block, and its number
abbrev pub Atoms : ShiftTables → ℕ → ℕ → ℕ → ℕ → Type 0
Atoms T p j k l = (p < T.n_patom) × (j < T.n_satom) × (k < T.n_satom) × (l < T.n_satom)

abbrev pub at4 : ShiftTables → ℕ → ℕ → ℕ → ℕ → ℕ
at4 T p j k l = ((p * T.n_satom + j) * T.n_satom + k) * T.n_satom + l

-- the atom that the order o names at leg k, of the atoms ks
abbrev pub named : List ℕ → List ℕ → ℕ → ℕ
named o ks k = get_or ks (get_or o k 0) 0

-- the stored block of the read-out entry of four atoms in the order o
abbrev pub read_out_in : ℕ → List ℤ → List ℤ → List ℤ → List ℕ → List ℕ → ℕ
read_out_in n s2pp nsym_list perms o ks = stored_in n s2pp nsym_list perms (named o ks 0) (named o ks 1 ∷ named o ks 2 ∷ named o ks 3 ∷ [])

pub in81 : in_block 3 ≡ 81
unfolding in_block times_power
in81 = refl

-- one visit of the loop over blocks: half shifts stay, or no block does
unfoldable pub trade_at : Bool → List ℕ → ShiftTables → ℕ → List Float → List Float
trade_at h o T b xs = visit nan the_other (blocks_by (shifts_of T) 3 o (stay_if h (shifts_of T) 3 0)) b xs

-- the loops as the program nests them: over the pairs q of first two atoms, over k, over l
unfoldable pub line4 : Bool → List ℕ → ShiftTables → ℕ → ℕ → List Float → List Float
line4 h o T q k xs = times T.n_satom (λ l. trade_at h o T ((q * T.n_satom + k) * T.n_satom + l)) xs

unfoldable pub plane4 : Bool → List ℕ → ShiftTables → ℕ → List Float → List Float
plane4 h o T q xs = times T.n_satom (λ k. line4 h o T q k) xs

unfoldable pub pairs4 : Bool → List ℕ → ShiftTables → List Float → List Float
pairs4 h o T xs = times (T.n_patom * T.n_satom) (λ q. plane4 h o T q) xs

-- where leg 1 comes to stand at leg 0, the pairs exchange the first two directions
pub in_runs : (o m : List ℕ) → Swap o m → eqb (get_or o 0 0) 1 ≡ true → FirstTwo m
in_runs o m W e k h = W.exchanges k h ∙ ap (λ o. permuted 3 o k) (W.runs (eqb-true (get_or o 0 0) 1 e))

-- ---- THE LOOPS LEAVE THE MOVED SET

pub one_loop : (h : Bool) (o : List ℕ) (T : ShiftTables) (xs : List Float)
    → pairs4 h o T xs ≡ times (times_power T.n_satom 3 T.n_patom) (visit nan the_other (blocks_by (shifts_of T) 3 o (stay_if h (shifts_of T) 3 0))) xs
unfolding pairs4 plane4 line4 trade_at times_power
one_loop h o T xs =
    let n = T.n_satom in
    let f = visit nan the_other (blocks_by (shifts_of T) 3 o (stay_if h (shifts_of T) 3 0)) in
    sym (times_nest (T.n_patom * n * n) n f xs ∙ times_nest (T.n_patom * n) n (λ x. times n (λ l. f (x * n + l))) xs)

pub swaps : (a b : ℕ) (T : ShiftTables) → a < 4 → b < 4 → (a ≡ b → ⊥) → Laws (shifts_of T) → (old : List Float) → length old ≡ size (shifts_of T) 3
    → pairs4 false (exchanging 3 a b) T old ≡ swapped (shifts_of T) 3 (a, b) old
unfolding swapped stay_if
swaps a b T ha hb n L old l =
    one_loop false (exchanging 3 a b) T old
    ∙ moves (shifts_of T) L 3 (exchanging 3 a b) (exchanging_permutes 3 a b ha hb) (exchanging-twice 3 a b ha hb) nan old l ∙ sym (rw (ne_eqb a b n) refl)

-- ---- one visit

-- four elements picked, one by one
pub pick-four : (o ks : List ℕ) → length o ≡ 4 → pick 0 o ks ≡ named o ks 0 ∷ named o ks 1 ∷ named o ks 2 ∷ named o ks 3 ∷ []
unfolding pick
pick-four [] ks e = absurd (suc-ne-zero _ (sym e))
pick-four (i ∷ []) ks e = absurd (suc-ne-zero _ (sym (suc_inj e)))
pick-four (i ∷ j ∷ []) ks e = absurd (suc-ne-zero _ (sym (suc_inj (suc_inj e))))
pick-four (i ∷ j ∷ k ∷ []) ks e = absurd (suc-ne-zero _ (sym (suc_inj (suc_inj (suc_inj e)))))
pick-four (i ∷ j ∷ k ∷ l ∷ []) ks e = refl
pick-four (i ∷ j ∷ k ∷ l ∷ m ∷ o) ks e = absurd (suc-ne-zero _ (suc_inj (suc_inj (suc_inj (suc_inj e)))))

-- the read-out of atoms that the program has named one by one
pub read_in_order : (n : ℕ) (s2pp nsym_list perms : List ℤ) (o ks : List ℕ) {x0 x1 x2 x3 r : ℕ} → x0 ≡ named o ks 0 → x1 ≡ named o ks 1 → x2 ≡ named o ks 2 → x3 ≡ named o ks 3
    → r ≡ stored_in n s2pp nsym_list perms x0 (x1 ∷ x2 ∷ x3 ∷ []) → r ≡ read_out_in n s2pp nsym_list perms o ks
read_in_order n s2pp nsym_list perms o ks e0 e1 e2 e3 e = e ∙ rw (e0, e1, e2, e3) refl

-- entries of the order, and the atoms that they name
module _ (o : List ℕ) (W : Permutation 3 o) where
  pub leg-below : (k : ℕ) → k < 4 → get_or o k 0 < 4
  leg-below k h = all-at (λ k. k < 4) o k 0 W.1 (rw W.0 h)

  pub named-below : (n : ℕ) (ks : List ℕ) → length ks ≡ 4 → Below n ks → (k : ℕ) → k < 4 → named o ks k < n
  named-below n ks l b k h = all-at (λ k. k < n) ks (get_or o k 0) 0 b (rw l (leg-below k h))

  -- the block that the program finds is the counterpart
  pub found : (T : ShiftTables) (p i j k l : ℕ) → i ≡ index_at T.p2s p → Below T.n_satom (j ∷ k ∷ l ∷ [])
      → read_out_in T.n_satom T.s2pp T.nsym_list T.perms o (i ∷ j ∷ k ∷ l ∷ []) ≡ counterpart (shifts_of T) 3 o (at4 T p j k l)
  unfolding horner
  found T p i j k l e b =
      let ks = i ∷ j ∷ k ∷ l ∷ [] in
      let in_order_lem : pick 0 o (p2s_at (shifts_of T) p ∷ j ∷ k ∷ l ∷ []) ≡ named o ks 0 ∷ named o ks 1 ∷ named o ks 2 ∷ named o ks 3 ∷ [] =
      ap (λ i. pick 0 o (i ∷ j ∷ k ∷ l ∷ [])) (sym (e ∙ p2s_is T p)) ∙ pick-four o ks W.0 in
      stored_in_lem T (named o ks 0) (named o ks 1 ∷ named o ks 2 ∷ named o ks 3 ∷ [])
      ∙ sym (counterpart-at (shifts_of T) p (j ∷ k ∷ l ∷ []) b o (named o ks 0) (named o ks 1 ∷ named o ks 2 ∷ named o ks 3 ∷ []) in_order_lem)

-- the number of a block as the program makes it, and that it is below the number of blocks
pub horner-at : (T : ShiftTables) (p j k l : ℕ) → horner T.n_satom p (j ∷ k ∷ l ∷ []) ≡ at4 T p j k l
unfolding horner
horner-at T p j k l = refl

pub at-below : (T : ShiftTables) {p j k l : ℕ} → Atoms T p j k l → at4 T p j k l < times_power T.n_satom 3 T.n_patom
unfolding horner
at-below T {p} {j} {k} {l} a = block-below T.n_satom T.n_patom p (j ∷ k ∷ l ∷ []) a.0 (a.1, (a.2, (a.3, tt)))

-- a visit as the program finds its two blocks
module _ (lenSet : ℕ) (T : ShiftTables) (o : List ℕ) (W : Permutation 3 o) (p i j k l : ℕ) (M : PairAt 3 lenSet T p i j) (hk : k < T.n_satom) (hl : l < T.n_satom)
    (b c : ℕ) (eb : b ≡ horner T.n_satom p (j ∷ k ∷ l ∷ [])) (ec : c ≡ read_out_in T.n_satom T.s2pp T.nsym_list T.perms o (i ∷ j ∷ k ∷ l ∷ [])) where
  pub own : b ≡ at4 T p j k l
  own = eb ∙ horner-at T p j k l

  pub other_is : c ≡ counterpart (shifts_of T) 3 o (at4 T p j k l)
  other_is = ec ∙ found o W T p i j k l M.rep (M.second, (hk, (hl, tt)))

  at_in : at4 T p j k l < times_power T.n_satom 3 T.n_patom
  at_in = at-below T (M.first, M.second, hk, hl)

  pub found_in : (b * 81 + 81 ≤ lenSet) × (c * 81 + 81 ≤ lenSet)
  found_in =
      let g : c < times_power T.n_satom 3 T.n_patom = rw other_is (counterpart-below (shifts_of T) M.trading.sound.rules 3 o W (at4 T p j k l) at_in) in
      (block_in T M.trading 81 in81 b (rw own at_in), block_in T M.trading 81 in81 c g)

  pub found-met : c < b → (xs : List Float) → xs ≡ trade_at false o T (at4 T p j k l) xs
  unfolding trade_at visit stay_if
  found-met h xs = sym (rw (lt-ltb (counterpart (shifts_of T) 3 o (at4 T p j k l)) (at4 T p j k l) (rw (← other_is, ← own) h)) refl)

  pub found-now : (m : List ℕ) → Swap o m → b ≤ c → (xs : List Float) {new : List Float} → new ≡ joined_pair the_other 81 (from_pairs m 27) b c xs → new ≡ trade_at false o T (at4 T p j k l) xs
  unfolding trade_at visit stay_if
  found-now m X h xs e =
      let S = shifts_of T in
      let a = at4 T p j k l in
      e ∙ same-positions (from_pairs m 27) (permuted 3 o) X.exchanges b c xs ∙ ap₂ (λ b c. joined_pair the_other 81 (permuted 3 o) b c xs) own other_is
      ∙ ap (λ w. joined_pair the_other w (permuted 3 o) a (counterpart S 3 o a) xs) (sym in81)
      ∙ pair_is the_other (blocks_by S 3 o never) (paired S M.trading.sound.rules 3 o W X.twice nan the_other never (λ b g. refl)) xs a at_in
      ∙ sym (rw (le-ltb (counterpart S 3 o a) a (rw (← other_is, ← own) h)) refl)

-- ---- where half shifts stay

module _ (h : Bool) (o : List ℕ) (T : ShiftTables) (p j k l : ℕ) (a : Atoms T p j k l) where
  abbrev w : ℕ
  w = T.n_satom

  first_is : rest w 3 (at4 T p j k l) ≡ p
  unfolding rest
  first_is = ap (λ x. x / w / w) (quotient w ((p * w + j) * w + k) l a.3) ∙ ap (λ x. x / w) (quotient w (p * w + j) k a.2) ∙ quotient w p j a.1

  second_is : get_or (digits w 3 (at4 T p j k l)) 0 0 ≡ j
  unfolding digits rest
  second_is = ap (λ x. x / w % w) (quotient w ((p * w + j) * w + k) l a.3) ∙ ap (λ x. x % w) (quotient w (p * w + j) k a.2) ∙ remainder w p j a.1

  stays_is : stay_if h (shifts_of T) 3 0 (at4 T p j k l) ≡ (h && stays (shifts_of T) p j)
  unfolding stays_at
  stays_is = stay_if_lem h (shifts_of T) 3 0 (at4 T p j k l) ∙ ap (λ s. h && s) (ap₂ (stays (shifts_of T)) first_is second_is)

  -- a block of a pair that stays
  trade-stays : (h && stays (shifts_of T) p j) ≡ true → (xs : List Float) → trade_at h o T (at4 T p j k l) xs ≡ xs
  unfolding trade_at visit
  trade-stays e xs = rw (stays_is ∙ e) refl

  -- where the pair does not stay, the visit is the same in both cases
  trade-same : (h && stays (shifts_of T) p j) ≡ false → (xs : List Float) → trade_at false o T (at4 T p j k l) xs ≡ trade_at h o T (at4 T p j k l) xs
  unfolding trade_at visit worked_over
  trade-same e xs = rw (stays_is ∙ e, stay_if_lem false (shifts_of T) 3 0 (at4 T p j k l)) refl

times-still : {A : Type 0} (n : ℕ) (f : ℕ → A → A) (x : A) → ((i : ℕ) → i < n → f i x ≡ x) → times n f x ≡ x
unfolding times
times-still zero f x h = refl
times-still (suc n) f x h = ap (f n) (times-still n f x (λ i l. h i (omega arith))) ∙ h n (omega arith)

-- all blocks of a pair stay, or none
module _ (h : Bool) (o : List ℕ) (T : ShiftTables) (p j : ℕ) (hp : p < T.n_patom) (hj : j < T.n_satom) (xs : List Float) where
  pub pair-stays : (h && stays (shifts_of T) p j) ≡ true → xs ≡ plane4 h o T (p * T.n_satom + j) xs
  unfolding plane4 line4
  pair-stays e =
      sym (times-still T.n_satom (λ k. line4 h o T (p * T.n_satom + j) k) xs (λ k hk.
      times-still T.n_satom (λ l. trade_at h o T (at4 T p j k l)) xs (λ l hl. trade-stays h o T p j k l (hp, hj, hk, hl) e xs)))

  pub pair-moves : (h && stays (shifts_of T) p j) ≡ false → plane4 false o T (p * T.n_satom + j) xs ≡ plane4 h o T (p * T.n_satom + j) xs
  unfolding plane4 line4
  pair-moves e =
      times-same T.n_satom (λ k. line4 false o T (p * T.n_satom + j) k) (λ k. line4 h o T (p * T.n_satom + j) k) xs (λ k hk y.
      times-same T.n_satom (λ l. trade_at false o T (at4 T p j k l)) (λ l. trade_at h o T (at4 T p j k l)) y (λ l hl z. trade-same h o T p j k l (hp, hj, hk, hl) e z))

-- ---- the pair with number q

module _ (T : ShiftTables) (q : ℕ) (h : q < T.n_patom * T.n_satom) where
  pub pair_pos : 0 < T.n_satom
  pair_pos = go T.n_satom h
    where
      go : (n : ℕ) → q < T.n_patom * n → 0 < n
      go zero h = omega arith
      go (suc n) h = omega arith

  pub pair-first : q / T.n_satom < T.n_patom
  pair-first = (div-lt_iff_lt-mul pair_pos).1 h

  pub pair-second : q % T.n_satom < T.n_satom
  pair-second = mod-lt q pair_pos

  -- its two atoms as the program finds them
  pub pair_found : {p j : ℕ} → p ≡ q / T.n_satom → j ≡ q % T.n_satom → p * T.n_satom + j ≡ q
  pair_found e f = rw (e, f) (div-add-mod' q T.n_satom)

pub pairs_small : (T : ShiftTables) → Sound T → T.n_patom * T.n_satom ≤ 1048576
pairs_small T Z = let h : T.n_patom * T.n_satom ≤ 1024 * 1024 = mul-le-mul Z.fit.patoms Z.fit.satoms in omega arith
