-- The visits of the blocks in the transpose and in the averaging: the visits of crate `orbits`, at second order. Assumes nothing.
use Rattle.std.specs.Prelude.{◌≡◌, Bool, true, false, cond, ◌⊎◌, List, [], ◌∷◌, ℕ, ◌+◌, ◌*◌, ◌/◌, ◌%◌, ◌<◌, ◌≤◌, length, Float}
use Rattle.std.proofs.Math.Path.{refl, sym, ap, ap₂}
use Rattle.std.proofs.Common.{◌∙◌, inl, inr, arith, lit<}
use Rattle.std.proofs.Math.Bool.{◌&&◌}
use Rattle.std.proofs.Math.Decide.{ℕ_discrete}
use Rattle.std.specs.Float.Ieee.{nan}
use borrow.Author.Tests.{eq-eqb, ne_eqb, lt-ltb, le-ltb}
use Rattle.lists.specs.Tab.{tab, tab_from, times, times_nest}
use Rattle.lists.specs.Tests.{or_true}
use Rattle.lists.specs.Elements.{pick, pick-pick, straight, pick-straight}
use Rattle.lists.specs.Digits.{horner, times_power, rest, digits, in_row}
use Rattle.tables.specs.Shifts.{Shifts, Laws, row, p2s_at, s2pp_at, nsym_at}
use Rattle.places.specs.Addresses.{size2, stored_block}
use Rattle.places.specs.Places.{Leg}
use Rattle.places.specs.Moves.{permute_legs, order2, stays, transposed2}
use Rattle.blocks.specs.Block.{block, put_block, block_of_lem, place_of}
use Rattle.orbits.specs.Blockwise.{in_block, block_atoms, stored_atoms, opened_atoms, atoms_at}
use Rattle.orbits.specs.Counterparts.{Blocks, Paired, visit, loop_leaves}
use Rattle.orbits.specs.BlockPairs.{joined_block, joined_pair, pair_is}
use Rattle.orbits.specs.Transposed.{counterpart, blocks_by, size_blocks, paired, worked_is}
use Rattle.blocks.specs.Permuted.{permuted as permutedPlace}
use Rattle.orbits.specs.Trading.{the_other, never, stays_at, Trades, stays-rep, stays-apart, stays-told}
use Rattle.orbits.specs.TrueTransposes.{swapped}
use Rattle.orbits.specs.Moved.{stay_if, stay_if_lem, stay-both, trades_if, moved_2}
use Rattle.lines.specs.Sums3x3.{averaged, transposed-averaged}
use Rattle.blocks.specs.Block9.{transposed9}
use Rattle.lines.specs.Lines.{pair_at}
use Rattle.fc2_compact.specs.Passes.{mean, transposed, averaged_compact as averagedSet}

-- the two legs exchanged
trades2 : Trades 1 0 order2
trades2 = record { is_order = (refl, omega arith); leg = lit< tt; first = refl; second = refl; twice = λ xs l. t xs l }
  where
    t : (xs : List Leg) → length xs ≡ 2 → permute_legs (1 ∷ 0 ∷ []) (permute_legs (1 ∷ 0 ∷ []) xs) ≡ xs
    t xs l = pick-pick (0, 0) (1 ∷ 0 ∷ []) (1 ∷ 0 ∷ []) xs (omega arith) ∙ (unfold pick straight tab tab_from in pick-straight (0, 0) 2 xs l)

-- the blocks with their counterparts, those that stay where half shifts do (h) among them; and where none stays
abbrev trading : Bool → Shifts → Blocks
trading h S = blocks_by S 1 order2 (stay_if h S 1 0)

abbrev averaging : Shifts → Blocks
averaging S = blocks_by S 1 order2 never

-- the visit of the block of primitive atom p and atom j
unfoldable pub transpose_visit : Bool → Shifts → ℕ → ℕ → List Float → List Float
transpose_visit h S p j l = visit nan the_other (trading h S) (p * S.n_satom + j) l

unfoldable pub average_visit : Shifts → ℕ → ℕ → List Float → List Float
average_visit S p j l = visit nan mean (averaging S) (p * S.n_satom + j) l

-- blocks b and c change places, each transposed
unfoldable pub swap_at : ℕ → ℕ → List Float → List Float
swap_at b c xs = put_block 9 c (transposed9 (block 9 b xs)) (put_block 9 b (transposed9 (block 9 c xs)) xs)

-- as the code makes it: both are read, then each is written with the other one transposed
pub swapped-by : (b c : ℕ) (xs : List Float) {one other there here x1 x2 : List Float}
    → one ≡ block 9 b xs → other ≡ block 9 c xs → there ≡ transposed9 other → here ≡ transposed9 one → x1 ≡ put_block 9 b there xs → x2 ≡ put_block 9 c here x1
    → x2 ≡ swap_at b c xs
unfolding swap_at
swapped-by b c xs o p t h e1 e2 =
    e2 ∙ ap₂ (put_block 9 c) (h ∙ ap transposed9 o) (e1 ∙ ap (λ v. put_block 9 b v xs) (t ∙ ap transposed9 p))

-- the block that trades with block u
abbrev pub mate : Shifts → ℕ → ℕ
mate S u = counterpart S 1 order2 u

-- ---- the loops leave what Passes.antt says

module _ (S : Shifts) (L : Laws S) (old : List Float) (e : length old ≡ S.n_patom * S.n_satom * 9) where
  pub transpose_made : (h : Bool) → times S.n_patom (λ p. times S.n_satom (transpose_visit h S p)) old ≡ cond h (transposed S old) (swapped S 1 (0, 1) old)
  unfolding transpose_visit transposed transposed2 times_power
  transpose_made h =
      sym (times_nest S.n_patom S.n_satom (visit nan the_other (trading h S)) old)
      ∙ trades_if S L 1 0 order2 trades2 h old (e ∙ sym (size2 S)) ∙ ap (cond h (transposed S old)) (moved_2 S old)

  pub average_made : times S.n_patom (λ p. times S.n_satom (average_visit S p)) old ≡ averagedSet S old
  unfolding average_visit averagedSet times_power
  average_made =
      sym (times_nest S.n_patom S.n_satom (visit nan mean (averaging S)) old)
      ∙ loop_leaves nan mean (averaging S) (paired S L 1 order2 trades2.is_order trades2.twice nan mean never (λ b h. refl)) old (e ∙ sym (size2 S) ∙ size_blocks S 1)
      ∙ worked_is S L 1 order2 trades2.is_order trades2.twice nan mean never old

-- ---- one visit

-- the block written is the one that orbits says
transposed-joined : (x y : List Float) → transposed9 y ≡ joined_block the_other 9 (permutedPlace 1 order2) x y
unfolding joined_block permutedPlace pick digits rest horner tab tab_from
transposed-joined x y = refl

averaged-joined : (x y : List Float) → averaged x y ≡ joined_block mean 9 (permutedPlace 1 order2) x y
unfolding joined_block permutedPlace pick digits rest horner tab tab_from
averaged-joined x y = refl

swap-joined : (b c : ℕ) (xs : List Float) → swap_at b c xs ≡ joined_pair the_other 9 (permutedPlace 1 order2) b c xs
unfolding swap_at joined_pair
swap-joined b c xs =
    ap₂ (λ v w. put_block 9 c v (put_block 9 b w xs)) (transposed-joined (block 9 c xs) (block 9 b xs)) (transposed-joined (block 9 b xs) (block 9 c xs))

pair-joined : (b c : ℕ) (xs : List Float) → pair_at b c xs ≡ joined_pair mean 9 (permutedPlace 1 order2) b c xs
unfolding pair_at joined_pair
pair-joined b c xs =
    ap₂ (λ v w. put_block 9 c v (put_block 9 b w xs))
    (transposed-averaged (block 9 b xs) (block 9 c xs) ∙ averaged-joined (block 9 c xs) (block 9 b xs))
    (averaged-joined (block 9 b xs) (block 9 c xs))

module _ (join : Float → Float → Float) (S : Shifts) (stay : ℕ → Bool) (u : ℕ) (l : List Float) where
  -- the larger block of a pair: its visit came before
  past : mate S u < u → l ≡ visit nan join (blocks_by S 1 order2 stay) u l
  unfolding visit
  past h = rw (lt-ltb (mate S u) u h, or_true (stay u))

  kept : stay u ≡ true → l ≡ visit nan join (blocks_by S 1 order2 stay) u l
  unfolding visit
  kept e = rw e

  worked : Paired (blocks_by S 1 order2 stay) → u < S.n_patom * S.n_satom → stay u ≡ false → u ≤ mate S u
      → joined_pair join 9 (permutedPlace 1 order2) u (mate S u) l ≡ visit nan join (blocks_by S 1 order2 stay) u l
  unfolding visit in_block times_power
  worked P h e le = pair_is join (blocks_by S 1 order2 stay) P l u h ∙ sym (rw (e, le-ltb (mate S u) u le))

module _ (S : Shifts) (p j : ℕ) (l : List Float) (h : mate S (p * S.n_satom + j) < p * S.n_satom + j) where
  pub transpose_past : (s : Bool) → l ≡ transpose_visit s S p j l
  unfolding transpose_visit
  transpose_past s = past the_other S (stay_if s S 1 0) (p * S.n_satom + j) l h

  pub average_past : l ≡ average_visit S p j l
  unfolding average_visit
  average_past = past mean S never (p * S.n_satom + j) l h

-- block u is that of primitive atom p and atom j
module _ (S : Shifts) (L : Laws S) (p j : ℕ) (hp : p < S.n_patom) (hj : j < S.n_satom) where
  abbrev n : ℕ
  n = S.n_satom

  abbrev u : ℕ
  u = p * n + j

  below : u < S.n_patom * n
  below = in_row S.n_patom n p j hp hj

  pub mate_is : mate S u ≡ s2pp_at S j * n + row S (nsym_at S j) (p2s_at S p)
  unfolding counterpart block_atoms stored_atoms opened_atoms atoms_at pick rest digits horner
  mate_is = rw (block_of_lem n p j hj, place_of n p j hj)

  pub mate-at : mate S u ≡ stored_block S j (p2s_at S p ∷ [])
  unfolding stored_block horner
  mate-at = mate_is

  pub mate-below : mate S u < S.n_patom * n
  mate-below = rw mate_is (in_row S.n_patom n (s2pp_at S j) (row S (nsym_at S j) (p2s_at S p)) (L.s2pp-below j hj) image)
    where
      image : row S (nsym_at S j) (p2s_at S p) < n
      image = L.row_below (nsym_at S j) (p2s_at S p) (L.nsym_below j hj) (L.p2s-below p hp)

  stays_is : stays_at S 1 0 u ≡ stays S p j
  unfolding stays_at rest digits
  stays_is = rw (block_of_lem n p j hj, place_of n p j hj)

  -- a block that is its own counterpart stays, but that of p with itself; all others move
  stays-own : mate S u ≡ u → (p2s_at S p ≡ j → ⊥) → stays S p j ≡ true
  stays-own e ne =
      let k = row S (nsym_at S j) (p2s_at S p) in
      let hk = L.row_below (nsym_at S j) (p2s_at S p) (L.nsym_below j hj) (L.p2s-below p hp) in
      let w : s2pp_at S j * n + k ≡ p * n + j = sym mate_is ∙ e in
      let f : s2pp_at S j ≡ p = sym (block_of_lem n (s2pp_at S j) k hk) ∙ ap (λ b. b / n) w ∙ block_of_lem n p j hj in
      let g : k ≡ j = sym (place_of n (s2pp_at S j) k hk) ∙ ap (λ b. b % n) w ∙ place_of n p j hj in
      sym (stays-told S L p j hp hj ne f) ∙ eq-eqb k j g

  moves-other : (mate S u ≡ u → ⊥) ⊎ (p2s_at S p ≡ j) → stays S p j ≡ false
  moves-other (inr e) = stays-rep S L p j hp e
  moves-other (inl ne) = go (ℕ_discrete (s2pp_at S j) p) (ℕ_discrete (p2s_at S p) j)
    where
      go : Dec (s2pp_at S j ≡ p) → Dec (p2s_at S p ≡ j) → stays S p j ≡ false
      go (no f) d = stays-apart S L p j hp hj f
      go (yes f) (yes g) = stays-rep S L p j hp g
      go (yes f) (no g) =
          sym (stays-told S L p j hp hj g f)
          ∙ ne_eqb (row S (nsym_at S j) (p2s_at S p)) j (λ h. ne (mate_is ∙ ap₂ (λ a b. a * n + b) f h))

  stay_is : (h : Bool) → stay_if h S 1 0 u ≡ (h && stays S p j)
  stay_is h = stay_if_lem h S 1 0 u ∙ ap (λ s. h && s) stays_is

  pub transpose_stays : (h : Bool) (l : List Float) → h ≡ true → mate S u ≡ u → (p2s_at S p ≡ j → ⊥) → l ≡ transpose_visit h S p j l
  unfolding transpose_visit
  transpose_stays h l t e ne = kept the_other S (stay_if h S 1 0) u l (stay_is h ∙ ap₂ ◌&&◌ t (stays-own e ne))

  -- where half shifts do not stay, or the pair is not one of theirs
  all-move : (h : Bool) → (h ≡ false) ⊎ ((mate S u ≡ u → ⊥) ⊎ (p2s_at S p ≡ j)) → (h && stays S p j) ≡ false
  all-move h (inl e) = ap (λ h. h && stays S p j) e
  all-move true (inr m) = moves-other m
  all-move false (inr m) = refl

  pub transpose_put : (h : Bool) (l : List Float) → u ≤ mate S u → (h ≡ false) ⊎ ((mate S u ≡ u → ⊥) ⊎ (p2s_at S p ≡ j)) → swap_at u (mate S u) l ≡ transpose_visit h S p j l
  unfolding transpose_visit
  transpose_put h l le m =
      swap-joined u (mate S u) l
      ∙ worked the_other S (stay_if h S 1 0) u l (stay-both S L 1 0 order2 trades2 h) below (stay_is h ∙ all-move h m) le

  pub average_put : (l : List Float) → u ≤ mate S u → pair_at u (mate S u) l ≡ average_visit S p j l
  unfolding average_visit
  average_put l le =
      pair-joined u (mate S u) l
      ∙ worked mean S never u l (paired S L 1 order2 trades2.is_order trades2.twice nan mean never (λ b h. refl)) below refl le
