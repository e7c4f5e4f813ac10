-- The 24 blocks of a group from the atoms of one of them: four times six, by the atom that comes first. Assumes nothing.
use Rattle.std.specs.Prelude.{◌≡◌, ℕ, ◌*◌, ◌/◌, ◌%◌, ◌≤◌, ◌<◌, length, get_or}
use Rattle.std.proofs.Math.Path.{refl, sym, ap, fun_ext}
use Rattle.std.proofs.Common.{ap₂, ◌∙◌, arith, lit≤}
use mathlib.Core.List.{List, [], ◌∷◌}
use Rattle.std.proofs.lemmas.List.{length-map}
use Rattle.lists.specs.Elements.{pick, get_d_map}
use Rattle.lists.specs.Digits.{horner, times_power, rest, digits, rest_below, digits-below}
use Rattle.tables.specs.Shifts.{Shifts, Laws, p2s_at}
use Rattle.tables.specs.Limits.{limit4}
use Rattle.tables.specs.Conditions.{Readable, index_at, read}
use Rattle.tables.specs.Compact.{ShiftTables, shifts_of, TablesFit, p2s_is}
use Rattle.blocks.specs.Block.{fits}
use Rattle.places.specs.Places.{size}
use Rattle.places.specs.Permutations.{perms4}
use Rattle.places.specs.WholeLaws.{full_shifts}
use Rattle.places.specs.Addresses.{stored_block}
use Rattle.places.specs.ReadOuts.{Tables, tables, stored_in, stored_in_lem}
use Rattle.orbits.specs.Blockwise.{block_atoms, stored_atoms, opened_atoms, atoms_at}
use Rattle.orbits.specs.Transposed.{counterpart, counterpart-below, size_blocks}
use Rattle.orbits.specs.AtBlockLaws.{whole-p2s, whole-block}
use Rattle.orbits.specs.Groups.{group_blocks}
use Rattle.positions.specs.Positions.{permutation_at, in81, is_permutation_lem}
use Rattle.fc4.specs.Mean.{Blocks24, count24}

-- the six permutations that begin with atom w; f gives the block of a first atom and the three others
abbrev pub six_from : (ℕ → List ℕ → ℕ) → ℕ → ℕ → ℕ → ℕ → List ℕ
six_from f w x y z =
    f w (x ∷ y ∷ z ∷ []) ∷ f w (x ∷ z ∷ y ∷ []) ∷ f w (y ∷ x ∷ z ∷ []) ∷ f w (y ∷ z ∷ x ∷ []) ∷ f w (z ∷ x ∷ y ∷ []) ∷ f w (z ∷ y ∷ x ∷ []) ∷ []

-- four times six numbers in one list
abbrev pub joined_of : List ℕ → List ℕ → List ℕ → List ℕ → List ℕ
joined_of a b c d =
    get_or a 0 0 ∷ get_or a 1 0 ∷ get_or a 2 0 ∷ get_or a 3 0 ∷ get_or a 4 0 ∷ get_or a 5 0
    ∷ get_or b 0 0 ∷ get_or b 1 0 ∷ get_or b 2 0 ∷ get_or b 3 0 ∷ get_or b 4 0 ∷ get_or b 5 0
    ∷ get_or c 0 0 ∷ get_or c 1 0 ∷ get_or c 2 0 ∷ get_or c 3 0 ∷ get_or c 4 0 ∷ get_or c 5 0
    ∷ get_or d 0 0 ∷ get_or d 1 0 ∷ get_or d 2 0 ∷ get_or d 3 0 ∷ get_or d 4 0 ∷ get_or d 5 0 ∷ []

-- the 24 blocks of atoms i, j, k, l
unfoldable pub blocks_of : (ℕ → List ℕ → ℕ) → ℕ → ℕ → ℕ → ℕ → List ℕ
blocks_of f i j k l = joined_of (six_from f i j k l) (six_from f j i k l) (six_from f k i j l) (six_from f l i j k)

-- they are the group of the block whose atoms they are
pub group_are : (S : Shifts) (b : ℕ)
    → group_blocks S 3 perms4 b
    ≡ (let n = S.n_satom in blocks_of (stored_block S) (p2s_at S (b / n / n / n)) (b / n / n % n) (b / n % n) (b % n))
unfolding group_blocks perms4 counterpart pick opened_atoms stored_atoms block_atoms atoms_at rest digits stored_block blocks_of
group_are S b = refl

-- ---- where they lie

module _ (S : Shifts) (L : Laws S) (b : ℕ) (h : b < times_power S.n_satom 3 S.n_patom) where
  at-permutation : (s : ℕ) → s < 24 → get_or (group_blocks S 3 perms4 b) s 0 ≡ counterpart S 3 (permutation_at s) b
  unfolding group_blocks permutation_at
  at-permutation s hs = get_d_map (λ σ. counterpart S 3 σ b) perms4 s [] 0 (rw count24 hs)

  pub marks_in : (s : ℕ) → s < 24 → get_or (group_blocks S 3 perms4 b) s 0 < times_power S.n_satom 3 S.n_patom
  marks_in s hs = rw (at-permutation s hs) (counterpart-below S L 3 (permutation_at s) (is_permutation_lem s hs) b h)

  pub blocks_in : (len : ℕ) → len ≡ size S 3 → Blocks24 len (group_blocks S 3 perms4 b)
  blocks_in len e = record {
    count = group-count;
    inside = λ s hs.
        let B = times_power S.n_satom 3 S.n_patom in
        rw (e ∙ size_blocks S 3 ∙ ap (λ c. B * c) in81) (fits 81 (get_or (group_blocks S 3 perms4 b) s 0) B (marks_in s hs));
  }
    where
      group-count : length (group_blocks S 3 perms4 b) ≡ 24
      group-count = unfold group_blocks in (length-map perms4 (λ σ. counterpart S 3 σ b) ∙ count24)

-- ---- from the tables

module _ (T : ShiftTables) (F : TablesFit limit4 T) (b : ℕ) (h : b < times_power T.n_satom 3 T.n_patom) where
  pub read-tables : Tables T.n_satom T.s2pp T.nsym_list T.perms
  read-tables = tables limit4 T (lit≤ tt) F

  -- the atoms of the block
  pub first_below : b / T.n_satom / T.n_satom / T.n_satom < T.n_patom
  unfolding rest
  first_below = rest_below T.n_satom 3 T.n_patom b h

  pub others_below : (b / T.n_satom / T.n_satom % T.n_satom < T.n_satom) × (b / T.n_satom % T.n_satom < T.n_satom) × (b % T.n_satom < T.n_satom)
  unfolding digits rest
  others_below = let d = digits-below T.n_satom 3 T.n_patom b h in (d.0, d.1.0, d.1.1.0)

  pub satoms_pos : 0 < T.n_satom
  satoms_pos = let d = others_below in omega arith

  pub p2s-read : Readable T.p2s (b / T.n_satom / T.n_satom / T.n_satom) × (index_at T.p2s (b / T.n_satom / T.n_satom / T.n_satom) < T.n_satom)
  p2s-read = read F.p2s-fit (b / T.n_satom / T.n_satom / T.n_satom) first_below

  pub found_are : (i : ℕ) → i ≡ index_at T.p2s (b / T.n_satom / T.n_satom / T.n_satom)
      → blocks_of (stored_in T.n_satom T.s2pp T.nsym_list T.perms) i (b / T.n_satom / T.n_satom % T.n_satom) (b / T.n_satom % T.n_satom) (b % T.n_satom)
      ≡ group_blocks (shifts_of T) 3 perms4 b
  found_are i e =
      let n = T.n_satom in
      ap₂ (λ f i. blocks_of f i (b / n / n % n) (b / n % n) (b % n)) (fun_ext (λ i. fun_ext (λ js. stored_in_lem T i js))) (e ∙ p2s_is T (b / n / n / n))
      ∙ sym (group_are (shifts_of T) b)

-- the atoms of a block leg by leg, from the last: l, then k and j, and p is left
pub legs_are : (b n : ℕ) {x y j k p : ℕ} → x ≡ b / n → k ≡ x % n → y ≡ x / n → j ≡ y % n → p ≡ y / n → (p ≡ b / n / n / n) × (j ≡ b / n / n % n) × (k ≡ b / n % n)
legs_are b n {y = y} ex ek ey ej ep =
    let e : y ≡ b / n / n = ey ∙ ap (λ x. x / n) ex in
    (ep ∙ ap (λ y. y / n) e, ej ∙ ap (λ y. y % n) e, ek ∙ ap (λ x. x % n) ex)

pub same-atoms : (f : ℕ → List ℕ → ℕ) {i j k l i' j' k' l' : ℕ} → i ≡ i' → j ≡ j' → k ≡ k' → l ≡ l' → blocks_of f i j k l ≡ blocks_of f i' j' k' l'
same-atoms f ei ej ek el = rw (ei, ej, ek, el) refl

-- what the program joins
pub joined_are : (f : ℕ → List ℕ → ℕ) (i j k l : ℕ) {a b c d r : List ℕ}
    → r ≡ joined_of a b c d → a ≡ six_from f i j k l → b ≡ six_from f j i k l → c ≡ six_from f k i j l → d ≡ six_from f l i j k → r ≡ blocks_of f i j k l
unfolding blocks_of
joined_are f i j k l e ea eb ec ed = e ∙ (rw (ea, eb, ec, ed) refl)

-- ---- of a full set: each atom is its own representative

module _ (n : ℕ) where
  pub whole-satoms : (full_shifts n).n_satom ≡ n
  unfolding full_shifts
  whole-satoms = refl

  whole_four : (i j k l : ℕ) → i < n → j < n → k < n → l < n → stored_block (full_shifts n) i (j ∷ k ∷ l ∷ []) ≡ horner n i (j ∷ k ∷ l ∷ [])
  whole_four i j k l hi hj hk hl = whole-block n i (j ∷ k ∷ l ∷ []) hi (hj, (hk, (hl, tt)))

  six-whole : (w x y z : ℕ) → w < n → x < n → y < n → z < n → six_from (stored_block (full_shifts n)) w x y z ≡ six_from (horner n) w x y z
  six-whole w x y z hw hx hy hz =
      six (whole_four w x y z hw hx hy hz) (whole_four w x z y hw hx hz hy) (whole_four w y x z hw hy hx hz) (whole_four w y z x hw hy hz hx) (whole_four w z x y hw hz hx hy) (whole_four w z y x hw hz hy hx)
    where
      six : {a b c d e f a' b' c' d' e' f' : ℕ} → a ≡ a' → b ≡ b' → c ≡ c' → d ≡ d' → e ≡ e' → f ≡ f' → a ∷ b ∷ c ∷ d ∷ e ∷ f ∷ [] ≡ a' ∷ b' ∷ c' ∷ d' ∷ e' ∷ f' ∷ []
      six p q r s t u = cc

  module _ (b : ℕ) (h : b < times_power n 3 n) where
    pub whole_below : (b / n / n / n < n) × (b / n / n % n < n) × (b / n % n < n) × (b % n < n)
    unfolding rest digits
    whole_below = let d = digits-below n 3 n b h in (rest_below n 3 n b h, d.0, d.1.0, d.1.1.0)

    pub whole_pos : 0 < n
    whole_pos = let d = whole_below in omega arith

    pub whole_are : blocks_of (horner n) (b / n / n / n) (b / n / n % n) (b / n % n) (b % n) ≡ group_blocks (full_shifts n) 3 perms4 b
    unfolding blocks_of
    whole_are =
        let (hi, hj, hk, hl) = whole_below in
        let i = b / n / n / n in
        let j = b / n / n % n in
        let k = b / n % n in
        let l = b % n in
        sym (spelled ∙ ap (λ i. blocks_of (stored_block (full_shifts n)) i j k l) (whole-p2s n i hi)
        ∙ joined_are (horner n) i j k l refl (six-whole i j k l hi hj hk hl) (six-whole j i k l hj hi hk hl) (six-whole k i j l hk hi hj hl) (six-whole l i j k hl hi hj hk))
      where
        spelled : group_blocks (full_shifts n) 3 perms4 b ≡ blocks_of (stored_block (full_shifts n)) (p2s_at (full_shifts n) (b / n / n / n)) (b / n / n % n) (b / n % n) (b % n)
        spelled = group_are (full_shifts n) b ∙ ap (λ n'. blocks_of (stored_block (full_shifts n)) (p2s_at (full_shifts n) (b / n' / n' / n')) (b / n' / n' % n') (b / n' % n') (b % n')) whole-satoms
