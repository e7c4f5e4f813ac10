-- Groups of atoms of which two are the same: three different blocks, each of two permutations; and of one atom three times: one block. Where two
-- positions of a mean go to one place, the later one holds, so that the blocks hold the means with the later of the two for both. Assumes nothing.
use Rattle.std.specs.Prelude.{◌≡◌, List, [], ◌∷◌, ℕ, ◌+◌, ◌*◌, ◌≤◌, ◌<◌, length, Float}
use Rattle.std.proofs.Math.Path.{refl, ap, ap₂}
use Rattle.std.proofs.Common.{sym, ◌∙◌, lit<}
use borrow.Author.Tests.{eq-eqb, ne_eqb}
use Rattle.lists.specs.Tab.{tab, tab_from, times}
use Rattle.lists.specs.Elements.{pick}
use Rattle.lists.specs.Digits.{times_power, horner, rest, digits}
use Rattle.blocks.specs.Block.{put_block, put-put, put-put-other}
use Rattle.blocks.specs.Permuted.{permuted, gathered, lnm, mln, mnl, nlm}
use Rattle.places.specs.Permutations.{perms3}
use Rattle.orbits.specs.Blockwise.{in_block}
use Rattle.orbits.specs.Groups.{spots, spread_block, Distinct}
use Rattle.orbits.specs.Spread.{set_all}
use Rattle.fc3.specs.Mean.{Blocks6, one_block}
use Rattle.fc3.specs.Later.{later_mln, later_lnm, later_all}
use Rattle.fc3.specs.Coinciding.{flat, length-flat, first_at, copy_six, slots_in, group-put}

-- the six blocks of atoms of which two are the same: three pairs
abbrev pub Pairs : ℕ → ℕ → ℕ → ℕ → ℕ → ℕ → Type 0
Pairs x x2 y y2 z z2 = (x2 ≡ x) × (y2 ≡ y) × (z2 ≡ z) × Distinct (x ∷ y ∷ z ∷ [])

-- ---- the blocks as values, those of three slots as the program writes them

abbrev pub first_two : List Float → List (List Float)
first_two v =
    let w = gathered v later_mln in
    w ∷ gathered w lnm ∷ w ∷ w ∷ gathered w mnl ∷ w ∷ []

abbrev pub last_two : List Float → List (List Float)
last_two v =
    let w = gathered v later_lnm in
    w ∷ w ∷ gathered w mln ∷ gathered w nlm ∷ w ∷ w ∷ []

abbrev pub all_same : List Float → List (List Float)
all_same v =
    let w = later_all v in
    w ∷ w ∷ w ∷ w ∷ w ∷ w ∷ []

-- writing the means to their spots, one after the other, leaves them
flat-first : (v : List Float) → flat (first_two v) ≡ spread_block 2 perms3 (0 ∷ 1 ∷ 0 ∷ 1 ∷ 4 ∷ 4 ∷ []) v (flat (first_two v))
unfolding flat spread_block spots perms3 times set_all permuted pick horner digits rest tab tab_from in_block times_power
flat-first v = refl

flat-last : (v : List Float) → flat (last_two v) ≡ spread_block 2 perms3 (0 ∷ 0 ∷ 2 ∷ 3 ∷ 2 ∷ 3 ∷ []) v (flat (last_two v))
unfolding flat spread_block spots perms3 times set_all permuted pick horner digits rest tab tab_from in_block times_power
flat-last v = refl

flat-same : (v : List Float) → flat (all_same v) ≡ spread_block 2 perms3 (0 ∷ 0 ∷ 0 ∷ 0 ∷ 0 ∷ 0 ∷ []) v (flat (all_same v))
unfolding flat spread_block spots perms3 times set_all permuted pick horner digits rest tab tab_from in_block times_power
flat-same v = refl

-- one block
pub all_same_lem : (x : ℕ) (v xs : List Float) → x * 27 + 27 ≤ length xs → {w u : List Float} → w ≡ later_all v → u ≡ put_block 27 x w xs
    → u ≡ spread_block 2 perms3 (x ∷ x ∷ x ∷ x ∷ x ∷ x ∷ []) v xs
unfolding copy_six
all_same_lem x v xs R ew e =
    let G = all_same v in
    group-put x x x x x x v xs (flat G) G (one_block R) slot slot slot slot slot slot (refl, (refl, (refl, (refl, (refl, (refl, (refl, tt))))))) (flat-same v) (length-flat G)
    (slots_in (lit< tt) (lit< tt) (lit< tt) (lit< tt) (lit< tt) (lit< tt))
    (e ∙ ap (λ w. put_block 27 x w xs) ew ∙ sym (again (put_block 27 x w (put_block 27 x w (put_block 27 x w (put_block 27 x w xs)))) ∙ again (put_block 27 x w (put_block 27 x w (put_block 27 x w xs)))
    ∙ again (put_block 27 x w (put_block 27 x w xs)) ∙ again (put_block 27 x w xs) ∙ again xs))
  where
    w : List Float
    w = later_all v

    again : (ys : List Float) → put_block 27 x (later_all v) (put_block 27 x (later_all v) ys) ≡ put_block 27 x (later_all v) ys
    again ys = put-put 27 (later_all v) (later_all v) ys x

    slot : 0 ≡ first_at (x ∷ x ∷ x ∷ x ∷ x ∷ []) x
    slot = unfold first_at in rw (eq-eqb x x refl) refl

module _ (x y z : ℕ) (d : Distinct (x ∷ y ∷ z ∷ [])) (v xs : List Float) where
  yx : y ≡ x → ⊥
  yx = d.0.0

  zx : z ≡ x → ⊥
  zx = d.0.1.0

  zy : z ≡ y → ⊥
  zy = d.1.0.0

  -- the slot of each block in x, y, x, y, z
  first_slots : (0 ≡ first_at (x ∷ y ∷ x ∷ y ∷ z ∷ []) x) × (1 ≡ first_at (x ∷ y ∷ x ∷ y ∷ z ∷ []) y) × (4 ≡ first_at (x ∷ y ∷ x ∷ y ∷ z ∷ []) z)
  unfolding first_at
  first_slots = (
    rw (eq-eqb x x refl) refl,
    rw (ne_eqb x y (λ e. yx (sym e)), eq-eqb y y refl) refl,
    rw (ne_eqb x z (λ e. zx (sym e)), ne_eqb y z (λ e. zy (sym e)), eq-eqb z z refl) refl,
  )

  -- and in x, x, y, z, y
  last_slots : (0 ≡ first_at (x ∷ x ∷ y ∷ z ∷ y ∷ []) x) × (2 ≡ first_at (x ∷ x ∷ y ∷ z ∷ y ∷ []) y) × (3 ≡ first_at (x ∷ x ∷ y ∷ z ∷ y ∷ []) z)
  unfolding first_at
  last_slots = (
    rw (eq-eqb x x refl) refl,
    rw (ne_eqb x y (λ e. yx (sym e)), eq-eqb y y refl) refl,
    rw (ne_eqb x z (λ e. zx (sym e)), ne_eqb y z (λ e. zy (sym e)), eq-eqb z z refl) refl,
  )

  -- three blocks written twice are three blocks written once
  twice-first : (p q r : List Float) → put_block 27 z r (put_block 27 y q (put_block 27 x p xs)) ≡ put_block 27 z r (put_block 27 z r (put_block 27 y q (put_block 27 x p (put_block 27 y q (put_block 27 x p xs)))))
  twice-first p q r =
      let s = put_block 27 x p xs in
      sym (put-put 27 r r (put_block 27 y q (put_block 27 x p (put_block 27 y q s))) z
      ∙ ap (λ t. put_block 27 z r (put_block 27 y q t)) (put-put-other 27 p q s x y (λ e. yx (sym e)))
      ∙ ap (put_block 27 z r) (put-put 27 q q (put_block 27 x p s) y ∙ ap (put_block 27 y q) (put-put 27 p p xs x)))

  twice-last : (p q r : List Float) → put_block 27 z r (put_block 27 y q (put_block 27 x p xs)) ≡ put_block 27 z r (put_block 27 y q (put_block 27 z r (put_block 27 y q (put_block 27 x p (put_block 27 x p xs)))))
  twice-last p q r =
      let s = put_block 27 x p xs in
      sym (ap (λ t. put_block 27 z r (put_block 27 y q (put_block 27 z r (put_block 27 y q t)))) (put-put 27 p p xs x)
      ∙ ap (put_block 27 z r) (put-put-other 27 q r (put_block 27 y q s) y z (λ e. zy (sym e)))
      ∙ put-put 27 r r (put_block 27 y q (put_block 27 y q s)) z ∙ ap (put_block 27 z r) (put-put 27 q q s y))

  pub first_two_lem : Blocks6 (length xs) x y x y z z → {s t u : List Float} {w a b : List Float} → w ≡ gathered v later_mln → a ≡ gathered w lnm → b ≡ gathered w mnl
      → s ≡ put_block 27 x w xs → t ≡ put_block 27 y a s → u ≡ put_block 27 z b t
      → u ≡ spread_block 2 perms3 (x ∷ y ∷ x ∷ y ∷ z ∷ z ∷ []) v xs
  unfolding copy_six
  first_two_lem R {w = w} ew ea eb e f g =
      let G = first_two v in
      let (s0, s1, s4) = first_slots in
      let a1 = ea ∙ ap (λ w. gathered w lnm) ew in
      let b1 = eb ∙ ap (λ w. gathered w mnl) ew in
      group-put x y x y z z v xs (flat G) G R s0 s1 s0 s1 s4 s4 (refl, (refl, (refl, (refl, (refl, (refl, (refl, tt))))))) (flat-first v) (length-flat G)
      (slots_in (lit< tt) (lit< tt) (lit< tt) (lit< tt) (lit< tt) (lit< tt))
      (g ∙ ap₂ (put_block 27 z) b1 (f ∙ ap₂ (put_block 27 y) a1 (e ∙ ap (λ w. put_block 27 x w xs) ew))
      ∙ twice-first (gathered v later_mln) (gathered (gathered v later_mln) lnm) (gathered (gathered v later_mln) mnl))

  pub last-two : Blocks6 (length xs) x x y z y z → {s t u : List Float} {w a b : List Float} → w ≡ gathered v later_lnm → a ≡ gathered w mln → b ≡ gathered w nlm
      → s ≡ put_block 27 x w xs → t ≡ put_block 27 y a s → u ≡ put_block 27 z b t
      → u ≡ spread_block 2 perms3 (x ∷ x ∷ y ∷ z ∷ y ∷ z ∷ []) v xs
  unfolding copy_six
  last-two R {w = w} ew ea eb e f g =
      let G = last_two v in
      let (s0, s2, s3) = last_slots in
      let a1 = ea ∙ ap (λ w. gathered w mln) ew in
      let b1 = eb ∙ ap (λ w. gathered w nlm) ew in
      group-put x x y z y z v xs (flat G) G R s0 s0 s2 s3 s2 s3 (refl, (refl, (refl, (refl, (refl, (refl, (refl, tt))))))) (flat-last v) (length-flat G)
      (slots_in (lit< tt) (lit< tt) (lit< tt) (lit< tt) (lit< tt) (lit< tt))
      (g ∙ ap₂ (put_block 27 z) b1 (f ∙ ap₂ (put_block 27 y) a1 (e ∙ ap (λ w. put_block 27 x w xs) ew))
      ∙ twice-last (gathered v later_lnm) (gathered (gathered v later_lnm) mln) (gathered (gathered v later_lnm) nlm))
