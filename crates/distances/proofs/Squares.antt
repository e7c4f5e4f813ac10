-- What the squares decide, and what is left to the root. Assumes nothing.
use mathlib.Core.Path.{◌≡◌, refl, sym, ap, ◌∙◌, subst}
use mathlib.Core.Bool.{Bool, true, false, cond, false≢true}
use mathlib.Core.Logic.{inl, inr}
use mathlib.Core.List.{List}
use Prim.Native.Nat.{◌*◌}
use lib.ListN.{get_or}
use lib.Dec.{T, eqb}
use lib.Ieee.{Float, nan, inf, fin, binary64, up, down, of_bits, add, mul, div, lt, le, fits}
use lib.Ieee.Fits.{add-fits}
use Rattle.common.specs.Root.{sqrt}
use Rattle.distances.specs.Near.{dot, squares}
use Rattle.distances.specs.Reach.{is_positive, Reaches}
use Rattle.distances.proofs.Rounded.{round_plus}
use Rattle.distances.proofs.Reject.{reject}
use Rattle.distances.proofs.Accept.{accept}
use Rattle.distances.proofs.Sums.{Far, mul-plus, add-plus, still-far}

abbrev zero64 : Float
zero64 = of_bits binary64 0

pub zero-plus : T (is_positive zero64)
unfolding of_bits
zero-plus = tt

-- 0.0 + a² + b² + c² has no minus sign
pub sum-plus : (a b c : Float) → T (is_positive (dot a b c a b c))
sum-plus a b c =
    let p1 = add-plus binary64 zero64 (mul binary64 a a) zero-plus (mul-plus binary64 a) in
    let p2 = add-plus binary64 _ (mul binary64 b b) p1 (mul-plus binary64 b) in
    add-plus binary64 _ (mul binary64 c c) p2 (mul-plus binary64 c)

nan_not-below : (s : Float) → lt (sqrt binary64 nan) s ≡ false
unfolding sqrt lt
nan_not-below s = refl

far-not-near : (s x : Float) → T (fits binary64 s) → T (fits binary64 x) → Far (mul binary64 s s) x → lt (sqrt binary64 x) s ≡ false
far-not-near s x S X (inl h) = reject binary64 s x S X h
far-not-near s x S X (inr e) = subst (λ (y : Float). lt (sqrt binary64 y) s ≡ false) (sym e) (nan_not-below s)

module _ (s square sure : Float) (S : T (fits binary64 s)) (R : Reaches s square sure) where
  -- the first square alone is above
  first_too_long : (a b c : Float) → lt square (add binary64 zero64 (mul binary64 a a)) ≡ true → lt (sqrt binary64 (dot a b c a b c)) s ≡ false
  first_too_long a b c h =
      let L = mul-plus binary64 s in
      let first = add binary64 zero64 (mul binary64 a a) in
      let p1 = add-plus binary64 zero64 (mul binary64 a a) zero-plus (mul-plus binary64 a) in
      let second = add binary64 first (mul binary64 b b) in
      let p2 = add-plus binary64 first (mul binary64 b b) p1 (mul-plus binary64 b) in
      let f1 : Far (mul binary64 s s) first = inl (ap (λ (y : Float). lt y first) (sym R.squared) ∙ h) in
      let f2 = still-far binary64 (mul binary64 s s) first (mul binary64 b b) L (add-fits binary64 zero64 (mul binary64 a a)) p1 (mul-plus binary64 b) f1 in
      let f3 = still-far binary64 (mul binary64 s s) second (mul binary64 c c) L (add-fits binary64 first (mul binary64 b b)) p2 (mul-plus binary64 c) f2 in
      far-not-near s (dot a b c a b c) S (add-fits binary64 second (mul binary64 c c)) f3

  pub first-row : (l : List Float) (x y z a : Float) → a ≡ dot (get_or l 0 nan) (get_or l 1 nan) (get_or l 2 nan) x y z → lt square (add binary64 zero64 (mul binary64 a a)) ≡ true
      → lt (sqrt binary64 (squares l x y z)) s ≡ false
  unfolding squares
  first-row l x y z a e h =
      first_too_long (dot (get_or l 0 nan) (get_or l 1 nan) (get_or l 2 nan) x y z) (dot (get_or l 3 nan) (get_or l 4 nan) (get_or l 5 nan) x y z) (dot (get_or l 6 nan) (get_or l 7 nan) (get_or l 8 nan) x y z)
      (subst (λ (v : Float). lt square (add binary64 zero64 (mul binary64 v v)) ≡ true) e h)

  pub too_long : (x : Float) → T (fits binary64 x) → lt square x ≡ true → lt (sqrt binary64 x) s ≡ false
  too_long x X h = reject binary64 s x S X (ap (λ (y : Float). lt y x) (sym R.squared) ∙ h)

-- ---- the two ways in which `sure` is chosen

product-plus : (x y : Float) → T (is_positive x) → T (is_positive y) → T (is_positive (mul binary64 x y))
unfolding mul
product-plus nan y p q = tt
product-plus (inf true) y p q = absurd p
product-plus (inf false) nan p q = tt
product-plus (inf false) (inf true) p q = absurd q
product-plus (inf false) (inf false) p q = tt
product-plus (inf false) (fin true n d) p q = absurd q
product-plus (inf false) (fin false n d) p q = go (eqb n 0)
  where
    go : (b : Bool) → T (is_positive (cond b nan (inf false)))
    go true = tt
    go false = tt
product-plus (fin true m e) y p q = absurd p
product-plus (fin false m e) nan p q = tt
product-plus (fin false m e) (inf true) p q = absurd q
product-plus (fin false m e) (inf false) p q = go (eqb m 0)
  where
    go : (b : Bool) → T (is_positive (cond b nan (inf false)))
    go true = tt
    go false = tt
product-plus (fin false m e) (fin true n d) p q = absurd q
product-plus (fin false m e) (fin false n d) p q = round_plus binary64 (m * up e * (n * up d)) (down e * down d)

pub tested : (s c : Float) → T (is_positive c) → lt (sqrt binary64 (mul binary64 (mul binary64 s s) c)) s ≡ true → Reaches s (mul binary64 s s) (mul binary64 (mul binary64 s s) c)
tested s c C h = record { squared = refl; near = λ x X l. accept binary64 s x _ X (product-plus (mul binary64 s s) c (mul-plus binary64 s) C) l h }

le_nan : (x : Float) → le x nan ≡ false
unfolding le
le_nan nan = refl
le_nan (inf s) = refl
le_nan (fin s m e) = refl

pub none_sure : (s : Float) → Reaches s (mul binary64 s s) (div binary64 zero64 zero64)
unfolding div of_bits
none_sure s = record { squared = refl; near = λ x X l. absurd (false≢true (sym (le_nan x) ∙ l)) }
