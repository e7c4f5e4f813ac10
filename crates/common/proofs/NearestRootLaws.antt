-- `sqrt` is what specs/NearestRoot.antt says: `root_is_nearest` and `nearest_root_unique`. Assumes nothing.
use Rattle.std.specs.Prelude.{◌≡◌, refl, true, false, cond, ℕ, zero, suc, ◌+◌, ◌-◌, ◌*◌, ◌^◌, ◌<◌, T, ℤ, Float}
use Rattle.std.proofs.Common.{true≢false, arith, ltb-true}
use Rattle.std.proofs.lemmas.Bool.{false≢true}
use Rattle.std.specs.Float.{nan, inf, fin, Format, binary64}
use Rattle.std.specs.Float.Ieee.{prec, emax, up, down, fits, lt, of_bits}
use Rattle.std.specs.Float.Ieee.Positive.{num, den, positive, positive-finite}
use Rattle.std.specs.Float.Ieee.Scale.{finite}
use Rattle.common.specs.Root.{sqrt}
use Rattle.common.specs.Laws.Fields.{negative}
use Rattle.common.proofs.Closest.{root-held, root_positive, positive_plus, over-plus, over-minus, under-plus, under-minus, in_reach, clash, by_size}
use Rattle.common.specs.NearestRoot.{RootAbove, RootBelow, mean_num, mean_den, NearestRoot}

-- For every positive finite f64 the definition gives the nearest f64.
pub root_is_nearest : (x : Float) → T (fits binary64 x) → T (positive x) → NearestRoot binary64 x (sqrt binary64 x)
root_is_nearest x F p = record {
  held = root-held x p;
  number = positive-finite (sqrt binary64 x) (root_positive x F p);
  plus = positive_plus (sqrt binary64 x) (root_positive x F p);
  over = above;
  under = below;
  within = in_reach x F p;
}
  where
    above : (y : Float) → T (fits binary64 y) → T (finite y) → T (lt y (sqrt binary64 x)) → RootAbove (mean_num (sqrt binary64 x) y) (mean_den (sqrt binary64 x) y) x
    above nan G q l = absurd q
    above (inf s) G q l = absurd q
    above (fin true n d) G q l = over-minus x F p (fin true n d)
    above (fin false n d) G q l = over-plus x F p n d G l

    below : (y : Float) → T (fits binary64 y) → T (finite y) → T (lt (sqrt binary64 x) y) → RootBelow (mean_num (sqrt binary64 x) y) (mean_den (sqrt binary64 x) y) x
    below nan G q l = absurd q
    below (inf s) G q l = absurd q
    below (fin true n d) G q l = absurd (under-minus x F p n d l)
    below (fin false n d) G q l = under-plus x F p n d G l

apart : (x r s : Float) → NearestRoot binary64 x r → NearestRoot binary64 x s → T (lt r s) → ⊥
apart x nan s h k l = absurd h.number
apart x (inf t) s h k l = absurd h.number
apart x (fin true m e) s h k l = absurd (true≢false h.plus)
apart x (fin false m e) nan h k l = absurd k.number
apart x (fin false m e) (inf t) h k l = absurd k.number
apart x (fin false m e) (fin true n d) h k l = absurd (true≢false k.plus)
apart x (fin false m e) (fin false n d) h k l =
    let r = fin false m e in
    let s = fin false n d in
    clash (num r) (den r) (num s) (den s) (num x) (den x) (h.under s k.held tt l) (k.over r h.held tt l)

-- No other value is the nearest, so that `NearestRoot` says which f64 the root is, bit for bit.
pub nearest_root_unique : (x r s : Float) → NearestRoot binary64 x r → NearestRoot binary64 x s → r ≡ s
nearest_root_unique x r s h k = by_size r s h.held k.held h.number k.number h.plus k.plus (apart x r s h k) (apart x s r k h)
