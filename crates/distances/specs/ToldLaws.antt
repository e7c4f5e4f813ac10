-- What is told of a distance, in document 02's words (A.3). Assumes nothing.
use Rattle.std.specs.Prelude.{◌≡◌, refl, Bool, true, false, cond, ◌↔◌, Float}
use Rattle.std.proofs.Common.{ap, sym, true≢false}
use Rattle.std.specs.Float.{nan, inf, fin}
use Rattle.std.specs.Float.Ieee.{lt, is_nan}
use Rattle.distances.specs.declared.Distance.TheVariants.{Near, Far, NoNumber}
use Rattle.distances.specs.Near.{classified, is_near, is_none}

-- what is told of a distance that is a number is near or far
told-number : (b : Bool) → cond b Near Far ≡ NoNumber → ⊥
told-number true e = true≢false (sym (ap is_none e))
told-number false e = true≢false (sym (ap is_none e))

-- no number exactly if the distance is NaN, whatever the tolerance
pub none_exactly : (d symprec : Float) → (classified d symprec ≡ NoNumber) ↔ (d ≡ nan)
unfolding is_nan
none_exactly nan s = (λ _. refl, λ _. refl)
none_exactly (inf t) s = (λ e. absurd (told-number (lt (inf t) s) e), λ e. absurd (true≢false (sym (ap is_nan e))))
none_exactly (fin t m k) s = (λ e. absurd (told-number (lt (fin t m k) s) e), λ e. absurd (true≢false (sym (ap is_nan e))))

-- against a NaN tolerance every other distance is far
pub no_tolerance : (d : Float) → (d ≡ nan → ⊥) → classified d nan ≡ Far
unfolding is_nan lt
no_tolerance nan h = absurd (h refl)
no_tolerance (inf t) h = refl
no_tolerance (fin t m k) h = refl

-- an infinite distance is far, from an infinite tolerance too
pub infinite-far : (symprec : Float) → classified (inf false) symprec ≡ Far
unfolding is_nan lt
infinite-far nan = refl
infinite-far (inf true) = refl
infinite-far (inf false) = refl
infinite-far (fin t m k) = refl

near-or-far : (b : Bool) → b ≡ is_near (cond b Near Far)
near-or-far true = refl
near-or-far false = refl

-- near exactly if the distance is below the tolerance; a distance that is no number is below none
pub near-told : (d symprec : Float) → lt d symprec ≡ is_near (classified d symprec)
unfolding is_nan lt
near-told nan s = refl
near-told (inf t) s = near-or-far (lt (inf t) s)
near-told (fin t m k) s = near-or-far (lt (fin t m k) s)
