-- What the code makes of the set that a record replaces another by. Assumes nothing.
use Rattle.std.proofs.Common.{◌≡◌, Bool, true, false, not, cond, ℕ, ◌<◌, eqb, Option, Some, None, IfSome, is_some, refl, sym, ap, ◌∙◌, arith, ne_eqb}
use Rattle.std.specs.Option.{option_or, unwrap_or}
use Rattle.standing.specs.Walk.{set_or_zero}

pub cond_below : (t : Bool) {m k n : ℕ} → m < n → k < n → cond t m k < n
cond_below true h l = h
cond_below false h l = l

-- t is whether the record replaces, m is its own set
module _ (t : Bool) (m : ℕ) where
  abbrev taken : Option ℕ
  taken = cond t (Some m) None

  module _ (o : Option ℕ) {r o' : Option ℕ} (e : r ≡ taken) (f : o' ≡ option_or r o) where
    it-is : o' ≡ option_or taken o
    it-is = f ∙ ap (λ z. option_or z o) e

    pub noted-by : set_or_zero o' ≡ cond t m (set_or_zero o)
    noted-by = ap set_or_zero it-is ∙ go t
      where
        go : (t : Bool) → set_or_zero (option_or (cond t (Some m) None) o) ≡ cond t m (set_or_zero o)
        go true = refl
        go false = refl

    pub small-by : (n : ℕ) → m < n → set_or_zero o < n → set_or_zero o' < n
    small-by n h k = rw noted-by (cond_below t h k)

    pub named-by : 0 < m → IfSome o (λ z. 0 < z) → IfSome o' (λ z. 0 < z)
    named-by h k = rw it-is (go t)
      where
        go : (t : Bool) → IfSome (option_or (cond t (Some m) None) o) (λ z. 0 < z)
        go true = h
        go false = k

  pub moved-by : (y : ℕ) {r : Option ℕ} {z : ℕ} → r ≡ taken → z ≡ unwrap_or r y → z ≡ cond t m y
  moved-by y e f = f ∙ ap (λ o. unwrap_or o y) e ∙ go t
    where
      go : (t : Bool) → unwrap_or (cond t (Some m) None) y ≡ cond t m y
      go true = refl
      go false = refl

-- a set that nothing replaced
pub none-is-zero : (o : Option ℕ) (r : Bool) → is_some o ≡ not r → IfSome o (λ m. 0 < m) → r ≡ eqb (set_or_zero o) 0
none-is-zero None true e p = refl
none-is-zero None false e p = cc
none-is-zero (Some m) true e p = cc
none-is-zero (Some m) false e p = sym (ne_eqb m 0 (λ z. omega (arith, z, p)))
