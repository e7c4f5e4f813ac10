-- The blocks that the walk of fourth order passes are alike if those before them are. Assumes nothing.
use Rattle.std.specs.Prelude.{◌≡◌, ℕ, ◌+◌, ◌-◌, ◌<◌, Float}
use Rattle.std.proofs.Math.Path.{subst}
use Rattle.std.proofs.Common.{arith}
use mathlib.Core.List.{List}
use Rattle.lists.specs.Digits.{times_power}
use Rattle.tables.specs.Shifts.{Shifts, Laws}
use Rattle.places.specs.Permutations.{perms4, twenty_four_group}
use Rattle.audits.specs.Blocks.{AlikeTo}
use Rattle.audits.proofs.PassLaws.{walk, pass-later}
use Rattle.audits.specs.Later.{Next, falls_later}

-- ---- so the blocks that were passed are alike if those before them are

pub walked : (S : Shifts) (L : Laws S) (set : List Float) {b count r : ℕ} → Next S.n_satom b count r → count ≡ times_power S.n_satom 3 S.n_patom
    → AlikeTo S 3 perms4 set b → AlikeTo S 3 perms4 set r
walked S L set {b} {count} {r} p e A =
    let f = p.from in
    let g = p.to in
    let z : b + (r - b) ≡ r = omega arith in
    subst (λ (x : ℕ). AlikeTo S 3 perms4 set x) z
    (walk S 3 perms4 set b (r - b) (λ k h.
    let hb : b + k < times_power S.n_satom 3 S.n_patom = omega (arith, e) in
    let (σ, s, q) = falls_later S L (b + k) hb (p.passed (b + k) (omega arith) (omega arith)) in
    pass-later S L 3 perms4 twenty_four_group set (b + k) hb σ s q) A)
