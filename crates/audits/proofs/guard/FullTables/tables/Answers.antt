use Rattle.std.proofs.Common.{◌≡◌, ap, ap₂, ◌∙◌, arith, ℕ, ◌-◌, take}
use Rattle.tables.specs.Compact.{shift_tables}
use Rattle.audits.specs.Guard.{counted, noughts, full_tables, part-counted, part-noughts}
use Rattle.audits.proofs.guard.FullTables.tables.Goals as goal

from_nought : (n : ℕ) → n ≡ n - 0
from_nought n = omega arith

pub returns : goal.returns
returns c =
    let v = c.self.inside in
    let n = v.n_atoms in
    let i = c.self.invariant in
    let x : take n v.numbers ≡ counted n = ap (take n) i.1 ∙ ap (λ k. take k (counted 1024)) (from_nought n) ∙ part-counted 1024 n i.0 in
    let y : take n v.noughts ≡ noughts n = ap (take n) i.2 ∙ ap (λ k. take k (noughts 1024)) (from_nought n) ∙ part-noughts 1024 n i.0 in
    ap₂ (λ x y. shift_tables x x y x n n 1) x y ∙ ap full_tables c.self.view_is
