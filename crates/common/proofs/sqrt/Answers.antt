use mathlib.Core.Path.{sym, ◌∙◌, subst}
use Prim.Native.Nat.{ℕ, ◌^◌, ◌≤◌, ◌<◌}
use lib.Dec.{T}
use lib.Ieee.{binary64, fits}
use Rattle.common.specs.Laws.Roots.{at_normal, up_by, whole-shift, at_subnormal}
use Rattle.common.proofs.RootCases.{above_zero, at_infinity, at_zero, at_other}
use Rattle.common.proofs.sqrt.Goals as goal

pub returns-then-e-ge2047 : goal.returns-then-e-ge2047
returns-then-e-ge2047 c = at_infinity c.args.x (subst T (sym c.well_formed.0.1) tt) (above_zero c.args.x c.if-x.true) c.if-e-ge2047.true

pub overflow_sub-z : goal.overflow_sub-z
overflow_sub-z c = (up_by c.args.x (subst T (sym c.well_formed.0.1) tt) (above_zero c.args.x c.if-x.true) c.if-e-eq0.true).0

pub root_float-requires-clause-fact_1 : goal.root_float-requires-clause-fact_1
root_float-requires-clause-fact_1 c =
    let held : T (fits binary64 c.args.x) = subst T (sym c.well_formed.0.1) tt in
    let up = above_zero c.args.x c.if-x.true in
    let h : _ = up_by c.args.x held up c.if-e-eq0.true in
    subst (λ (z : ℕ). 2 ^ 52 ≤ z) (sym (whole-shift c.args.x held up c.if-e-eq0.true)) h.2.1

pub root_float-requires-clause-fact_2 : goal.root_float-requires-clause-fact_2
root_float-requires-clause-fact_2 c =
    let held : T (fits binary64 c.args.x) = subst T (sym c.well_formed.0.1) tt in
    let up = above_zero c.args.x c.if-x.true in
    let h : _ = up_by c.args.x held up c.if-e-eq0.true in
    subst (λ (z : ℕ). z < 2 ^ 53) (sym (whole-shift c.args.x held up c.if-e-eq0.true)) h.2.2

pub returns-then-e-eq0 : goal.returns-then-e-eq0
returns-then-e-eq0 c = c.root_float.ensures ∙ at_subnormal c.args.x (subst T (sym c.well_formed.0.1) tt) (above_zero c.args.x c.if-x.true) c.if-e-eq0.true

pub returns-then-x : goal.returns-then-x
returns-then-x c =
    c.root_float-then-x.ensures ∙ at_normal c.args.x (subst T (sym c.well_formed.0.1) tt) (above_zero c.args.x c.if-x.true) c.if-e-ge2047.false c.if-e-eq0.false

pub returns-then-x-2 : goal.returns-then-x-2
returns-then-x-2 c = at_zero c.args.x c.if-x-2.true

pub returns : goal.returns
returns c = at_other c.args.x c.if-x.false c.if-x-2.false
