use mathlib.Core.Path.{◌≡◌, sym, ap, ◌∙◌, subst}
use mathlib.Core.Bool.{Bool, cond}
use Prim.Native.Nat.{ℕ, ◌-◌, ◌%◌, ◌^◌, ◌<◌}
use native.Mathlib.Nat.{lt_of_le_of_lt, lt_of_lt_of_le, mod-eq_of_lt}
use borrow.Author.Tests.{lt-leb, le-leb}
use lib.Dec.{T, lit≤}
use lib.IntN.{pos, neg_ℤ}
use lib.Ieee.{binary64, fits, to_bits}
use Rattle.common.specs.Whole.{nint}
use Rattle.common.specs.Laws.Fields.{sign_of}
use Rattle.common.proofs.Wholes.{no_nan}
use Rattle.common.proofs.Integers.{signed, large_size, nint_nan, nint-small, nint-large, large_lt, nint_end, plus_is, minus-small, minus-out}
use Rattle.common.proofs.nint.Goals as goal
use Rattle.common.proofs.nint.Goals.{Joined-e-lt1075, then-e-lt1075, else-e-lt1075}

pub returns-then-x : goal.returns-then-x
returns-then-x c = nint_nan c.args.x c.if-x.true

pub float_to_bits-b : goal.float_to_bits-b
float_to_bits-b c = no_nan c.args.x c.if-x.false

-- from 2 ^ 63 on
pub returns-then-b-ge9223372036854775808 : goal.returns-then-b-ge9223372036854775808
returns-then-b-ge9223372036854775808 c =
    sym
    (
    nint_end c.args.x (subst T (sym c.well_formed.0.1) tt) (no_nan c.args.x c.if-x.false) c.if-e-ge1086.true
    ∙ ap (λ (s : Bool). cond s (neg_ℤ (pos (2 ^ 63))) (pos (2 ^ 63 - 1))) (le-leb (2 ^ 63) (to_bits binary64 c.args.x) c.if-b-ge9223372036854775808.true)
    )

pub returns-else-b-ge9223372036854775808 : goal.returns-else-b-ge9223372036854775808
returns-else-b-ge9223372036854775808 c =
    sym
    (
    nint_end c.args.x (subst T (sym c.well_formed.0.1) tt) (no_nan c.args.x c.if-x.false) c.if-e-ge1086.true
    ∙ ap (λ (s : Bool). cond s (neg_ℤ (pos (2 ^ 63))) (pos (2 ^ 63 - 1))) (lt-leb (2 ^ 63) (to_bits binary64 c.args.x) c.if-b-ge9223372036854775808.false)
    )

-- below that: n is the size, and fits
sized : (c : Joined-e-lt1075) → (c.if-e-lt1075.n < 2 ^ 63) × (nint c.args.x ≡ signed (sign_of (to_bits binary64 c.args.x)) c.if-e-lt1075.n)
sized c =
    let held : T (fits binary64 c.args.x) = subst T (sym c.well_formed.0.1) tt in
    let fit : large_size c.args.x held < 2 ^ 63 = large_lt c.args.x held c.if-e-ge1086.false in
    let same : large_size c.args.x held % 2 ^ 64 ≡ large_size c.args.x held = mod-eq_of_lt (lt_of_lt_of_le fit (lit≤ tt)) in
    elim c.if-e-lt1075.branch [
      | then-e-lt1075 w ↦
          subst (λ (k : ℕ). (k < 2 ^ 63) × (nint c.args.x ≡ signed (sign_of (to_bits binary64 c.args.x)) k)) (sym w.n-is)
          (lt_of_le_of_lt w.whole_size-n.ensures.1 (lit≤ tt), nint-small c.args.x held w.whole_size-n.result w.if-e-lt1075.true w.whole_size-n.ensures.0 w.whole_size-n.ensures.1)
      | else-e-lt1075 w ↦
          subst (λ (k : ℕ). (k < 2 ^ 63) × (nint c.args.x ≡ signed (sign_of (to_bits binary64 c.args.x)) k)) (sym (w.n-is ∙ same))
          (fit, nint-large c.args.x held w.if-e-lt1075.false c.if-e-ge1086.false)
    ]

pub overflow_cast-z : goal.overflow_cast-z
overflow_cast-z c = record { sfits = (sized (goal.at.overflow_cast-z c).Joined-e-lt1075).0 }

pub overflow_sub-result-then-b-ge9223372036854775808-2 : goal.overflow_sub-result-then-b-ge9223372036854775808-2
overflow_sub-result-then-b-ge9223372036854775808-2 c =
    record { sfits = minus-small c.if-e-lt1075.n (sized (goal.at.overflow_sub-result-then-b-ge9223372036854775808-2 c).Joined-e-lt1075).0 }

pub returns-then-b-ge9223372036854775808-2 : goal.returns-then-b-ge9223372036854775808-2
returns-then-b-ge9223372036854775808-2 c =
    let h = sized (goal.at.returns-then-b-ge9223372036854775808-2 c).Joined-e-lt1075 in
    minus-out c.if-e-lt1075.n h.0 ∙ sym (h.1 ∙ ap (λ (s : Bool). signed s c.if-e-lt1075.n) (le-leb (2 ^ 63) (to_bits binary64 c.args.x) c.if-b-ge9223372036854775808-2.true))

pub returns-else-b-ge9223372036854775808-2 : goal.returns-else-b-ge9223372036854775808-2
returns-else-b-ge9223372036854775808-2 c =
    let h = sized (goal.at.returns-else-b-ge9223372036854775808-2 c).Joined-e-lt1075 in
    plus_is c.if-e-lt1075.n h.0 ∙ sym (h.1 ∙ ap (λ (s : Bool). signed s c.if-e-lt1075.n) (lt-leb (2 ^ 63) (to_bits binary64 c.args.x) c.if-b-ge9223372036854775808-2.false))
