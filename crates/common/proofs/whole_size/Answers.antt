use mathlib.Core.Path.{◌≡◌}
use mathlib.Core.Logic.{◌⊎◌, inl, inr}
use Prim.Native.Nat.{◌+◌, ◌-◌, ◌^◌, ◌≤◌, ◌<◌}
use native.Mathlib.Nat.{div-le_self}
use native.Mathlib.Omega.{arith}
use Rattle.common.specs.Laws.Fields.{field_of, digits_of, digits_lt}
use Rattle.common.proofs.Wholes.{half_at_lem}
use Rattle.common.proofs.whole_size.Goals as goal
use Rattle.common.proofs.whole_size.Goals.{then-e-lt1011, else-e-lt1011}

pub returns : goal.returns
returns c =
    -- how far q is moved, where the arms meet
    let k_is : ((field_of c.args.b < 1011) × (c.if-e-lt1011.k ≡ 63)) ⊎ ((1011 ≤ field_of c.args.b) × (c.if-e-lt1011.k ≡ 1074 - field_of c.args.b))
    = elim c.if-e-lt1011.branch [ then-e-lt1011 w ↦ inl (w.if-e-lt1011.true, w.k-is) | else-e-lt1011 w ↦ inr (w.if-e-lt1011.false, w.k-is) ] in (
      half_at_lem (field_of c.args.b) (digits_of c.args.b) c.if-e-lt1011.k (digits_lt c.args.b) c.requires k_is,
      omega (arith, digits_lt c.args.b, div-le_self (2 ^ 52 + digits_of c.args.b) (2 ^ c.if-e-lt1011.k)),
    )
