use Rattle.std.proofs.Common.{ℕ, ◌*◌, ◌^◌, ◌<◌, ◌≤◌, mul-le-mul, arith}
use Rattle.replays.proofs.values.stir.Goals as goal

square : (h : ℕ) → h < 4294967291 → h * h < 2 ^ 64
square h b =
    let e : h ≤ 4294967290 = omega arith in
    let s : h * h ≤ 4294967290 * 4294967290 = mul-le-mul e e in
    omega arith

pub overflow_mul-h : goal.overflow_mul-h
overflow_mul-h c = record { fits = square c.args.h c.requires }
