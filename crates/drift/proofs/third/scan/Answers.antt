use Prim.Native.Nat.{◌*◌}
use native.Mathlib.Omega.{arith}
use mathlib.Core.Path.{ap, ◌∙◌}
use Rattle.drift.specs.Lines.{look_leg, scanned3, square}
use Rattle.drift.proofs.ThirdLaws.{apart-third, apart-second, apart-first}
use Rattle.drift.proofs.third.scan.Goals as goal

pub look_leg-third-requires : goal.look_leg-third-requires
look_leg-third-requires c = let p = c.requires in (apart-third p.0 p.1, omega arith)

pub overflow_mul-n : goal.overflow_mul-n
overflow_mul-n c = let g = square c.args.n c.requires.0 in omega arith

pub overflow_mul-n-2 : goal.overflow_mul-n-2
overflow_mul-n-2 c = let g = square c.args.n c.requires.0 in omega arith

pub look_leg-second-requires : goal.look_leg-second-requires
look_leg-second-requires c = let p = c.requires in let g = square c.args.n p.0 in (apart-second p.0 p.1, omega arith)

pub overflow_mul-n-3 : goal.overflow_mul-n-3
overflow_mul-n-3 c = let g = square c.args.n c.requires.0 in omega arith

pub overflow_mul-n-4 : goal.overflow_mul-n-4
overflow_mul-n-4 c = let g = square c.args.n c.requires.0 in omega arith

pub overflow_mul-n-5 : goal.overflow_mul-n-5
overflow_mul-n-5 c = let g = square c.args.n c.requires.0 in omega arith

pub look_leg-requires : goal.look_leg-requires
look_leg-requires c = let p = c.requires in let g = square c.args.n p.0 in (apart-first p.0 p.1, omega arith)

pub returns : goal.returns
unfolding scanned3
returns c =
    let a = c.args in
    let n = a.n in
    c.look_leg.ensures
    ∙ ap (look_leg n (n * n) (n * n * 6) a.fc.now)
    (c.look_leg-second.ensures ∙ ap (look_leg n n (n * n * 3) a.fc.now) (c.look_leg-third.ensures ∙ ap (look_leg n 1 0 a.fc.now) c.start.ensures))
