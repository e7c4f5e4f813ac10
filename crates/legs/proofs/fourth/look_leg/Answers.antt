use Prim.Native.Nat.{ℕ, ◌+◌, ◌*◌, ◌-◌, ◌<◌}
use native.Mathlib.Omega.{arith}
use native.Mathlib.Nat.{mul-le-mul}
use mathlib.Core.Path.{◌≡◌, ap, ◌∙◌, subst}
use lib.ListN.{length}
use Rattle.lists.specs.Tab.{times, times_none, times_more}
use Rattle.lists.specs.Digits.{times_power}
use Rattle.tables.specs.Compact.{ShiftTables, shifts_of, given}
use Rattle.legs.specs.Laws.{leg_block, line_seen, leg_seen, look_is, length-sums}
use Rattle.legs.proofs.fourth.look_leg.Goals as goal

zero_more : (x : ℕ) → x + 0 ≡ x
zero_more x = omega arith

power : (n : ℕ) → n * n * n ≡ times_power n 3 1
unfolding times_power
power n = let e : 1 * n ≡ n = omega arith in rw e

pub overflow_mul-count : goal.overflow_mul-count
overflow_mul-count c = let h = c.requires.0.fit.satoms in let g = mul-le-mul h h in omega arith

pub overflow_mul-count-2 : goal.overflow_mul-count-2
overflow_mul-count-2 c = let h = c.requires.0.fit.satoms in let g = mul-le-mul (mul-le-mul h h) h in omega arith

pub loop-t-init : goal.loop-t-init
loop-t-init c = times_none _ _

pub overflow_sub-e : goal.overflow_sub-e
overflow_sub-e c = let h = c.requires.1 in omega arith

pub leg_sums-sums-requires : goal.leg_sums-sums-requires
leg_sums-sums-requires c = (c.requires.0, omega (arith, c.requires.1), subst (λ (x : ℕ). c.loop-t.t < x) (power c.args.tables.now.n_satom) c.loop-t-test.true)

pub index_of-requires : goal.index_of-requires
index_of-requires c =
    let h = c.requires.0.fit.satoms in
    let g = mul-le-mul (mul-le-mul h h) h in
    let k = mul-le-mul c.requires.1 g in
    let l = c.loop-t-test.true in
    omega arith

pub index_of-first-requires : goal.index_of-first-requires
index_of-first-requires c =
    let h = c.requires.0.fit.satoms in
    let g = mul-le-mul (mul-le-mul h h) h in
    let k = mul-le-mul c.requires.1 g in
    let l = c.loop-t-test.true in
    let e = c.index_of.ensures in
    omega arith

pub look_numbers-seen-requires : goal.look_numbers-seen-requires
look_numbers-seen-requires c =
    let a = c.args in
    let T : ShiftTables = given a.tables.now in
    let h = c.requires.0.fit.satoms in
    let g = mul-le-mul (mul-le-mul h h) h in
    let k = mul-le-mul c.requires.1 g in
    let l = c.loop-t-test.true in
    let e = c.index_of.ensures in
    let f = c.index_of-first.ensures in
    let z = ap length c.leg_sums-sums.ensures ∙ length-sums 81 (leg_block (shifts_of T) 3 (3 - a.e) c.loop-t.t) a.tables.now.n_satom a.fc.now in
    omega arith

pub loop-t-preserved : goal.loop-t-preserved
loop-t-preserved c =
    let a = c.args in
    let T : ShiftTables = given a.tables.now in
    let l = c.loop-t in
    let e : c.index_of-first.result ≡ (a.e * times_power a.tables.now.n_satom 3 1 + l.t) * 81 =
    c.index_of-first.ensures ∙ zero_more _ ∙ ap (λ x. x * 81) (c.index_of.ensures ∙ ap (λ x. a.e * x + l.t) (power a.tables.now.n_satom)) in
    times_more l.t _ _ l.invariant (c.look_numbers-seen.ensures ∙ look_is (shifts_of T) 3 a.fc.now 81 a.e l.t l.seen e c.leg_sums-sums.ensures)

pub returns : goal.returns
unfolding leg_seen
returns c =
    let a = c.args in
    let T : ShiftTables = given a.tables.now in
    let l = c.loop-t in
    let i : l.t ≡ a.tables.now.n_satom * a.tables.now.n_satom * a.tables.now.n_satom = omega arith in
    l.invariant ∙ ap (λ k. times k (line_seen (shifts_of T) 3 a.fc.now 81 a.e) a.seen0) (i ∙ power a.tables.now.n_satom)
