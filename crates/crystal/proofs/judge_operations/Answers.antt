use native.Mathlib.Omega.{arith}
use native.Mathlib.Nat.{mul-le-mul}
use mathlib.Core.Path.{◌≡◌, sym, ◌∙◌}
use mathlib.Core.Bool.{true, false}
use borrow.Author.Tests.{lt-ltb, le-ltb, eq-eqb, ne_eqb, not-true, not-false}
use Rattle.tables.specs.Conditions.{out_of_range}
use Rattle.crystal.specs.Crystal.{judged_operations}
use Rattle.crystal.proofs.judge_operations.Goals as goal

pub returns-then-num_rot-gt-MOST : goal.returns-then-num_rot-gt-MOST
unfolding judged_operations
returns-then-num_rot-gt-MOST c = simp (lt-ltb _ _ c.if-num_rot-gt-MOST.true)

pub overflow_mul-num_rot : goal.overflow_mul-num_rot
overflow_mul-num_rot c = let h = c.if-num_rot-gt-MOST.false in omega arith

pub returns-then-carts_len-num_rot : goal.returns-then-carts_len-num_rot
unfolding judged_operations
returns-then-carts_len-num_rot c = simp (le-ltb _ _ c.if-num_rot-gt-MOST.false, ne_eqb _ _ c.if-carts_len-num_rot.true)

pub overflow_mul-num_rot-2 : goal.overflow_mul-num_rot-2
overflow_mul-num_rot-2 c = let h = mul-le-mul c.if-num_rot-gt-MOST.false c.requires in omega arith

pub returns-then-operations-num_rot : goal.returns-then-operations-num_rot
unfolding judged_operations
returns-then-operations-num_rot c = simp (le-ltb _ _ c.if-num_rot-gt-MOST.false, eq-eqb _ _ c.if-carts_len-num_rot.false, ne_eqb _ _ c.if-operations-num_rot.true)

pub returns-then-not-all_below : goal.returns-then-not-all_below
unfolding judged_operations
returns-then-not-all_below c =
    let a = c.args in
    let o : out_of_range a.n a.operations.now ≡ true = not-false (out_of_range a.n a.operations.now) (sym c.all_below.ensures ∙ c.if-not-all_below.true) in
    simp (le-ltb _ _ c.if-num_rot-gt-MOST.false, eq-eqb _ _ c.if-carts_len-num_rot.false, eq-eqb _ _ c.if-operations-num_rot.false, o)

pub returns : goal.returns
unfolding judged_operations
returns c =
    let a = c.args in
    let o : out_of_range a.n a.operations.now ≡ false = not-true (out_of_range a.n a.operations.now) (sym c.all_below.ensures ∙ c.if-not-all_below.false) in
    simp (le-ltb _ _ c.if-num_rot-gt-MOST.false, eq-eqb _ _ c.if-carts_len-num_rot.false, eq-eqb _ _ c.if-operations-num_rot.false, o)
