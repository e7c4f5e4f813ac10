use Rattle.std.specs.Prelude.{Err}
use mathlib.Core.Path.{◌≡◌}
use Prim.Native.Nat.{ℕ, ◌*◌, ◌≤◌}
use borrow.Author.Tests.{lt-ltb, le-ltb, eq-eqb, ne_eqb}
use Rattle.tables.specs.declared.Refusal.TheVariants.{WrongLength}
use Rattle.matching.specs.Matching.{judged_matching}
use Rattle.matching.proofs.cells.judge_matching.Goals as goal

-- the fact that an edit of the test for it breaks
other_length : (lenSlots lenPos lenRot n : ℕ) → n ≤ 1024 → lenSlots ≡ n → lenPos ≡ 3 * n → (lenRot ≡ 3 * n → ⊥) → Err WrongLength ≡ judged_matching lenSlots lenPos lenRot n
unfolding judged_matching
other_length s p r n h1 h2 h3 h4 = simp (le-ltb _ _ h1, eq-eqb _ _ h2, eq-eqb _ _ h3, ne_eqb _ _ h4)

pub returns-then-num_pos-gt-LIMIT2 : goal.returns-then-num_pos-gt-LIMIT2
unfolding judged_matching
returns-then-num_pos-gt-LIMIT2 c = simp (lt-ltb _ _ c.if-num_pos-gt-LIMIT2.true)

pub returns-then-len_slots-num_pos : goal.returns-then-len_slots-num_pos
unfolding judged_matching
returns-then-len_slots-num_pos c = simp (le-ltb _ _ c.if-num_pos-gt-LIMIT2.false, ne_eqb _ _ c.if-len_slots-num_pos.true)

pub returns-then-len_pos-num_pos : goal.returns-then-len_pos-num_pos
unfolding judged_matching
returns-then-len_pos-num_pos c = simp (le-ltb _ _ c.if-num_pos-gt-LIMIT2.false, eq-eqb _ _ c.if-len_slots-num_pos.false, ne_eqb _ _ c.if-len_pos-num_pos.true)

pub returns-then-len_rot-num_pos : goal.returns-then-len_rot-num_pos
returns-then-len_rot-num_pos c =
    let a = c.args in
    other_length a.len_slots a.len_pos a.len_rot a.num_pos c.if-num_pos-gt-LIMIT2.false c.if-len_slots-num_pos.false c.if-len_pos-num_pos.false c.if-len_rot-num_pos.true

pub returns : goal.returns
unfolding judged_matching
returns c = simp (le-ltb _ _ c.if-num_pos-gt-LIMIT2.false, eq-eqb _ _ c.if-len_slots-num_pos.false, eq-eqb _ _ c.if-len_pos-num_pos.false, eq-eqb _ _ c.if-len_rot-num_pos.false)
