use mathlib.Core.Path.{◌≡◌, refl}
use mathlib.Core.Bool.{true}
use Prim.Native.Nat.{ℕ, ◌<◌, ◌≤◌}
use borrow.Author.Tests.{le-ltb, lt-ltb}
use Rattle.distribute.specs.Fc2.{counts_above_fc2}
use Rattle.lists.specs.Tests.{or-last}
use Rattle.distribute.proofs.fc2.counts_above.Goals as goal

-- the fact that an edit of the test for it breaks
many-first : (num_pos num_first num_rot lengthList : ℕ) → num_pos ≤ 1024 → 1024 < num_first → true ≡ counts_above_fc2 num_pos num_first num_rot lengthList
many-first num_pos num_first num_rot lengthList h g = simp (le-ltb _ _ h, lt-ltb _ _ g)

pub returns-then-num_pos-gt-LIMIT2 : goal.returns-then-num_pos-gt-LIMIT2
returns-then-num_pos-gt-LIMIT2 c = simp (lt-ltb _ _ c.if-num_pos-gt-LIMIT2.true)

pub returns-then-num_first-gt-LIMIT2 : goal.returns-then-num_first-gt-LIMIT2
returns-then-num_first-gt-LIMIT2 c = let a = c.args in many-first a.num_pos a.num_first a.num_rot a.list_length c.if-num_pos-gt-LIMIT2.false c.if-num_first-gt-LIMIT2.true

pub returns-then-num_rot-gt-LIMIT_LIST : goal.returns-then-num_rot-gt-LIMIT_LIST
returns-then-num_rot-gt-LIMIT_LIST c = simp (le-ltb _ _ c.if-num_pos-gt-LIMIT2.false, le-ltb _ _ c.if-num_first-gt-LIMIT2.false, lt-ltb _ _ c.if-num_rot-gt-LIMIT_LIST.true)

pub returns : goal.returns
returns c = let l = le-ltb 1024 in simp (l _ c.if-num_pos-gt-LIMIT2.false, l _ c.if-num_first-gt-LIMIT2.false, l _ c.if-num_rot-gt-LIMIT_LIST.false) (or-last _ refl)
