-- One slab of a set filled from another (`distribute_fc3`, `distribute_fc4`), for every order at once. Definitions only.
-- A block is numbered by its slab and its other k atoms of n, the slab slowest; it has 3 ^ (k + 1) numbers.
use Rattle.std.specs.Prelude.{Ok, List, [], ◌∷◌, map, cond, ℕ, zero, suc, ◌+◌, ◌*◌, ◌/◌, ◌%◌, ◌^◌, eqb, ℤ, length, get_or, Float}
use Rattle.std.specs.Float.{nan}
use Rattle.lists.specs.Tab.{tab, times}
use Rattle.lists.specs.Digits.{horner, rest, digits}
use Rattle.blocks.specs.Block.{block, put_block}
use Rattle.rotations.specs.Rotation.{rotated}
use Rattle.tables.specs.Answers.{Answer}
use Rattle.tables.specs.declared.Refusal.TheVariants.{CountAboveLimit, WrongLength, IndexOutOfRange, BadSlab}
use Rattle.tables.specs.Answers.{after, refuse_if}
use Rattle.tables.specs.Conditions.{any_above, any_wrong, out_of_range, bad_slab, index_at}
use Rattle.tables.specs.Lengths.{set_length}

-- the block that fills block b of the target slab: in the source slab, at the images of b's other atoms
unfoldable pub slab_source : List ℤ → ℕ → ℕ → ℕ → ℕ → ℕ
slab_source mapping n k source b = horner n source (map (index_at mapping) (digits n k b))

-- Every block of the target slab is its source block, rotated on each leg; all other blocks stay.
unfoldable pub distributed : List ℤ → List Float → ℕ → ℕ → ℕ → ℕ → List Float → List Float
distributed mapping rotation n k target source fc =
    let w = 3 ^ suc k in
    tab (length fc) (λ q.
    let b = q / w in
    cond (eqb (rest n k b) target)
    (get_or (rotated rotation (suc k) (block w (slab_source mapping n k source b) fc)) (q % w) nan)
    (get_or fc q nan))

-- refusals 1, 2, 3 and 4, for a set of rank k + 1
unfoldable pub judged_slabs : ℕ → ℕ → ℕ → List ℤ → ℕ → ℕ → ℕ → ℕ → ℕ → Answer
judged_slabs limit k lengthFc mapping n lengthRotation num_first target source =
    refuse_if (any_above limit (n ∷ num_first ∷ [])) CountAboveLimit
    (refuse_if (any_wrong ((lengthFc, set_length num_first n k) ∷ (length mapping, n) ∷ (lengthRotation, 9) ∷ [])) WrongLength
    (refuse_if (out_of_range n mapping) IndexOutOfRange
    (refuse_if (bad_slab num_first target source) BadSlab (Ok tt))))

-- the call: the answer and the set
unfoldable pub distribute_slab : ℕ → ℕ → List Float → ℕ → ℕ → List ℤ → ℕ → List Float → ℕ → Answer × List Float
distribute_slab limit k fc target source mapping n rotation num_first =
    let a = judged_slabs limit k (length fc) mapping n (length rotation) num_first target source in
    (a, after a (distributed mapping rotation n k target source fc) fc)

-- ---- as the code goes: one loop for each other atom

-- block t is f of block s
unfoldable pub move_block : ℕ → (List Float → List Float) → ℕ → ℕ → List Float → List Float
move_block w f t s fc = put_block w t (f (block w s fc)) fc

-- t and s are the numbers of the atoms before the last k
unfoldable pub move : List ℤ → ℕ → ℕ → (List Float → List Float) → ℕ → ℕ → ℕ → List Float → List Float
move mapping n w f zero t s = move_block w f t s
move mapping n w f (suc k) t s = times n (λ i. move mapping n w f k (t * n + i) (s * n + index_at mapping i))
