-- `distribute_fc2` (document 01, "Second order"). Definitions only.
use Rattle.std.specs.Prelude.{Ok, List, [], ◌∷◌, Bool, cond, not, ◌&&◌, ◌||◌, ℕ, zero, suc, ◌+◌, ◌*◌, eqb, ℤ, pos, length, replicate, Float}
use Rattle.lists.specs.Tab.{times}
use Rattle.lists.specs.Tests.{some}
use Rattle.blocks.specs.Block.{block, put_block}
use Rattle.lines.specs.Sums3x3.{added}
use Rattle.blocks.specs.Block9.{transposed9}
use Rattle.rotations.specs.Rotation.{rotated}
use Rattle.tables.specs.Answers.{Answer}
use Rattle.tables.specs.declared.Refusal.TheVariants.{CountAboveLimit, WrongLength, IndexOutOfRange, BadRepresentative}
use Rattle.tables.specs.Answers.{after, refuse_if}
use Rattle.tables.specs.Conditions.{any_above, any_wrong, out_of_range, index_at}
use Rattle.tables.specs.Lengths.{set_length}
use Rattle.tables.specs.Limits.{limit2, limit_list}

-- What a call brings beside the set, the work slice and the counts num_first and num_rot. Position i of the list is atom atomList[i], and the set has its blocks in row
-- fcIndices[i]. Atom a is represented by atom mapAtoms[a], to which rotation mapSyms[a] sends it. Rotation s has the nine numbers of block s
-- of rCarts, and sends atom a to permutations[s * numPos + a]. (That mapSyms and permutations agree in this is not asked of them.)
pub record Distribution : Type 0 where
  pub atom_list : List ℤ
  pub fc_indices : List ℤ
  pub r_carts : List Float
  pub permutations : List ℤ
  pub map_atoms : List ℤ
  pub map_syms : List ℤ
  pub num_pos : ℕ

abbrev pub distribution : List ℤ → List ℤ → List Float → List ℤ → List ℤ → List ℤ → ℕ → Distribution
distribution atom_list fc_indices r_carts permutations map_atoms map_syms num_pos = record {
  atom_list = atom_list;
  fc_indices = fc_indices;
  r_carts = r_carts;
  permutations = permutations;
  map_atoms = map_atoms;
  map_syms = map_syms;
  num_pos = num_pos;
}

-- ---- what is added to each block

-- block `target` of the set with f of block `source` added; the source is read before the target is written, and it may be the target
unfoldable pub add_block : (List Float → List Float) → ℕ → ℕ → List Float → List Float
add_block f target source fc = put_block 9 target (added (block 9 target fc) (f (block 9 source fc))) fc

-- the blocks of one row, from those of another (or the same) row, block after block: rotation s of the atom that it sends the other atom to.
-- The rotated block is RᵀPR: the rotation's transpose on both legs.
unfoldable pub add_row : List Float → List ℤ → ℕ → ℕ → ℕ → ℕ → List Float → List Float
add_row r_carts permutations num_pos s todoFirst doneFirst =
    times num_pos (λ other. add_block (rotated (transposed9 (block 9 s r_carts)) 2) (todoFirst * num_pos + other) (doneFirst * num_pos + index_at permutations (s * num_pos + other)))

-- the last of the first n positions of a list that holds a; 0 if none does
unfoldable pub last_listed : List ℤ → ℕ → ℕ → ℕ
last_listed t zero a = 0
last_listed t (suc n) a = cond (eqb (index_at t n) a) n (last_listed t n a)

-- position i of the list: nothing for an atom that represents itself; of repeated representatives the last holds
unfoldable pub distribute_atom : Distribution → ℕ → List Float → List Float
distribute_atom D i fc =
    let todo = index_at D.atom_list i in
    let done = index_at D.map_atoms todo in
    let doneFirst = index_at D.fc_indices (last_listed D.atom_list (length D.atom_list) done) in
    cond (eqb todo done) fc (add_row D.r_carts D.permutations D.num_pos (index_at D.map_syms todo) (index_at D.fc_indices i) doneFirst fc)

-- the list's positions in order
unfoldable pub distributed_fc2 : Distribution → List Float → List Float
distributed_fc2 D = times (length D.atom_list) (distribute_atom D)

-- ---- refusals

-- the list holds a
unfoldable pub listed_atom : List ℤ → ℕ → Bool
listed_atom t a = some (length t) (λ i. eqb (index_at t i) a)

-- the representative of the atom at position i is itself a listed atom that represents itself
unfoldable pub represented : List ℤ → List ℤ → ℕ → Bool
represented atom_list map_atoms i =
    let done = index_at map_atoms (index_at atom_list i) in
    eqb (index_at map_atoms done) done && listed_atom atom_list done

-- 5: of a listed atom that does not hold
unfoldable pub bad_representative : List ℤ → List ℤ → Bool
bad_representative atom_list map_atoms = some (length atom_list) (λ i. not (represented atom_list map_atoms i))

-- 1; atomList's own length counts as the list length
abbrev pub counts_above_fc2 : ℕ → ℕ → ℕ → ℕ → Bool
counts_above_fc2 num_pos num_first num_rot lengthList = any_above limit2 (num_pos ∷ num_first ∷ []) || any_above limit_list (num_rot ∷ lengthList ∷ [])

-- 2: the length of each slice and the one stated for it
abbrev pub lengths_fc2 : Distribution → ℕ → ℕ → ℕ → ℕ → List (ℕ × ℕ)
lengths_fc2 D num_first num_rot lengthFc lengthWork =
    (lengthFc, set_length num_first D.num_pos 1)
    ∷ (length D.fc_indices, length D.atom_list)
    ∷ (length D.r_carts, num_rot * 9)
    ∷ (length D.permutations, num_rot * D.num_pos)
    ∷ (length D.map_atoms, D.num_pos)
    ∷ (length D.map_syms, D.num_pos)
    ∷ (lengthWork, D.num_pos)
    ∷ []

-- 3
abbrev pub entries_out : List ℤ → List ℤ → List ℤ → List ℤ → List ℤ → ℕ → ℕ → ℕ → Bool
entries_out atom_list fc_indices permutations map_atoms map_syms num_pos num_first num_rot =
    out_of_range num_pos atom_list
    || (out_of_range num_first fc_indices || (out_of_range num_pos permutations || (out_of_range num_pos map_atoms || out_of_range num_rot map_syms)))

unfoldable pub judged_distribute_fc2 : Distribution → ℕ → ℕ → ℕ → ℕ → Answer
judged_distribute_fc2 D num_first num_rot lengthFc lengthWork =
    refuse_if (counts_above_fc2 D.num_pos num_first num_rot (length D.atom_list)) CountAboveLimit
    (refuse_if (any_wrong (lengths_fc2 D num_first num_rot lengthFc lengthWork)) WrongLength
    (refuse_if (entries_out D.atom_list D.fc_indices D.permutations D.map_atoms D.map_syms D.num_pos num_first num_rot) IndexOutOfRange
    (refuse_if (bad_representative D.atom_list D.map_atoms) BadRepresentative (Ok tt))))

-- ---- the call: the answer, the set and the work slice

unfoldable pub distribute_fc2 : Distribution → ℕ → ℕ → List Float → List ℤ → Answer × List Float × List ℤ
distribute_fc2 D num_first num_rot fc work =
    let a = judged_distribute_fc2 D num_first num_rot (length fc) (length work) in
    (a, after a (distributed_fc2 D fc) fc, after a (replicate D.num_pos (pos 0)) work)
