-- `rotate_delta_fc2s` and `rotate_delta_fc3s` (document 01, "Third and fourth order"): one definition over m, the number of atoms of a block
-- of the deltas, 2 or 3. Definitions only.
use Rattle.std.specs.Prelude.{Ok, List, [], ◌∷◌, Bool, ◌||◌, ℕ, zero, suc, ◌+◌, ◌*◌, ◌/◌, ◌%◌, ◌^◌, ℤ, length, get_or, replicate, Float}
use Rattle.std.specs.Float.{nan, binary64}
use Rattle.std.specs.Float.Ieee.{add, mul}
use Rattle.lists.specs.Tab.{tab, times}
use Rattle.blocks.specs.Block.{block}
use Rattle.lists.specs.Floats.{plus_zero}
use Rattle.rotations.specs.Rotation.{rotated}
use Rattle.tables.specs.Answers.{Answer}
use Rattle.tables.specs.declared.Refusal.TheVariants.{CountAboveLimit, WrongLength, IndexOutOfRange}
use Rattle.tables.specs.Answers.{after, refuse_if}
use Rattle.tables.specs.Conditions.{any_above, any_wrong, out_of_range, index_at}
use Rattle.tables.specs.Lengths.{set_length}
use Rattle.tables.specs.Limits.{limit3, limit4, limit_list}

-- What a call brings beside the result and the work slice. deltas has one set for each displacement, one after the other. Site symmetry s has
-- the nine numbers of block s of siteSymCart, and sends atom a to rotMapSyms[s * numAtom + a]. invU has three rows of `delta_total` numbers.
pub record Deltas : Type 0 where
  pub deltas : List Float
  pub inv_u : List Float
  pub site_sym_cart : List Float
  pub rot_map_syms : List ℤ
  pub num_atom : ℕ
  pub num_site_sym : ℕ
  pub num_disp : ℕ

abbrev pub deltas_of : List Float → List Float → List Float → List ℤ → ℕ → ℕ → ℕ → Deltas
deltas_of deltas inv_u site_sym_cart rot_map_syms num_atom num_site_sym num_disp = record {
  deltas = deltas;
  inv_u = inv_u;
  site_sym_cart = site_sym_cart;
  rot_map_syms = rot_map_syms;
  num_atom = num_atom;
  num_site_sym = num_site_sym;
  num_disp = num_disp;
}

-- one for each pair of a displacement and a site symmetry: pair n is displacement n / numSiteSym with site symmetry n % numSiteSym
abbrev pub delta_total : Deltas → ℕ
delta_total D = D.num_disp * D.num_site_sym

-- ---- the result

-- The block of the deltas that pair n brings to block b: that of its displacement, for the images of b's atoms. The last atom of block b is
-- b % numAtom, and the others are the atoms of b / numAtom.
unfoldable pub delta_source : Deltas → ℕ → ℕ → ℕ → ℕ
delta_source D n zero b = n / D.num_site_sym
delta_source D n (suc m) b = delta_source D n m (b / D.num_atom) * D.num_atom + index_at D.rot_map_syms (n % D.num_site_sym * D.num_atom + b % D.num_atom)

-- that block rotated by the pair's site symmetry on each leg
unfoldable pub rotated_delta : Deltas → ℕ → ℕ → ℕ → List Float
rotated_delta D m n b = rotated (block 9 (n % D.num_site_sym) D.site_sym_cart) m (block (3 ^ m) (delta_source D n m b) D.deltas)

-- Row k of invU times the numbers at place p of the rotated blocks, of the first t pairs: summed from 0.0, pair after pair.
unfoldable pub summed : Deltas → ℕ → ℕ → ℕ → ℕ → ℕ → Float
summed D m t b k p = times t (λ n s. add binary64 s (mul binary64 (get_or D.inv_u (k * delta_total D + n) nan) (get_or (rotated_delta D m n b) p nan))) plus_zero

-- Number p of block b of the result: it has 3 ^ m numbers for each first direction, the direction of the displaced atom.
abbrev pub number_in : Deltas → ℕ → ℕ → ℕ → ℕ → Float
number_in D m t b p = summed D m t b (p / 3 ^ m) (p % 3 ^ m)

-- number q of the result
abbrev pub number : Deltas → ℕ → ℕ → Float
number D m q = number_in D m (delta_total D) (q / (3 * 3 ^ m)) (q % (3 * 3 ^ m))

-- the whole result, the slab of one first atom; without a pair it is +0.0 everywhere
unfoldable pub rotated_deltas : Deltas → ℕ → List Float
rotated_deltas D m = tab (set_length 1 D.num_atom m) (number D m)

-- ---- refusals

-- 1
abbrev pub delta_counts_above : ℕ → ℕ → ℕ → ℕ → Bool
delta_counts_above limit num_atom num_site_sym num_disp = any_above limit (num_atom ∷ []) || any_above limit_list (num_site_sym ∷ num_disp ∷ [])

-- 2: the length of each slice and the one stated for it, `stated` for the result; a block of the deltas has w numbers, and there are b of them
-- for each displacement
abbrev pub delta_lengths : Deltas → ℕ → ℕ → ℕ → ℕ → ℕ → List (ℕ × ℕ)
delta_lengths D stated b w lengthResult lengthWork =
    (lengthResult, stated)
    ∷ (length D.deltas, D.num_disp * b * w)
    ∷ (length D.inv_u, 3 * delta_total D)
    ∷ (length D.site_sym_cart, D.num_site_sym * 9)
    ∷ (length D.rot_map_syms, D.num_site_sym * D.num_atom)
    ∷ (lengthWork, delta_total D * w)
    ∷ []

unfoldable pub judged_deltas : ℕ → ℕ → Deltas → ℕ → ℕ → Answer
judged_deltas limit m D lengthResult lengthWork =
    refuse_if (delta_counts_above limit D.num_atom D.num_site_sym D.num_disp) CountAboveLimit
    (refuse_if (any_wrong (delta_lengths D (set_length 1 D.num_atom m) (D.num_atom ^ m) (3 ^ m) lengthResult lengthWork)) WrongLength
    (refuse_if (out_of_range D.num_atom D.rot_map_syms) IndexOutOfRange (Ok tt)))

-- ---- the calls: the answer, the result and the work slice

unfoldable pub rotate_delta : ℕ → ℕ → Deltas → List Float → List Float → Answer × List Float × List Float
rotate_delta limit m D result work =
    let a = judged_deltas limit m D (length result) (length work) in
    (a, after a (rotated_deltas D m) result, after a (replicate (length work) plus_zero) work)

abbrev pub rotate_delta_fc2s : Deltas → List Float → List Float → Answer × List Float × List Float
rotate_delta_fc2s = rotate_delta limit3 2

abbrev pub rotate_delta_fc3s : Deltas → List Float → List Float → Answer × List Float × List Float
rotate_delta_fc3s = rotate_delta limit4 3
