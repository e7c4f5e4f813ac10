-- The crystal report: how far a set is from obeying the crystal's own operations. Operation r is a 3 by 3 Cartesian matrix, nine numbers of r_carts, row
-- after row, and a map of the atoms: it sends atom a to operations[r × n_satom + a]. A set obeys it if the read-out at the images of any atoms is the block
-- of the atoms, rotated by the matrix. One definition for every rank: a set of second, third or fourth order has m + 1 legs, m = 1, 2, 3.
-- Definitions only.
use Rattle.tables.specs.declared.Refusal.{Refusal}
use Rattle.std.specs.Prelude.{Ok, Result, cond, List, [], ◌∷◌, map, ℕ, suc, ◌+◌, ◌*◌, ◌/◌, ◌%◌, eqb, leb, ℤ, length, get_or, Float}
use Rattle.std.specs.Float.{nan, binary64}
use Rattle.std.specs.Float.Ieee.{sub}
use Rattle.blocks.specs.Block.{block}
use Rattle.tables.specs.Answers.{Answer}
use Rattle.tables.specs.declared.Refusal.TheVariants.{CountAboveLimit, WrongLength, IndexOutOfRange}
use Rattle.tables.specs.Answers.{refuse_if, number_of}
use Rattle.tables.specs.Conditions.{any_above, any_wrong, out_of_range, index_at}
use Rattle.tables.specs.Shifts.{Shifts}
use Rattle.tables.specs.Full.{judged_full}
use Rattle.tables.specs.Compact.{ShiftTables, shifts_of, judged_set}
use Rattle.places.specs.Places.{Leg, atom, dir, legs_at, place, read_out, size, in_block, full_shifts}
use Rattle.rotations.specs.Rotation.{rotated}
use Rattle.reports.specs.declared.Report.{Report}
use Rattle.reports.specs.Report.{report, reported_after}

-- where operation r sends atom a
abbrev pub image : ℕ → List ℤ → ℕ → ℕ → ℕ
image n operations r a = index_at operations (r * n + a)

module _ (S : Shifts) (m : ℕ) (r_carts : List Float) (operations : List ℤ) (set : List Float) where
  -- the legs whose number stands at address q, at the images of their atoms
  unfoldable pub image_legs : ℕ → ℕ → List Leg
  image_legs r q = map (λ x. (image S.n_satom operations r (atom x), dir x)) (legs_at S (place S m q))

  -- the read-out at the images, minus the number of the rotated block
  unfoldable pub deviation : ℕ → ℕ → Float
  deviation r q =
      let w = in_block m in
      sub binary64 (read_out nan S set (image_legs r q)) (get_or (rotated (block 9 r r_carts) (suc m) (block w (q / w) set)) (q % w) nan)

  -- the places in order: the operation, then the address
  abbrev pub deviation_at : ℕ → Float
  deviation_at z = deviation (z / size S m) (z % size S m)

  abbrev pub crystal_report : ℕ → Report
  crystal_report num_rot = report (num_rot * size S m) deviation_at

-- ---- refusals

-- 1, 2 and 3 of num_rot operations on n atoms
unfoldable pub judged_operations : ℕ → ℕ → ℕ → List ℤ → Answer
judged_operations n num_rot lenCarts operations =
    refuse_if (any_above 1024 (num_rot ∷ [])) CountAboveLimit
    (refuse_if (any_wrong ((lenCarts, num_rot * 9) ∷ ((length operations, num_rot * n) ∷ []))) WrongLength
    (refuse_if (out_of_range n operations) IndexOutOfRange (Ok tt)))

-- of two answers the refusal that comes first, the one with the lower number
unfoldable pub earlier : Answer → Answer → Answer
earlier a b = cond (eqb (number_of a) 0) b (cond (eqb (number_of b) 0) a (cond (leb (number_of a) (number_of b)) a b))

-- ---- the calls: of a compact set, and of a full set, in which every atom is its own representative

unfoldable pub crystal_report_compact : ℕ → ℕ → List Float → List Float → List ℤ → ShiftTables → ℕ → Result Report Refusal
crystal_report_compact limit m set r_carts operations T num_rot =
    reported_after (earlier (judged_set limit m (length set) [] T) (judged_operations T.n_satom num_rot (length r_carts) operations))
    (crystal_report (shifts_of T) m r_carts operations set num_rot)

unfoldable pub crystal_report_full : ℕ → ℕ → List Float → List Float → List ℤ → ℕ → ℕ → Result Report Refusal
crystal_report_full limit m set r_carts operations n num_rot =
    reported_after (earlier (judged_full limit m (length set) [] n) (judged_operations n num_rot (length r_carts) operations))
    (crystal_report (full_shifts n) m r_carts operations set num_rot)
