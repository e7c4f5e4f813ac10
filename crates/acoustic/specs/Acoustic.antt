-- The acoustic sum rule and the permutations of the legs together, over the rank: each leg's drift is taken off, then the set is symmetrized, level
-- by level. A set of third or fourth order has m + 1 legs, m = 2, 3; a full set is a compact set in which every atom is its own representative.
-- Definitions only.
use Rattle.std.specs.Prelude.{List, [], ◌∷◌, ℕ, zero, suc, ◌*◌, ◌-◌, ◌/◌, ◌%◌, ◌^◌, ltb, length, get_or, replicate, Float}
use Rattle.std.specs.Float.{nan, binary64}
use Rattle.std.specs.Float.Ieee.{sub, mul}
use Rattle.lists.specs.Tab.{tab, times}
use Rattle.lists.specs.Floats.{plus_zero}
use Rattle.lists.specs.Digits.{horner, rest, digits}
use Rattle.tables.specs.Answers.{Answer}
use Rattle.tables.specs.declared.Refusal.TheVariants.{CountAboveLimit}
use Rattle.tables.specs.Answers.{after, refuse_if}
use Rattle.tables.specs.Full.{judged_full}
use Rattle.tables.specs.Lengths.{set_blocks}
use Rattle.tables.specs.Limits.{limit_level}
use Rattle.tables.specs.Shifts.{Shifts, p2s_at}
use Rattle.tables.specs.Compact.{ShiftTables, shifts_of, judged_set}
use Rattle.places.specs.Places.{size, in_block, full_shifts}
use Rattle.orbits.specs.Symmetric.{symmetrized}
use Rattle.lines.specs.Sums3x3.{inverse}
use Rattle.read_out.specs.Blocks.{block_of}
use Rattle.legs.specs.Legs.{leg_sum}

-- ---- the drift of one leg

-- the atoms of stored block b, of m + 1 legs; the first is a representative
abbrev pub atoms_of : Shifts → ℕ → ℕ → List ℕ
atoms_of S m b = p2s_at S (rest S.n_satom m b) ∷ digits S.n_satom m b

-- the atoms without that of leg `leg`
unfoldable pub without : ℕ → List ℕ → List ℕ
without leg [] = []
without zero (k ∷ ks) = ks
without (suc leg) (k ∷ ks) = k ∷ without leg ks

module _ (S : Shifts) (m leg : ℕ) (set : List Float) where
  -- The drift at block r of the other legs, a stored block of one leg less, and position k: the sum over the atoms of leg `leg`, times 1 / n.
  abbrev pub drift_at : ℕ → ℕ → Float
  drift_at r k = mul binary64 (leg_sum S m set leg (horner S.n_satom 0 (atoms_of S (m - 1) r)) k) (inverse S.n_satom)

  -- Each number less the drift that its other legs read out.
  unfoldable pub without_drift : List Float
  without_drift = tab (size S m) (λ q. sub binary64 (get_or set q nan) (drift_at (block_of S (without leg (atoms_of S m (q / in_block m)))) (q % in_block m)))

-- of every leg, the first leg first
unfoldable pub without_drifts : Shifts → ℕ → List Float → List Float
without_drifts S m set = times (suc m) (without_drift S m) set

-- ---- all levels; `mean` and `os` are those of the symmetrizer

module _ (mean : List Float → Float) (S : Shifts) (m : ℕ) (os : List (List ℕ)) where
  unfoldable pub leveled : List Float → List Float
  leveled set = symmetrized nan mean S m os (without_drifts S m set)

  -- level 0 is the symmetrizer alone
  unfoldable pub perm_trans_symmetrized : ℕ → List Float → List Float
  perm_trans_symmetrized zero set = symmetrized nan mean S m os set
  perm_trans_symmetrized (suc level) set = times (suc level) (λ _. leveled) set

-- ---- the calls: the answer, the set, the work bytes and the work numbers that they leave

-- a work number for each number of a block, for each stored block of one leg less
unfoldable pub drift_length : ℕ → ℕ → ℕ → ℕ
drift_length p n m = set_blocks p n (m - 1) * 3 ^ suc m

-- refusals 1, 2, 3 and 6: the level is a count with its own limit
abbrev pub judged_work : ℕ → ℕ → ℕ → ℕ → ℕ → ShiftTables → Answer
judged_work limit m lenSet lenDone lenDrift T =
    judged_set limit m lenSet ((lenDone, set_blocks T.n_patom T.n_satom m) ∷ ((lenDrift, drift_length T.n_patom T.n_satom m) ∷ [])) T

abbrev pub judged_levels : ℕ → ℕ → ℕ → ℕ → ℕ → ShiftTables → ℕ → Answer
judged_levels limit m lenSet lenDone lenDrift T level = refuse_if (ltb limit_level level) CountAboveLimit (judged_work limit m lenSet lenDone lenDrift T)

abbrev pub judged_full_levels : ℕ → ℕ → ℕ → ℕ → ℕ → ℕ → Answer
judged_full_levels limit m lenSet lenDrift n level =
    refuse_if (ltb limit_level level) CountAboveLimit (judged_full limit m lenSet ((lenDrift, drift_length n n m) ∷ []) n)

-- the same with work bytes, which a full set of fourth order needs
abbrev pub judged_full_work : ℕ → ℕ → ℕ → ℕ → ℕ → ℕ → Answer
judged_full_work limit m lenSet lenDone lenDrift n = judged_full limit m lenSet ((lenDone, set_blocks n n m) ∷ ((lenDrift, drift_length n n m) ∷ [])) n

abbrev pub judged_full_work_levels : ℕ → ℕ → ℕ → ℕ → ℕ → ℕ → ℕ → Answer
judged_full_work_levels limit m lenSet lenDone lenDrift n level = refuse_if (ltb limit_level level) CountAboveLimit (judged_full_work limit m lenSet lenDone lenDrift n)

module _ (limit m : ℕ) (mean : List Float → Float) (os : List (List ℕ)) (set : List Float) where
  unfoldable pub perm_trans_symmetrize_compact : ShiftTables → List ℕ → List Float → ℕ → Answer × List Float × List ℕ × List Float
  perm_trans_symmetrize_compact T done drift level =
      let a = judged_levels limit m (length set) (length done) (length drift) T level in (
        a,
        after a (perm_trans_symmetrized mean (shifts_of T) m os level set) set,
        after a (replicate (length done) 0) done,
        after a (replicate (length drift) plus_zero) drift,
      )

  -- a full set of third order needs no work bytes
  unfoldable pub perm_trans_symmetrize_full : ℕ → List Float → ℕ → Answer × List Float × List Float
  perm_trans_symmetrize_full n drift level =
      let a = judged_full_levels limit m (length set) (length drift) n level in
      (a, after a (perm_trans_symmetrized mean (full_shifts n) m os level set) set, after a (replicate (length drift) plus_zero) drift)

  -- and one of fourth order does
  unfoldable pub perm_trans_symmetrize_full_work : ℕ → List ℕ → List Float → ℕ → Answer × List Float × List ℕ × List Float
  perm_trans_symmetrize_full_work n done drift level =
      let a = judged_full_work_levels limit m (length set) (length done) (length drift) n level in (
        a,
        after a (perm_trans_symmetrized mean (full_shifts n) m os level set) set,
        after a (replicate (length done) 0) done,
        after a (replicate (length drift) plus_zero) drift,
      )
