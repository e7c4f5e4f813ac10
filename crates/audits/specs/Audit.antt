-- What an audit says of a set: whether all permutations of any legs read out the same bits, or the first place at which one does not.
-- One definition for every rank: a set of second, third or fourth order has m + 1 legs, m = 1, 2, 3, and `os` lists their permutations.
-- Definitions only.
use Rattle.tables.specs.declared.Refusal.{Refusal}
use Rattle.std.specs.Prelude.{Err, None, Ok, Option, Result, Some, Bool, not, cond, List, [], ◌∷◌, ℕ, eqb, ltb, length, get_or, Float}
use Rattle.std.specs.Float.{nan, binary64}
use Rattle.std.specs.Float.Ieee.{to_bits}
use Rattle.lists.specs.Tests.{some}
use Rattle.tables.specs.Answers.{Answer}
use Rattle.tables.specs.declared.Refusal.TheVariants.{WrongLength}
use Rattle.tables.specs.Answers.{refuse_if, refusal_number}
use Rattle.tables.specs.Conditions.{any_wrong}
use Rattle.tables.specs.Full.{judged_full}
use Rattle.tables.specs.Shifts.{Shifts}
use Rattle.tables.specs.Compact.{ShiftTables, shifts_of, judged_set}
use Rattle.places.specs.Places.{legs_at, place, read_out, size, permute_legs}
use Rattle.places.specs.WholeLaws.{full_shifts}
use Rattle.audits.specs.declared.Difference.{Difference}
use Rattle.lists.specs.Lowest.{lowest}

-- ---- the cases: a number for each

abbrev pub audit_number : Result (Option Difference) Refusal → ℕ
audit_number (Ok None) = 73
audit_number (Ok (Some d)) = 74
audit_number (Err r) = refusal_number r

-- the guard's refusal, or what was found
abbrev pub found_after : Answer → Result (Option Difference) Refusal → Result (Option Difference) Refusal
found_after (Ok u) a = a
found_after (Err r) a = Err r

-- ---- two numbers

-- Two numbers have other bits. The model has one pattern for every NaN: any NaN is the same as any NaN.
unfoldable pub differ : Float → Float → Bool
differ x y = not (eqb (to_bits binary64 x) (to_bits binary64 y))

-- ---- two sets

-- place k of two sets
abbrev pub differ_at : List Float → List Float → ℕ → Bool
differ_at a b k = differ (get_or a k nan) (get_or b k nan)

abbrev pub first_difference : List Float → List Float → ℕ
first_difference a b = lowest (length a) (differ_at a b)

-- the first place at which two sets differ, with the number of each; sets of other lengths are refused
unfoldable pub same_set : List Float → List Float → Result (Option Difference) Refusal
same_set a b =
    found_after (refuse_if (any_wrong ((length b, length a) ∷ [])) WrongLength (Ok tt))
    (let q = first_difference a b in
    cond (ltb q (length a)) (Ok (Some (record { place = q; order = 0; here = get_or a q nan; there = get_or b q nan }))) (Ok None))

-- ---- one set and its read-out

module _ (S : Shifts) (m : ℕ) (os : List (List ℕ)) (set : List Float) where
  -- permutation i of the list, and the number that it reads out of the legs whose number stands at q
  abbrev pub order : ℕ → List ℕ
  order i = get_or os i []

  unfoldable pub reads : ℕ → List ℕ → Float
  reads q σ = read_out nan S set (permute_legs σ (legs_at S (place S m q)))

  -- permutation i reads another number than stands at q
  unfoldable pub reads_another : ℕ → ℕ → Bool
  reads_another q i = differ (get_or set q nan) (reads q (order i))

  -- some permutation does
  unfoldable pub unlike : ℕ → Bool
  unlike q = some (length os) (reads_another q)

  -- the first place at which one does, in the order of the set, and the first that does there
  unfoldable pub first_place : ℕ
  first_place = lowest (size S m) unlike

  unfoldable pub first_order : ℕ → ℕ
  first_order q = lowest (length os) (reads_another q)

  abbrev pub difference_at : ℕ → Difference
  difference_at q = record { place = q; order = first_order q; here = get_or set q nan; there = reads q (order (first_order q)) }

  unfoldable pub audited : Result (Option Difference) Refusal
  audited = cond (ltb first_place (size S m)) (Ok (Some (difference_at first_place))) (Ok None)

-- ---- the calls

-- the audit of a compact set
unfoldable pub audit_compact : ℕ → ℕ → List (List ℕ) → List Float → ShiftTables → Result (Option Difference) Refusal
audit_compact limit m os set T = found_after (judged_set limit m (length set) [] T) (audited (shifts_of T) m os set)

-- and of a full set, in which every atom is its own representative
unfoldable pub audit_full : ℕ → ℕ → List (List ℕ) → List Float → ℕ → Result (Option Difference) Refusal
audit_full limit m os set n = found_after (judged_full limit m (length set) [] n) (audited (full_shifts n) m os set)
