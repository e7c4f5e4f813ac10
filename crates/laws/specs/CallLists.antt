-- The law of sequences for any kind of call that exchanges legs or is refused, at every rank: one claim about a whole list of calls, as document 01
-- words it ("Lists of transposes"), and one proof. `Law` says it, and `sequences` of proofs/CallListsLaws.antt proves it. The model of IEEE 754 has one NaN, so of a
-- number that is a NaN it is proved that a NaN stands there, and "the same bits" are the same up to the payloads of NaNs. Assumes nothing.
use Rattle.std.specs.Prelude.{◌≡◌, Bool, true, false, cond, ℕ, suc, length, Float}
use mathlib.Core.List.{List, [], ◌∷◌}
use Rattle.std.specs.Float.Ieee.{nan}
use Rattle.lists.specs.Elements.{All, pick, straight}
use Rattle.tables.specs.Shifts.{Laws}
use Rattle.tables.specs.Compact.{ShiftTables, shifts_of}
use Rattle.places.specs.Places.{Leg, Legs, read_out, size}
use Rattle.places.specs.Permutations.{permute_legs, Permutation}
use Rattle.laws.specs.Sequences.{leaves, spells}

-- A kind of call on sets of rank + 1 legs. A call is given by its arguments besides the set.
pub record Kind (C Plain : Type 0) : Type 0 where
  pub rank : ℕ
  -- the tables that the call brings
  pub tables : C → ShiftTables
  -- whether one of the six refusals applies, for a set of n numbers: the set and the work slice count by their lengths only
  pub refused : ℕ → C → Bool
  -- the permutation by which the call takes the pairs (atom, direction)
  pub permutation : C → List ℕ
  -- what the call leaves of the set
  pub left_by : C → List Float → List Float
  -- the plain table: filled from a rule, exchanged by a call, asked at a choice of pairs
  pub plain : (List Leg → Float) → Plain
  pub exchange : C → Plain → Plain
  pub ask : Plain → List Leg → Float

module _ {C Plain : Type 0} (K : Kind C Plain) where
  -- a call feeds the table its arguments; one that is refused leaves it
  unfoldable pub feed : ℕ → C → Plain → Plain
  feed n c t = cond (K.refused n c) t (K.exchange c t)

  unfoldable pub fed : ℕ → List C → Plain → Plain
  fed n [] t = t
  fed n (c ∷ cs) t = fed n cs (feed n c t)

  -- how a call exchanges the numbers of the order that is spelled; a refused one leaves them
  unfoldable pub permutation_by : ℕ → C → List ℕ
  permutation_by n c = cond (K.refused n c) (straight (suc K.rank)) (K.permutation c)

  -- the order that a list spells: it begins as 0, 1, ..
  unfoldable pub spelled : ℕ → List C → List ℕ
  spelled n cs = spells (permutation_by n) cs (straight (suc K.rank))

  -- each call goes on with the result of the call before
  unfoldable pub left : List C → List Float → List Float
  left cs set = leaves K.left_by cs set

  -- A call that is not refused brings the set's own counts and tables; a refused one may bring anything.
  abbrev pub Brings : ShiftTables → ℕ → C → Type 0
  Brings T n c = K.refused n c ≡ false → K.tables c ≡ T

  -- each call of a list
  abbrev pub Own : ShiftTables → ℕ → List C → Type 0
  Own T n cs = All (λ c. Brings T n c) cs

  pub own-tables : (T : ShiftTables) (n : ℕ) (c : C) → Brings T n c → K.refused n c ≡ false → K.tables c ≡ T
  own-tables T n c h e = h e

-- THE LAW, of a set and its tables, and a list of calls
pub record Law {C Plain : Type 0} (K : Kind C Plain) (T : ShiftTables) (set : List Float) (cs : List C) : Type 0 where
  -- the read-out of the result has the numbers of the plain table, at all legs
  pub table : (xs : List Leg) → Legs (shifts_of T) K.rank xs
      → read_out nan (shifts_of T) (left K cs set) xs ≡ K.ask (fed K (length set) cs (K.plain (read_out nan (shifts_of T) set))) xs
  -- the number that stood at x0, x1, .. stands at xa, xb, .., where a, b, .. is the order that the list spells
  pub stands_at_lem : (xs : List Leg) → Legs (shifts_of T) K.rank xs
      → read_out nan (shifts_of T) (left K cs set) (permute_legs (spelled K (length set) cs) xs) ≡ read_out nan (shifts_of T) set xs
  -- two lists on one set that spell one order have the same result, bit for bit
  pub same_bits : (ds : List C) → Own K T (length set) ds → spelled K (length set) cs ≡ spelled K (length set) ds → left K cs set ≡ left K ds set

-- ---- what is asked of a kind, for calls with the tables T

pub record Exchanges {C Plain : Type 0} (K : Kind C Plain) (T : ShiftTables) : Type 0 where
  pub is_permutation : (n : ℕ) (c : C) → K.refused n c ≡ false → Permutation K.rank (K.permutation c)
  pub undone : (n : ℕ) (c : C) → K.refused n c ≡ false → pick 0 (K.permutation c) (K.permutation c) ≡ straight (suc K.rank)
  -- the table is exchanged as the permutation says
  pub fills : (f : List Leg → Float) (xs : List Leg) → length xs ≡ suc K.rank → K.ask (K.plain f) xs ≡ f xs
  pub asks : (n : ℕ) (c : C) → K.refused n c ≡ false → (t : Plain) (xs : List Leg) → length xs ≡ suc K.rank
      → K.ask (K.exchange c t) xs ≡ K.ask t (permute_legs (K.permutation c) xs)
  -- a refused call leaves the set; one that is not refused brings tables that keep the rules, and permutes the legs by its permutation
  pub left-refused : (c : C) (set : List Float) → K.refused (length set) c ≡ true → K.left_by c set ≡ set
  pub accepted : (n : ℕ) (c : C) → K.refused n c ≡ false → Laws (shifts_of (K.tables c))
  pub keeps : (c : C) (set : List Float) → K.refused (length set) c ≡ false → K.tables c ≡ T → length set ≡ size (shifts_of T) K.rank
      → length (K.left_by c set) ≡ size (shifts_of T) K.rank
  pub reads : (c : C) (set : List Float) (xs : List Leg) → K.refused (length set) c ≡ false → K.tables c ≡ T → length set ≡ size (shifts_of T) K.rank → Legs (shifts_of T) K.rank xs
      → read_out nan (shifts_of T) (K.left_by c set) xs ≡ read_out nan (shifts_of T) set (permute_legs (K.permutation c) xs)
