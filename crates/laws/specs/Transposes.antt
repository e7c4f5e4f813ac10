-- The law of sequences for `transpose_compact_fc3`, as document 01 words it ("Lists of transposes"): one claim about a whole list of calls,
-- refused ones among them. `ListLaw` says it, and `law` of proofs/TransposesLaws.antt proves it: the case of CallLists.antt that needs tables without half shifts. The
-- model of IEEE 754 has one NaN, so of a number that is a NaN it is proved that a NaN stands there, and "the same bits" are the same up to the
-- payloads of NaNs. Assumes nothing.
use Rattle.std.specs.Prelude.{◌≡◌, refl, Bool, ℕ, zero, suc, List, [], ◌∷◌, ℤ, pos, negsuc, length, get_or, Float}
use Rattle.std.specs.Float.Ieee.{nan}
use Rattle.lists.specs.Tab.{tab, tab_from}
use Rattle.lists.specs.Elements.{straight}
use Rattle.tables.specs.Answers.{is_refusal}
use Rattle.tables.specs.Compact.{ShiftTables, shifts_of}
use Rattle.places.specs.Places.{Leg, Fit, Legs, read_out}
use Rattle.places.specs.Permutations.{permute_legs}
use Rattle.places.specs.Moves.{order}
use Rattle.transposes_fc3.specs.Fc3.{judged_transpose, transpose_compact_fc3}
use Rattle.laws.specs.CallLists.{Kind}
use Rattle.laws.specs.CallLists as lists

-- ---- a call, by its arguments besides the set

pub record Call : Type 0 where
  pub type : ℤ
  pub tables : ShiftTables
  pub work : List ℕ

-- whether one of the six refusals applies, for a set of n numbers: the set and the work slice count by their lengths only
unfoldable pub refused : ℕ → Call → Bool
refused n c = is_refusal (judged_transpose n (length c.work) c.tables)

-- ---- the plain table, and the order

-- the plain table: a number for each triple of legs
abbrev pub Plain : Type 0
Plain = Leg → Leg → Leg → Float

-- type 0 exchanges what is at (x, y, z) with what is at (y, x, z), and so on
unfoldable pub exchange : ℤ → Plain → Plain
exchange (pos zero) t x y w = t y x w
exchange (pos (suc zero)) t x y w = t w y x
exchange (pos (suc (suc zero))) t x y w = t x w y
exchange (pos (suc (suc (suc k)))) t x y w = t x y w
exchange (negsuc k) t x y w = t x y w

-- the permutation by which a type takes the three pairs
unfoldable pub permutation_of : ℤ → List ℕ
permutation_of (pos t) = order t
permutation_of (negsuc t) = straight 3

pub permutations_are : (t : ℕ) → (permutation_of (pos 0) ≡ 1 ∷ 0 ∷ 2 ∷ []) × (permutation_of (pos 1) ≡ 2 ∷ 1 ∷ 0 ∷ []) × (permutation_of (pos 2) ≡ 0 ∷ 2 ∷ 1 ∷ [])
    × (permutation_of (pos (suc (suc (suc t)))) ≡ 0 ∷ 1 ∷ 2 ∷ []) × (permutation_of (negsuc t) ≡ 0 ∷ 1 ∷ 2 ∷ [])
unfolding permutation_of order straight tab tab_from
permutations_are t = (refl, refl, refl, refl, refl)

-- ---- the calls

-- what a call leaves of the set: its definition, whatever its work slice holds
unfoldable pub left_by : Call → List Float → List Float
left_by c set = (transpose_compact_fc3 set c.tables c.work c.type).1

-- the calls as a kind: what the table, the order and the set are after a list of them is defined for every kind
abbrev pub transposes : Kind Call Plain
transposes = record {
  rank = 2;
  tables = λ c. c.tables;
  refused = refused;
  permutation = λ c. permutation_of c.type;
  left_by = left_by;
  plain = λ f x y w. f (x ∷ y ∷ w ∷ []);
  exchange = λ c. exchange c.type;
  ask = λ t xs. t (get_or xs 0 (0, 0)) (get_or xs 1 (0, 0)) (get_or xs 2 (0, 0));
}

-- a call feeds the table its arguments; one that is refused leaves it
unfoldable pub fed : ℕ → List Call → Plain → Plain
fed n cs t = lists.fed transposes n cs t

-- the order that a list spells: it begins as 0, 1, 2
unfoldable pub spelled : ℕ → List Call → List ℕ
spelled n cs = lists.spelled transposes n cs

-- each call goes on with the result of the call before
unfoldable pub left : List Call → List Float → List Float
left cs set = lists.left transposes cs set

-- accepted calls have the counts and tables that the set is read out with; refused ones may have any
abbrev pub Own : ShiftTables → ℕ → List Call → Type 0
Own T n cs = lists.Own transposes T n cs

-- ---- the law

-- of a set and its tables, and a list of calls
pub record ListLaw (T : ShiftTables) (set : List Float) (cs : List Call) : Type 0 where
  -- the read-out of the result has the numbers of the plain table, at all legs
  pub table : (x y w : Leg) → Fit (shifts_of T) x → Fit (shifts_of T) y → Fit (shifts_of T) w
      → read_out nan (shifts_of T) (left cs set) (x ∷ y ∷ w ∷ []) ≡ fed (length set) cs (λ x y w. read_out nan (shifts_of T) set (x ∷ y ∷ w ∷ [])) x y w
  -- what was at legs x0, x1, x2 is at xa, xb, xc, where a, b, c is the order that the list spells
  pub stands_at_lem : (xs : List Leg) → Legs (shifts_of T) 2 xs
      → read_out nan (shifts_of T) (left cs set) (permute_legs (spelled (length set) cs) xs) ≡ read_out nan (shifts_of T) set xs
  -- two lists on one set that spell one order have the same result, bit for bit
  pub same_bits : (ds : List Call) → Own T (length set) ds → spelled (length set) cs ≡ spelled (length set) ds → left cs set ≡ left ds set
