-- The proof of the law of sequences for `transpose_compact_fc3` that specs/Transposes.antt words. Assumes nothing.
use Rattle.std.specs.Prelude.{◌≡◌, refl, true, false, ℕ, zero, suc, List, [], ◌∷◌, ℤ, pos, negsuc, length, get_or, Float}
use Rattle.std.proofs.Common.{sym, ◌∙◌, arith}
use Rattle.std.proofs.Math.Path.{ap}
use Rattle.std.specs.Float.Ieee.{nan}
use Rattle.lists.specs.Tab.{tab, tab_from}
use Rattle.lists.specs.Elements.{pick, straight, pick-straight}
use Rattle.tables.specs.Answers.{is_done, after_refusal, after-done}
use Rattle.tables.specs.Shifts.{Shifts, Laws, NoHalfShift}
use Rattle.tables.specs.Limits.{limit3}
use Rattle.tables.specs.Compact.{ShiftTables, shifts_of}
use Rattle.tables.proofs.CompactLaws.{done_compact}
use Rattle.places.specs.Places.{Leg, Legs, read_out, size, length-fill}
use Rattle.places.specs.Permutations.{permute_legs, Permutation}
use Rattle.places.specs.Moves.{order, moved, traded, transposed}
use Rattle.places.proofs.MovesLaws.{read_out-transposed}
use Rattle.transposes_fc3.specs.Fc3.{transposed_by, judged_transpose, transpose_compact_fc3}
use Rattle.laws.specs.CallLists.{Exchanges}
use Rattle.laws.proofs.CallListsLaws.{sequences}
use Rattle.laws.specs.Transposes.{Call, refused, Plain, exchange, permutation_of, left_by, transposes, fed, spelled, left, Own, ListLaw}

-- ---- its proof: such calls exchange legs where there is no half shift

straight-order : Permutation 2 (straight 3)
unfolding straight tab
straight-order = (refl, omega arith)

orders : (t : ℕ) → Permutation 2 (order t)
unfolding order straight tab
orders zero = (refl, omega arith)
orders (suc zero) = (refl, omega arith)
orders (suc (suc zero)) = (refl, omega arith)
orders (suc (suc (suc t))) = (refl, omega arith)

orders_of : (t : ℤ) → Permutation 2 (permutation_of t)
unfolding permutation_of
orders_of (pos t) = orders t
orders_of (negsuc t) = straight-order

undone : (t : ℕ) → pick 0 (order t) (order t) ≡ straight 3
unfolding order straight tab pick
undone zero = refl
undone (suc zero) = refl
undone (suc (suc zero)) = refl
undone (suc (suc (suc t))) = refl

undone_of : (t : ℤ) → pick 0 (permutation_of t) (permutation_of t) ≡ straight 3
unfolding permutation_of straight tab pick
undone_of (pos t) = undone t
undone_of (negsuc t) = refl

length-transposed : (S : Shifts) (t : ℕ) (set : List Float) → length set ≡ size S 2 → length (transposed nan S t set) ≡ size S 2
unfolding transposed traded moved
length-transposed S zero set l = length-fill S 2 _
length-transposed S (suc zero) set l = length-fill S 2 _
length-transposed S (suc (suc zero)) set l = length-fill S 2 _
length-transposed S (suc (suc (suc t))) set l = l

length-by : (S : Shifts) (t : ℤ) (set : List Float) → length set ≡ size S 2 → length (transposed_by S t set) ≡ size S 2
unfolding transposed_by
length-by S (pos t) set l = length-transposed S t set l
length-by S (negsuc t) set l = l

-- a call by the case that it is in
left-refused : (c : Call) (set : List Float) → refused (length set) c ≡ true → left_by c set ≡ set
unfolding left_by transpose_compact_fc3 refused
left-refused c set e = after_refusal (judged_transpose (length set) (length c.work) c.tables) _ set e

left-accepted : (c : Call) (set : List Float) → refused (length set) c ≡ false → left_by c set ≡ transposed_by (shifts_of c.tables) c.type set
unfolding left_by transpose_compact_fc3 refused
left-accepted c set e = after-done (judged_transpose (length set) (length c.work) c.tables) _ set e

-- the tables of a call that is not refused keep the rules
accepted : (n : ℕ) (c : Call) → refused n c ≡ false → Laws (shifts_of c.tables)
unfolding refused
accepted n c e = (done_compact limit3 2 n 1 (length c.work) c.tables (is_done (judged_transpose n (length c.work) c.tables) e)).rules

fills : (f : List Leg → Float) (xs : List Leg) → length xs ≡ 3 → f (get_or xs 0 (0, 0) ∷ get_or xs 1 (0, 0) ∷ get_or xs 2 (0, 0) ∷ []) ≡ f xs
unfolding pick straight tab tab_from
fills f xs l = ap f (pick-straight (0, 0) 3 xs l)

asks : (z : ℤ) (t : Plain) (xs : List Leg) → transposes.ask (exchange z t) xs ≡ transposes.ask t (permute_legs (permutation_of z) xs)
unfolding permutation_of order exchange pick straight tab tab_from
asks (pos zero) t xs = refl
asks (pos (suc zero)) t xs = refl
asks (pos (suc (suc zero))) t xs = refl
asks (pos (suc (suc (suc k)))) t xs = refl
asks (negsuc k) t xs = refl

module _ (T : ShiftTables) (nh : NoHalfShift (shifts_of T)) where
  abbrev S : Shifts
  S = shifts_of T

  read-by : Laws S → (t : ℤ) (set : List Float) (xs : List Leg) → Legs S 2 xs → read_out nan S (transposed_by S t set) xs ≡ read_out nan S set (permute_legs (permutation_of t) xs)
  unfolding transposed_by permutation_of
  read-by L (pos t) set xs p = read_out-transposed S L nan nh t set xs p
  read-by L (negsuc t) set xs p = ap (read_out nan S set) (sym (pick-straight (0, 0) 3 xs p.0))

  left-own : (c : Call) (set : List Float) → refused (length set) c ≡ false → c.tables ≡ T → left_by c set ≡ transposed_by S c.type set
  left-own c set e q = left-accepted c set e ∙ ap (λ T. transposed_by (shifts_of T) c.type set) q

  exchanges : Exchanges transposes T
  exchanges = record {
    is_permutation = λ n c e. orders_of c.type;
    undone = λ n c e. undone_of c.type;
    fills = fills;
    asks = λ n c e t xs l. asks c.type t xs;
    left-refused = left-refused;
    accepted = accepted;
    keeps = λ c set e q l. ap length (left-own c set e q) ∙ length-by S c.type set l;
    reads = λ c set xs e q l p. ap (λ s. read_out nan S s xs) (left-own c set e q) ∙ read-by (rw q at (accepted (length set) c e)) c.type set xs p;
  }

-- THE LAW OF SEQUENCES: for any compact set of the stated length and any list of calls, of which the accepted ones have the set's own
-- tables, under the half-shift condition
pub law : (T : ShiftTables) (set : List Float) (cs : List Call) → NoHalfShift (shifts_of T) → length set ≡ size (shifts_of T) 2 → Own T (length set) cs → ListLaw T set cs
unfolding fed spelled left
law T set cs nh l o =
    let h = sequences transposes T (exchanges T nh) set cs l o in
    record {
      table = λ x y w p q r. h.table (x ∷ y ∷ w ∷ []) (refl, (p, (q, (r, tt))));
      stands_at_lem = h.stands_at_lem;
      same_bits = h.same_bits;
    }
