-- The laws of demand 3, of the true transposes and of the swaps used at tables and lists that exist, where a weaker law would say nothing: two atoms in
-- the primitive cell, with and without a half shift; repeated atoms; refused calls that bring other tables; lists of other lengths; legs named falling,
-- and equal legs. The sets and work slices are any of the stated lengths. Assumes nothing.
use Rattle.std.specs.Prelude.{Err, None, Ok, ◌≡◌, true, false, ℕ, zero, suc, ◌<◌, ℤ, pos, negsuc, length, get_or, Float}
use Rattle.std.proofs.Math.Path.{refl, ap}
use Rattle.std.proofs.Common.{sym, ◌∙◌, true≢false, suc-ne-zero, arith, lit<}
use mathlib.Core.List.{List, [], ◌∷◌}
use Rattle.std.specs.Float.Ieee.{nan}
use Rattle.lists.specs.Tab.{tab, tab_from}
use Rattle.lists.specs.Tests.{every, some}
use Rattle.lists.specs.Elements.{pick, straight}
use Rattle.tables.specs.declared.Refusal.TheVariants.{WrongLength, IndexOutOfRange}
use Rattle.tables.specs.Answers.{is_refusal}
use Rattle.tables.specs.Conditions.{out_of_range}
use Rattle.tables.specs.Shifts.{Shifts, row, p2s_at, s2pp_at, nsym_at, distinct, is_null, is_after, follows, counts_agree, rows_injective, has_null, rows_closed, rows_free, p2s_back, s2pp_kept, nsym_lands, ruled, NoHalfShift}
use Rattle.tables.specs.Limits.{limit2, limit3, limit4}
use Rattle.tables.specs.Compact.{ShiftTables, shift_tables, shifts_of, judged_entries, judged_tables, judged_compact}
use Rattle.tables.specs.Lengths.{set_length, set_blocks}
use Rattle.places.specs.Places.{Leg, Fit, Legs, read_out, size}
use Rattle.places.specs.Permutations.{permute_legs, perms3, perms4}
use Rattle.places.specs.Moves.{order}
use Rattle.fc3.specs.Mean.{mean6}
use Rattle.fc3.specs.Symmetrize.{set_permutation_symmetry_compact_fc3}
use Rattle.fc4.specs.Mean24.{mean24}
use Rattle.fc4.specs.Symmetrize.{set_permutation_symmetry_compact_fc4}
use Rattle.transposes_fc3.specs.Fc3.{judged_transpose}
use Rattle.audits.specs.Audit.{audit_compact}
use Rattle.audits.specs.Demand.{index_in}
use Rattle.laws.specs.Symmetrized.{Symmetric, third, fourth}
use Rattle.laws.specs.Audits.{third-alike, fourth-alike}
use Rattle.laws.specs.Sequences.{leaves, spells}
use Rattle.laws.specs.CallLists.{Kind, Law, permutation_by, feed, fed as fedBy, left as left_by, spelled as spelledBy}
use Rattle.laws.specs.Transposes.{Call, exchange, refused, permutation_of, fed, spelled, left, Own, ListLaw}
use Rattle.laws.proofs.TransposesLaws.{law}
use Rattle.orbits.specs.Exchanging.{partner, exchanging}
use Rattle.orbits.specs.TrueTransposes.{legs3, legs4}
use Rattle.laws.specs.TrueLists.{Call2, exchange4, second as trueSecond, third as trueThird, fourth as trueFourth}
use Rattle.laws.proofs.TrueListsLaws.{law2, law3, law4}
use Rattle.transposes_fc4.specs.Swaps.{judged_swap}
use Rattle.laws.specs.SwapLists.{Swap, swaps}
use Rattle.laws.proofs.SwapListsLaws.{law-swaps}
use Rattle.laws.specs.Sheets.{two_atoms}

-- four atoms, two of them in the primitive cell; row 1 is a half shift
abbrev pub four_atoms : ShiftTables
four_atoms = shift_tables (pos 0 ∷ pos 1 ∷ []) (pos 0 ∷ pos 1 ∷ pos 0 ∷ pos 1 ∷ []) (pos 0 ∷ pos 0 ∷ pos 1 ∷ pos 1 ∷ []) (pos 0 ∷ pos 1 ∷ pos 2 ∷ pos 3 ∷ pos 2 ∷ pos 3 ∷ pos 0 ∷ pos 1 ∷ []) 4 2 2

-- six atoms, two of them in the primitive cell; three shifts, none of them a half shift
abbrev pub six_atoms : ShiftTables
six_atoms =
    shift_tables (pos 0 ∷ pos 1 ∷ []) (pos 0 ∷ pos 1 ∷ pos 0 ∷ pos 1 ∷ pos 0 ∷ pos 1 ∷ []) (pos 0 ∷ pos 0 ∷ pos 2 ∷ pos 2 ∷ pos 1 ∷ pos 1 ∷ [])
    (pos 0 ∷ pos 1 ∷ pos 2 ∷ pos 3 ∷ pos 4 ∷ pos 5 ∷ pos 2 ∷ pos 3 ∷ pos 4 ∷ pos 5 ∷ pos 0 ∷ pos 1 ∷ pos 4 ∷ pos 5 ∷ pos 0 ∷ pos 1 ∷ pos 2 ∷ pos 3 ∷ []) 6 2 3

abbrev S4 : Shifts
S4 = shifts_of four_atoms

abbrev S6 : Shifts
S6 = shifts_of six_atoms

-- ---- the symmetrizers: sets of 2 × 4² × 27 and 2 × 4³ × 81 numbers

passes : (judged_compact limit3 2 864 2 32 four_atoms ≡ Ok tt) × (judged_compact limit4 3 10368 3 128 four_atoms ≡ Ok tt)
unfolding judged_compact set_length set_blocks judged_tables judged_entries out_of_range ruled counts_agree rows_injective has_null rows_closed rows_free p2s_back s2pp_kept nsym_lands distinct is_null is_after follows row p2s_at s2pp_at nsym_at every some
passes = (refl, refl)

module _ (set : List Float) (work : List ℕ) (e : length set ≡ 864) (f : length work ≡ 32) where
  abbrev new3 : List Float
  new3 = (set_permutation_symmetry_compact_fc3 set four_atoms work).1

  done3 : (set_permutation_symmetry_compact_fc3 set four_atoms work).0 ≡ Ok tt
  unfolding set_permutation_symmetry_compact_fc3
  done3 = rw (e, f) passes.0

  pub third-holds : Symmetric mean6 S4 2 perms3 set new3
  third-holds = third set four_atoms work done3

  -- all six orders of three legs, whatever atoms they have
  pub third-six : (x y w : Leg) → Fit S4 x → Fit S4 y → Fit S4 w → let a = read_out nan S4 new3 (x ∷ y ∷ w ∷ []) in
      (read_out nan S4 new3 (x ∷ w ∷ y ∷ []) ≡ a) × (read_out nan S4 new3 (y ∷ x ∷ w ∷ []) ≡ a) × (read_out nan S4 new3 (y ∷ w ∷ x ∷ []) ≡ a)
      × (read_out nan S4 new3 (w ∷ x ∷ y ∷ []) ≡ a) × (read_out nan S4 new3 (w ∷ y ∷ x ∷ []) ≡ a)
  unfolding pick perms3
  third-six x y w p q r =
      let l : Legs S4 2 (x ∷ y ∷ w ∷ []) = (refl, (p, (q, (r, tt)))) in
      let at : (s : ℕ) → s < 6 → read_out nan S4 new3 (permute_legs (get_or perms3 s []) (x ∷ y ∷ w ∷ [])) ≡ read_out nan S4 new3 (x ∷ y ∷ w ∷ []) = λ s h. third-holds.alike (get_or perms3 s []) (x ∷ y ∷ w ∷ []) (index_in [] perms3 s h) l in
      (at 1 (lit< tt), at 2 (lit< tt), at 3 (lit< tt), at 4 (lit< tt), at 5 (lit< tt))

  -- and an audit of what the call leaves says alike
  pub third-audited : Ok None ≡ audit_compact limit3 2 perms3 new3 four_atoms
  third-audited = third-alike set four_atoms work done3

  -- one atom twice, in one direction and in another
  pub third_repeated : read_out nan S4 new3 ((1, 0) ∷ (3, 2) ∷ (1, 0) ∷ []) ≡ read_out nan S4 new3 ((1, 0) ∷ (1, 0) ∷ (3, 2) ∷ [])
  third_repeated = (third-six (1, 0) (1, 0) (3, 2) (lit< tt, lit< tt) (lit< tt, lit< tt) (lit< tt, lit< tt)).0

module _ (set : List Float) (work : List ℕ) (e : length set ≡ 10368) (f : length work ≡ 128) where
  abbrev new4 : List Float
  new4 = (set_permutation_symmetry_compact_fc4 set four_atoms work).1

  done4 : (set_permutation_symmetry_compact_fc4 set four_atoms work).0 ≡ Ok tt
  unfolding set_permutation_symmetry_compact_fc4
  done4 = rw (e, f) passes.1

  pub fourth-holds : Symmetric mean24 S4 3 perms4 set new4
  fourth-holds = fourth set four_atoms work done4

  pub fourth-audited : Ok None ≡ audit_compact limit4 3 perms4 new4 four_atoms
  fourth-audited = fourth-alike set four_atoms work done4

  -- the last of the 24 orders, for any legs, and for one leg three times
  pub fourth-last : (x y z w : Leg) → Legs S4 3 (x ∷ y ∷ z ∷ w ∷ []) → read_out nan S4 new4 (w ∷ z ∷ y ∷ x ∷ []) ≡ read_out nan S4 new4 (x ∷ y ∷ z ∷ w ∷ [])
  unfolding pick perms4
  fourth-last x y z w p = fourth-holds.alike (3 ∷ 2 ∷ 1 ∷ 0 ∷ []) (x ∷ y ∷ z ∷ w ∷ []) (index_in [] perms4 23 (lit< tt)) p

  pub fourth_repeated : read_out nan S4 new4 ((3, 2) ∷ (1, 0) ∷ (1, 0) ∷ (1, 0) ∷ []) ≡ read_out nan S4 new4 ((1, 0) ∷ (1, 0) ∷ (1, 0) ∷ (3, 2) ∷ [])
  fourth_repeated = fourth-last (1, 0) (1, 0) (1, 0) (3, 2) (refl, ((lit< tt, lit< tt), ((lit< tt, lit< tt), ((lit< tt, lit< tt), ((lit< tt, lit< tt), tt)))))

-- ---- lists of calls: what stood at the legs stands at the legs in the order that the list spells

moves : {C P : Type 0} (K : Kind C P) (T : ShiftTables) (set : List Float) (cs : List C) → Law K T set cs → (σ : List ℕ) → spelledBy K (length set) cs ≡ σ
    → (xs : List Leg) → Legs (shifts_of T) K.rank xs → read_out nan (shifts_of T) (left_by K cs set) (permute_legs σ xs) ≡ read_out nan (shifts_of T) set xs
moves K T set cs h σ e xs p = ap (λ o. read_out nan (shifts_of T) (left_by K cs set) (permute_legs o xs)) (sym e) ∙ h.stands_at_lem xs p

-- ---- a list of transposes, over six atoms: a set of 2 × 6² × 27 numbers

-- types 0, 1, 2 and 7; the second call brings the tables of two atoms, which ask for a set of 108 numbers
abbrev pub four_calls : List ℕ → List Call
four_calls work =
    record { type = pos 0; tables = six_atoms; work = work }
    ∷ record { type = pos 1; tables = two_atoms; work = work }
    ∷ record { type = pos 2; tables = six_atoms; work = work }
    ∷ record { type = pos 7; tables = six_atoms; work = work } ∷ []

-- type 1 twice, and a type that changes nothing
abbrev pub back_calls : List ℕ → List Call
back_calls work =
    record { type = pos 1; tables = six_atoms; work = work }
    ∷ record { type = negsuc 0; tables = six_atoms; work = work }
    ∷ record { type = pos 1; tables = six_atoms; work = work } ∷ []

-- the half-shift condition: row 1 twice sends atom 0 to 4, row 2 twice sends it to 2
six-atoms-met : NoHalfShift S6
unfolding NoHalfShift row
six-atoms-met zero ht h zero ha = refl
six-atoms-met zero ht h (suc zero) ha = refl
six-atoms-met zero ht h (suc (suc zero)) ha = refl
six-atoms-met zero ht h (suc (suc (suc zero))) ha = refl
six-atoms-met zero ht h (suc (suc (suc (suc zero)))) ha = refl
six-atoms-met zero ht h (suc (suc (suc (suc (suc zero))))) ha = refl
six-atoms-met zero ht h (suc (suc (suc (suc (suc (suc a)))))) ha = omega arith
six-atoms-met (suc zero) ht h a ha = absurd (suc-ne-zero 3 (h 0 (lit< tt)))
six-atoms-met (suc (suc zero)) ht h a ha = absurd (suc-ne-zero 1 (h 0 (lit< tt)))
six-atoms-met (suc (suc (suc t))) ht h a ha = omega arith

answers : (judged_transpose 1944 12 six_atoms ≡ Ok tt) × (judged_transpose 1944 12 two_atoms ≡ Err WrongLength)
unfolding judged_compact set_length set_blocks judged_tables judged_entries out_of_range ruled counts_agree rows_injective has_null rows_closed rows_free p2s_back s2pp_kept nsym_lands distinct is_null is_after follows row p2s_at s2pp_at nsym_at every some
answers = (refl, refl)

module _ (set : List Float) (work : List ℕ) (e : length set ≡ 1944) (f : length work ≡ 12) where
  is_done : (type : ℤ) → refused (length set) (record { type = type; tables = six_atoms; work = work }) ≡ false
  unfolding refused
  is_done type = rw (e, f, answers.0)

  is_refused : (type : ℤ) → refused (length set) (record { type = type; tables = two_atoms; work = work }) ≡ true
  unfolding refused
  is_refused type = rw (e, f, answers.1)

  own : Own six_atoms (length set) (four_calls work)
  own = ((λ _. refl), ((λ r. absurd (true≢false (sym (is_refused (pos 1)) ∙ r))), ((λ _. refl), ((λ _. refl), tt))))

  size_is : length set ≡ size S6 2
  unfolding size set_length
  size_is = e

  pub law-holds : ListLaw six_atoms set (four_calls work)
  law-holds = law six_atoms set (four_calls work) six-atoms-met size_is own

  -- the plain table after the list, at any three pairs
  pub law-table : (x y w : Leg) → Fit S6 x → Fit S6 y → Fit S6 w → read_out nan S6 (left (four_calls work) set) (x ∷ y ∷ w ∷ []) ≡ read_out nan S6 set (w ∷ x ∷ y ∷ [])
  unfolding fed fedBy feed exchange
  law-table x y w p q r = law-holds.table x y w p q r ∙ rw (is_done (pos 0), is_refused (pos 1), is_done (pos 2), is_done (pos 7)) refl

  -- It spells 1, 2, 0: what stood at the legs x, y, w stands at y, w, x.
  spells_120 : spelled (length set) (four_calls work) ≡ 1 ∷ 2 ∷ 0 ∷ []
  unfolding spelled spelledBy spells permutation_by permutation_of order pick straight tab
  spells_120 = rw (is_done (pos 0), is_refused (pos 1), is_done (pos 2), is_done (pos 7)) refl

  pub law-moves : (x y w : Leg) → Legs S6 2 (x ∷ y ∷ w ∷ []) → read_out nan S6 (left (four_calls work) set) (y ∷ w ∷ x ∷ []) ≡ read_out nan S6 set (x ∷ y ∷ w ∷ [])
  unfolding pick
  law-moves x y w p =
      ap (λ o. read_out nan S6 (left (four_calls work) set) (permute_legs o (x ∷ y ∷ w ∷ []))) (sym spells_120) ∙ law-holds.stands_at_lem (x ∷ y ∷ w ∷ []) p

  -- lists of other lengths: this one and the empty list end in the same order, and so leave the same set
  own_back : Own six_atoms (length set) (back_calls work)
  own_back = ((λ _. refl), ((λ _. refl), ((λ _. refl), tt)))

  spells_back : spelled (length set) (back_calls work) ≡ spelled (length set) []
  unfolding spelled spelledBy spells permutation_by permutation_of order pick straight tab
  spells_back = rw (is_done (pos 1), is_done (negsuc 0)) refl

  pub law_back : left (back_calls work) set ≡ set
  unfolding left left_by leaves
  law_back = (law six_atoms set (back_calls work) six-atoms-met size_is own_back).same_bits [] tt spells_back

-- ---- the true transposes, over four atoms that a half shift exchanges

true_answers : (judged_compact limit2 1 72 1 8 four_atoms ≡ Ok tt) × (judged_compact limit2 1 72 1 8 six_atoms ≡ Err WrongLength)
    × (judged_compact limit3 2 864 1 8 four_atoms ≡ Ok tt) × (judged_compact limit3 2 864 1 8 six_atoms ≡ Err WrongLength)
    × (judged_compact limit4 3 10368 1 8 four_atoms ≡ Ok tt) × (judged_compact limit4 3 10368 1 8 six_atoms ≡ Err WrongLength)
unfolding judged_compact set_length set_blocks judged_tables judged_entries out_of_range ruled counts_agree rows_injective has_null rows_closed rows_free p2s_back s2pp_kept nsym_lands distinct is_null is_after follows row p2s_at s2pp_at nsym_at every some
true_answers = (refl, refl, refl, refl, refl, refl)

-- second order: a call, a refused one, and two more
abbrev pub calls2 : List ℕ → List Call2
calls2 work =
    record { tables = four_atoms; work = work } ∷ record { tables = six_atoms; work = work }
    ∷ record { tables = four_atoms; work = work } ∷ record { tables = four_atoms; work = work } ∷ []

module _ (set : List Float) (work : List ℕ) (e : length set ≡ 72) (f : length work ≡ 8) where
  done_2 : is_refusal (judged_compact limit2 1 (length set) 1 (length work) four_atoms) ≡ false
  done_2 = rw (e, f, true_answers.0)

  refused_2 : is_refusal (judged_compact limit2 1 (length set) 1 (length work) six_atoms) ≡ true
  refused_2 = rw (e, f, true_answers.1)

  size_2 : length set ≡ size S4 1
  unfolding size set_length
  size_2 = e

  pub law2-holds : Law trueSecond four_atoms set (calls2 work)
  law2-holds = law2 four_atoms set (calls2 work) size_2 ((λ _. refl), ((λ r. absurd (true≢false (sym refused_2 ∙ r))), ((λ _. refl), ((λ _. refl), tt))))

  -- three calls that are not refused spell 1, 0
  spells_2 : spelledBy trueSecond (length set) (calls2 work) ≡ 1 ∷ 0 ∷ []
  unfolding spelledBy spells permutation_by exchanging partner pick straight tab tab_from
  spells_2 = rw (done_2, refused_2) refl

  pub law2-moves : (x y : Leg) → Legs S4 1 (x ∷ y ∷ []) → read_out nan S4 (left_by trueSecond (calls2 work) set) (y ∷ x ∷ []) ≡ read_out nan S4 set (x ∷ y ∷ [])
  unfolding pick
  law2-moves x y p = moves trueSecond four_atoms set (calls2 work) law2-holds (1 ∷ 0 ∷ []) spells_2 (x ∷ y ∷ []) p

  pub law2-table : (x y : Leg) → Legs S4 1 (x ∷ y ∷ []) → read_out nan S4 (left_by trueSecond (calls2 work) set) (x ∷ y ∷ []) ≡ read_out nan S4 set (y ∷ x ∷ [])
  unfolding fedBy feed
  law2-table x y p = law2-holds.table (x ∷ y ∷ []) p ∙ rw (done_2, refused_2) refl

-- third and fourth order: types 0, 1 and 2, of which the second brings the tables of six atoms
abbrev pub true_calls : List ℕ → List Call
true_calls work =
    record { type = pos 0; tables = four_atoms; work = work }
    ∷ record { type = pos 1; tables = six_atoms; work = work }
    ∷ record { type = pos 2; tables = four_atoms; work = work } ∷ []

module _ (set : List Float) (work : List ℕ) (e : length set ≡ 864) (f : length work ≡ 8) where
  done_3 : is_refusal (judged_compact limit3 2 (length set) 1 (length work) four_atoms) ≡ false
  done_3 = rw (e, f, true_answers.2)

  refused_3 : is_refusal (judged_compact limit3 2 (length set) 1 (length work) six_atoms) ≡ true
  refused_3 = rw (e, f, true_answers.3)

  size_3 : length set ≡ size S4 2
  unfolding size set_length
  size_3 = e

  pub law3-holds : Law trueThird four_atoms set (true_calls work)
  law3-holds = law3 four_atoms set (true_calls work) size_3 ((λ _. refl), ((λ r. absurd (true≢false (sym refused_3 ∙ r))), ((λ _. refl), tt)))

  -- It spells 1, 2, 0, whatever a half shift exchanges.
  spells_3 : spelledBy trueThird (length set) (true_calls work) ≡ 1 ∷ 2 ∷ 0 ∷ []
  unfolding spelledBy spells permutation_by legs3 exchanging partner pick straight tab tab_from
  spells_3 = rw (done_3, refused_3) refl

  pub law3-moves : (x y w : Leg) → Legs S4 2 (x ∷ y ∷ w ∷ []) → read_out nan S4 (left_by trueThird (true_calls work) set) (y ∷ w ∷ x ∷ []) ≡ read_out nan S4 set (x ∷ y ∷ w ∷ [])
  unfolding pick
  law3-moves x y w p = moves trueThird four_atoms set (true_calls work) law3-holds (1 ∷ 2 ∷ 0 ∷ []) spells_3 (x ∷ y ∷ w ∷ []) p

  pub law3-table : (x y w : Leg) → Legs S4 2 (x ∷ y ∷ w ∷ []) → read_out nan S4 (left_by trueThird (true_calls work) set) (x ∷ y ∷ w ∷ []) ≡ read_out nan S4 set (w ∷ x ∷ y ∷ [])
  unfolding fedBy feed exchange
  law3-table x y w p = law3-holds.table (x ∷ y ∷ w ∷ []) p ∙ rw (done_3, refused_3) refl

module _ (set : List Float) (work : List ℕ) (e : length set ≡ 10368) (f : length work ≡ 8) where
  done_4 : is_refusal (judged_compact limit4 3 (length set) 1 (length work) four_atoms) ≡ false
  done_4 = rw (e, f, true_answers.4)

  refused_4 : is_refusal (judged_compact limit4 3 (length set) 1 (length work) six_atoms) ≡ true
  refused_4 = rw (e, f, true_answers.5)

  size_4 : length set ≡ size S4 3
  unfolding size set_length
  size_4 = e

  pub law4-holds : Law trueFourth four_atoms set (true_calls work)
  law4-holds = law4 four_atoms set (true_calls work) size_4 ((λ _. refl), ((λ r. absurd (true≢false (sym refused_4 ∙ r))), ((λ _. refl), tt)))

  -- It spells 1, 0, 2, 3: at fourth order only type 0 has a meaning.
  spells_4 : spelledBy trueFourth (length set) (true_calls work) ≡ 1 ∷ 0 ∷ 2 ∷ 3 ∷ []
  unfolding spelledBy spells permutation_by legs4 exchanging partner pick straight tab tab_from
  spells_4 = rw (done_4, refused_4) refl

  pub law4-moves : (x y z w : Leg) → Legs S4 3 (x ∷ y ∷ z ∷ w ∷ []) → read_out nan S4 (left_by trueFourth (true_calls work) set) (y ∷ x ∷ z ∷ w ∷ []) ≡ read_out nan S4 set (x ∷ y ∷ z ∷ w ∷ [])
  unfolding pick
  law4-moves x y z w p = moves trueFourth four_atoms set (true_calls work) law4-holds (1 ∷ 0 ∷ 2 ∷ 3 ∷ []) spells_4 (x ∷ y ∷ z ∷ w ∷ []) p

  pub law4-table : (x y z w : Leg) → Legs S4 3 (x ∷ y ∷ z ∷ w ∷ []) → read_out nan S4 (left_by trueFourth (true_calls work) set) (x ∷ y ∷ z ∷ w ∷ []) ≡ read_out nan S4 set (y ∷ x ∷ z ∷ w ∷ [])
  unfolding fedBy feed exchange4
  law4-table x y z w p = law4-holds.table (x ∷ y ∷ z ∷ w ∷ []) p ∙ rw (done_4, refused_4) refl

-- ---- a list of swaps at fourth order, over the same four atoms

-- legs 0 and 2; a leg that there is not; equal legs; legs 3 and 1, named falling
abbrev pub swap_calls : List ℕ → List Swap
swap_calls work =
    record { leg_a = 0; leg_b = 2; tables = four_atoms; work = work }
    ∷ record { leg_a = 4; leg_b = 0; tables = four_atoms; work = work }
    ∷ record { leg_a = 1; leg_b = 1; tables = four_atoms; work = work }
    ∷ record { leg_a = 3; leg_b = 1; tables = four_atoms; work = work } ∷ []

swap-answers : (judged_swap 10368 8 four_atoms 0 2 ≡ Ok tt) × (judged_swap 10368 8 four_atoms 4 0 ≡ Err IndexOutOfRange)
    × (judged_swap 10368 8 four_atoms 1 1 ≡ Ok tt) × (judged_swap 10368 8 four_atoms 3 1 ≡ Ok tt)
unfolding judged_swap set_length set_blocks out_of_range ruled counts_agree rows_injective has_null rows_closed rows_free p2s_back s2pp_kept nsym_lands distinct is_null is_after follows row p2s_at s2pp_at nsym_at every some
swap-answers = (refl, refl, refl, refl)

module _ (set : List Float) (work : List ℕ) (e : length set ≡ 10368) (f : length work ≡ 8) where
  swap-first : is_refusal (judged_swap (length set) (length work) four_atoms 0 2) ≡ false
  swap-first = rw (e, f, swap-answers.0)

  swap-refused : is_refusal (judged_swap (length set) (length work) four_atoms 4 0) ≡ true
  swap-refused = rw (e, f, swap-answers.1)

  swap_equal : is_refusal (judged_swap (length set) (length work) four_atoms 1 1) ≡ false
  swap_equal = rw (e, f, swap-answers.2)

  swap-falling : is_refusal (judged_swap (length set) (length work) four_atoms 3 1) ≡ false
  swap-falling = rw (e, f, swap-answers.3)

  swap_size : length set ≡ size S4 3
  unfolding size set_length
  swap_size = e

  pub swaps_hold : Law swaps four_atoms set (swap_calls work)
  swaps_hold = law-swaps four_atoms set (swap_calls work) swap_size ((λ _. refl), ((λ _. refl), ((λ _. refl), ((λ _. refl), tt))))

  -- It spells 2, 3, 0, 1: what stood at the legs x, y, z, w stands at z, w, x, y.
  swaps_spell : spelledBy swaps (length set) (swap_calls work) ≡ 2 ∷ 3 ∷ 0 ∷ 1 ∷ []
  unfolding spelledBy spells permutation_by exchanging partner pick straight tab tab_from
  swaps_spell = rw (swap-first, swap-refused, swap_equal, swap-falling) refl

  pub swaps-move : (x y z w : Leg) → Legs S4 3 (x ∷ y ∷ z ∷ w ∷ []) → read_out nan S4 (left_by swaps (swap_calls work) set) (z ∷ w ∷ x ∷ y ∷ []) ≡ read_out nan S4 set (x ∷ y ∷ z ∷ w ∷ [])
  unfolding pick
  swaps-move x y z w p = moves swaps four_atoms set (swap_calls work) swaps_hold (2 ∷ 3 ∷ 0 ∷ 1 ∷ []) swaps_spell (x ∷ y ∷ z ∷ w ∷ []) p

  pub swaps-table : (x y z w : Leg) → Legs S4 3 (x ∷ y ∷ z ∷ w ∷ []) → read_out nan S4 (left_by swaps (swap_calls work) set) (x ∷ y ∷ z ∷ w ∷ []) ≡ read_out nan S4 set (z ∷ w ∷ x ∷ y ∷ [])
  unfolding fedBy feed exchanging partner pick tab tab_from
  swaps-table x y z w p = swaps_hold.table (x ∷ y ∷ z ∷ w ∷ []) p ∙ rw (swap-first, swap-refused, swap_equal, swap-falling) refl
