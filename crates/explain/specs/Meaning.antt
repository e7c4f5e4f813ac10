-- What an explanation means: its answer is the guard's, and what it names is the first thing that is wrong. Assumes nothing.
use Rattle.std.specs.Prelude.{◌≡◌, refl, false, ◌&&◌, ◌||◌, List, [], ℤ, pos, length, get_or}
use Rattle.std.proofs.Math.Path.{sym, ap}
use Rattle.std.proofs.Common.{◌∙◌, arith}
use Rattle.std.proofs.Math.Bool.{Bool, true, not}
use Prim.Native.Nat.{ℕ, zero, suc, ◌<◌}
use Rattle.std.proofs.Math.Dec.{eqb}
use borrow.Author.Tests.{not-true, not-false}
use Rattle.lists.specs.Tests.{every, some, every-at, every_of, some_at, some_of, and_fst, and_snd, both, same_test, refuted, not-both}
use Rattle.lists.specs.Lowest.{lowest_fails}
use Rattle.tables.specs.Limits.{limit2}
use Rattle.tables.specs.Conditions.{any_above, any_wrong, below, out_of_range, none_out}
use Rattle.tables.specs.Shifts.{Shifts, row, p2s_at, s2pp_at, nsym_at, distinct, is_after, follows, counts_agree, rows_injective, has_null, rows_closed, rows_free, p2s_back, s2pp_kept, nsym_lands, ruled}
use Rattle.tables.specs.Compact.{ShiftTables, shifts_of, table_lengths, tables_out_of_range, judged_entries, judged_tables}
use Rattle.explain.specs.Explain.{Rule, rules, rule_at, broken_at, broken_from, broken, first_of, second_of, third_of, first_broken, counts, bound_tables, bound_at, out_at, first_out, first_beyond, bad_entry, broken_rule, explain_shift_tables}
use Rattle.explain.specs.Laws.{found_below}

-- ---- a rule holds where nothing breaks it

module _ (n : ℕ) where
  none_passes : (g : ℕ → Bool) → some n g ≡ false → (k : ℕ) → k < n → g k ≡ false
  none_passes g e k l = refuted (g k) (λ q. not-both (some_of n g k l q) e)

  every-not : (f g : ℕ → Bool) → ((k : ℕ) → f k ≡ not (g k)) → every n f ≡ not (some n g)
  every-not f g h = same_test (every n f) (not (some n g)) to back
    where
      to : every n f ≡ true → not (some n g) ≡ true
      to e = ap not (refuted (some n g) (λ s. let (k, l, q) = some_at n g s in not-both (every-at n f e k l) (h k ∙ ap not q)))

      back : not (some n g) ≡ true → every n f ≡ true
      back e = every_of n f (λ k l. h k ∙ ap not (none_passes g (not-true (some n g) e) k l))

  every-same : (f g : ℕ → Bool) → ((k : ℕ) → f k ≡ g k) → every n f ≡ every n g
  every-same f g h =
      same_test (every n f) (every n g) (λ e. every_of n g (λ k l. sym (h k) ∙ every-at n f e k l)) (λ e. every_of n f (λ k l. h k ∙ every-at n g e k l))

-- tests of two numbers, in either order
every-exchange : (n m : ℕ) (f : ℕ → ℕ → Bool) → every n (λ a. every m (f a)) ≡ every m (λ b. every n (λ a. f a b))
every-exchange n m f = same_test (every n (λ a. every m (f a))) (every m (λ b. every n (λ a. f a b)))
    (λ e. every_of m _ (λ b hb. every_of n _ (λ a ha. every-at m _ (every-at n _ e a ha) b hb)))
    (λ e. every_of n _ (λ a ha. every_of m _ (λ b hb. every-at n _ (every-at m _ e b hb) a ha)))

not-and : (a b : Bool) → (not a || b) ≡ not (a && not b)
not-and true true = refl
not-and true false = refl
not-and false b = refl

refuted_false : (a : Bool) → (a ≡ false → ⊥) → a ≡ true
refuted_false true f = refl
refuted_false false f = absurd (f refl)

not-not : (a : Bool) → a ≡ not (not a)
not-not true = refl
not-not false = refl

-- a rule about i, j and k holds where nothing breaks it
every_unbroken : (R : Rule) (f : ℕ → ℕ → ℕ → Bool) → ((i j k : ℕ) → f i j k ≡ not (R.breaks i j k))
    → every R.firsts (λ i. every R.seconds (λ j. every R.thirds (f i j))) ≡ not (broken R)
unfolding broken
every_unbroken R f h =
    every-not R.firsts _ _ (λ i. every-not R.seconds _ _ (λ j. every-not R.thirds _ _ (λ k. h i j k)))

module _ (S : Shifts) where
  holds : ℕ → Bool
  holds r = not (broken (rule_at S r))

  counts_hold : counts_agree S ≡ holds 0
  unfolding holds rules broken some
  counts_hold = not-not (counts_agree S)

  injective_hold : rows_injective S ≡ holds 1
  unfolding holds rules rows_injective distinct
  injective_hold = every_unbroken (rule_at S 1) _ (λ t a b. not-and (eqb (row S t a) (row S t b)) (eqb a b))

  null-holds : has_null S ≡ holds 2
  unfolding holds rules broken some
  null-holds = not-not (has_null S)

  closed-holds : rows_closed S ≡ holds 3
  unfolding holds rules rows_closed follows every
  closed-holds =
      every-exchange S.num_trans S.num_trans (λ u t. some S.num_trans (is_after S t u))
      ∙ every_unbroken (rule_at S 3) (λ t u _. some S.num_trans (is_after S t u)) (λ t u _. not-not (some S.num_trans (is_after S t u)))

  free-holds : rows_free S ≡ holds 4
  unfolding holds rules rows_free distinct
  free-holds =
      let F : ℕ → ℕ → ℕ → Bool = λ a t u. not (eqb (row S t a) (row S u a)) || eqb t u in
      every-exchange S.n_satom S.num_trans (λ a t. every S.num_trans (F a t))
      ∙ every-same S.num_trans _ _ (λ t. every-exchange S.n_satom S.num_trans (λ a. F a t))
      ∙ every_unbroken (rule_at S 4) (λ t u a. F a t u) (λ t u a. not-and (eqb (row S t a) (row S u a)) (eqb t u))

  back_holds : p2s_back S ≡ holds 5
  unfolding holds rules p2s_back every
  back_holds = every_unbroken (rule_at S 5) (λ p _ _. eqb (s2pp_at S (p2s_at S p)) p) (λ p _ _. not-not (eqb (s2pp_at S (p2s_at S p)) p))

  kept-holds : s2pp_kept S ≡ holds 6
  unfolding holds rules s2pp_kept every
  kept-holds = every_unbroken (rule_at S 6) (λ t a _. eqb (s2pp_at S (row S t a)) (s2pp_at S a)) (λ t a _. not-not (eqb (s2pp_at S (row S t a)) (s2pp_at S a)))

  lands-holds : nsym_lands S ≡ holds 7
  unfolding holds rules nsym_lands every
  lands-holds = every_unbroken (rule_at S 7) (λ a _ _. eqb (row S (nsym_at S a) a) (p2s_at S (s2pp_at S a))) (λ a _ _. not-not (eqb (row S (nsym_at S a) a) (p2s_at S (s2pp_at S a))))

  -- the rules are kept exactly where none is broken
  pub none-broken : ruled S ≡ true → (r : ℕ) → r < 8 → broken (rule_at S r) ≡ false
  unfolding ruled holds
  none-broken e r h = not-true (broken (rule_at S r)) (each r h)
    where
      each : (r : ℕ) → r < 8 → holds r ≡ true
      each zero h = sym counts_hold ∙ and_fst _ _ e
      each (suc zero) h = sym injective_hold ∙ and_fst _ _ (and_snd (counts_agree S) _ e)
      each (suc (suc zero)) h = sym null-holds ∙ and_fst _ _ (and_snd (rows_injective S) _ (and_snd (counts_agree S) _ e))
      each (suc (suc (suc r))) h = later r (and_snd (has_null S) _ (and_snd (rows_injective S) _ (and_snd (counts_agree S) _ e))) (omega arith)
        where
          later : (r : ℕ) → (rows_closed S && (rows_free S && (p2s_back S && (s2pp_kept S && nsym_lands S)))) ≡ true → r < 5 → holds (suc (suc (suc r))) ≡ true
          later zero q h = sym closed-holds ∙ and_fst _ _ q
          later (suc zero) q h = sym free-holds ∙ and_fst _ _ (and_snd (rows_closed S) _ q)
          later (suc (suc zero)) q h = sym back_holds ∙ and_fst _ _ (and_snd (rows_free S) _ (and_snd (rows_closed S) _ q))
          later (suc (suc (suc zero))) q h = sym kept-holds ∙ and_fst _ _ (and_snd (p2s_back S) _ (and_snd (rows_free S) _ (and_snd (rows_closed S) _ q)))
          later (suc (suc (suc (suc zero)))) q h = sym lands-holds ∙ and_snd (s2pp_kept S) _ (and_snd (p2s_back S) _ (and_snd (rows_free S) _ (and_snd (rows_closed S) _ q)))
          later (suc (suc (suc (suc (suc r))))) q h = absurd (omega arith)

  pub all-kept : ((r : ℕ) → r < 8 → broken (rule_at S r) ≡ false) → ruled S ≡ true
  unfolding ruled holds
  all-kept h =
      let k : (r : ℕ) → r < 8 → holds r ≡ true = λ r l. ap not (h r l) in
      both _ _ (counts_hold ∙ k 0 (omega arith)) (both _ _ (injective_hold ∙ k 1 (omega arith)) (both _ _ (null-holds ∙ k 2 (omega arith))
      (both _ _ (closed-holds ∙ k 3 (omega arith)) (both _ _ (free-holds ∙ k 4 (omega arith)) (both _ _ (back_holds ∙ k 5 (omega arith))
      (both _ _ (kept-holds ∙ k 6 (omega arith)) (lands-holds ∙ k 7 (omega arith))))))))

  -- what an explanation of refusal 6 names: a rule, and numbers that break it
  pub breaks_it : ruled S ≡ false
      → let e = broken_rule S in
      let R = rule_at S e.which in
      (e.which < 8) × (e.first < R.firsts) × (e.second < R.seconds) × (e.third < R.thirds) × (R.breaks e.first e.second e.third ≡ true)
  unfolding broken_rule first_broken broken first_of second_of third_of
  breaks_it n =
      let s : some 8 (λ r. broken (rule_at S r)) ≡ true = not-false _ (refuted _ (λ q. not-both (all-kept (none_passes 8 _ (not-true _ q))) n)) in
      let (hr, er) = found_below 8 (λ r. broken (rule_at S r)) s in
      let R = rule_at S (first_broken S) in
      let (hi, ei) = found_below R.firsts (broken_from R) er in
      let (hj, ej) = found_below R.seconds (broken_at R (first_of R)) ei in
      let (hk, ek) = found_below R.thirds (R.breaks (first_of R) (second_of R (first_of R))) ej in
      (hr, hi, hj, hk, ek)

  -- no earlier rule is broken, and no lesser numbers break this one
  pub no-earlier : (r : ℕ) → r < (broken_rule S).which → broken (rule_at S r) ≡ false
  unfolding broken_rule first_broken
  no-earlier = lowest_fails 8 (λ r. broken (rule_at S r))

  pub no_lesser : let e = broken_rule S in
      let R = rule_at S e.which in
      ((i j k : ℕ) → i < e.first → j < R.seconds → k < R.thirds → R.breaks i j k ≡ false)
      × ((j k : ℕ) → j < e.second → k < R.thirds → R.breaks e.first j k ≡ false)
      × ((k : ℕ) → k < e.third → R.breaks e.first e.second k ≡ false)
  unfolding broken_rule first_of second_of third_of
  no_lesser =
      let R = rule_at S (first_broken S) in (
        λ i j k hi hj hk. none_passes R.thirds (R.breaks i j) (none_passes R.seconds (broken_at R i) (lowest_fails R.firsts (broken_from R) i hi) j hj) k hk,
        λ j k hj hk. none_passes R.thirds (R.breaks (first_of R) j) (lowest_fails R.seconds (broken_at R (first_of R)) j hj) k hk,
        lowest_fails R.thirds (R.breaks (first_of R) (second_of R (first_of R))),
      )

-- ---- what an explanation of refusal 3 names: a table, and its first entry that is no index

pub entry_named : (n : ℕ) (t : List ℤ) → out_of_range n t ≡ true → (first_beyond n t < length t) × (below n (get_or t (first_beyond n t) (pos 0)) ≡ false)
unfolding first_beyond
entry_named n t e =
    let f : ℕ → Bool = λ k. not (below n (get_or t k (pos 0))) in
    let s : some (length t) f ≡ true = refuted_false (some (length t) f) (λ q. not-both e (none_out n t (λ k h. not-false _ (none_passes (length t) f q k h)))) in
    let (h, q) = found_below (length t) f s in
    (h, not-true _ q)

pub entries-before : (n : ℕ) (t : List ℤ) (k : ℕ) → k < first_beyond n t → below n (get_or t k (pos 0)) ≡ true
unfolding first_beyond
entries-before n t k h = not-false _ (lowest_fails (length t) (λ k. not (below n (get_or t k (pos 0)))) k h)

or_left : (a b c d : Bool) → (((a || b) || c) || d) ≡ (a || (b || (c || d)))
or_left true b c d = refl
or_left false true c d = refl
or_left false false c d = refl

pub bad_entry_lem : (T : ShiftTables) → tables_out_of_range T ≡ true
    → let e = bad_entry T in
    let t = bound_at (bound_tables T) e.which in
    (e.which < 4) × (e.first < length t.1) × (below t.0 (get_or t.1 e.first (pos 0)) ≡ false)
unfolding bad_entry some
bad_entry_lem T e =
    let o = out_at (bound_tables T) in
    let (h, q) = found_below 4 o (or_left (o 0) (o 1) (o 2) (o 3) ∙ e) in
    let t = bound_at (bound_tables T) (first_out (bound_tables T)) in
    let (g, b) = entry_named t.0 t.1 q in
    (h, g, b)

-- ---- the answer is the guard's

pub explained-answer : (T : ShiftTables) → (explain_shift_tables T).answer ≡ judged_tables limit2 [] T
unfolding explain_shift_tables judged_tables judged_entries bad_entry broken_rule
explained-answer T = go (any_above limit2 (counts T)) (any_wrong (table_lengths T)) (tables_out_of_range T) (not (ruled (shifts_of T))) refl refl refl refl
  where
    go : (a w o r : Bool) → any_above limit2 (counts T) ≡ a → any_wrong (table_lengths T) ≡ w → tables_out_of_range T ≡ o → not (ruled (shifts_of T)) ≡ r
        → (explain_shift_tables T).answer ≡ judged_tables limit2 [] T
    go true w o r ea ew eo er = rw ea refl
    go false true o r ea ew eo er = rw (ea, ew) refl
    go false false true r ea ew eo er = rw (ea, ew, eo) refl
    go false false false true ea ew eo er = rw (ea, ew, eo, er) refl
    go false false false false ea ew eo er = rw (ea, ew, eo, er) refl
