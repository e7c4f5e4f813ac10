-- Why shift tables are refused: which count, which table, which entry, or which rule, with the rows and atoms that break it. Definitions only.
use Rattle.std.specs.Prelude.{Err, Ok, Bool, false, not, cond, ◌&&◌, List, [], ◌∷◌, ℕ, eqb, ltb, ℤ, pos, length, get_or}
use Rattle.lists.specs.Tests.{some}
use Rattle.lists.specs.Lowest.{lowest}
use Rattle.tables.specs.declared.Refusal.{Refusal}
use Rattle.tables.specs.declared.Refusal.TheVariants.{CountAboveLimit, WrongLength, IndexOutOfRange, BadShiftTables}
use Rattle.tables.specs.Conditions.{any_above, any_wrong, below, out_of_range}
use Rattle.tables.specs.Limits.{limit2}
use Rattle.tables.specs.Shifts.{Shifts, row, p2s_at, s2pp_at, nsym_at, counts_agree, has_null, is_after, ruled}
use Rattle.tables.specs.Compact.{ShiftTables, shifts_of, table_lengths, tables_out_of_range}
use Rattle.explain.specs.declared.Explanation.{Explanation}

-- ---- 1 to 3: the counts and the tables, in the order in which the guard looks at them

abbrev pub counts : ShiftTables → List ℕ
counts T = T.n_satom ∷ (T.n_patom ∷ (T.num_trans ∷ []))

-- the first count that is above the limit
abbrev pub first_above : ℕ → List ℕ → ℕ
first_above limit ns = lowest (length ns) (λ i. ltb limit (get_or ns i 0))

-- the first length that is another than the stated one; the lengths are those of perms, p2s, s2pp, nsym_list
abbrev pub first_wrong : List (ℕ × ℕ) → ℕ
first_wrong ls = lowest (length ls) (λ i. let l = get_or ls i (0, 0) in not (eqb l.0 l.1))

-- the same tables, each with the count that its entries are below
abbrev pub bound_tables : ShiftTables → List (ℕ × List ℤ)
bound_tables T = (T.n_satom, T.perms) ∷ ((T.n_satom, T.p2s) ∷ ((T.n_patom, T.s2pp) ∷ ((T.num_trans, T.nsym_list) ∷ [])))

abbrev pub bound_at : List (ℕ × List ℤ) → ℕ → ℕ × List ℤ
bound_at ts i = get_or ts i (0, [])

abbrev pub out_at : List (ℕ × List ℤ) → ℕ → Bool
out_at ts i = out_of_range (bound_at ts i).0 (bound_at ts i).1

-- the first with an entry that is out of range, and the first such entry
abbrev pub first_out : List (ℕ × List ℤ) → ℕ
first_out ts = lowest (length ts) (out_at ts)

unfoldable pub first_beyond : ℕ → List ℤ → ℕ
first_beyond n t = lowest (length t) (λ k. not (below n (get_or t k (pos 0))))

-- ---- 6: the rules

-- What a rule says of the numbers i, j and k, each below its count; a rule that is about fewer numbers has the count 1 for the others.
pub record Rule : Type 0 where
  pub firsts : ℕ
  pub seconds : ℕ
  pub thirds : ℕ
  pub breaks : ℕ → ℕ → ℕ → Bool

abbrev rule : ℕ → ℕ → ℕ → (ℕ → ℕ → ℕ → Bool) → Rule
rule firsts seconds thirds breaks = record { firsts = firsts; seconds = seconds; thirds = thirds; breaks = breaks }

-- in document 01's order
unfoldable pub rules : Shifts → List Rule
rules S =
    -- 0: n_satom = n_patom × num_trans
    rule 1 1 1 (λ _ _ _. not (counts_agree S))
    -- 1: row t sends atoms a and b to the same place
    ∷ (rule S.num_trans S.n_satom S.n_satom (λ t a b. eqb (row S t a) (row S t b) && not (eqb a b))
    -- 2: no row is the null shift
    ∷ (rule 1 1 1 (λ _ _ _. not (has_null S))
    -- 3: row u after row t is no row
    ∷ (rule S.num_trans S.num_trans 1 (λ t u _. not (some S.num_trans (is_after S t u)))
    -- 4: rows t and u send atom a to the same place
    ∷ (rule S.num_trans S.num_trans S.n_satom (λ t u a. eqb (row S t a) (row S u a) && not (eqb t u))
    -- 5: s2pp[p2s[p]] is not p
    ∷ (rule S.n_patom 1 1 (λ p _ _. not (eqb (s2pp_at S (p2s_at S p)) p))
    -- 6: s2pp is another for the image of atom a under row t than for a
    ∷ (rule S.num_trans S.n_satom 1 (λ t a _. not (eqb (s2pp_at S (row S t a)) (s2pp_at S a)))
    -- 7: row nsym_list[a] does not send a to p2s[s2pp[a]]
    ∷ (rule S.n_satom 1 1 (λ a _ _. not (eqb (row S (nsym_at S a) a) (p2s_at S (s2pp_at S a)))) ∷ [])))))))

abbrev pub rule_at : Shifts → ℕ → Rule
rule_at S r = get_or (rules S) r (rule 0 0 0 (λ _ _ _. false))

module _ (R : Rule) where
  abbrev pub broken_at : ℕ → ℕ → Bool
  broken_at i j = some R.thirds (R.breaks i j)

  abbrev pub broken_from : ℕ → Bool
  broken_from i = some R.seconds (broken_at i)

  unfoldable pub broken : Bool
  broken = some R.firsts broken_from

  -- the least i, j, k that break the rule, in this order
  unfoldable pub first_of : ℕ
  first_of = lowest R.firsts broken_from

  unfoldable pub second_of : ℕ → ℕ
  second_of i = lowest R.seconds (broken_at i)

  unfoldable pub third_of : ℕ → ℕ → ℕ
  third_of i j = lowest R.thirds (R.breaks i j)

-- the first rule that is broken
unfoldable pub first_broken : Shifts → ℕ
first_broken S = lowest 8 (λ r. broken (rule_at S r))

-- ---- the call

abbrev pub because : Refusal → ℕ → ℕ → ℕ → ℕ → Explanation
because r which first second third = record { answer = Err r; which = which; first = first; second = second; third = third }

unfoldable pub bad_entry : ShiftTables → Explanation
bad_entry T =
    let i = first_out (bound_tables T) in
    because IndexOutOfRange i (first_beyond (bound_at (bound_tables T) i).0 (bound_at (bound_tables T) i).1) 0 0

unfoldable pub broken_rule : Shifts → Explanation
broken_rule S =
    let r = first_broken S in
    let i = first_of (rule_at S r) in
    let j = second_of (rule_at S r) i in
    because BadShiftTables r i j (third_of (rule_at S r) i j)

-- the first refusal that applies, in the order of the guard
unfoldable pub explain_shift_tables : ShiftTables → Explanation
explain_shift_tables T =
    cond (any_above limit2 (counts T)) (because CountAboveLimit (first_above limit2 (counts T)) 0 0 0)
    (cond (any_wrong (table_lengths T)) (because WrongLength (first_wrong (table_lengths T)) 0 0 0)
    (cond (tables_out_of_range T) (bad_entry T)
    (cond (not (ruled (shifts_of T))) (broken_rule (shifts_of T))
    (record { answer = Ok tt; which = 0; first = 0; second = 0; third = 0 }))))
