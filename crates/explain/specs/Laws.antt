-- What the searches find, and what is read from tables that fit. Assumes nothing.
use Rattle.std.specs.Prelude.{◌≡◌, refl, Bool, true, false, ◌⊎◌, ℕ, suc, ◌+◌, ◌*◌, ◌≤◌, ◌<◌, ltb}
use Rattle.std.proofs.Common.{sym, subst, ◌∙◌, inl, inr, arith, ltb-true, lt-ltb, le-ltb}
use Rattle.lists.specs.Digits.{in_row}
use Rattle.lists.specs.Tests.{some, some_at, some_of, same_test, not-both}
use Rattle.lists.specs.Lowest.{lowest, lowest-passes, lowest_fails}
use Rattle.lists.specs.Cases.{lt_or_le}
use Rattle.tables.specs.Conditions.{Readable, index_at, read}
use Rattle.tables.specs.declared.Refusal.TheVariants.{IndexOutOfRange}
use Rattle.tables.specs.Shifts.{Shifts}
use Rattle.tables.specs.Compact.{ShiftTables, TablesFit}
use Rattle.explain.specs.Explain.{bound_tables, bound_at, first_out, first_beyond, rule_at, because, bad_entry}

-- a search that ends before its count has found something
pub found : (n : ℕ) (f : ℕ → Bool) → ltb (lowest n f) n ≡ some n f
found n f = same_test (ltb (lowest n f) n) (some n f) to back
  where
    to : ltb (lowest n f) n ≡ true → some n f ≡ true
    to e = let h = ltb-true (lowest n f) n e in some_of n f (lowest n f) h (lowest-passes n f h)

    go : (k : ℕ) → k < n → f k ≡ true → (lowest n f < n) ⊎ (n ≤ lowest n f) → lowest n f < n
    go k h e (inl l) = l
    go k h e (inr l) = absurd (not-both e (lowest_fails n f k (omega arith)))

    back : some n f ≡ true → ltb (lowest n f) n ≡ true
    back e = let (k, h, q) = some_at n f e in lt-ltb (lowest n f) n (go k h q (lt_or_le (lowest n f) n))

pub found_below : (n : ℕ) (f : ℕ → Bool) → some n f ≡ true → (lowest n f < n) × (f (lowest n f) ≡ true)
found_below n f e = let h = ltb-true (lowest n f) n (found n f ∙ e) in (h, lowest-passes n f h)

module _ (n : ℕ) (f : ℕ → Bool) {q m : ℕ} (e : q ≡ lowest n f) (c : m ≡ n) where
  pub found_some : q < m → some n f ≡ true
  found_some h = sym (found n f) ∙ lt-ltb (lowest n f) n (omega (arith, h, e, c))

  pub found_none : m ≤ q → some n f ≡ false
  found_none h = sym (found n f) ∙ le-ltb (lowest n f) n (omega (arith, h, e, c))

-- a search step by step
pub here : (n : ℕ) (f : ℕ → Bool) → f 0 ≡ true → 0 ≡ lowest (suc n) f
unfolding lowest
here n f e = rw e refl

pub next : (n : ℕ) (f : ℕ → Bool) {k : ℕ} → f 0 ≡ false → k ≡ lowest n (λ i. f (suc i)) → suc k ≡ lowest (suc n) f
unfolding lowest
next n f e h = rw (e, h) refl

-- ---- refusal 3

pub entry-at : (T : ShiftTables) (i : ℕ) {k : ℕ} → i ≡ first_out (bound_tables T)
    → k ≡ first_beyond (bound_at (bound_tables T) i).0 (bound_at (bound_tables T) i).1 → because IndexOutOfRange i k 0 0 ≡ bad_entry T
unfolding bad_entry
entry-at T i e h = rw (h, e) refl

-- ---- what is read from tables that fit

module _ {limit : ℕ} (T : ShiftTables) (F : TablesFit limit T) where
  pub perms-read : (t a : ℕ) → t < T.num_trans → a < T.n_satom → Readable T.perms (t * T.n_satom + a)
  perms-read t a ht ha = (read F.perms-fit (t * T.n_satom + a) (in_row T.num_trans T.n_satom t a ht ha)).0

  pub p2s-read : (p : ℕ) → p < T.n_patom → Readable T.p2s p
  p2s-read p h = (read F.p2s-fit p h).0

  pub s2pp-read : (a : ℕ) → a < T.n_satom → Readable T.s2pp a
  s2pp-read a h = (read F.s2pp-fit a h).0

  pub nsym_read : (a : ℕ) → a < T.n_satom → Readable T.nsym_list a
  nsym_read a h = (read F.nsym_fit a h).0

  pub image-below : {x t a : ℕ} → x ≡ index_at T.perms (t * T.n_satom + a) → t < T.num_trans → a < T.n_satom → x < T.n_satom
  image-below {t = t} {a = a} e ht ha = rw e (read F.perms-fit (t * T.n_satom + a) (in_row T.num_trans T.n_satom t a ht ha)).1

  pub p2s-below : {x p : ℕ} → x ≡ index_at T.p2s p → p < T.n_patom → x < T.n_satom
  p2s-below {p = p} e h = rw e (read F.p2s-fit p h).1

  pub s2pp-below : {x a : ℕ} → x ≡ index_at T.s2pp a → a < T.n_satom → x < T.n_patom
  s2pp-below {a = a} e h = rw e (read F.s2pp-fit a h).1

  pub nsym_below : {x a : ℕ} → x ≡ index_at T.nsym_list a → a < T.n_satom → x < T.num_trans
  nsym_below {a = a} e h = rw e (read F.nsym_fit a h).1

-- ---- the rules by number

above_three : (r : ℕ) → (r ≡ 0 → ⊥) → (r ≡ 1 → ⊥) → (r ≡ 2 → ⊥) → (r ≡ 3 → ⊥) → 3 < r
above_three r n0 n1 n2 n3 = omega arith

is_seven : (r : ℕ) → r < 8 → 3 < r → (r ≡ 4 → ⊥) → (r ≡ 5 → ⊥) → (r ≡ 6 → ⊥) → r ≡ 7
is_seven r h g n4 n5 n6 = omega arith

pub last-rule : (r : ℕ) → r < 8 → (r ≡ 0 → ⊥) → (r ≡ 1 → ⊥) → (r ≡ 2 → ⊥) → (r ≡ 3 → ⊥) → (r ≡ 4 → ⊥) → (r ≡ 5 → ⊥) → (r ≡ 6 → ⊥) → r ≡ 7
last-rule r h n0 n1 n2 n3 = is_seven r h (above_three r n0 n1 n2 n3)

-- the numbers that a rule is about, where its number is known
pub at-rule : (S : Shifts) {r q : ℕ} (i j k : ℕ) → r ≡ q → (i < (rule_at S r).firsts) × (j < (rule_at S r).seconds) × (k < (rule_at S r).thirds)
    → (i < (rule_at S q).firsts) × (j < (rule_at S q).seconds) × (k < (rule_at S q).thirds)
at-rule S i j k e h = subst (λ r. (i < (rule_at S r).firsts) × (j < (rule_at S r).seconds) × (k < (rule_at S r).thirds)) e h
