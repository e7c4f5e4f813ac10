-- The one guard of every call on a full set, whatever its rank (document 01, refusals 1 and 2), and what a set that passes it is known to be.
-- Assumes nothing.
use Rattle.std.specs.Prelude.{Err, Ok, ◌≡◌, Bool, true, false, not, ◌||◌, List, [], ◌∷◌, ℕ, ◌≤◌, ◌<◌, eqb}
use Rattle.std.proofs.Math.Path.{refl}
use Rattle.std.proofs.Common.{sym, ap, ◌∙◌, true≢false}
use Rattle.std.proofs.lemmas.Bool.{false≢true}
use borrow.Author.Tests.{lt-ltb, le-ltb, eq-eqb, ne_eqb}
use Rattle.lists.specs.Elements.{All}
use Rattle.tables.specs.Answers.{Answer}
use Rattle.tables.specs.declared.Refusal.TheVariants.{CountAboveLimit, WrongLength}
use Rattle.tables.specs.Answers.{is_refusal, refuse_if, passed}
use Rattle.tables.specs.Conditions.{any_above, any_wrong, not_above, not-wrong}
use Rattle.tables.specs.Lengths.{set_length}

-- A call on a full set of n atoms, of rank m + 1; `others` are the lengths of its other slices, each with the one stated for it.
unfoldable pub judged_full : ℕ → ℕ → ℕ → List (ℕ × ℕ) → ℕ → Answer
judged_full limit m len others n =
    refuse_if (any_above limit (n ∷ [])) CountAboveLimit
    (refuse_if (any_wrong ((len, set_length n n m) ∷ others)) WrongLength (Ok tt))

-- ---- a set alone, answer by answer

module _ (limit m len n : ℕ) where
  pub full_above : limit < n → Err CountAboveLimit ≡ judged_full limit m len [] n
  unfolding judged_full
  full_above h = rw (lt-ltb limit n h) refl

  pub full-wrong : n ≤ limit → (len ≡ set_length n n m → ⊥) → Err WrongLength ≡ judged_full limit m len [] n
  unfolding judged_full
  full-wrong h d = rw (le-ltb limit n h, ne_eqb len (set_length n n m) d) refl

  pub full-passes : n ≤ limit → len ≡ set_length n n m → Ok tt ≡ judged_full limit m len [] n
  unfolding judged_full
  full-passes h e = rw (le-ltb limit n h, eq-eqb len (set_length n n m) e) refl

-- ---- where a call is not refused

module _ (limit m len : ℕ) (others : List (ℕ × ℕ)) (n : ℕ) (e : judged_full limit m len others n ≡ Ok tt) where
  pub done_full : (n ≤ limit) × (len ≡ set_length n n m) × All (λ l. l.0 ≡ l.1) others
  unfolding judged_full
  done_full =
      let (q1, e1) = passed (any_above limit (n ∷ [])) CountAboveLimit _ e in
      let (q2, _) = passed (any_wrong ((len, set_length n n m) ∷ others)) WrongLength (Ok tt) e1 in
      let (l, ls) = not-wrong ((len, set_length n n m) ∷ others) q2 in
      ((not_above limit (n ∷ []) q1).0, l, ls)

  -- the set alone is not refused either
  pub alone-done : judged_full limit m len [] n ≡ Ok tt
  alone-done = sym (full-passes limit m len n done_full.0 done_full.1)

-- ---- one more slice, after the set alone

abbrev answer_by : Bool → Bool → Bool → Answer
answer_by x y f = refuse_if x CountAboveLimit (refuse_if (y || (f || false)) WrongLength (Ok tt))

refused-by : (x y f : Bool) → is_refusal (answer_by x y false) ≡ true → answer_by x y false ≡ answer_by x y f
refused-by true y f h = refl
refused-by false true f h = refl
refused-by false false f h = absurd (false≢true h)

passed-by : (x y f : Bool) → is_refusal (answer_by x y false) ≡ false → refuse_if f WrongLength (Ok tt) ≡ answer_by x y f
passed-by true y f h = absurd (true≢false h)
passed-by false true f h = absurd (true≢false h)
passed-by false false true h = refl
passed-by false false false h = refl

module _ (limit m len other stated n : ℕ) (a : Answer) (e : a ≡ judged_full limit m len [] n) where
  abbrev above : Bool
  above = any_above limit (n ∷ [])

  abbrev set_wrong : Bool
  set_wrong = not (eqb len (set_length n n m))

  alone_is : a ≡ answer_by above set_wrong false
  unfolding judged_full
  alone_is = e

  with_is : answer_by above set_wrong (not (eqb other stated)) ≡ judged_full limit m len ((other, stated) ∷ []) n
  unfolding judged_full
  with_is = refl

  pub refused-with : is_refusal a ≡ true → a ≡ judged_full limit m len ((other, stated) ∷ []) n
  refused-with h = alone_is ∙ refused-by above set_wrong (not (eqb other stated)) (ap is_refusal (sym alone_is) ∙ h) ∙ with_is

  passed-with : is_refusal a ≡ false → refuse_if (not (eqb other stated)) WrongLength (Ok tt) ≡ judged_full limit m len ((other, stated) ∷ []) n
  passed-with h = passed-by above set_wrong (not (eqb other stated)) (ap is_refusal (sym alone_is) ∙ h) ∙ with_is

  pub wrong-with : is_refusal a ≡ false → (other ≡ stated → ⊥) → Err WrongLength ≡ judged_full limit m len ((other, stated) ∷ []) n
  wrong-with h d = ap (λ b. refuse_if (not b) WrongLength (Ok tt)) (sym (ne_eqb other stated d)) ∙ passed-with h

  pub right-with : is_refusal a ≡ false → other ≡ stated → Ok tt ≡ judged_full limit m len ((other, stated) ∷ []) n
  right-with h q = ap (λ b. refuse_if (not b) WrongLength (Ok tt)) (sym (eq-eqb other stated q)) ∙ passed-with h
