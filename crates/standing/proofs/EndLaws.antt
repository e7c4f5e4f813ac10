-- The answer for a set by the end of its chain, which one walk over the records finds. Assumes nothing.
use Rattle.std.specs.Prelude.{◌≡◌, Bool, true, false, cond, List, ℕ, zero, suc, ◌+◌, ◌<◌, Result, Ok}
use Rattle.std.proofs.Math.Path.{refl, ap, ap₂}
use Rattle.std.proofs.Common.{sym, ◌∙◌, subst, ⊎_elim, add-one, eq-eqb, ne_eqb}
use Rattle.lists.specs.Cases.{eq_or_ne}
use Rattle.roll.specs.Reading.{record_start, entry_at, count_of, is_roll, entries_of}
use Rattle.standing.specs.Register.{Register, replaces, lawful, rule, answer}
use Rattle.standing.specs.Walk.{record_of, register_after, lawful_to, Notes, entries-lawful}
use Rattle.standing.specs.Chains.{Sound, chain_end, moved, carried, carried_is, end_zero, end_stays, end_goes, sound}
use Rattle.standing.proofs.Laws.{named}
use Rattle.standing.specs.declared.Standing.{Standing}
use Rattle.standing.specs.declared.Standing.TheVariants.{Unknown, Retired, Current}
use Rattle.tables.specs.declared.Refusal.{Refusal}

-- what is said at the end e of a chain
abbrev pub at_end : Register → ℕ → Result Standing Refusal
at_end g e = cond (g.retired e) (Ok Retired) (Ok (Current e))

last_one : (m : ℕ) (g : Register) (x : ℕ) → g.delivered x ≡ true → g.replaced_by x ≡ 0 → answer (suc m) g x ≡ at_end g (chain_end m g x)
unfolding answer rule
last_one m g x d b = rw (d, eq-eqb (g.replaced_by x) 0 b) (ap (at_end g) (sym (end_stays m g x b)))

one_on : (m : ℕ) (g : Register) (x : ℕ) → g.delivered x ≡ true → (g.replaced_by x ≡ 0 → ⊥) → answer (suc (suc m)) g x ≡ answer (suc m) g (g.replaced_by x)
unfolding answer rule
one_on m g x d b = rw (d, ne_eqb (g.replaced_by x) 0 b) refl

module _ (n : ℕ) (g : Register) (p : Sound n g) where
  -- a delivered set answers by the end of its chain
  pub by_end : (m x : ℕ) → g.delivered x ≡ true → g.replaced_by (chain_end m g x) ≡ 0 → answer (suc m) g x ≡ at_end g (chain_end m g x)
  by_end zero x d h = last_one zero g x d (ap g.replaced_by (sym (end_zero g x)) ∙ h)
  by_end (suc m) x d h =
      ⊎_elim (last_one (suc m) g x d)
      (λ (b : g.replaced_by x ≡ 0 → ⊥).
      let e = end_goes m g x b in
      one_on m g x d b ∙ by_end m (g.replaced_by x) (p.heirs x b) (ap g.replaced_by (sym e) ∙ h) ∙ ap (at_end g) (sym e))
      (eq_or_ne (g.replaced_by x) 0)

-- ---- one walk

module _ (b : List ℕ) where
  pub carried_none : (x : ℕ) → x ≡ carried (record_of b) 0 x
  unfolding carried
  carried_none x = refl

  pub carried-more : (i p x y : ℕ) {r : ℕ} → p ≡ record_start b i → y ≡ carried (record_of b) i x → r ≡ cond (replaces (entry_at b p) y) (entry_at b p).number y → r ≡ carried (record_of b) (i + 1) x
  unfolding carried record_of
  carried-more i p x y e q h = h ∙ ap₂ moved (ap (entry_at b) e) q ∙ ap (λ k. carried (record_of b) k x) (sym (add-one i))

-- ---- the code's tests

not_known : (m : ℕ) (g : Register) (x : ℕ) → g.delivered x ≡ false → Ok Unknown ≡ answer (suc m) g x
unfolding answer rule
not_known m g x e = rw e refl

module _ (b : List ℕ) (n x : ℕ) (R : is_roll b ≡ true) (N : n ≡ count_of b) (L : lawful_to (record_of b) n ≡ true) {d t : Bool} {y : ℕ} (F : Notes (register_after (record_of b) n) x d t y) where
  abbrev g : Register
  g = register_after (record_of b) n

  law : lawful (entries_of b) ≡ true
  law = entries-lawful b ∙ ap (lawful_to (record_of b)) (sym N) ∙ L

  known-numbers : (k : ℕ) → k < n → (record_of b k).number ≡ 0 → ⊥
  known-numbers k h = named b R law k (subst (λ m. k < m) N h)

  is_sound : Sound n g
  is_sound = sound (record_of b) n known-numbers L

  one_more : (m : ℕ) → answer (n + 1) g m ≡ answer (suc n) g m
  one_more m = ap (λ k. answer k g m) (add-one n)

  pub says_unknown : d ≡ false → Ok Unknown ≡ answer (n + 1) g x
  says_unknown q = not_known n g x (sym F.delivers ∙ q) ∙ sym (one_more x)

  module _ (q : d ≡ true) {e : ℕ} (E : e ≡ carried (record_of b) n x) {d' t' : Bool} {y' : ℕ} (H : Notes g e d' t' y') where
    ended : answer (n + 1) g x ≡ cond t' (Ok Retired) (Ok (Current e))
    ended =
        let z : e ≡ chain_end n g x = E ∙ carried_is (record_of b) n known-numbers L x in
        one_more x ∙ by_end n g is_sound n x (sym F.delivers ∙ q) (is_sound.ends x) ∙ ap (at_end g) (sym z) ∙ ap (λ s. cond s (Ok Retired) (Ok (Current e))) (sym H.retires)

    pub says_retired : t' ≡ true → Ok Retired ≡ answer (n + 1) g x
    says_retired r = sym (ended ∙ rw r refl)

    pub says_current : t' ≡ false → Ok (Current e) ≡ answer (n + 1) g x
    says_current r = sym (ended ∙ rw r refl)
