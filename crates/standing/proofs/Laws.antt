-- Document 02, A.8, as laws: in a lawful roll no chain of replacements goes on without end, and what the roll answers is what the rules give
-- over the plain register of its records, and nothing else is. Assumes nothing.
use Rattle.std.specs.Prelude.{◌≡◌, refl, true, not, ◌&&◌, List, eqb, leb, get_or, Result}
use Rattle.std.proofs.Common.{sym, ap, ◌∙◌, subst, add-one, arith}
use Rattle.std.proofs.Math.Bool.{cond}
use Rattle.std.proofs.Math.Logic.{⊎_elim}
use Prim.Native.Nat.{ℕ, zero, suc, ◌+◌, ◌<◌}
use borrow.Author.Tests.{eq-eqb, leb-true}
use Rattle.lists.specs.Cases.{eq_or_ne}
use Rattle.lists.specs.Tests.{and_fst, and_snd}
use Rattle.roll.specs.Format.{record_ruled}
use Rattle.roll.specs.Reading.{four_at, record_start, entry_at, ruled_at, count_of, trailer_at, is_roll, entries_of}
use Rattle.roll.specs.StartLaws.{follow-ruled}
use Rattle.roll.specs.HoldingLaws.{is_following}
use Rattle.standing.specs.Register.{Register, register_of, lawful, rule, answer, stands_now}
use Rattle.standing.specs.Walk.{record_of, register_after, lawful_to, entries_register, entries-lawful, by_rules}
use Rattle.standing.specs.Chains.{Sound, chain_end, end_zero, end_goes, sound}
use Rattle.standing.specs.declared.Standing.{Standing}
use Rattle.tables.specs.declared.Refusal.{Refusal}

-- ---- the rules over a register whose chains end

module _ (g : Register) where
  rule-same : (h k : ℕ → Result Standing Refusal) (x : ℕ) → ((g.replaced_by x ≡ 0 → ⊥) → h (g.replaced_by x) ≡ k (g.replaced_by x)) → rule g h x ≡ rule g k x
  unfolding rule
  rule-same h k x q =
      ⊎_elim (λ (e : g.replaced_by x ≡ 0). rw (eq-eqb (g.replaced_by x) 0 e) refl)
      (λ (d : g.replaced_by x ≡ 0 → ⊥). rw (q d) refl)
      (eq_or_ne (g.replaced_by x) 0)

  never : {A : Type 0} (x : ℕ) → g.replaced_by (chain_end zero g x) ≡ 0 → (g.replaced_by x ≡ 0 → ⊥) → A
  never x e d = absurd (d (ap g.replaced_by (sym (end_zero g x)) ∙ e))

  later : (m x : ℕ) → g.replaced_by (chain_end (suc m) g x) ≡ 0 → (g.replaced_by x ≡ 0 → ⊥) → g.replaced_by (chain_end m g (g.replaced_by x)) ≡ 0
  later m x e d = ap g.replaced_by (sym (end_goes m g x d)) ∙ e

  -- one set more makes no difference where the chain has ended
  stable : (m x : ℕ) → g.replaced_by (chain_end m g x) ≡ 0 → answer (suc m) g x ≡ rule g (answer (suc m) g) x
  unfolding answer
  stable zero x e = rule-same (answer zero g) (answer (suc zero) g) x (never x e)
  stable (suc m) x e = rule-same (answer (suc m) g) (answer (suc (suc m)) g) x (λ d. stable m (g.replaced_by x) (later m x e d))

  -- whatever keeps to the rules gives these answers
  alone : (h : ℕ → Result Standing Refusal) → ((x : ℕ) → h x ≡ rule g h x) → (m x : ℕ) → g.replaced_by (chain_end m g x) ≡ 0 → h x ≡ answer (suc m) g x
  unfolding answer
  alone h r zero x e = r x ∙ rule-same h (answer zero g) x (never x e)
  alone h r (suc m) x e = r x ∙ rule-same h (answer (suc m) g) x (λ d. alone h r m (g.replaced_by x) (later m x e d))

-- ---- any roll

-- set numbers start at 1
pub numbered : (b : List ℕ) → is_roll b ≡ true → (k : ℕ) → k < count_of b → 0 < (record_of b k).number
unfolding record_of entry_at ruled_at record_ruled
numbered b R k h =
    let at = record_start b k in
    let q = follow-ruled b (count_of b) (trailer_at b) (is_following b R) k h in
    let last = cond (eqb (get_or b at 0) 2) (not (eqb (four_at b (at + 5)) 0)) (eqb (four_at b (at + 5)) 0) in
    let i = and_snd (leb 1 (get_or b at 0)) (leb (get_or b at 0) 3 && (leb 1 (four_at b (at + 1)) && last)) q in
    let j = and_snd (leb (get_or b at 0) 3) (leb 1 (four_at b (at + 1)) && last) i in
    let l = leb-true 1 (four_at b (at + 1)) (and_fst (leb 1 (four_at b (at + 1))) last j) in
    omega (arith, l)

-- ---- a lawful roll

module _ (b : List ℕ) (R : is_roll b ≡ true) (L : lawful (entries_of b) ≡ true) where
  abbrev n : ℕ
  n = count_of b

  abbrev G : Register
  G = register_after (record_of b) n

  pub named : (k : ℕ) → k < n → (record_of b k).number ≡ 0 → ⊥
  named k h e = absurd (omega (arith, numbered b R k h, e))

  pub lawful-to : lawful_to (record_of b) n ≡ true
  lawful-to = sym (entries-lawful b) ∙ L

  ended : Sound n G
  ended = sound (record_of b) n named lawful-to

  pub sound-roll : Sound n (register_of (entries_of b))
  sound-roll = subst (Sound n) (sym (entries_register b)) ended

  is_answer : (x : ℕ) → answer (suc n) G x ≡ stands_now b x
  is_answer x = by_rules b x n R refl lawful-to (ap (λ m. answer m G x) (sym (add-one n)))

  -- a chain of replacements has no more steps than the roll has records
  pub chain-ends : (x : ℕ) → (register_of (entries_of b)).replaced_by (chain_end n (register_of (entries_of b)) x) ≡ 0
  chain-ends x = sound-roll.ends x

  -- the roll's answers keep to the rules over its register: reading it record by record gives what they give
  pub keeps_rules_lem : (x : ℕ) → stands_now b x ≡ rule (register_of (entries_of b)) (stands_now b) x
  keeps_rules_lem x =
      sym (is_answer x) ∙ stable G n x (ended.ends x)
      ∙ rule-same G (answer (suc n) G) (stands_now b) x (λ d. is_answer (G.replaced_by x))
      ∙ ap (λ g. rule g (stands_now b) x) (sym (entries_register b))

  -- and they are the only ones that do
  pub only_these : (h : ℕ → Result Standing Refusal) → ((x : ℕ) → h x ≡ rule (register_of (entries_of b)) h x) → (x : ℕ) → h x ≡ stands_now b x
  only_these h r x = alone G h (λ y. r y ∙ ap (λ g. rule g h y) (entries_register b)) n x (ended.ends x) ∙ is_answer x
