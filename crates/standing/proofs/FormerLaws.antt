-- What document 02, A.14, changes, as laws. Assumes nothing.
use Rattle.std.specs.Prelude.{◌≡◌, Bool, false, ◌&&◌, ◌||◌, cond, ◌⊎◌, List, ℕ, zero, suc, eqb, length, Result, Ok}
use Rattle.std.proofs.Math.Path.{refl}
use Rattle.std.proofs.Common.{sym, ap, ◌∙◌, subst, inl, inr, ⊎_elim, eq-eqb, ne_eqb}
use Rattle.std.proofs.Math.Bool.{true, not}
use Rattle.std.proofs.lemmas.Bool.{false≢true, eqb-false, not-true}
use Rattle.std.proofs.Math.Numerals.{add-one}
use Rattle.lists.specs.Cases.{eq_or_ne}
use Rattle.lists.specs.Tests.{split, and_fst, and_snd}
use Rattle.roll.specs.Format.{Entry}
use Rattle.roll.specs.Reading.{is_roll, entries_of}
use Rattle.standing.specs.Register.{Register, register_of, lawful, answer, rule, stands_now}
use Rattle.standing.specs.Chains.{Sound, chain_end, end_zero, end_goes}
use Rattle.standing.proofs.Laws.{sound-roll}
use Rattle.standing.specs.Walk.{entries-many}
use Rattle.standing.proofs.EndLaws.{at_end, by_end}
use Rattle.standing.specs.declared.Standing.{Standing}
use Rattle.standing.specs.declared.Standing.TheVariants.{Retired, Current}
use Rattle.standing.specs.Former.{former_rule, former_answer, former_stands_now, held_back, last, Turned}
use Rattle.tables.specs.declared.Refusal.{Refusal}

-- ---- over a register whose chains end

turned : (t : Bool) (s : Result Standing Refusal) → cond t (Ok Retired) s ≡ cond (not t) s (Ok Retired)
turned true s = refl
turned false s = refl

-- today's answer for a delivered set: retirement at the end of its chain
abbrev AtEnd : ℕ → Register → ℕ → Result Standing Refusal
AtEnd n g x = at_end g (chain_end n g x)

-- what is said of a delivered set
abbrev Changed : ℕ → Register → ℕ → Type 0
Changed m g x = AtEnd m g x ≡ cond (held_back m g x && not (g.retired (chain_end m g x))) (Ok (Current (chain_end m g x))) (former_answer (suc m) g x)

at_last : (m : ℕ) (g : Register) (x : ℕ) → g.delivered x ≡ true → g.replaced_by x ≡ 0 → Changed m g x
unfolding held_back chain_end former_answer former_rule
at_last zero g x d b = rw (d, eq-eqb (g.replaced_by x) 0 b) refl
at_last (suc m) g x d b = rw (d, eq-eqb (g.replaced_by x) 0 b) refl

change-step : (m : ℕ) (g : Register) (x : ℕ) → g.delivered x ≡ true → eqb (g.replaced_by x) 0 ≡ false → (g.retired x ≡ true) ⊎ (g.retired x ≡ false)
    → Changed m g (g.replaced_by x) → Changed (suc m) g x
unfolding held_back chain_end former_answer former_rule
change-step m g x d b (inl r) ih = rw (d, b, r) (turned (g.retired (chain_end m g (g.replaced_by x))) (Ok (Current (chain_end m g (g.replaced_by x)))))
change-step m g x d b (inr r) ih = rw (d, b, r) ih

-- what A.8 said where a retired set that was also replaced stands in the chain
held_none : (g : Register) (x : ℕ) → held_back zero g x ≡ true → ⊥
unfolding held_back
held_none g x h = false≢true h

held_says : (m : ℕ) (g : Register) (x : ℕ) → held_back (suc m) g x ≡ true → (eqb (g.replaced_by x) 0 ≡ false) × ((g.retired x || held_back m g (g.replaced_by x)) ≡ true)
unfolding held_back
held_says m g x h =
    let a = not (eqb (g.replaced_by x) 0) in
    let o = g.retired x || held_back m g (g.replaced_by x) in
    (not-true (eqb (g.replaced_by x) 0) (and_fst a o h), and_snd a o h)

held-here : (m : ℕ) (g : Register) (x : ℕ) → g.delivered x ≡ true → g.retired x ≡ true → former_answer (suc m) g x ≡ Ok Retired
unfolding former_answer former_rule
held-here m g x d r = rw (d, r) refl

held_on : (m : ℕ) (g : Register) (x : ℕ) → g.delivered x ≡ true → eqb (g.replaced_by x) 0 ≡ false → g.retired x ≡ false
    → former_answer (suc (suc m)) g x ≡ former_answer (suc m) g (g.replaced_by x)
unfolding former_answer former_rule
held_on m g x d b r = rw (d, b, r) refl

not-delivered : (m : ℕ) (g : Register) (x : ℕ) → g.delivered x ≡ false → answer (suc m) g x ≡ former_answer (suc m) g x
unfolding answer rule former_answer former_rule
not-delivered m g x d = rw d refl

module _ (n : ℕ) (g : Register) (p : Sound n g) where
  change : (m x : ℕ) → g.delivered x ≡ true → g.replaced_by (chain_end m g x) ≡ 0 → Changed m g x
  change zero x d h = at_last zero g x d (ap g.replaced_by (sym (end_zero g x)) ∙ h)
  change (suc m) x d h =
      ⊎_elim (at_last (suc m) g x d)
      (λ (b : g.replaced_by x ≡ 0 → ⊥).
      change-step m g x d (ne_eqb (g.replaced_by x) 0 b) (split (g.retired x))
      (change m (g.replaced_by x) (p.heirs x b) (ap g.replaced_by (sym (end_goes m g x b)) ∙ h)))
      (eq_or_ne (g.replaced_by x) 0)

  held-retired : (m x : ℕ) → g.delivered x ≡ true → held_back m g x ≡ true → former_answer (suc m) g x ≡ Ok Retired
  held-retired zero x d h = absurd (held_none g x h)
  held-retired (suc m) x d h =
      let (b, o) = held_says m g x h in
      ⊎_elim (held-here (suc m) g x d)
      (λ (r : g.retired x ≡ false).
      let on : held_back m g (g.replaced_by x) ≡ true = rw r at o in
      held_on m g x d b r ∙ held-retired m (g.replaced_by x) (p.heirs x (eqb-false (g.replaced_by x) 0 b)) on)
      (split (g.retired x))

  -- of any set
  changes : (x : ℕ) → answer (suc n) g x ≡ cond (g.delivered x && (held_back n g x && not (g.retired (chain_end n g x)))) (Ok (Current (chain_end n g x))) (former_answer (suc n) g x)
  changes x = ⊎_elim known unknown (split (g.delivered x))
    where
      known : g.delivered x ≡ true → answer (suc n) g x ≡ cond (g.delivered x && (held_back n g x && not (g.retired (chain_end n g x)))) (Ok (Current (chain_end n g x))) (former_answer (suc n) g x)
      known d = by_end n g p n x d (p.ends x) ∙ change n x d (p.ends x) ∙ sym (ap (λ t. cond (t && (held_back n g x && not (g.retired (chain_end n g x)))) (Ok (Current (chain_end n g x))) (former_answer (suc n) g x)) d)

      unknown : g.delivered x ≡ false → answer (suc n) g x ≡ cond (g.delivered x && (held_back n g x && not (g.retired (chain_end n g x)))) (Ok (Current (chain_end n g x))) (former_answer (suc n) g x)
      unknown d = not-delivered n g x d ∙ sym (ap (λ t. cond (t && (held_back n g x && not (g.retired (chain_end n g x)))) (Ok (Current (chain_end n g x))) (former_answer (suc n) g x)) d)

-- ---- any bytes

module _ (b : List ℕ) (x : ℕ) where
  abbrev rs : List Entry
  rs = entries_of b

  is_sound : is_roll b ≡ true → lawful rs ≡ true → Sound (length rs) (register_of rs)
  is_sound r l = subst (λ m. Sound m (register_of rs)) (sym (entries-many b)) (sound-roll b r l)

  no-roll : is_roll b ≡ false → stands_now b x ≡ cond (Turned b x) (Ok (Current (last b x))) (former_stands_now b x)
  unfolding stands_now former_stands_now
  no-roll r = rw r refl

  no-law : is_roll b ≡ true → lawful rs ≡ false → stands_now b x ≡ cond (Turned b x) (Ok (Current (last b x))) (former_stands_now b x)
  unfolding stands_now former_stands_now
  no-law r l = rw (r, l) refl

  in_law : is_roll b ≡ true → lawful rs ≡ true → stands_now b x ≡ cond (Turned b x) (Ok (Current (last b x))) (former_stands_now b x)
  unfolding stands_now former_stands_now
  in_law r l = rw (r, l, add-one (length rs)) (changes (length rs) (register_of rs) (is_sound r l) x)

  -- only those sets answer otherwise than under A.8: current, with the end of the chain; what was refused is refused as before
  pub changes_just : stands_now b x ≡ cond (Turned b x) (Ok (Current (last b x))) (former_stands_now b x)
  changes_just = ⊎_elim (λ r. ⊎_elim (in_law r) (no-law r) (split (lawful rs))) no-roll (split (is_roll b))

  -- and all of them do: they were said to be retired
  pub was-retired : Turned b x ≡ true → former_stands_now b x ≡ Ok Retired
  unfolding former_stands_now
  was-retired t =
      let d = (register_of rs).delivered x in
      let h = held_back (length rs) (register_of rs) x in
      let o = not ((register_of rs).retired (last b x)) in
      let r : is_roll b ≡ true = and_fst (is_roll b) (lawful rs && (d && (h && o))) t in
      let t' = and_snd (is_roll b) (lawful rs && (d && (h && o))) t in
      let l : lawful rs ≡ true = and_fst (lawful rs) (d && (h && o)) t' in
      let t'' = and_snd (lawful rs) (d && (h && o)) t' in
      rw (r, l, add-one (length rs)) (held-retired (length rs) (register_of rs) (is_sound r l) (length rs) x (and_fst d (h && o) t'') (and_fst h o (and_snd d (h && o) t'')))
