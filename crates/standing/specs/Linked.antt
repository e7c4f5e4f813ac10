-- Linked by replacements, earlier or later: just those sets whose chains end in one set. Assumes nothing.
use Rattle.std.specs.Prelude.{◌≡◌, refl, ◌↔◌, ℕ, zero, suc}
use Rattle.std.proofs.Common.{sym, ap, ◌∙◌, subst, ⊎_elim}
use Rattle.lists.specs.Cases.{eq_or_ne}
use Rattle.standing.specs.Register.{Register}
use Rattle.standing.specs.Chains.{Sound, chain_end, end_zero, end_stays, end_goes, linked_end}

-- a set is linked to itself; what replaced a linked set is linked, and so is what a linked set replaced
pub data Linked (g : Register) (x : ℕ) : ℕ → Type 0 where
  itself : {y : ℕ} → y ≡ x → Linked g x y
  later : {y z : ℕ} → Linked g x y → g.replaced_by y ≡ z → (z ≡ 0 → ⊥) → Linked g x z
  earlier : {y z : ℕ} → Linked g x z → g.replaced_by y ≡ z → (z ≡ 0 → ⊥) → Linked g x y

module _ (n : ℕ) (g : Register) (p : Sound n g) (x : ℕ) where
  same_end : {y : ℕ} → Linked g x y → chain_end n g y ≡ chain_end n g x
  same_end (itself e) = ap (chain_end n g) e
  same_end (later {y} {z} l e d) = sym (linked_end n g p y (λ q. d (sym e ∙ q)) ∙ ap (chain_end n g) e) ∙ same_end l
  same_end (earlier {y} {z} l e d) = linked_end n g p y (λ q. d (sym e ∙ q)) ∙ ap (chain_end n g) e ∙ same_end l

  to_end : (m z : ℕ) → Linked g x z → Linked g x (chain_end m g z)
  to_end zero z l = subst (Linked g x) (sym (end_zero g z)) l
  to_end (suc m) z l =
      ⊎_elim (λ (b : g.replaced_by z ≡ 0). subst (Linked g x) (sym (end_stays (suc m) g z b)) l)
      (λ (b : g.replaced_by z ≡ 0 → ⊥). subst (Linked g x) (sym (end_goes m g z b)) (to_end m (g.replaced_by z) (later l refl b)))
      (eq_or_ne (g.replaced_by z) 0)

  from_end : (m y : ℕ) → Linked g x (chain_end m g y) → Linked g x y
  from_end zero y l = subst (Linked g x) (end_zero g y) l
  from_end (suc m) y l =
      ⊎_elim (λ (b : g.replaced_by y ≡ 0). subst (Linked g x) (end_stays (suc m) g y b) l)
      (λ (b : g.replaced_by y ≡ 0 → ⊥). earlier (from_end m (g.replaced_by y) (subst (Linked g x) (end_goes m g y b) l)) refl b)
      (eq_or_ne (g.replaced_by y) 0)

  pub linked_is : (y : ℕ) → Linked g x y ↔ (chain_end n g y ≡ chain_end n g x)
  linked_is y = (λ l. same_end l, λ e. from_end n y (subst (Linked g x) (sym e) (to_end n x (itself refl))))
