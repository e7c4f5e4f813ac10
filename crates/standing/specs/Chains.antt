-- Chains of replacements in a lawful roll: they end, since a set is replaced by a later record than the one that delivers it.
-- Assumes nothing.
use Rattle.std.specs.Prelude.{◌≡◌, refl, Bool, true, not, ◌&&◌, ◌||◌, cond, ℕ, zero, suc, ◌+◌, ◌<◌}
use Rattle.std.proofs.Common.{sym, ap, ◌∙◌, ⊎_elim, add-zero, add-suc, arith}
use Rattle.std.proofs.Math.Bool.{false}
use Rattle.std.proofs.Math.Dec.{eqb}
use borrow.Author.Tests.{eq-eqb, ne_eqb, eqb-true, not-true}
use Rattle.lists.specs.Cases.{eq_or_ne}
use Rattle.lists.specs.Tests.{every, and_fst, and_snd, not-both, split, or_true}
use Rattle.roll.specs.Format.{Entry}
use Rattle.standing.specs.Register.{Register, blank, replaces, noted, allowed}
use Rattle.standing.specs.Walk.{register_after, lawful_to, cond_true, cond_false}

-- the end of the chain of replacements from x, n steps at most
unfoldable pub chain_end : ℕ → Register → ℕ → ℕ
chain_end zero g x = x
chain_end (suc n) g x = cond (eqb (g.replaced_by x) 0) x (chain_end n g (g.replaced_by x))

-- where a chain that has come to y stands when a record is read too, and after the first n records
abbrev pub moved : Entry → ℕ → ℕ
moved r y = cond (replaces r y) r.number y

unfoldable pub carried : (ℕ → Entry) → ℕ → ℕ → ℕ
carried f zero x = x
carried f (suc n) x = moved (f n) (carried f n x)

or_false_fst : (a b : Bool) → (a || b) ≡ false → a ≡ false
or_false_fst true b e = e
or_false_fst false b e = refl

-- ---- the end of a chain after one replacement more

-- g' is g with set e replaced by set n
pub record Replaced (g g' : Register) (e n : ℕ) : Type 0 where
  pub there : g'.replaced_by e ≡ n
  pub elsewhere : (x : ℕ) → (x ≡ e → ⊥) → g'.replaced_by x ≡ g.replaced_by x
  pub free : g.replaced_by e ≡ 0
  pub new : g.replaced_by n ≡ 0
  pub apart : n ≡ e → ⊥
  pub named : n ≡ 0 → ⊥

pub end_zero : (g : Register) (x : ℕ) → chain_end zero g x ≡ x
unfolding chain_end
end_zero g x = refl

pub end_stays : (m : ℕ) (g : Register) (x : ℕ) → g.replaced_by x ≡ 0 → chain_end m g x ≡ x
unfolding chain_end
end_stays zero g x e = refl
end_stays (suc m) g x e = rw (eq-eqb (g.replaced_by x) 0 e)

pub end_goes : (m : ℕ) (g : Register) (x : ℕ) → (g.replaced_by x ≡ 0 → ⊥) → chain_end (suc m) g x ≡ chain_end m g (g.replaced_by x)
unfolding chain_end
end_goes m g x e = rw (ne_eqb (g.replaced_by x) 0 e)

module _ (g g' : Register) (e n : ℕ) (p : Replaced g g' e n) where
  abbrev Goal : ℕ → ℕ → Type 0
  Goal m x = chain_end (suc m) g' x ≡ cond (eqb e (chain_end m g x)) n (chain_end m g x)

  new' : g'.replaced_by n ≡ 0
  new' = p.elsewhere n p.apart ∙ p.new

  at-e : (m x : ℕ) → x ≡ e → Goal m x
  at-e m x q =
      let b : g.replaced_by x ≡ 0 = ap g.replaced_by q ∙ p.free in
      let b' : g'.replaced_by x ≡ n = ap g'.replaced_by q ∙ p.there in
      end_goes m g' x (λ z. p.named (sym b' ∙ z)) ∙ ap (chain_end m g') b' ∙ end_stays m g' n new'
      ∙ sym (ap (λ (y : ℕ). cond (eqb e y) n y) (end_stays m g x b) ∙ rw (eq-eqb e x (sym q)))

  at_end_lem : (m x : ℕ) → (x ≡ e → ⊥) → g.replaced_by x ≡ 0 → Goal m x
  at_end_lem m x ne b =
      end_stays (suc m) g' x (p.elsewhere x ne ∙ b)
      ∙ sym (ap (λ (y : ℕ). cond (eqb e y) n y) (end_stays m g x b) ∙ rw (ne_eqb e x (λ q. ne (sym q))))

  pub replaced_end : (m x : ℕ) → g.replaced_by (chain_end m g x) ≡ 0 → Goal m x
  replaced_end zero x h = ⊎_elim (at-e zero x) (λ (ne : x ≡ e → ⊥). at_end_lem zero x ne (ap g.replaced_by (sym (end_zero g x)) ∙ h)) (eq_or_ne x e)
  replaced_end (suc m) x h =
      ⊎_elim (at-e (suc m) x)
      (λ (ne : x ≡ e → ⊥). ⊎_elim (at_end_lem (suc m) x ne)
      (λ (b : g.replaced_by x ≡ 0 → ⊥).
      let s : g'.replaced_by x ≡ g.replaced_by x = p.elsewhere x ne in
      let h' : g.replaced_by (chain_end m g (g.replaced_by x)) ≡ 0 = ap g.replaced_by (sym (end_goes m g x b)) ∙ h in
      end_goes (suc m) g' x (λ z. b (sym s ∙ z)) ∙ ap (chain_end (suc m) g') s ∙ replaced_end m (g.replaced_by x) h'
      ∙ ap (λ (y : ℕ). cond (eqb e y) n y) (sym (end_goes m g x b)))
      (eq_or_ne (g.replaced_by x) 0))
      (eq_or_ne x e)

-- a chain that has ended stays
pub end_more : (m : ℕ) (g : Register) (x : ℕ) → g.replaced_by (chain_end m g x) ≡ 0 → chain_end (suc m) g x ≡ chain_end m g x
end_more zero g x h = let b : g.replaced_by x ≡ 0 = ap g.replaced_by (sym (end_zero g x)) ∙ h in end_stays 1 g x b ∙ sym (end_stays zero g x b)
end_more (suc m) g x h =
    ⊎_elim (λ (b : g.replaced_by x ≡ 0). end_stays (suc (suc m)) g x b ∙ sym (end_stays (suc m) g x b))
    (λ (b : g.replaced_by x ≡ 0 → ⊥).
    let e = end_goes m g x b in
    end_goes (suc m) g x b ∙ end_more m g (g.replaced_by x) (ap g.replaced_by (sym e) ∙ h) ∙ sym e)
    (eq_or_ne (g.replaced_by x) 0)

-- the end depends on what replaced what alone
pub end_same : (g g' : Register) → ((x : ℕ) → g'.replaced_by x ≡ g.replaced_by x) → (m x : ℕ) → chain_end m g' x ≡ chain_end m g x
unfolding chain_end
end_same g g' s zero x = refl
end_same g g' s (suc m) x = rw (s x, end_same g g' s m (g.replaced_by x))

-- ---- in a lawful roll every chain ends

-- what holds of a register whose chains end within n steps
pub record Sound (n : ℕ) (g : Register) : Type 0 where
  pub known : (x : ℕ) → g.delivered x ≡ false → g.replaced_by x ≡ 0
  pub heirs : (x : ℕ) → (g.replaced_by x ≡ 0 → ⊥) → g.delivered (g.replaced_by x) ≡ true
  pub ends : (x : ℕ) → g.replaced_by (chain_end n g x) ≡ 0

sound_none : Sound 0 blank
unfolding blank
sound_none = record { known = λ x e. refl; heirs = λ x e. absurd (e refl); ends = λ x. refl }

module _ (n : ℕ) (g : Register) (r : Entry) (p : Sound n g) (named : r.number ≡ 0 → ⊥) (ok : allowed g r ≡ true) where
  abbrev g' : Register
  g' = noted r g

  -- what 9 rules out of a replacement
  pub record Fresh : Type 0 where
    pub new : g.delivered r.number ≡ false
    pub old : g.delivered r.earlier ≡ true
    pub free : g.replaced_by r.earlier ≡ 0

  fresh : eqb r.kind 2 ≡ true → Fresh
  unfolding allowed
  fresh k =
      let k2 : r.kind ≡ 2 = eqb-true r.kind 2 k in
      let k3 : eqb r.kind 3 ≡ false = ne_eqb r.kind 3 (λ h. omega arith) in
      let q = rw (k3, k) at ok in
      let a = and_fst (not (g.delivered r.number)) (g.delivered r.earlier && eqb (g.replaced_by r.earlier) 0) q in
      let b = and_snd (not (g.delivered r.number)) (g.delivered r.earlier && eqb (g.replaced_by r.earlier) 0) q in
      record {
        new = not-true (g.delivered r.number) a;
        old = and_fst (g.delivered r.earlier) (eqb (g.replaced_by r.earlier) 0) b;
        free = eqb-true (g.replaced_by r.earlier) 0 (and_snd (g.delivered r.earlier) (eqb (g.replaced_by r.earlier) 0) b);
      }

  apart : Fresh → r.number ≡ r.earlier → ⊥
  apart f e = not-both f.old (sym (ap g.delivered e) ∙ f.new)

  replaced : eqb r.kind 2 ≡ true → Fresh → Replaced g g' r.earlier r.number
  unfolding noted
  replaced k f =
      record {
        there = rw (k, eq-eqb r.earlier r.earlier refl);
        elsewhere = λ x ne. rw (k, ne_eqb r.earlier x (λ q. ne (sym q)));
        free = f.free;
        new = p.known r.number f.new;
        apart = apart f;
        named = named;
      }

  same : eqb r.kind 2 ≡ false → (x : ℕ) → g'.replaced_by x ≡ g.replaced_by x
  unfolding noted
  same k x = rw k

  before : (x : ℕ) → g'.delivered x ≡ false → g.delivered x ≡ false
  unfolding noted
  before x e = or_false_fst (g.delivered x) (not (eqb r.kind 3) && eqb r.number x) e

  known' : (x : ℕ) → g'.delivered x ≡ false → g'.replaced_by x ≡ 0
  known' x e = ⊎_elim two (λ k. same k x ∙ p.known x (before x e)) (split (eqb r.kind 2))
    where
      two : eqb r.kind 2 ≡ true → g'.replaced_by x ≡ 0
      two k =
          let f = fresh k in
          ⊎_elim (λ (q : x ≡ r.earlier). absurd (not-both f.old (sym (ap g.delivered q) ∙ before x e)))
          (λ (ne : x ≡ r.earlier → ⊥). (replaced k f).elsewhere x ne ∙ p.known x (before x e))
          (eq_or_ne x r.earlier)

  delivered-still : (y : ℕ) → g.delivered y ≡ true → g'.delivered y ≡ true
  unfolding noted
  delivered-still y e = rw e

  delivers-own : eqb r.kind 2 ≡ true → g'.delivered r.number ≡ true
  unfolding noted
  delivers-own k =
      let k2 : r.kind ≡ 2 = eqb-true r.kind 2 k in
      let k3 : eqb r.kind 3 ≡ false = ne_eqb r.kind 3 (λ h. omega arith) in
      rw (k3, eq-eqb r.number r.number refl) (or_true (g.delivered r.number))

  heirs' : (x : ℕ) → (g'.replaced_by x ≡ 0 → ⊥) → g'.delivered (g'.replaced_by x) ≡ true
  heirs' x b = ⊎_elim two (λ k. kept (same k x)) (split (eqb r.kind 2))
    where
      kept : g'.replaced_by x ≡ g.replaced_by x → g'.delivered (g'.replaced_by x) ≡ true
      kept s = ap g'.delivered s ∙ delivered-still (g.replaced_by x) (p.heirs x (λ z. b (s ∙ z)))

      two : eqb r.kind 2 ≡ true → g'.delivered (g'.replaced_by x) ≡ true
      two k =
          let q = replaced k (fresh k) in
          ⊎_elim (λ (h : x ≡ r.earlier). ap g'.delivered (ap g'.replaced_by h ∙ q.there) ∙ delivers-own k)
          (λ (h : x ≡ r.earlier → ⊥). kept (q.elsewhere x h))
          (eq_or_ne x r.earlier)

  ends' : (x : ℕ) → g'.replaced_by (chain_end (suc n) g' x) ≡ 0
  ends' x = ⊎_elim two one (split (eqb r.kind 2))
    where
      y : ℕ
      y = chain_end n g x

      one : eqb r.kind 2 ≡ false → g'.replaced_by (chain_end (suc n) g' x) ≡ 0
      one k = ap g'.replaced_by (end_same g g' (same k) (suc n) x ∙ end_more n g x (p.ends x)) ∙ same k (chain_end n g x) ∙ p.ends x

      two : eqb r.kind 2 ≡ true → g'.replaced_by (chain_end (suc n) g' x) ≡ 0
      two k =
          let f = fresh k in
          let q = replaced k f in
          let z = chain_end n g x in
          ap g'.replaced_by (replaced_end g g' r.earlier r.number q n x (p.ends x))
          ∙ ⊎_elim (λ (h : z ≡ r.earlier). ap g'.replaced_by (cond_true r.number z (eq-eqb r.earlier z (sym h))) ∙ q.elsewhere r.number q.apart ∙ q.new)
          (λ (h : z ≡ r.earlier → ⊥). ap g'.replaced_by (cond_false r.number z (ne_eqb r.earlier z (λ q. h (sym q)))) ∙ q.elsewhere z h ∙ p.ends x)
          (eq_or_ne z r.earlier)

  -- where a chain ends with one record more
  pub end_step : (x : ℕ) → chain_end (suc n) g' x ≡ moved r (chain_end n g x)
  end_step x = ⊎_elim two one (split (eqb r.kind 2))
    where
      one : eqb r.kind 2 ≡ false → chain_end (suc n) g' x ≡ moved r (chain_end n g x)
      one k = end_same g g' (same k) (suc n) x ∙ end_more n g x (p.ends x) ∙ sym (rw k)

      two : eqb r.kind 2 ≡ true → chain_end (suc n) g' x ≡ moved r (chain_end n g x)
      two k = replaced_end g g' r.earlier r.number (replaced k (fresh k)) n x (p.ends x) ∙ sym (rw k)

  sound_more : Sound (suc n) g'
  sound_more = record { known = known'; heirs = heirs'; ends = ends' }

pub sound : (f : ℕ → Entry) (n : ℕ) → ((k : ℕ) → k < n → (f k).number ≡ 0 → ⊥) → lawful_to f n ≡ true → Sound n (register_after f n)
unfolding lawful_to every register_after
sound f zero named l = sound_none
sound f (suc n) named l =
    let before = every n (λ k. allowed (register_after f k) (f k)) in
    let last = allowed (register_after f n) (f n) in
    sound_more n (register_after f n) (f n) (sound f n (λ k h. named k (omega arith)) (and_fst before last l)) (named n (omega arith)) (and_snd before last l)

-- one walk over the records carries the end of a chain along
pub carried_is : (f : ℕ → Entry) (n : ℕ) → ((k : ℕ) → k < n → (f k).number ≡ 0 → ⊥) → lawful_to f n ≡ true → (x : ℕ) → carried f n x ≡ chain_end n (register_after f n) x
unfolding carried lawful_to every register_after
carried_is f zero named l x = sym (end_zero blank x)
carried_is f (suc n) named l x =
    let before = every n (λ k. allowed (register_after f k) (f k)) in
    let last = allowed (register_after f n) (f n) in
    let lo = and_fst before last l in
    ap (moved (f n)) (carried_is f n (λ k h. named k (omega arith)) lo x)
    ∙ sym (end_step n (register_after f n) (f n) (sound f n (λ k h. named k (omega arith)) lo) (named n (omega arith)) (and_snd before last l) x)

module _ (n : ℕ) (g : Register) (p : Sound n g) where
  -- a set and the one that replaced it have one end
  pub linked_end : (x : ℕ) → (g.replaced_by x ≡ 0 → ⊥) → chain_end n g x ≡ chain_end n g (g.replaced_by x)
  linked_end x b = sym (end_more n g x (p.ends x)) ∙ end_goes n g x b

  -- the end of a delivered set is delivered
  pub delivered_end : (m x : ℕ) → g.delivered x ≡ true → g.delivered (chain_end m g x) ≡ true
  delivered_end zero x d = ap g.delivered (end_zero g x) ∙ d
  delivered_end (suc m) x d =
      ⊎_elim (λ (b : g.replaced_by x ≡ 0). ap g.delivered (end_stays (suc m) g x b) ∙ d)
      (λ (b : g.replaced_by x ≡ 0 → ⊥). ap g.delivered (end_goes m g x b) ∙ delivered_end m (g.replaced_by x) (p.heirs x b))
      (eq_or_ne (g.replaced_by x) 0)

  -- more steps change nothing
  pub end_plus : (k x : ℕ) → chain_end (n + k) g x ≡ chain_end n g x
  end_plus zero x = ap (λ (m : ℕ). chain_end m g x) (add-zero n)
  end_plus (suc k) x =
      let e = end_plus k x in
      ap (λ (m : ℕ). chain_end m g x) (add-suc n k) ∙ end_more (n + k) g x (ap g.replaced_by e ∙ p.ends x) ∙ e
