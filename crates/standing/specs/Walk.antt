-- The register that is read off a roll, record by record, and what the code's tests say of it. Assumes nothing.
use Rattle.std.specs.Prelude.{◌≡◌, Bool, true, false, not, ◌&&◌, ◌||◌, List, [], ◌∷◌, ◌++◌, ℕ, zero, suc, ◌+◌, ◌≤◌, ◌<◌, eqb, length, get_or, Option, Some, None, Result, Err}
use Rattle.std.proofs.Math.Path.{refl, ap, ap₂}
use Rattle.std.proofs.Common.{sym, ◌∙◌, add-zero, add-suc, suc-add, zero-add, add-one, arith, eq-eqb, ne_eqb}
use Rattle.std.proofs.Math.Bool.{cond}
use Rattle.lists.specs.Tests.{every}
use Rattle.lists.specs.Tab.{tab, tab_from, length-tab}
use Rattle.roll.specs.Format.{Entry}
use Rattle.roll.specs.Reading.{four_at, record_start, entry_at, count_of, is_roll, entries_of}
use Rattle.roll.specs.StartLaws.{head-before}
use Rattle.roll.specs.HoldingLaws.{is_sized}
use Rattle.tables.specs.declared.Refusal.TheVariants.{NotARoll, NotLawful}
use Rattle.standing.specs.declared.Standing.{Standing}
use Rattle.standing.specs.Register.{Register, blank, delivers, retires, replaces, noted, noted_all, register_of, allowed, all_allowed, lawful, answer, stands_now}
use Rattle.tables.specs.declared.Refusal.{Refusal}

-- record k of a roll
unfoldable pub record_of : List ℕ → ℕ → Entry
record_of b k = entry_at b (record_start b k)

-- the register after the first n records; f k is record k
unfoldable pub register_after : (ℕ → Entry) → ℕ → Register
register_after f zero = blank
register_after f (suc n) = noted (f n) (register_after f n)

-- 9 applies to none of the first n records
unfoldable pub lawful_to : (ℕ → Entry) → ℕ → Bool
lawful_to f n = every n (λ k. allowed (register_after f k) (f k))

-- what the register g notes of x, as the code holds it
pub record Notes (g : Register) (x : ℕ) (delivered retired : Bool) (by : ℕ) : Type 0 where
  pub delivers : delivered ≡ g.delivered x
  pub retires : retired ≡ g.retired x
  pub replaces : by ≡ g.replaced_by x
  pub small : by < 4294967296

-- a set as the register has it: 0 where there is none
abbrev pub set_or_zero : Option ℕ → ℕ
set_or_zero None = 0
set_or_zero (Some m) = m

pub cond_true : {t : Bool} (m n : ℕ) → t ≡ true → cond t m n ≡ m
cond_true m n e = rw e

pub cond_false : {t : Bool} (m n : ℕ) → t ≡ false → cond t m n ≡ n
cond_false m n e = rw e

-- ---- record by record is the list of records

tab-from-more : (i n : ℕ) (f : ℕ → Entry) → tab_from i (suc n) f ≡ tab_from i n f ++ (f (i + n) ∷ [])
unfolding tab_from
tab-from-more i zero f = ap (λ k. f k ∷ []) (sym (add-zero i))
tab-from-more i (suc n) f = ap (λ l. f i ∷ l) (tab-from-more (suc i) n f ∙ ap (λ k. tab_from (suc i) n f ++ (f k ∷ [])) (suc-add i n ∙ sym (add-suc i n)))

pub tab-next : (n : ℕ) (f : ℕ → Entry) → tab (suc n) f ≡ tab n f ++ (f n ∷ [])
unfolding tab
tab-next n f = tab-from-more 0 n f ∙ ap (λ k. tab_from 0 n f ++ (f k ∷ [])) (zero-add n)

noted-next : (g : Register) (rs : List Entry) (r : Entry) → noted_all g (rs ++ (r ∷ [])) ≡ noted r (noted_all g rs)
unfolding noted_all
noted-next g [] r = refl
noted-next g (x ∷ xs) r = noted-next (noted x g) xs r

and_assoc : (x y z : Bool) → (x && (y && z)) ≡ ((x && y) && z)
and_assoc true y z = refl
and_assoc false y z = refl

and_true : (x : Bool) → (x && true) ≡ x
and_true true = refl
and_true false = refl

allowed-next : (g : Register) (rs : List Entry) (r : Entry) → all_allowed g (rs ++ (r ∷ [])) ≡ (all_allowed g rs && allowed (noted_all g rs) r)
unfolding all_allowed noted_all
allowed-next g [] r = and_true (allowed g r)
allowed-next g (x ∷ xs) r = ap (λ z. allowed g x && z) (allowed-next (noted x g) xs r) ∙ and_assoc (allowed g x) (all_allowed (noted x g) xs) (allowed (noted_all (noted x g) xs) r)

-- the register of the first n records
pub register_is : (n : ℕ) (f : ℕ → Entry) → register_of (tab n f) ≡ register_after f n
unfolding tab tab_from noted_all register_after
register_is zero f = refl
register_is (suc n) f = ap (noted_all blank) (tab-next n f) ∙ noted-next blank (tab n f) (f n) ∙ ap (noted (f n)) (register_is n f)

pub lawful_is : (n : ℕ) (f : ℕ → Entry) → lawful (tab n f) ≡ lawful_to f n
unfolding tab tab_from all_allowed lawful_to every
lawful_is zero f = refl
lawful_is (suc n) f =
    ap (all_allowed blank) (tab-next n f) ∙ allowed-next blank (tab n f) (f n)
    ∙ ap₂ (λ x g. x && allowed g (f n)) (lawful_is n f) (register_is n f)

module _ (b : List ℕ) where
  pub entries-lawful : lawful (entries_of b) ≡ lawful_to (record_of b) (count_of b)
  unfolding entries_of record_of
  entries-lawful = lawful_is (count_of b) (λ i. entry_at b (record_start b i))

  pub entries_register : register_of (entries_of b) ≡ register_after (record_of b) (count_of b)
  unfolding entries_of record_of
  entries_register = register_is (count_of b) (λ i. entry_at b (record_start b i))

  pub entries-many : length (entries_of b) ≡ count_of b
  unfolding entries_of
  entries-many = length-tab (count_of b) (λ i. entry_at b (record_start b i))

-- ---- one record more

module _ (b : List ℕ) where
  abbrev G : ℕ → Register
  G k = register_after (record_of b) k

  none_yet : (x : ℕ) → (false ≡ (G 0).delivered x) × (false ≡ (G 0).retired x) × (0 ≡ (G 0).replaced_by x)
  unfolding register_after blank
  none_yet x = (refl, refl, refl)

  -- the register without records notes nothing
  pub notes_none : (x : ℕ) → Notes (G 0) x false false 0
  notes_none x = record { delivers = (none_yet x).0; retires = (none_yet x).1; replaces = (none_yet x).2; small = omega arith }

  pub notes_more : (k x at : ℕ) {d t d' t' : Bool} {y y' : ℕ} → at ≡ record_start b k → Notes (G k) x d t y
      → d' ≡ (d || delivers (entry_at b at) x) → t' ≡ (t || retires (entry_at b at) x) → y' ≡ cond (replaces (entry_at b at) x) (entry_at b at).number y → y' < 4294967296
      → Notes (G (k + 1)) x d' t' y'
  unfolding register_after noted record_of
  notes_more k x at {d} {t} {d'} {t'} {y} {y'} e N p q s l =
      record {
        delivers = p ∙ ap₂ (λ u (r : Entry). u || delivers r x) N.delivers (ap (entry_at b) e) ∙ ap (λ m. (G m).delivered x) (sym (add-one k));
        retires = q ∙ ap₂ (λ u (r : Entry). u || retires r x) N.retires (ap (entry_at b) e) ∙ ap (λ m. (G m).retired x) (sym (add-one k));
        replaces = s ∙ ap₂ (λ u (r : Entry). cond (replaces r x) r.number u) N.replaces (ap (entry_at b) e) ∙ ap (λ m. (G m).replaced_by x) (sym (add-one k));
        small = l;
      }

  number_of : (at : ℕ) → four_at b (at + 1) ≡ (entry_at b at).number
  unfolding entry_at
  number_of at = refl

  module _ (at x by : ℕ) {t : Bool} (e : t ≡ replaces (entry_at b at) x) where
    pub replaced-here : {n : ℕ} → t ≡ true → n ≡ four_at b (at + 1) → n ≡ cond (replaces (entry_at b at) x) (entry_at b at).number by
    replaced-here q h = h ∙ number_of at ∙ sym (cond_true (entry_at b at).number by (sym e ∙ q))

    pub replaced-before : t ≡ false → by ≡ cond (replaces (entry_at b at) x) (entry_at b at).number by
    replaced-before q = sym (cond_false (entry_at b at).number by (sym e ∙ q))

  -- the head of record i is inside the roll
  pub inside : is_roll b ≡ true → (i p : ℕ) → i < count_of b → p ≡ record_start b i → (p + 10 ≤ 65536) × (p + 10 ≤ length b)
  inside R i p h e =
      let S = is_sized b R in
      (omega (arith, head-before b i (count_of b) h, S.ends, S.whole, S.small), omega (arith, head-before b i (count_of b) h, S.ends, S.whole))

-- ---- refusal 9 for one record

module _ (b : List ℕ) (n at k m : ℕ) (e : at ≡ record_start b n) (ek : k ≡ get_or b at 0) (em : m ≡ four_at b (at + 1)) where
  abbrev g : Register
  g = register_after (record_of b) n

  allowed_is : allowed g (record_of b n) ≡ cond (eqb k 3) (g.delivered m) (not (g.delivered m) && cond (eqb k 2) (g.delivered (four_at b (at + 5)) && eqb (g.replaced_by (four_at b (at + 5))) 0) true)
  unfolding allowed record_of entry_at
  allowed_is = rw (ek, em, e) refl

  module _ {d t : Bool} {y : ℕ} (N : Notes g m d t y) where
    pub retires-known : k ≡ 3 → d ≡ allowed g (record_of b n)
    retires-known q = N.delivers ∙ sym (allowed_is ∙ rw (eq-eqb k 3 q))

    pub delivered-twice : d ≡ true → (k ≡ 3 → ⊥) → false ≡ allowed g (record_of b n)
    delivered-twice q o = let z : g.delivered m ≡ true = sym N.delivers ∙ q in sym (allowed_is ∙ rw (ne_eqb k 3 o, z))

    pub delivers-new : d ≡ false → (k ≡ 3 → ⊥) → (k ≡ 2 → ⊥) → true ≡ allowed g (record_of b n)
    delivers-new q o w = let z : g.delivered m ≡ false = sym N.delivers ∙ q in sym (allowed_is ∙ rw (ne_eqb k 3 o, z, ne_eqb k 2 w))

    module _ {d' t' : Bool} {y' z : ℕ} (ez : z ≡ four_at b (at + 5)) (M : Notes g z d' t' y') (q : d ≡ false) (w : k ≡ 2) where
      pub replaces-unknown : d' ≡ false → false ≡ allowed g (record_of b n)
      replaces-unknown r =
          let i : g.delivered m ≡ false = sym N.delivers ∙ q in
          let j : g.delivered (four_at b (at + 5)) ≡ false = ap g.delivered (sym ez) ∙ sym M.delivers ∙ r in
          let o : eqb k 3 ≡ false = ne_eqb k 3 (λ x. omega arith) in
          sym (allowed_is ∙ rw (o, i, eq-eqb k 2 w, j))

      pub replaces-known : d' ≡ true → eqb y' 0 ≡ allowed g (record_of b n)
      replaces-known r =
          let i : g.delivered m ≡ false = sym N.delivers ∙ q in
          let j : g.delivered (four_at b (at + 5)) ≡ true = ap g.delivered (sym ez) ∙ sym M.delivers ∙ r in
          let o : eqb k 3 ≡ false = ne_eqb k 3 (λ x. omega arith) in
          let u : y' ≡ g.replaced_by (four_at b (at + 5)) = M.replaces ∙ ap g.replaced_by ez in
          sym (allowed_is ∙ rw (o, i, eq-eqb k 2 w, j, u))

-- ---- the call

module _ (b : List ℕ) (x : ℕ) where
  pub no-roll : is_roll b ≡ false → Err NotARoll ≡ stands_now b x
  unfolding stands_now
  no-roll e = rw e refl

  module _ (n : ℕ) (R : is_roll b ≡ true) (e : n ≡ count_of b) where
    is_lawful : lawful (entries_of b) ≡ lawful_to (record_of b) n
    is_lawful = entries-lawful b ∙ ap (lawful_to (record_of b)) (sym e)

    is_register : register_of (entries_of b) ≡ register_after (record_of b) n
    is_register = entries_register b ∙ ap (register_after (record_of b)) (sym e)

    is_many : length (entries_of b) ≡ n
    is_many = entries-many b ∙ sym e

    pub no-law : lawful_to (record_of b) n ≡ false → Err NotLawful ≡ stands_now b x
    unfolding stands_now
    no-law l = rw (R, is_lawful, l) refl

    pub by_rules : {a : Result Standing Refusal} → lawful_to (record_of b) n ≡ true → a ≡ answer (n + 1) (register_after (record_of b) n) x → a ≡ stands_now b x
    unfolding stands_now
    by_rules l p = rw (R, is_lawful, l) (p ∙ ap₂ (λ k g. answer (k + 1) g x) (sym is_many) (sym is_register))
