-- The shift tables of a supercell (document 01, "Shift tables"): the rules as a test that a guard computes, and as facts.
-- Assumes nothing.
use Rattle.std.specs.Prelude.{◌≡◌, ◌↔◌, Bool, true, not, ◌&&◌, ◌||◌, List, ℕ, ◌+◌, ◌*◌, ◌<◌, get_or, eqb}
use Rattle.std.proofs.Math.Path.{sym, ap}
use Rattle.std.proofs.Common.{◌∙◌}
use Rattle.lists.specs.Tests.{every, some, says}

-- nSatom atoms of the supercell, nPatom of the primitive cell, numTrans shifts. perms[t * nSatom + a] is the image of atom a under shift t.
pub record Shifts : Type 0 where
  pub n_satom : ℕ
  pub n_patom : ℕ
  pub num_trans : ℕ
  pub perms : List ℕ
  pub p2s : List ℕ
  pub s2pp : List ℕ
  pub nsym_list : List ℕ

-- where row t sends atom a; the representative of primitive atom p; the primitive atom of a; the row that sends a to its representative
unfoldable pub row : Shifts → ℕ → ℕ → ℕ
row S t a = get_or S.perms (t * S.n_satom + a) 0

unfoldable pub p2s_at : Shifts → ℕ → ℕ
p2s_at S p = get_or S.p2s p 0

unfoldable pub s2pp_at : Shifts → ℕ → ℕ
s2pp_at S a = get_or S.s2pp a 0

unfoldable pub nsym_at : Shifts → ℕ → ℕ
nsym_at S a = get_or S.nsym_list a 0

-- ---- the rules as a test (refusal 6)

-- f gives different numbers below n different values
unfoldable pub distinct : ℕ → (ℕ → ℕ) → Bool
distinct n f = every n (λ a. every n (λ b. not (eqb (f a) (f b)) || eqb a b))

-- row t is the null shift, the identity
unfoldable pub is_null : Shifts → ℕ → Bool
is_null S t = every S.n_satom (λ a. eqb (row S t a) a)

-- row u after row t is row v
unfoldable pub is_after : Shifts → ℕ → ℕ → ℕ → Bool
is_after S t u v = every S.n_satom (λ a. eqb (row S u (row S t a)) (row S v a))

-- row u after any row is a row
unfoldable pub follows : Shifts → ℕ → Bool
follows S u = every S.num_trans (λ t. some S.num_trans (is_after S t u))

-- n_satom = n_patom × num_trans
unfoldable pub counts_agree : Shifts → Bool
counts_agree S = eqb S.n_satom (S.n_patom * S.num_trans)

-- each row is a permutation of the atoms
unfoldable pub rows_injective : Shifts → Bool
rows_injective S = every S.num_trans (λ t. distinct S.n_satom (row S t))

-- some row is the null shift
unfoldable pub has_null : Shifts → Bool
has_null S = some S.num_trans (is_null S)

-- one row after another is a row
unfoldable pub rows_closed : Shifts → Bool
rows_closed S = every S.num_trans (follows S)

-- no atom has the same image under two rows
unfoldable pub rows_free : Shifts → Bool
rows_free S = every S.n_satom (λ a. distinct S.num_trans (λ t. row S t a))

-- s2pp[p2s[p]] = p
unfoldable pub p2s_back : Shifts → Bool
p2s_back S = every S.n_patom (λ p. eqb (s2pp_at S (p2s_at S p)) p)

-- all images of an atom have its s2pp
unfoldable pub s2pp_kept : Shifts → Bool
s2pp_kept S = every S.num_trans (λ t. every S.n_satom (λ a. eqb (s2pp_at S (row S t a)) (s2pp_at S a)))

-- the image of a under row nsym_list[a] is p2s[s2pp[a]]
unfoldable pub nsym_lands : Shifts → Bool
nsym_lands S = every S.n_satom (λ a. eqb (row S (nsym_at S a) a) (p2s_at S (s2pp_at S a)))

unfoldable pub ruled : Shifts → Bool
ruled S =
    counts_agree S
    && (rows_injective S && (has_null S && (rows_closed S && (rows_free S && (p2s_back S && (s2pp_kept S && nsym_lands S))))))

-- ---- the rules as facts

-- every entry is an index into the count that its table points into (what is left of refusal 3)
pub record Within (S : Shifts) : Type 0 where
  pub row_below : (t a : ℕ) → t < S.num_trans → a < S.n_satom → row S t a < S.n_satom
  pub p2s-below : (p : ℕ) → p < S.n_patom → p2s_at S p < S.n_satom
  pub s2pp-below : (a : ℕ) → a < S.n_satom → s2pp_at S a < S.n_patom
  pub nsym_below : (a : ℕ) → a < S.n_satom → nsym_at S a < S.num_trans

pub record Laws (S : Shifts) : Type 0 where
  pub row_below : (t a : ℕ) → t < S.num_trans → a < S.n_satom → row S t a < S.n_satom
  pub p2s-below : (p : ℕ) → p < S.n_patom → p2s_at S p < S.n_satom
  pub s2pp-below : (a : ℕ) → a < S.n_satom → s2pp_at S a < S.n_patom
  pub nsym_below : (a : ℕ) → a < S.n_satom → nsym_at S a < S.num_trans
  pub counts : S.n_satom ≡ S.n_patom * S.num_trans
  pub injective : (t a b : ℕ) → t < S.num_trans → a < S.n_satom → b < S.n_satom → row S t a ≡ row S t b → a ≡ b
  pub null : (t : ℕ) × (t < S.num_trans) × ((a : ℕ) → a < S.n_satom → row S t a ≡ a)
  pub after : (t u : ℕ) → t < S.num_trans → u < S.num_trans → (v : ℕ) × (v < S.num_trans) × ((a : ℕ) → a < S.n_satom → row S u (row S t a) ≡ row S v a)
  pub free : (t u a : ℕ) → t < S.num_trans → u < S.num_trans → a < S.n_satom → row S t a ≡ row S u a → t ≡ u
  pub s2pp-p2s : (p : ℕ) → p < S.n_patom → s2pp_at S (p2s_at S p) ≡ p
  pub s2pp-row : (t a : ℕ) → t < S.num_trans → a < S.n_satom → s2pp_at S (row S t a) ≡ s2pp_at S a
  pub nsym_lands_lem : (a : ℕ) → a < S.n_satom → row S (nsym_at S a) a ≡ p2s_at S (s2pp_at S a)

-- The half-shift condition: no row but the null shift, applied twice, is the identity.
unfoldable pub NoHalfShift : Shifts → Type 0
NoHalfShift S = (t : ℕ) → t < S.num_trans → ((a : ℕ) → a < S.n_satom → row S t (row S t a) ≡ a) → (a : ℕ) → a < S.n_satom → row S t a ≡ a

-- ---- what the rules give: all that is used of them further on

module _ (S : Shifts) (L : Laws S) where
  -- The key: to shift all atoms by row s changes nothing once the first is sent to its representative.
  pub nsym_shift : (s i j : ℕ) → s < S.num_trans → i < S.n_satom → j < S.n_satom → row S (nsym_at S (row S s i)) (row S s j) ≡ row S (nsym_at S i) j
  nsym_shift s i j hs hi hj =
      let i' = row S s i in
      let hi' = L.row_below s i hs hi in
      let (v, hv, e) = L.after s (nsym_at S i') hs (L.nsym_below i' hi') in
      let q : v ≡ nsym_at S i =
      L.free v (nsym_at S i) i hv (L.nsym_below i hi) hi
      (sym (e i hi) ∙ L.nsym_lands_lem i' hi' ∙ ap (p2s_at S) (L.s2pp-row s i hs hi) ∙ sym (L.nsym_lands_lem i hi)) in
      e j hj ∙ ap (λ t. row S t j) q

  -- The row of a representative is the null shift.
  pub nsym_p2s : (p j : ℕ) → p < S.n_patom → j < S.n_satom → row S (nsym_at S (p2s_at S p)) j ≡ j
  nsym_p2s p j hp hj =
      let a = p2s_at S p in
      let ha = L.p2s-below p hp in
      let (z, hz, e) = L.null in
      let q : nsym_at S a ≡ z =
      L.free (nsym_at S a) z a (L.nsym_below a ha) hz ha (L.nsym_lands_lem a ha ∙ ap (p2s_at S) (L.s2pp-p2s p hp) ∙ sym (e a ha)) in
      ap (λ t. row S t j) q ∙ e j hj

  -- A row that exchanges two atoms is its own inverse; without half shifts it is the null shift.
  pub swaps-null : NoHalfShift S → (t a b : ℕ) → t < S.num_trans → a < S.n_satom → row S t a ≡ b → row S t b ≡ a → (c : ℕ) → c < S.n_satom → row S t c ≡ c
  unfolding NoHalfShift
  swaps-null nh t a b ht ha p q =
      let (v, hv, e) = L.after t t ht ht in
      let (z, hz, f) = L.null in
      let w : v ≡ z = L.free v z a hv hz ha (sym (e a ha) ∙ ap (row S t) p ∙ q ∙ sym (f a ha)) in
      nh t ht (λ c hc. e c hc ∙ ap (λ t. row S t c) w ∙ f c hc)

-- ---- the test tells the facts, and the facts pass the test

pub distinct_says : (n : ℕ) (f : ℕ → ℕ) → (distinct n f ≡ true) ↔ ((a : ℕ) → a < n → (b : ℕ) → b < n → f a ≡ f b → a ≡ b)
unfolding distinct
distinct_says n f = (λ e. simp says at e, λ h. simp says h)

pub laws : (S : Shifts) → Within S → ruled S ≡ true → Laws S
unfolding ruled counts_agree rows_injective has_null rows_closed rows_free p2s_back s2pp_kept nsym_lands is_null follows is_after
laws S W e =
    let (c, (i, (n, (a, (f, (hr, (hw, l))))))) = simp (says, distinct_says) at e in
    record {
      row_below = W.row_below;
      p2s-below = W.p2s-below;
      s2pp-below = W.s2pp-below;
      nsym_below = W.nsym_below;
      counts = c;
      injective = λ t a b ht ha hb. i t ht a ha b hb;
      null = n;
      after = λ t u ht hu. a u hu t ht;
      free = λ t u a ht hu ha. f a ha t ht u hu;
      s2pp-p2s = hr;
      s2pp-row = λ t a ht ha. hw t ht a ha;
      nsym_lands_lem = l;
    }

pub passes : (S : Shifts) → Laws S → ruled S ≡ true
unfolding ruled counts_agree rows_injective has_null rows_closed rows_free p2s_back s2pp_kept nsym_lands is_null follows is_after
passes S L =
    simp (says, distinct_says) (
      L.counts,
      (
        λ t ht a ha b hb. L.injective t a b ht ha hb,
        (
          L.null,
          (
            λ u hu t ht. L.after t u ht hu,
            (λ a ha t ht u hu. L.free t u a ht hu ha, (L.s2pp-p2s, (λ t ht a ha. L.s2pp-row t a ht ha, L.nsym_lands_lem))),
          ),
        ),
      ),
    )
