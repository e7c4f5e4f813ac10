-- What the functions over compact sets of second order ask of the tables and the set, and what they know of block (p, j). Assumes nothing.
use Rattle.std.specs.Prelude.{◌≡◌, refl, Bool, true, false, cond, ◌⊎◌, List, [], ◌∷◌, ℕ, ◌+◌, ◌*◌, ◌<◌, ◌≤◌, length, Float}
use Rattle.std.proofs.Common.{sym, ap, ap₂, ◌∙◌, inl, inr, le_trans, mul-le-mul_right, arith, lit≤}
use Rattle.lists.specs.Tab.{times}
use Rattle.lists.specs.Digits.{horner, in_row}
use Rattle.tables.specs.Limits.{limit2}
use Rattle.tables.specs.Shifts.{Shifts, Laws, row, p2s_at, s2pp_at, nsym_at}
use Rattle.tables.specs.Conditions.{Readable, index_at, read}
use Rattle.tables.specs.Compact.{ShiftTables, shifts_of, TablesFit, p2s_is, s2pp_is}
use Rattle.places.specs.Addresses.{stored_block}
use Rattle.places.specs.ReadOuts.{Tables, stored_in, tables, stored_in_lem}
use Rattle.blocks.specs.Block.{put_block}
use Rattle.lines.specs.Sums3x3.{Sums, balance, inverse}
use Rattle.lines.specs.Lines.{Sized, Inside, RowOf, row_of, pair_at, row_drifts, others, balance_at, balances}
use Rattle.orbits.specs.TrueTransposes.{swapped}
use Rattle.fc2_compact.specs.Passes.{transposed, without_row_drift_compact, on_site}
use Rattle.fc2_compact.specs.DriftLaws.{drift_made, site_made}
use Rattle.fc2_compact.specs.Visits.{mate, swap_at, transpose_visit, average_visit, mate_is, mate-at, mate-below, transpose_past, average_past, transpose_stays, transpose_put, average_put, transpose_made}

-- tables that passed the guard, and a set of the stated length
pub record Ready (T : ShiftTables) (len : ℕ) : Type 0 where
  pub fit : TablesFit limit2 T
  pub rules : Laws (shifts_of T)
  pub has : len ≡ T.n_patom * T.n_satom * 9

-- the same, and a primitive atom p with its representative i and an atom j
pub record ReadyAt (T : ShiftTables) (len p i j : ℕ) : Type 0 where
  pub ready : Ready T len
  pub first : p < T.n_patom
  pub own : i ≡ p2s_at (shifts_of T) p
  pub second : j < T.n_satom

-- the rows of the set
pub sized : {T : ShiftTables} {len : ℕ} → Ready T len → Sized T.n_patom T.n_satom len
sized r = record { few = r.fit.patoms; small = r.fit.satoms; long = r.has }

-- what is known of block (p, j)
pub record Facts (T : ShiftTables) (len p i j : ℕ) : Type 0 where
  pub tables-fit : Tables T.n_satom T.s2pp T.nsym_list T.perms
  pub few : T.n_satom ≤ 1024
  pub first_small : p < 1024
  pub own_below : i < T.n_satom
  pub block_in : (p * T.n_satom + j) * 9 + 9 ≤ len
  pub mate-told : stored_in T.n_satom T.s2pp T.nsym_list T.perms j (i ∷ []) ≡ mate (shifts_of T) (p * T.n_satom + j)
  pub mate_in : mate (shifts_of T) (p * T.n_satom + j) * 9 + 9 ≤ len

nine_in : (b n : ℕ) → b < n → b * 9 + 9 ≤ n * 9
nine_in b n h = omega arith

pub facts : {T : ShiftTables} {len p i j : ℕ} → ReadyAt T len p i j → Facts T len p i j
facts {T} {len} {p} {i} {j} r =
    let S = shifts_of T in
    let F = r.ready.fit in
    let L = r.ready.rules in
    record {
      tables-fit = tables limit2 T (lit≤ tt) F;
      few = F.satoms;
      first_small = le_trans r.first F.patoms;
      own_below = rw r.own (L.p2s-below p r.first);
      block_in = rw r.ready.has (nine_in (p * T.n_satom + j) (T.n_patom * T.n_satom) (in_row T.n_patom T.n_satom p j r.first r.second));
      mate-told = stored_in_lem T j (i ∷ []) ∙ ap (λ k. stored_block S j (k ∷ [])) r.own ∙ sym (mate-at S L p j r.first r.second);
      mate_in = rw r.ready.has (nine_in (mate S (p * T.n_satom + j)) (T.n_patom * T.n_satom) (mate-below S L p j r.first r.second));
    }

-- the representative of p is there to be read
pub p2s-read : {T : ShiftTables} {len : ℕ} → Ready T len → (p : ℕ) → p < T.n_patom → Readable T.p2s p
p2s-read {T} r p h = (read r.fit.p2s-fit p h).0

-- ---- the visit of block (p, j)

-- the primitive atom of j is there to be read; where it comes before p, the counterpart comes before the block
module _ (T : ShiftTables) (l : List Float) (p i j : ℕ) (r : ReadyAt T (length l) p i j) where
  pub s2pp-read : Readable T.s2pp j
  s2pp-read = (read r.ready.fit.s2pp-fit j r.second).0

  module _ (q : ℕ) (e : q ≡ index_at T.s2pp j) (h : q < p) where
    earlier : mate (shifts_of T) (p * T.n_satom + j) < p * T.n_satom + j
    earlier =
        let S = shifts_of T in
        let L = r.ready.rules in
        let k = row S (nsym_at S j) (p2s_at S p) in
        let hk = L.row_below (nsym_at S j) (p2s_at S p) (L.nsym_below j r.second) (L.p2s-below p r.first) in
        let f : q ≡ s2pp_at S j = e ∙ s2pp_is T j in
        let m : mate S (p * T.n_satom + j) ≡ q * T.n_satom + k = mate_is S L p j r.first r.second ∙ ap (λ a. a * T.n_satom + k) (sym f) in
        omega (arith, m, hk, mul-le-mul_right T.n_satom h)

    pub transpose_earlier : (h : Bool) → l ≡ transpose_visit h (shifts_of T) p j l
    transpose_earlier h = transpose_past (shifts_of T) p j l earlier h

    pub average_earlier : l ≡ average_visit (shifts_of T) p j l
    average_earlier = average_past (shifts_of T) p j l earlier

-- the same by the numbers b and c of the block and its counterpart as they are worked out
module _ (T : ShiftTables) (l : List Float) (p i j : ℕ) (r : ReadyAt T (length l) p i j) (b c : ℕ)
    (eb : b ≡ horner T.n_satom p (j ∷ [])) (ec : c ≡ stored_in T.n_satom T.s2pp T.nsym_list T.perms j (i ∷ [])) where
  abbrev S : Shifts
  S = shifts_of T

  abbrev u : ℕ
  u = p * T.n_satom + j

  b_is : b ≡ u
  b_is = eb ∙ (unfold horner in refl)

  c_is : c ≡ mate S u
  c_is = ec ∙ (facts r).mate-told

  pub visit_in : Inside b c (length l)
  visit_in = record { one = rw b_is (facts r).block_in; other = rw c_is (facts r).mate_in }

  before : c < b → mate S u < u
  before h = omega (arith, b_is, c_is)

  after : b ≤ c → u ≤ mate S u
  after h = omega (arith, b_is, c_is)

  pub transpose_late : (h : Bool) → c < b → l ≡ transpose_visit h S p j l
  transpose_late h g = transpose_past S p j l (before g) h

  pub average_late : c < b → l ≡ average_visit S p j l
  average_late h = average_past S p j l (before h)

  pub transpose_none : (h : Bool) → h ≡ true → c ≡ b → (j ≡ i → ⊥) → l ≡ transpose_visit h S p j l
  transpose_none h t e n = transpose_stays S r.ready.rules p j r.first r.second h l t (sym c_is ∙ e ∙ b_is) (λ f. n (sym f ∙ sym r.own))

  pub transpose_done : (h : Bool) {w : List Float} → b ≤ c → (h ≡ false) ⊎ ((c ≡ b → ⊥) ⊎ (j ≡ i)) → w ≡ swap_at b c l → w ≡ transpose_visit h S p j l
  transpose_done h g m e =
      e ∙ ap₂ (λ b c. swap_at b c l) b_is c_is
      ∙ transpose_put S r.ready.rules p j r.first r.second h l (after g) (moving m)
    where
      moving : (h ≡ false) ⊎ ((c ≡ b → ⊥) ⊎ (j ≡ i)) → (h ≡ false) ⊎ ((mate S u ≡ u → ⊥) ⊎ (p2s_at S p ≡ j))
      moving (inl f) = inl f
      moving (inr (inl n)) = inr (inl (λ f. n (c_is ∙ f ∙ sym b_is)))
      moving (inr (inr f)) = inr (inr (sym r.own ∙ sym f))

  pub average_done : {w : List Float} → b ≤ c → w ≡ pair_at b c l → w ≡ average_visit S p j l
  average_done h e = e ∙ ap₂ (λ b c. pair_at b c l) b_is c_is ∙ average_put S r.ready.rules p j r.first r.second l (after h)

-- ---- the passes

module _ {T : ShiftTables} (l : List Float) (r : Ready T (length l)) where
  pub transpose_all : (h : Bool) → times T.n_patom (λ p. times T.n_satom (transpose_visit h (shifts_of T) p)) l ≡ cond h (transposed (shifts_of T) l) (swapped (shifts_of T) 1 (0, 1) l)
  transpose_all h = transpose_made (shifts_of T) r.rules l r.has h

  pub drift_all : row_drifts T.n_patom T.n_satom (inverse T.n_satom) l ≡ without_row_drift_compact (shifts_of T) l
  drift_all = drift_made (shifts_of T) l r.has

  pub site_all : times T.n_patom (balance_at T.n_satom (p2s_at (shifts_of T))) l ≡ on_site (shifts_of T) l
  unfolding balances
  site_all = site_made (shifts_of T) l r.has r.rules

-- a set of the same length is as ready
pub ready-same : {T : ShiftTables} {m n : ℕ} → m ≡ n → Ready T n → Ready T m
ready-same e r = record { fit = r.fit; rules = r.rules; has = e ∙ r.has }

pub ready_at : {T : ShiftTables} {m n p i j : ℕ} → m ≡ n → Ready T n → p < T.n_patom → i ≡ index_at T.p2s p → j < T.n_satom → ReadyAt T m p i j
ready_at {T} {p = p} e r h f g = record { ready = ready-same e r; first = h; own = f ∙ p2s_is T p; second = g }

-- the on-site block of p is one of the row
pub own_at : {T : ShiftTables} {len p i : ℕ} → Ready T len → p < T.n_patom → i ≡ index_at T.p2s p → ReadyAt T len p i i
own_at {T} {p = p} r h e = let f : _ ≡ p2s_at (shifts_of T) p = e ∙ p2s_is T p in record { ready = r; first = h; own = f; second = rw f (r.rules.p2s-below p h) }

pub own_in : {T : ShiftTables} {len p i b : ℕ} → ReadyAt T len p i i → b ≡ horner T.n_satom p (i ∷ []) → b * 9 + 9 ≤ len
unfolding horner
own_in r e = rw e (facts r).block_in

-- the row of p, by its on-site block
pub own_row : {T : ShiftTables} {len p i b : ℕ} → ReadyAt T len p i i → b ≡ horner T.n_satom p (i ∷ []) → RowOf b i T.n_satom len
unfolding horner
own_row {T} {len} {p} {i} r e = rw e (row_of (sized r.ready) p i r.first r.second)

-- what is written for the on-site block of p
pub site_row_is : {i b : ℕ} {s : Sums} {v w : List Float} (T : ShiftTables) (p : ℕ) (l : List Float)
    → i ≡ index_at T.p2s p → b ≡ horner T.n_satom p (i ∷ []) → s ≡ others T.n_satom b i l → v ≡ balance s
    → w ≡ put_block 9 b v l → w ≡ balance_at T.n_satom (p2s_at (shifts_of T)) p l
unfolding balance_at horner
site_row_is {i} {b} T p l ei eb es ev ew =
    ew ∙ ap (λ v. put_block 9 b v l) (ev ∙ ap balance es)
    ∙ ap (λ b. put_block 9 b (balance (others T.n_satom b i l)) l) eb
    ∙ ap (λ i. put_block 9 (p * T.n_satom + i) (balance (others T.n_satom (p * T.n_satom + i) i l)) l) (ei ∙ p2s_is T p)
