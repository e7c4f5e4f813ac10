-- Rules that hold at the representatives hold everywhere: with them every row has an inverse among the rows.
-- Assumes nothing.
use mathlib.Core.Path.{◌≡◌, sym, ap, ◌∙◌}
use mathlib.Core.Bool.{Bool, true}
use mathlib.Core.List.{List}
use Prim.Native.Nat.{ℕ, ◌+◌, ◌*◌, ◌<◌}
use native.Mathlib.Omega.{arith}
use lib.Dec.{eqb}
use lib.ListN.{get_or}
use Rattle.lists.specs.Tests.{every, says}
use Rattle.tables.specs.Conditions.{index_at, read}
use Rattle.shifts.specs.Rows.{image, Closed, Sent}
use Rattle.shifts.specs.Placing.{Spread, Placed}
use Rattle.tables.specs.Shifts.{Shifts, row, p2s_at, s2pp_at, nsym_at, distinct, distinct_says, is_null, is_after, follows, counts_agree, has_null, rows_closed, nsym_lands, ruled, Within, Laws, laws, passes}
use Rattle.tables.specs.Compact.{ShiftTables, TablesFit, fit-within, shifts_of, perms_is, p2s_is, s2pp_is}

-- s2pp is p for p2s[p] and its images
unfoldable pub p2s_kept : Shifts → Bool
p2s_kept S = every S.n_patom (λ p. every S.num_trans (λ t. eqb (s2pp_at S (row S t (p2s_at S p))) p))

-- rows with different t never send p2s[p] to the same place
unfoldable pub p2s_free : Shifts → Bool
p2s_free S = every S.n_patom (λ p. distinct S.num_trans (λ t. row S t (p2s_at S p)))

-- the rules that are tested, as facts
record Tested (S : Shifts) : Type 0 where
  within : Within S
  null : (t : ℕ) × (t < S.num_trans) × ((a : ℕ) → a < S.n_satom → row S t a ≡ a)
  after : (t u : ℕ) → t < S.num_trans → u < S.num_trans → (v : ℕ) × (v < S.num_trans) × ((a : ℕ) → a < S.n_satom → row S u (row S t a) ≡ row S v a)
  lands : (a : ℕ) → a < S.n_satom → row S (nsym_at S a) a ≡ p2s_at S (s2pp_at S a)
  kept : (p : ℕ) → p < S.n_patom → (t : ℕ) → t < S.num_trans → s2pp_at S (row S t (p2s_at S p)) ≡ p
  free : (p : ℕ) → p < S.n_patom → (t : ℕ) → t < S.num_trans → (u : ℕ) → u < S.num_trans → row S t (p2s_at S p) ≡ row S u (p2s_at S p) → t ≡ u

module _ (S : Shifts) (R : Tested S) where
  -- Row t sends p2s[p] to b, and row nsym_list[b] sends it back: the two after each other are the null shift.
  undone : (p t : ℕ) → p < S.n_patom → t < S.num_trans → (i : ℕ) × (i < S.num_trans) × ((a : ℕ) → a < S.n_satom → row S i (row S t a) ≡ a)
  undone p t hp ht =
      let r = p2s_at S p in
      let hr = R.within.p2s-below p hp in
      let b = row S t r in
      let hb = R.within.row_below t r ht hr in
      let i = nsym_at S b in
      let hi = R.within.nsym_below b hb in
      let (v, hv, e) = R.after t i ht hi in
      let (z, hz, f) = R.null in
      let q : v ≡ z = R.free p hp v hv z hz (sym (e r hr) ∙ R.lands b hb ∙ ap (p2s_at S) (R.kept p hp t ht) ∙ sym (f r hr)) in
      (i, hi, λ a ha. e a ha ∙ ap (λ t. row S t a) q ∙ f a ha)

  -- the row that sends the representative to atom a
  reached : (a : ℕ) → a < S.n_satom → (i : ℕ) × (i < S.num_trans) × (row S i (p2s_at S (s2pp_at S a)) ≡ a)
      × ((b : ℕ) → b < S.n_satom → row S i (row S (nsym_at S a) b) ≡ b)
  reached a ha =
      let (i, hi, e) = undone (s2pp_at S a) (nsym_at S a) (R.within.s2pp-below a ha) (R.within.nsym_below a ha) in
      (i, hi, ap (row S i) (sym (R.lands a ha)) ∙ e a ha, e)

  all-injective : (t a b : ℕ) → t < S.num_trans → a < S.n_satom → b < S.n_satom → row S t a ≡ row S t b → a ≡ b
  all-injective t a b ht ha hb q =
      let (i, hi, e) = undone (s2pp_at S a) t (R.within.s2pp-below a ha) ht in
      sym (e a ha) ∙ ap (row S i) q ∙ e b hb

  all-kept : (t a : ℕ) → t < S.num_trans → a < S.n_satom → s2pp_at S (row S t a) ≡ s2pp_at S a
  all-kept t a ht ha =
      let p = s2pp_at S a in
      let hp = R.within.s2pp-below a ha in
      let (i, hi, e, _) = reached a ha in
      let (v, hv, f) = R.after i t hi ht in
      ap (s2pp_at S) (ap (row S t) (sym e) ∙ f (p2s_at S p) (R.within.p2s-below p hp)) ∙ R.kept p hp v hv

  all-free : (t u a : ℕ) → t < S.num_trans → u < S.num_trans → a < S.n_satom → row S t a ≡ row S u a → t ≡ u
  all-free t u a ht hu ha q =
      let p = s2pp_at S a in
      let hp = R.within.s2pp-below a ha in
      let r = p2s_at S p in
      let hr = R.within.p2s-below p hp in
      let (i, hi, e, g) = reached a ha in
      let (v, hv, f) = R.after i t hi ht in
      let (w, hw, h) = R.after i u hi hu in
      let same : v ≡ w = R.free p hp v hv w hw (sym (f r hr) ∙ ap (row S t) e ∙ q ∙ sym (ap (row S u) e) ∙ h r hr) in
      let b = row S (nsym_at S a) r in
      let hb = R.within.row_below (nsym_at S a) r (R.within.nsym_below a ha) hr in
      R.free p hp t ht u hu (ap (row S t) (sym (g r hr)) ∙ f b hb ∙ ap (λ x. row S x b) same ∙ sym (h b hb) ∙ ap (row S u) (g r hr))

  all_laws : S.n_satom ≡ S.n_patom * S.num_trans → Laws S
  all_laws c =
      record {
        row_below = R.within.row_below;
        p2s-below = R.within.p2s-below;
        s2pp-below = R.within.s2pp-below;
        nsym_below = R.within.nsym_below;
        counts = c;
        injective = all-injective;
        null = R.null;
        after = R.after;
        free = all-free;
        s2pp-p2s = λ p hp. let (z, hz, f) = R.null in ap (s2pp_at S) (sym (f (p2s_at S p) (R.within.p2s-below p hp))) ∙ R.kept p hp z hz;
        s2pp-row = all-kept;
        nsym_lands_lem = R.lands;
      }

module _ (S : Shifts) (W : Within S) where
  -- every atom is sent from its representative
  pub ruled-reached : ruled S ≡ true → (a : ℕ) → a < S.n_satom → (i : ℕ) × (i < S.num_trans) × (row S i (p2s_at S (s2pp_at S a)) ≡ a)
  ruled-reached e a ha =
      let L = laws S W e in
      let R : Tested S =
      record {
        within = W;
        null = L.null;
        after = L.after;
        lands = L.nsym_lands_lem;
        kept = λ p hp t ht. L.s2pp-row t (p2s_at S p) ht (W.p2s-below p hp) ∙ L.s2pp-p2s p hp;
        free = λ p hp t ht u hu. L.free t u (p2s_at S p) ht hu (W.p2s-below p hp);
      } in
      let (i, hi, q, _) = reached S R a ha in
      (i, hi, q)

  pub all-ruled : counts_agree S ≡ true → has_null S ≡ true → nsym_lands S ≡ true → p2s_kept S ≡ true → p2s_free S ≡ true → rows_closed S ≡ true → ruled S ≡ true
  unfolding counts_agree has_null is_null nsym_lands p2s_kept p2s_free rows_closed follows is_after
  all-ruled c n l k f a =
      let c' = simp says at c in
      let n' = simp says at n in
      let l' = simp says at l in
      let k' = simp says at k in
      let f' = simp (says, distinct_says) at f in
      let a' = simp says at a in
      passes S (all_laws S (record { within = W; null = n'; after = λ t u ht hu. a' u hu t ht; lands = l'; kept = k'; free = f' }) c')

-- the same of the tables as the code reads them
module _ (T : ShiftTables) (F : TablesFit 1024 T) where
  at-rep : (t p : ℕ) → image T.perms T.n_satom t (index_at T.p2s p) ≡ row (shifts_of T) t (p2s_at (shifts_of T) p)
  at-rep t p = perms_is T t _ ∙ ap (row (shifts_of T) t) (p2s_is T p)

  pub ruled-spread : ruled (shifts_of T) ≡ true → (p : ℕ) → p < T.n_patom → Spread T.n_satom T.num_trans T.perms T.s2pp (index_at T.p2s p) p
  ruled-spread e p hp =
      let L = laws (shifts_of T) (fit-within T F) e in
      let hr = L.p2s-below p hp in (
        λ t ht. s2pp_is T _ ∙ ap (s2pp_at (shifts_of T)) (at-rep t p) ∙ L.s2pp-row t _ ht hr ∙ L.s2pp-p2s p hp,
        λ t u ht hu q. L.free t u _ ht hu hr (sym (at-rep t p) ∙ q ∙ at-rep u p),
      )

  pub closed-rows : Closed T.n_satom T.num_trans T.perms → rows_closed (shifts_of T) ≡ true
  unfolding rows_closed follows is_after
  closed-rows C =
      simp says (λ u hu t ht.
      let (v, hv, e) = C t u ht hu in
      (v, hv, λ a ha. sym (perms_is T u _ ∙ ap (row (shifts_of T) u) (perms_is T t a)) ∙ e a ha ∙ perms_is T v a))

  pub ruled-closed : ruled (shifts_of T) ≡ true → Closed T.n_satom T.num_trans T.perms
  ruled-closed e t u ht hu =
      let (v, hv, q) = (laws (shifts_of T) (fit-within T F) e).after t u ht hu in
      (v, hv, λ a ha. perms_is T u _ ∙ ap (row (shifts_of T) u) (perms_is T t a) ∙ q a ha ∙ sym (perms_is T v a))

  pub closed_none : T.n_satom ≡ 0 → Closed T.n_satom T.num_trans T.perms
  closed_none z t u ht hu = (t, ht, λ a ha. absurd (omega arith))

  module _ (sent : List ℕ) (L : Placed T.n_satom T.num_trans T.n_patom T.perms T.p2s T.s2pp sent) where
    pub placed-kept : p2s_kept (shifts_of T) ≡ true
    unfolding p2s_kept
    placed-kept = simp says (λ p hp t ht. sym (s2pp_is T _ ∙ ap (s2pp_at (shifts_of T)) (at-rep t p)) ∙ L.kept p t hp ht)

    pub placed-free : p2s_free (shifts_of T) ≡ true
    unfolding p2s_free
    placed-free =
        simp (says, distinct_says) (λ p hp t ht u hu q.
        let e : get_or sent (image T.perms T.n_satom t (index_at T.p2s p)) 0 ≡ get_or sent (image T.perms T.n_satom u (index_at T.p2s p)) 0 =
        ap (λ x. get_or sent x 0) (at-rep t p ∙ q ∙ sym (at-rep u p)) in
        omega (arith, L.names p t hp ht, L.names p u hp hu))

    pub ruled-placed : ruled (shifts_of T) ≡ true → (a : ℕ) → a < T.n_satom → get_or sent a 0 ≡ 0 → ⊥
    ruled-placed e a ha z =
        let (i, hi, q) = ruled-reached (shifts_of T) (fit-within T F) e a ha in
        let p = index_at T.s2pp a in
        let hp = (read F.s2pp-fit a ha).1 in
        let r : image T.perms T.n_satom i (index_at T.p2s p) ≡ a = at-rep i p ∙ ap (λ x. row (shifts_of T) i (p2s_at (shifts_of T) x)) (s2pp_is T a) ∙ q in
        let f : get_or sent a 0 ≡ i + 1 = ap (λ x. get_or sent x 0) (sym r) ∙ L.names p i hp hi in
        omega arith

    pub sent_of : has_null (shifts_of T) ≡ true → ((a : ℕ) → a < T.n_satom → get_or sent a 0 ≡ 0 → ⊥) → 0 < T.n_patom
        → Sent T.n_satom T.num_trans T.n_patom T.perms T.p2s T.s2pp sent
    unfolding has_null is_null
    sent_of n c h =
        let (z, hz, e) = simp says at n in
        record {
          rows = record { atoms = F.satoms; shifts = F.shifts; table = F.perms-fit };
          reps = F.p2s-fit;
          orbs = F.s2pp-fit;
          rep = h;
          null = (z, hz, λ a ha. perms_is T z a ∙ e a ha);
          kept = L.kept;
          names = L.names;
          named = λ a ha.
              let (p, hp, t, ht, q) = L.named a (c a ha) in
              let o : index_at T.s2pp a ≡ p = ap (index_at T.s2pp) (sym q) ∙ L.kept p t hp ht in
              (t, ht, ap (λ x. image T.perms T.n_satom t (index_at T.p2s x)) o ∙ q, ap (λ x. get_or sent x 0) (sym q) ∙ L.names p t hp ht);
        }
