-- What the symmetrizers of second order leave is alike: the averages of a compact set, and a full or a compact set symmetrized at one level or more.
-- At level 0 only the on-site blocks are made anew, so a set that was not alike may stay so. Assumes nothing.
use Rattle.std.specs.Prelude.{None, Ok, ◌≡◌, refl, Bool, true, false, ◌&&◌, List, [], ◌∷◌, length, get_or}
use Rattle.std.proofs.Math.Path.{sym, ap}
use Rattle.std.proofs.Common.{ap₂, ◌∙◌, true≢false, inl, inr, arith, lit≤, eqb-true, eq-eqb, ne_eqb}
use Rattle.std.proofs.Math.Bool.{cond}
use Rattle.std.proofs.lemmas.Bool.{false≢true}
use Prim.Native.Nat.{ℕ, zero, suc, ◌≤◌, ◌<◌}
use Rattle.std.proofs.Math.Decide.{ℕ_discrete}
use Rattle.std.proofs.Math.Dec.{eqb}
use Rattle.std.specs.Float.Ieee.{Float, nan, binary64, add, neg}
use Rattle.lists.specs.Tests.{same_test, and_fst, and_snd}
use Rattle.lists.specs.Floats.{add_commutes}
use Rattle.lists.specs.Members.{In}
use Rattle.lists.specs.Tab.{times}
use Rattle.lists.specs.Elements.{pick}
use Rattle.tables.specs.declared.Refusal.TheVariants.{CountAboveLimit}
use Rattle.tables.specs.Answers.{is_refusal, after-done, passed}
use Rattle.tables.specs.Conditions.{any_above}
use Rattle.tables.specs.Full.{judged_full}
use Rattle.tables.specs.Limits.{limit2, limit_level}
use Rattle.tables.specs.Shifts.{Shifts, Laws, row, p2s_at, s2pp_at, nsym_at}
use Rattle.tables.specs.Compact.{ShiftTables, shifts_of, judged_set, judged_compact}
use Rattle.tables.proofs.CompactLaws.{done_compact}
use Rattle.places.specs.Places.{Leg, atom, dir, Fit, Legs, stored, shift, at, read_out, size, length-fill}
use Rattle.places.proofs.PlacesLaws.{read_out-fill}
use Rattle.places.specs.WholeLaws.{full_shifts, whole-laws, stored-whole}
use Rattle.places.specs.Permutations.{permute_legs, perms2, two-group}
use Rattle.lines.specs.Sums3x3.{half}
use Rattle.fc2.specs.Full.{full_entry, off_site_sum, pair_averages, on_site_blocks, one_level, judged_full_levels, perm_trans_symmetrize_fc}
use Rattle.fc2.specs.Full as full
use Rattle.fc2_compact.specs.Passes.{averaged_compact, on_site}
use Rattle.fc2_compact.specs.Passes as passes
use Rattle.fc2_compact.proofs.MeanLaws.{symmetric}
use Rattle.fc2_compact.specs.Compact.{judged2, judged_levels, leveled, set_index_permutation_symmetry_compact_fc, perm_trans_symmetrize_compact_fc}
use Rattle.fc2_compact.specs.Compact as compact
use Rattle.audits.specs.Audit.{found_after, audit_compact, audit_full}
use Rattle.audits.specs.Demand.{SameReadOuts}
use Rattle.audits.proofs.DemandLaws.{alike_of}
use Rattle.audits.specs.Guard.{set-done, compact_done, ready-whole, whole-shifts}

-- any two legs exchanged read out the same number
abbrev pub Exchanges : Shifts → List Float → Type 0
Exchanges S set = (x y : Leg) → Fit S x → Fit S y → read_out nan S set (y ∷ x ∷ []) ≡ read_out nan S set (x ∷ y ∷ [])

-- that is both permutations of two legs
both : (S : Shifts) (set : List Float) → Exchanges S set → SameReadOuts S 1 perms2 set
unfolding perms2 pick
both S set h σ [] i p = absurd (omega (arith, p.0))
both S set h σ (_ ∷ []) i p = absurd (omega (arith, p.0))
both S set h σ (x ∷ (y ∷ [])) i p = by i
  where
    by : In σ perms2 → read_out nan S set (permute_legs σ (x ∷ y ∷ [])) ≡ read_out nan S set (x ∷ y ∷ [])
    by (inl e) = ap (λ σ. read_out nan S set (permute_legs σ (x ∷ y ∷ []))) e
    by (inr (inl e)) = ap (λ σ. read_out nan S set (permute_legs σ (x ∷ y ∷ []))) e ∙ h x y p.1.0 p.1.1.0
    by (inr (inr e)) = absurd e
both S set h σ (_ ∷ (_ ∷ (_ ∷ _))) i p = absurd (omega (arith, p.0))

-- two tests that tell the same
told : (b t u : Bool) (p q p' q' : Float) → t ≡ b → u ≡ b → (b ≡ true → p ≡ p') → (b ≡ false → q ≡ q') → cond t p q ≡ cond u p' q'
told true t u p q p' q' e f h k = rw (e, f) (h refl)
told false t u p q p' q' e f h k = rw (e, f) (k refl)

pair : (S : Shifts) (x y : Leg) → Fit S x → Fit S y → Legs S 1 (x ∷ y ∷ [])
pair S x y a b = (refl, (a, (b, tt)))

-- ---- compact sets

module _ (S : Shifts) (L : Laws S) where
  averaged-exchanges : (set : List Float) → Exchanges S (averaged_compact S set)
  unfolding pick
  averaged-exchanges set x y a b = symmetric S L set (x ∷ y ∷ []) (pair S x y a b)

  -- legs of one atom, and of two, as the program tells them by the stored atoms
  own : (a b : ℕ) → a < S.n_satom → a ≡ b → eqb (p2s_at S (s2pp_at S a)) (row S (nsym_at S a) b) ≡ true
  own a b ha e = eq-eqb (p2s_at S (s2pp_at S a)) (row S (nsym_at S a) b) (sym (L.nsym_lands_lem a ha) ∙ ap (row S (nsym_at S a)) e)

  apart : (a b : ℕ) → a < S.n_satom → b < S.n_satom → (a ≡ b → ⊥) → eqb (p2s_at S (s2pp_at S a)) (row S (nsym_at S a) b) ≡ false
  apart a b ha hb d =
      ne_eqb (p2s_at S (s2pp_at S a)) (row S (nsym_at S a) b) (λ e. d (L.injective (nsym_at S a) a b (L.nsym_below a ha) ha hb (L.nsym_lands_lem a ha ∙ e)))

  -- what the on-site pass reads out
  abbrev sums : List Float → ℕ → ℕ → ℕ → Float
  sums set p k l = half (neg (add binary64 (passes.off_site_sum_compact S set (p, k) l) (passes.off_site_sum_compact S set (p, l) k)))

  reads : (set : List Float) (x y : Leg) → Fit S x → Fit S y
      → read_out nan S (on_site S set) (x ∷ y ∷ [])
      ≡ cond (eqb (p2s_at S (s2pp_at S (atom x))) (row S (nsym_at S (atom x)) (atom y))) (sums set (s2pp_at S (atom x)) (dir x) (dir y)) (read_out nan S set (x ∷ y ∷ []))
  unfolding on_site stored shift read_out
  reads set x y a b = read_out-fill S L nan 1 _ (x ∷ y ∷ []) (pair S x y a b)

  sums-exchange : (set : List Float) (p q k l : ℕ) → p ≡ q → sums set q l k ≡ sums set p k l
  sums-exchange set p q k l e =
      ap (λ q. sums set q l k) (sym e) ∙ ap (λ s. half (neg s)) (add_commutes binary64 (passes.off_site_sum_compact S set (p, l) k) (passes.off_site_sum_compact S set (p, k) l))

  on_site_exchanges : (set : List Float) → Exchanges S set → Exchanges S (on_site S set)
  on_site_exchanges set h x y a b = reads set y x b a ∙ go (ℕ_discrete (atom x) (atom y)) ∙ sym (reads set x y a b)
    where
      owns : Leg → Leg → Bool
      owns x y = eqb (p2s_at S (s2pp_at S (atom x))) (row S (nsym_at S (atom x)) (atom y))

      sum : Leg → Leg → Float
      sum x y = sums set (s2pp_at S (atom x)) (dir x) (dir y)

      go : Dec (atom x ≡ atom y) → cond (owns y x) (sum y x) (read_out nan S set (y ∷ x ∷ [])) ≡ cond (owns x y) (sum x y) (read_out nan S set (x ∷ y ∷ []))
      go (yes e) =
          told true (owns y x) (owns x y) (sum y x) (read_out nan S set (y ∷ x ∷ [])) (sum x y) (read_out nan S set (x ∷ y ∷ []))
          (own (atom y) (atom x) b.0 (sym e)) (own (atom x) (atom y) a.0 e)
          (λ _. sums-exchange set (s2pp_at S (atom x)) (s2pp_at S (atom y)) (dir x) (dir y) (ap (s2pp_at S) e)) (λ f. absurd (true≢false f))
      go (no d) =
          told false (owns y x) (owns x y) (sum y x) (read_out nan S set (y ∷ x ∷ [])) (sum x y) (read_out nan S set (x ∷ y ∷ []))
          (apart (atom y) (atom x) b.0 a.0 (λ e. d (sym e))) (apart (atom x) (atom y) a.0 b.0 d)
          (λ f. absurd (false≢true f)) (λ _. h x y a b)

  pub levels_exchange : (level : ℕ) (set : List Float) → 1 ≤ level → Exchanges S (compact.symmetrized_compact S level set)
  unfolding compact.symmetrized_compact times leveled
  levels_exchange zero set h = absurd (omega arith)
  levels_exchange (suc n) set h = on_site_exchanges _ (averaged-exchanges _)

-- a compact set that is as long as it was, and whose legs may be exchanged
pub left : (set new : List Float) (T : ShiftTables) (k lenWork : ℕ) → judged_compact limit2 1 (length set) k lenWork T ≡ Ok tt
    → length new ≡ size (shifts_of T) 1 → Exchanges (shifts_of T) new → Ok None ≡ audit_compact limit2 1 perms2 new T
unfolding size
left set new T k lenWork e l h =
    let D = done_compact limit2 1 (length set) k lenWork T e in
    let j : judged_set limit2 1 (length new) [] T ≡ Ok tt = ap (λ n. judged_set limit2 1 n [] T) (l ∙ sym D.set-length) ∙ set-done limit2 1 (length set) k lenWork T e in
    compact_done limit2 1 perms2 new T j (sym (alike_of (shifts_of T) D.rules 1 perms2 two-group new (both (shifts_of T) new h)))

-- the averages: `set_index_permutation_symmetry_compact_fc` without transpose
pub second_averages_alike : (set : List Float) (T : ShiftTables) (work : List ℕ) → (set_index_permutation_symmetry_compact_fc set T work false).0 ≡ Ok tt
    → Ok None ≡ audit_compact limit2 1 perms2 (set_index_permutation_symmetry_compact_fc set T work false).1 T
unfolding set_index_permutation_symmetry_compact_fc
second_averages_alike set T work e =
    let S = shifts_of T in
    let new = averaged_compact S set in
    let L = (done_compact limit2 1 (length set) 1 (length work) T e).rules in
    left set new T 1 (length work) e (unfold averaged_compact in length-fill S 1 _) (averaged-exchanges S L set)
    ∙ ap (λ s. audit_compact limit2 1 perms2 s T) (sym (after-done (judged2 set T work) new set (ap is_refusal e)))

-- ---- full sets

module _ (n : ℕ) where
  -- what a set reads out that was filled by atoms and directions
  reads-full : (f : ℕ → ℕ → ℕ → ℕ → Float) (x y : Leg) → Fit (full_shifts n) x → Fit (full_shifts n) y
      → read_out nan (full_shifts n) (full.fill_full n f) (x ∷ y ∷ []) ≡ f (atom x) (atom y) (dir x) (dir y)
  unfolding full.fill_full
  reads-full f x y a b =
      read_out-fill (full_shifts n) (whole-laws n) nan 1 _ (x ∷ y ∷ []) (pair (full_shifts n) x y a b)
      ∙ ap (λ ys. f (atom (get_or ys 0 (0, 0))) (atom (get_or ys 1 (0, 0))) (dir (get_or ys 0 (0, 0))) (dir (get_or ys 1 (0, 0)))) (stored-whole n (x ∷ y ∷ []) (a, (b, tt)))

  reads-entry : (set : List Float) (x y : Leg) → Fit (full_shifts n) x → Fit (full_shifts n) y → read_out nan (full_shifts n) set (x ∷ y ∷ []) ≡ full_entry n set (atom x) (atom y) (dir x) (dir y)
  unfolding read_out full_entry
  reads-entry set x y a b = ap (at nan (full_shifts n) set) (stored-whole n (x ∷ y ∷ []) (a, (b, tt)))

  -- atoms and directions exchanged ask the same
  asked : (i j : ℕ) → eqb j i ≡ eqb i j
  asked i j = same_test (eqb j i) (eqb i j) (λ t. eq-eqb i j (sym (eqb-true j i t))) (λ t. eq-eqb j i (sym (eqb-true i j t)))

  -- one that is its own counterpart stays, and any other is the mean with it
  averages_exchange : (set : List Float) → Exchanges (full_shifts n) (pair_averages n set)
  unfolding pair_averages
  averages_exchange set x y a b = reads-full _ y x b a ∙ go (atom x) (atom y) (dir x) (dir y) ∙ sym (reads-full _ x y a b)
    where
      f : ℕ → ℕ → ℕ → ℕ → Float
      f i j k l = cond (eqb i j && eqb k l) (full_entry n set i j k l) (half (add binary64 (full_entry n set i j k l) (full_entry n set j i l k)))

      go : (i j k l : ℕ) → f j i l k ≡ f i j k l
      go i j k l =
          told (eqb i j && eqb k l) (eqb j i && eqb l k) (eqb i j && eqb k l) (full_entry n set j i l k) (half (add binary64 (full_entry n set j i l k) (full_entry n set i j k l)))
          (full_entry n set i j k l) (half (add binary64 (full_entry n set i j k l) (full_entry n set j i l k))) (ap₂ ◌&&◌ (asked i j) (asked k l)) refl
          (λ t. let u = and_fst (eqb i j) (eqb k l) t in let v = and_snd (eqb i j) (eqb k l) t in
          ap₂ (λ (i : ℕ) (k : ℕ). full_entry n set j i l k) (eqb-true i j u) (eqb-true k l v) ∙ sym (ap₂ (λ (i : ℕ) (k : ℕ). full_entry n set i j k l) (eqb-true i j u) (eqb-true k l v)))
          (λ _. ap half (add_commutes binary64 (full_entry n set j i l k) (full_entry n set i j k l)))

  on_sites_exchange : (set : List Float) → Exchanges (full_shifts n) set → Exchanges (full_shifts n) (on_site_blocks n set)
  unfolding on_site_blocks
  on_sites_exchange set h x y a b = reads-full _ y x b a ∙ go (ℕ_discrete (atom x) (atom y)) ∙ sym (reads-full _ x y a b)
    where
      sum : ℕ → ℕ → ℕ → Float
      sum i k l = half (neg (add binary64 (off_site_sum n set i k l) (off_site_sum n set i l k)))

      f : ℕ → ℕ → ℕ → ℕ → Float
      f i j k l = cond (eqb i j) (sum i k l) (full_entry n set i j k l)

      go : Dec (atom x ≡ atom y) → f (atom y) (atom x) (dir y) (dir x) ≡ f (atom x) (atom y) (dir x) (dir y)
      go (yes e) =
          told true (eqb (atom y) (atom x)) (eqb (atom x) (atom y)) (sum (atom y) (dir y) (dir x)) (full_entry n set (atom y) (atom x) (dir y) (dir x))
          (sum (atom x) (dir x) (dir y)) (full_entry n set (atom x) (atom y) (dir x) (dir y)) (eq-eqb (atom y) (atom x) (sym e)) (eq-eqb (atom x) (atom y) e)
          (λ _. ap (λ i. sum i (dir y) (dir x)) (sym e) ∙ ap (λ s. half (neg s)) (add_commutes binary64 (off_site_sum n set (atom x) (dir y) (dir x)) (off_site_sum n set (atom x) (dir x) (dir y))))
          (λ f. absurd (true≢false f))
      go (no d) =
          told false (eqb (atom y) (atom x)) (eqb (atom x) (atom y)) (sum (atom y) (dir y) (dir x)) (full_entry n set (atom y) (atom x) (dir y) (dir x))
          (sum (atom x) (dir x) (dir y)) (full_entry n set (atom x) (atom y) (dir x) (dir y)) (ne_eqb (atom y) (atom x) (λ e. d (sym e))) (ne_eqb (atom x) (atom y) d)
          (λ f. absurd (false≢true f)) (λ _. sym (reads-entry set y x b a) ∙ h x y a b ∙ reads-entry set x y a b)

  full-exchanges : (level : ℕ) (set : List Float) → 1 ≤ level → Exchanges (full_shifts n) (full.symmetrized_full n level set)
  unfolding full.symmetrized_full times one_level
  full-exchanges zero set h = absurd (omega arith)
  full-exchanges (suc m) set h = on_sites_exchange _ (averages_exchange _)

full-long : (n level : ℕ) (set : List Float) → length (full.symmetrized_full n level set) ≡ size (full_shifts n) 1
unfolding full.symmetrized_full on_site_blocks full.fill_full
full-long n level set = length-fill (full_shifts n) 1 _

-- `perm_trans_symmetrize_fc` at one level or more
pub second-full-alike : (set : List Float) (n level : ℕ) → 1 ≤ level → (perm_trans_symmetrize_fc set n level).0 ≡ Ok tt
    → Ok None ≡ audit_full limit2 1 perms2 (perm_trans_symmetrize_fc set n level).1 n
unfolding perm_trans_symmetrize_fc audit_full
second-full-alike set n level h e =
    let new = full.symmetrized_full n level set in
    let g = (passed (any_above limit_level (level ∷ [])) CountAboveLimit _ e).1 in
    let l : length new ≡ length set = full-long n level set ∙ sym ((ready-whole limit2 1 (length set) n (lit≤ tt) g).set-length ∙ ap (λ S. size S 1) (whole-shifts n)) in
    sym (ap (λ s. audit_full limit2 1 perms2 s n) (after-done (judged_full_levels (length set) n level) new set (ap is_refusal e))
    ∙ ap₂ found_after (ap (λ k. judged_full limit2 1 k [] n) l ∙ g) (alike_of (full_shifts n) (whole-laws n) 1 perms2 two-group new (both (full_shifts n) new (full-exchanges n level set h))))
