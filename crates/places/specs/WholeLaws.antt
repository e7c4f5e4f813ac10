-- A full set is a compact set over tables with one shift, the null shift: every atom is its own representative.
-- So full sets need no definition and no law of their own. Assumes nothing.
use Rattle.std.specs.Prelude.{◌≡◌, get_or}
use Rattle.std.proofs.Math.Path.{refl, sym, ap, ap₂}
use Rattle.std.proofs.Common.{◌∙◌, zero-add, mul-one, arith}
use Prim.Native.Nat.{ℕ, zero, suc, ◌+◌, ◌*◌, ◌<◌}
use Rattle.std.proofs.Math.Nat.{zero-mul}
use Rattle.std.proofs.Math.Dec.{lit<}
use mathlib.Core.List.{List, [], ◌∷◌}
use Rattle.std.proofs.Math.ListN.{get_or-replicate}
use Rattle.tables.specs.Lengths.{set_length}
use Rattle.tables.specs.Shifts.{Laws, row, p2s_at, s2pp_at, nsym_at}
use Rattle.lists.specs.Tab.{get_or-tab}
use Rattle.lists.specs.Elements.{All, straight, map_id}
use Rattle.places.specs.Places.{Leg, atom, dir, Fit, stored, shift, at, read_out, size}
unfoldable pub use Rattle.places.specs.Places.{full_shifts}

straight-at : (n a : ℕ) → a < n → get_or (straight n) a 0 ≡ a
unfolding straight
straight-at n a h = get_or-tab n (λ k. k) a 0 h

module _ (n : ℕ) where
  row_is : (t a : ℕ) → t < 1 → a < n → row (full_shifts n) t a ≡ a
  unfolding row full_shifts
  row_is t a ht ha = let e : t * n + a ≡ a = zero_row t a ht in rw e (straight-at n a ha)
    where
      zero_row : (t a : ℕ) → t < 1 → t * n + a ≡ a
      zero_row zero a h = rw zero-mul (zero-add a)
      zero_row (suc t) a h = absurd (omega arith)

  p2s_is : (p : ℕ) → p < n → p2s_at (full_shifts n) p ≡ p
  unfolding p2s_at full_shifts
  p2s_is p h = straight-at n p h

  s2pp_is : (a : ℕ) → a < n → s2pp_at (full_shifts n) a ≡ a
  unfolding s2pp_at full_shifts
  s2pp_is a h = straight-at n a h

  nsym_is : (a : ℕ) → a < n → nsym_at (full_shifts n) a ≡ 0
  unfolding nsym_at full_shifts
  nsym_is a h = get_or-replicate n a 0 0 h

  pub whole-laws : Laws (full_shifts n)
  unfolding full_shifts
  whole-laws = record {
    row_below = λ t a ht ha. rw (row_is t a ht ha) ha;
    p2s-below = λ p h. rw (p2s_is p h) h;
    s2pp-below = λ a h. rw (s2pp_is a h) h;
    nsym_below = λ a h. rw (nsym_is a h) (lit< tt);
    counts = sym (mul-one n);
    injective = λ t a b ht ha hb e. sym (row_is t a ht ha) ∙ e ∙ row_is t b ht hb;
    null = (0, lit< tt, λ a h. row_is 0 a (lit< tt) h);
    after = λ t u ht hu. (0, lit< tt, λ a h. ap (row (full_shifts n) u) (row_is t a ht h) ∙ row_is u a hu h ∙ sym (row_is 0 a (lit< tt) h));
    free = λ t u a ht hu ha e. omega arith;
    s2pp-p2s = λ p h. ap (s2pp_at (full_shifts n)) (p2s_is p h) ∙ s2pp_is p h;
    s2pp-row = λ t a ht ha. ap (s2pp_at (full_shifts n)) (row_is t a ht ha);
    nsym_lands_lem = λ a h. row_is (nsym_at (full_shifts n) a) a (rw (nsym_is a h) (lit< tt)) h ∙ sym (ap (p2s_at (full_shifts n)) (s2pp_is a h) ∙ p2s_is a h);
  }

  -- the number for the legs stands at the legs
  pub stored-whole : (xs : List Leg) → All (Fit (full_shifts n)) xs → stored (full_shifts n) xs ≡ xs
  unfolding stored shift full_shifts
  stored-whole [] p = refl
  stored-whole (x ∷ xs) p =
      ap₂ ◌∷◌ (ap (λ a. (a, dir x)) (s2pp_is (atom x) p.0.0))
      (map_id (Fit (full_shifts n)) _ xs (λ y h. ap (λ a. (a, dir y)) (row_is (nsym_at (full_shifts n) (atom x)) (atom y) (rw (nsym_is (atom x) p.0.0) (lit< tt)) h.0)) p.1)

  -- so a full set is its own read-out
  pub read_out-whole : {A : Type 0} (z : A) (set : List A) (xs : List Leg) → All (Fit (full_shifts n)) xs → read_out z (full_shifts n) set xs ≡ at z (full_shifts n) set xs
  unfolding read_out
  read_out-whole z set xs p = ap (at z (full_shifts n) set) (stored-whole xs p)

  -- n first atoms, as many as atoms
  pub size_whole : (m : ℕ) → size (full_shifts n) m ≡ set_length n n m
  unfolding size full_shifts
  size_whole m = refl
