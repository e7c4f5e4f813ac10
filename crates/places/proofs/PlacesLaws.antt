-- A set is a table over places: two sets are one where their read-outs are, and a set made place by place reads out what was put. Assumes nothing.
use Rattle.std.specs.Prelude.{◌≡◌}
use Rattle.std.proofs.Math.Path.{sym, ap}
use Rattle.std.proofs.Common.{◌∙◌}
use Prim.Native.Nat.{ℕ, ◌<◌}
use mathlib.Core.List.{List}
use Rattle.std.proofs.Math.ListN.{length}
use Rattle.std.proofs.Math.Seq.{ext_get_or}
use Rattle.tables.specs.Shifts.{Shifts, Laws}
use Rattle.lists.specs.Tab.{get_or-tab}
use Rattle.places.specs.Places.{Leg, legs_at, stored, address, size, place, at, read_out, fill, Legs, Place, address_below, place-address, place-place, address-place, stored_opened, opened_legs, stored-place}

-- ---- a set is a table over places

module _ (S : Shifts) (m : ℕ) where
  module _ {A : Type 0} (z : A) where
    pub at_fill : (f : List Leg → A) (ys : List Leg) → Place S m ys → at z S (fill S m f) ys ≡ f ys
    unfolding at fill
    at_fill f ys p = get_or-tab (size S m) (λ q. f (place S m q)) (address S ys) z (address_below S m ys p) ∙ ap f (place-address S m ys p)

    pub same_set_lem : (s t : List A) → length s ≡ size S m → length t ≡ size S m → ((ys : List Leg) → Place S m ys → at z S s ys ≡ at z S t ys) → s ≡ t
    unfolding at
    same_set_lem s t ls lt h =
        ext_get_or z s t (ls ∙ sym lt) (λ i hi.
        let l : i < size S m = rw ls at hi in
        rw (address-place S m i l) at (h (place S m i) (place-place S m i l)))

-- ---- shifts and places

module _ (S : Shifts) (L : Laws S) where
  -- two sets are one where their read-outs are
  module _ {A : Type 0} (z : A) where
    pub same-read_out : (m : ℕ) (s t : List A) → length s ≡ size S m → length t ≡ size S m
        → ((xs : List Leg) → Legs S m xs → read_out z S s xs ≡ read_out z S t xs) → s ≡ t
    unfolding read_out
    same-read_out m s t ls lt h =
        same_set_lem S m z s t ls lt (λ ys p. rw (stored_opened S L m ys p) at (h (legs_at S ys) (opened_legs S L m ys p)))

    pub read_out-fill : (m : ℕ) (f : List Leg → A) (xs : List Leg) → Legs S m xs → read_out z S (fill S m f) xs ≡ f (stored S xs)
    unfolding read_out
    read_out-fill m f xs p = at_fill S m z f (stored S xs) (stored-place S L m xs p)
