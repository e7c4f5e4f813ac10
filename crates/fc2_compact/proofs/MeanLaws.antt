-- What the averages mean: an averaged set reads out, for any two legs, the mean of the old read-outs at both permutations, and to average it once more
-- changes nothing, whatever the numbers are. So it does not matter that the Rust takes some means twice.
-- On its own diagonal a block takes (x + x) / 2 at the first average: x again, but an infinity where x + x overflows. Assumes nothing.
use Rattle.std.specs.Prelude.{◌≡◌, refl, List, length, T, Float}
use Rattle.std.proofs.Common.{sym, ◌∙◌, subst, arith}
use Rattle.std.proofs.Math.Path.{ap}
use Rattle.std.specs.Float.Ieee.{nan, add, fits}
use Rattle.std.specs.Float.{binary64}
use Rattle.std.specs.Float.Ieee.Fits.{div-fits, add-fits}
use Rattle.lists.specs.Floats.{add_commutes}
use Rattle.lists.specs.Elements.{pick, pick-pick, straight, pick-straight}
use Rattle.lists.specs.Tab.{tab, tab_from}
use Rattle.tables.specs.Shifts.{Shifts, Laws}
use Rattle.places.specs.Places.{Leg, Legs, at, read_out, size, length-fill}
use Rattle.places.proofs.PlacesLaws.{same-read_out, read_out-fill}
use Rattle.places.specs.Permutations.{permute_legs, Permutation, taken_legs}
use Rattle.places.specs.Moves.{order2, source-stored}
use Rattle.lines.specs.Sums3x3.{half}
use Rattle.fc2_compact.specs.Passes.{mean, averaged_compact}
use Rattle.fc2_compact.specs.DoubleLaws.{Doubles, mean-same, half-doubles}

exchange : Permutation 1 order2
exchange = (refl, omega arith)

twice : (xs : List Leg) → length xs ≡ 2 → permute_legs order2 (permute_legs order2 xs) ≡ xs
twice xs l = pick-pick (0, 0) order2 order2 xs (omega arith) ∙ (unfold pick straight tab tab_from in pick-straight (0, 0) 2 xs l)

module _ (S : Shifts) (L : Laws S) where
  pub read_out-averaged : (set : List Float) (xs : List Leg) → Legs S 1 xs
      → read_out nan S (averaged_compact S set) xs ≡ mean (read_out nan S set xs) (read_out nan S set (permute_legs order2 xs))
  unfolding averaged_compact read_out
  read_out-averaged set xs p =
      read_out-fill S L nan 1 _ xs p
      ∙ ap (λ ys. mean (read_out nan S set xs) (at nan S set ys)) (source-stored S L 1 order2 xs exchange p)

  module _ (set : List Float) where
    -- the read-out is the same with the legs exchanged
    pub symmetric : (xs : List Leg) → Legs S 1 xs → read_out nan S (averaged_compact S set) (permute_legs order2 xs) ≡ read_out nan S (averaged_compact S set) xs
    symmetric xs p =
        read_out-averaged set (permute_legs order2 xs) (taken_legs S 1 order2 xs exchange p)
        ∙ ap (λ ys. mean (read_out nan S set (permute_legs order2 xs)) (read_out nan S set ys)) (twice xs p.0)
        ∙ ap half (add_commutes binary64 (read_out nan S set (permute_legs order2 xs)) (read_out nan S set xs))
        ∙ sym (read_out-averaged set xs p)

    pub averaged-twice : averaged_compact S (averaged_compact S set) ≡ averaged_compact S set
    averaged-twice =
        same-read_out S L nan 1 (averaged_compact S (averaged_compact S set)) (averaged_compact S set) (long (averaged_compact S set)) (long set)
        (λ xs p.
        read_out-averaged (averaged_compact S set) xs p
        ∙ ap (mean (read_out nan S (averaged_compact S set) xs)) (symmetric xs p)
        ∙ mean-same (read_out nan S (averaged_compact S set) xs) (fit xs p) (doubles xs p))
      where
        long : (s : List Float) → length (averaged_compact S s) ≡ size S 1
        long s = unfold averaged_compact in length-fill S 1 _

        fit : (xs : List Leg) → Legs S 1 xs → T (fits binary64 (read_out nan S (averaged_compact S set) xs))
        fit xs p = rw (read_out-averaged set xs p) (div-fits binary64 _ _)

        -- a mean is a half, so it can be doubled
        doubles : (xs : List Leg) → Legs S 1 xs → Doubles (read_out nan S (averaged_compact S set) xs)
        doubles xs p =
            subst (λ (x : Float). Doubles x) (sym (read_out-averaged set xs p))
            (half-doubles (add binary64 (read_out nan S set xs) (read_out nan S set (permute_legs order2 xs))) (add-fits binary64 (read_out nan S set xs) (read_out nan S set (permute_legs order2 xs))))
