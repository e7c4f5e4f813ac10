-- ALIKE IS DEMAND 3'S STATEMENT: a set is alike exactly where all permutations of any legs read out the same number, for every rank at once.
-- Assumes nothing.
use Rattle.std.specs.Prelude.{None, Ok, ◌≡◌}
use Rattle.std.proofs.Math.Path.{sym, ap}
use Rattle.std.proofs.Common.{◌∙◌}
use mathlib.Core.List.{List}
use Prim.Native.Nat.{ℕ}
use Rattle.std.proofs.Math.ListN.{get_or}
use lib.Ieee.{Float, nan, binary64, to_bits}
use Rattle.tables.specs.Shifts.{Shifts, Laws}
use Rattle.places.specs.Places.{stored, legs_at, address, place, at, read_out, stored-place, opened_legs, place-place, address_below}
use Rattle.places.specs.Permutations.{permute_legs, Group}
use Rattle.audits.specs.Audit.{reads, audited}
use Rattle.audits.specs.Demand.{Doubles, SameReadOuts, same-doubles, alike_at, at-alike, none_alike, alike-none, own-number, reads_legs}

module _ (S : Shifts) (L : Laws S) (m : ℕ) (os : List (List ℕ)) (G : Group m os) (set : List Float) where
  pub demanded : Doubles set → audited S m os set ≡ Ok None → SameReadOuts S m os set
  unfolding read_out at
  demanded d e σ xs s p =
      let q = address S (stored S xs) in
      let h = address_below S m (stored S xs) (stored-place S L m xs p) in
      let w : to_bits binary64 (get_or set q nan) ≡ to_bits binary64 (get_or set (address S (stored S (permute_legs σ xs))) nan) =
      alike_at S m os set q (alike-none S m os set e q h) σ s ∙ ap (to_bits binary64) (reads_legs S L m os G set σ xs s p) in
      sym (same-doubles (get_or set q nan) (get_or set (address S (stored S (permute_legs σ xs))) nan) (d q) (d (address S (stored S (permute_legs σ xs)))) w)

  pub alike_of : SameReadOuts S m os set → audited S m os set ≡ Ok None
  unfolding reads
  alike_of h =
      none_alike S m os set (λ q l.
      at-alike S m os set q (λ σ s.
      ap (to_bits binary64) (sym (own-number S L m os G set q l) ∙ sym (h σ (legs_at S (place S m q)) s (opened_legs S L m (place S m q) (place-place S m q l))))))
