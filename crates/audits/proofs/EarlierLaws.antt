-- A block whose group has an earlier block is alike if all earlier places are. Assumes nothing.
use Rattle.std.specs.Prelude.{◌≡◌, false, List, ℕ, ◌+◌, ◌*◌, ◌<◌, get_or, Float}
use Rattle.std.proofs.Math.Path.{sym, ap}
use Rattle.std.proofs.Common.{◌∙◌, mul-le-mul_right, arith}
use Rattle.std.specs.Float.{nan, binary64}
use Rattle.std.specs.Float.Ieee.{to_bits}
use Rattle.lists.specs.Members.{In}
use Rattle.lists.specs.Digits.{times_power}
use Rattle.tables.specs.Shifts.{Shifts, Laws}
use Rattle.places.specs.Places.{size, in_block}
use Rattle.places.specs.Permutations.{Group}
use Rattle.orbits.specs.Transposed.{counterpart, permuted_is_below}
use Rattle.orbits.specs.SymmetrizerLaws.{imgs, orbits}
use Rattle.audits.specs.Audit.{unlike}
use Rattle.audits.specs.Demand.{alike_at, at-alike}
use Rattle.audits.specs.PlaceLaws.{image_of, reads-image, image_in, in_image, place_in, image_is}

module _ (S : Shifts) (L : Laws S) (m : ℕ) (os : List (List ℕ)) (G : Group m os) (set : List Float) where
  -- where one place of a group is alike, all numbers of the group are one
  one_number : (q r : ℕ) → unlike S m os set q ≡ false → In r (imgs S L m os G q) → to_bits binary64 (get_or set q nan) ≡ to_bits binary64 (get_or set r nan)
  one_number q r u i =
      let (σ, s, e) = in_image S L m os G set q r i in
      alike_at S m os set q u σ s ∙ ap (to_bits binary64) (reads-image S L m os G set q σ ∙ ap (λ r. get_or set r nan) (sym e))

  -- and so every place of the group is
  group-alike : (q r : ℕ) → q < size S m → In r (imgs S L m os G q) → unlike S m os set r ≡ false → unlike S m os set q ≡ false
  group-alike q r h i u =
      let O = orbits S L m os G in
      at-alike S m os set q (λ σ s.
      sym (one_number r q u (O.back q r h i q (O.own q h))) ∙ one_number r (image_of S L m os G set σ q) u (O.back q r h i (image_of S L m os G set σ q) (image_in S L m os G set q σ s))
      ∙ ap (to_bits binary64) (sym (reads-image S L m os G set q σ)))

  module _ (b k : ℕ) (hb : b < times_power S.n_satom m S.n_patom) (hk : k < in_block m) where
    -- a block whose group has an earlier block is alike if all earlier places are
    pub earlier_tells : (σ : List ℕ) → In σ os → counterpart S m σ b < b → ((q : ℕ) → q < b * in_block m → unlike S m os set q ≡ false)
        → unlike S m os set (b * in_block m + k) ≡ false
    earlier_tells σ s l u =
        let q = b * in_block m + k in
        let o = G.each σ s in
        let p = permuted_is_below m σ k o hk in
        let r : image_of S L m os G set σ q < b * in_block m = rw (image_is S L m os G set b k hb hk σ o) (omega (arith, mul-le-mul_right (in_block m) l, p)) in
        group-alike q (image_of S L m os G set σ q) (place_in S L m os G set b k hb hk) (image_in S L m os G set q σ s) (u (image_of S L m os G set σ q) r)
