-- What the look-up of the first bytes of a slice gives: `get(..count)` on the slice s. Assumes nothing.
use Rattle.std.proofs.Common.{◌≡◌, Bool, false, ℕ, ◌+◌, ◌-◌, ◌≤◌, ◌<◌, ◌⊎◌, inl, inr, List, [], length, take, Option, Some, None, MatchOption, Bor, ap, ◌∙◌, arith}
use Rattle.std.specs.List.{slice_range}
use Rattle.std.specs.Option.{unwrap_or}

-- the part is there, or the slice is too short for it
abbrev pub LookedUp : List ℕ → ℕ → Option (Bor (List ℕ)) → Type 0
LookedUp s count o =
    MatchOption o ((count < 0) ⊎ (length s < count)) (λ x. (0 ≤ count) × (count ≤ length s) × (x.now ≡ slice_range s 0 count) × (length x.now + 0 ≡ count))

module _ (s : List ℕ) (count : ℕ) where
  part : slice_range s 0 count ≡ take count s
  part = let e : count - 0 ≡ count = omega arith in ap (λ n. take n s) e

  -- a test of the part that is there, false where it is not
  pub tested : (f : List ℕ → Bool) {r t : Bool} (o : Option (Bor (List ℕ))) → (length s < count → false ≡ t) → (count ≤ length s → f (take count s) ≡ t)
      → LookedUp s count o → MatchOption o (r ≡ false) (λ x. r ≡ f x.now) → r ≡ t
  tested f None past there (inl h) e = absurd (omega (arith, h))
  tested f None past there (inr h) e = e ∙ past h
  tested f (Some x) past there p e = e ∙ ap f (p.2 ∙ part) ∙ there p.1

  -- the part that is there, no bytes where it is not
  pub part_or_none : {t : List ℕ} (o : Option (Bor (List ℕ))) (d : Bor (List ℕ)) → d.now ≡ [] → (length s < count → [] ≡ t) → (count ≤ length s → take count s ≡ t)
      → LookedUp s count o → (unwrap_or o d).now ≡ t
  part_or_none None d e past there (inl h) = absurd (omega (arith, h))
  part_or_none None d e past there (inr h) = e ∙ past h
  part_or_none (Some x) d e past there p = p.2 ∙ part ∙ there p.1
