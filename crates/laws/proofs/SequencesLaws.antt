-- Of specs/Sequences.antt: two lists of calls that spell one order leave one set. Assumes nothing.
use Rattle.std.specs.Prelude.{◌≡◌, ℕ, length}
use Rattle.std.proofs.Common.{sym, ◌∙◌}
use Rattle.std.proofs.Math.Path.{ap}
use mathlib.Core.List.{List}
use Rattle.tables.specs.Shifts.{Shifts, Laws}
use Rattle.places.specs.Places.{Leg, Legs, read_out, size}
use Rattle.places.proofs.PlacesLaws.{same-read_out}
use Rattle.places.specs.Permutations.{permute_legs}
use Rattle.laws.specs.Sequences.{leaves, spells, Steps, Onto, ends, keeps-length, stands}

module _ {A C : Type 0} (z : A) (S : Shifts) (m : ℕ) (permute : C → List ℕ) (run : C → List A → List A) where
  -- Two lists that spell one order leave one set.
  pub one_set : Laws S → (cs ds : List C) (o : List ℕ) (set : List A) → Steps z S m permute run cs → Steps z S m permute run ds → Onto z S m permute run o → length set ≡ size S m
      → ((xs : List Leg) → Legs S m xs → read_out z S set (permute_legs o xs) ≡ read_out z S set xs)
      → spells permute cs o ≡ spells permute ds o → leaves run cs set ≡ leaves run ds set
  one_set L cs ds o set s t h l e q =
      same-read_out S L z m (leaves run cs set) (leaves run ds set) (keeps-length z S m permute run cs set s l) (keeps-length z S m permute run ds set t l) (λ ys p.
      let (xs, hx, w) = (ends z S m permute run cs o s h).onto ys p in
      ap (read_out z S (leaves run cs set)) (sym w) ∙ stands z S m permute run cs o set set s h l e xs hx
      ∙ sym (stands z S m permute run ds o set set t h l e xs hx) ∙ ap (λ r. read_out z S (leaves run ds set) (permute_legs r xs)) (sym q) ∙ ap (read_out z S (leaves run ds set)) w)
