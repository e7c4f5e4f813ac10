-- What a compact set with its legs permuted reads out. Assumes nothing.
use Rattle.std.specs.Prelude.{◌≡◌, refl, get_or}
use Rattle.std.proofs.Common.{sym, ◌∙◌, arith}
use Rattle.std.proofs.Math.Path.{ap}
use Rattle.std.proofs.Math.Bool.{false, cond}
use Prim.Native.Nat.{ℕ, zero, suc, ◌<◌}
use mathlib.Core.List.{List}
use Rattle.lists.specs.Elements.{pick-straight}
use Rattle.tables.specs.Shifts.{Shifts, Laws, NoHalfShift}
use Rattle.places.specs.Places.{Leg, atom, Legs, stored, at, read_out, stored-place}
use Rattle.places.proofs.PlacesLaws.{read_out-fill}
use Rattle.places.specs.Moves.{permute_legs, Permutation, source, moved, stays, order, traded, transposed, source-stored, none_stays, place-first, place_other}

module _ (S : Shifts) (L : Laws S) where
  module _ {A : Type 0} (z : A) where
    -- a set moved by σ reads out what stood at the legs permuted by σ
    pub read_out-moved : (m : ℕ) (σ : List ℕ) (set : List A) (xs : List Leg) → Permutation m σ → Legs S m xs
        → read_out z S (moved z S m σ set) xs ≡ read_out z S set (permute_legs σ xs)
    unfolding moved read_out
    read_out-moved m σ set xs o p =
        read_out-fill S L z m (λ ys. at z S set (source S σ ys)) xs p ∙ ap (at z S set) (source-stored S L m σ xs o p)

  -- ---- so without half shifts the Rust's transposes are the true ones

  module _ {A : Type 0} (z : A) (nh : NoHalfShift S) where
    pub read_out-traded : (m k : ℕ) (σ : List ℕ) (set : List A) (xs : List Leg) → k < m → Permutation m σ → Legs S m xs
        → read_out z S (traded z S m (suc k) σ set) xs ≡ read_out z S set (permute_legs σ xs)
    unfolding traded read_out
    read_out-traded m k σ set xs h o p =
        let ys = stored S xs in
        let hy = stored-place S L m xs p in
        let e : stays S (atom (get_or ys 0 (0, 0))) (atom (get_or ys (suc k) (0, 0))) ≡ false =
        none_stays S L nh (atom (get_or ys 0 (0, 0))) (atom (get_or ys (suc k) (0, 0))) (place-first S L m ys hy) (place_other S L m k ys h hy) in
        read_out-fill S L z m (λ ys. cond (stays S (atom (get_or ys 0 (0, 0))) (atom (get_or ys (suc k) (0, 0)))) (at z S set ys) (at z S set (source S σ ys))) xs p
        ∙ ap (λ b. cond b (at z S set ys) (at z S set (source S σ ys))) e ∙ ap (at z S set) (source-stored S L m σ xs o p)

    pub read_out-transposed : (t : ℕ) (set : List A) (xs : List Leg) → Legs S 2 xs
        → read_out z S (transposed z S t set) xs ≡ read_out z S set (permute_legs (order t) xs)
    unfolding transposed order
    read_out-transposed zero set xs p = read_out-traded 2 0 (order 0) set xs (omega arith) (refl, omega arith) p
    read_out-transposed (suc zero) set xs p = read_out-traded 2 1 (order 1) set xs (omega arith) (refl, omega arith) p
    read_out-transposed (suc (suc zero)) set xs p = read_out-moved z 2 (order 2) set xs (refl, omega arith) p
    read_out-transposed (suc (suc (suc t))) set xs p = ap (read_out z S set) (sym (pick-straight (0, 0) 3 xs p.0))
