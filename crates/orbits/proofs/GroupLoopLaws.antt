-- The symmetrizers' loop over blocks, as a program runs it, leaves the symmetrized set. Assumes nothing.
use Rattle.std.specs.Prelude.{◌≡◌, Bool, List, length, get_or, Float}
use Rattle.std.proofs.Math.Path.{refl, ap}
use Rattle.std.proofs.Common.{sym, ◌∙◌}
use Rattle.std.proofs.Math.Bool.{true, false, cond}
use Prim.Native.Nat.{ℕ, zero, suc, ◌*◌, ◌≤◌, ◌<◌}
use Rattle.std.proofs.Math.Decide.{ℕ_discrete}
use native.Mathlib.Omega.{arith}
use Rattle.std.proofs.Math.Dec.{eqb}
use Rattle.std.specs.Float.Ieee.{nan}
use borrow.Author.Tests.{eqb-true, eqb-false, eq-eqb, ne_eqb}
use Rattle.lists.specs.Tab.{times}
use Rattle.lists.specs.Digits.{times_power}
use Rattle.lists.specs.Members.{least}
use Rattle.tables.specs.Shifts.{Shifts, Laws}
use Rattle.places.specs.Places.{size}
use Rattle.places.specs.Permutations.{Group}
use Rattle.orbits.specs.Blockwise.{in_block}
use Rattle.orbits.specs.Symmetric.{first_block, symmetrized}
use Rattle.orbits.specs.SymmetrizerLaws.{imgs, groups, orbits}
use Rattle.orbits.proofs.SymmetrizesLaws.{symmetrizes}
use Rattle.orbits.specs.Spread.{set_all, spread, fb_of, Written}
use Rattle.orbits.proofs.SpreadLaws.{written_start, written_skip, written-take, first_le, marked_start, marked_skip, marked-take, met, not-met}
use Rattle.orbits.specs.Groups.{group_blocks, spread_is, marked_are}
use Rattle.orbits.specs.GroupLoop.{State, is_first, worked, marked_visit, first_visit, Reached}

module _ (mean : List Float → Float) (S : Shifts) (L : Laws S) (m : ℕ) (os : List (List ℕ)) (G : Group m os) (old : List Float) where
  worked_is : (n : ℕ) (xs : List Float) → n < times_power S.n_satom m S.n_patom → spread nan mean (in_block m) (imgs S L m os G) xs n (in_block m) ≡ worked mean m os S n xs
  unfolding worked
  worked_is n xs h = spread_is S L m os G n h mean xs

  -- ---- with a done table

  pub reached-next : (n : ℕ) (s : State) → n < times_power S.n_satom m S.n_patom → Reached mean S L m os G old n s → Reached mean S L m os G old (suc n) (marked_visit mean m os S n s)
  unfolding marked_visit
  reached-next n s h R = go (ℕ_discrete (get_or s.1 n 0) 0)
    where
      go : Dec (get_or s.1 n 0 ≡ 0) → Reached mean S L m os G old (suc n) (cond (eqb (get_or s.1 n 0) 0) (worked mean m os S n s.0, set_all (group_blocks S m os n) 1 s.1) s)
      go (yes e) =
          let f = not-met (groups S L m os G) (orbits S L m os G) n h s.1 R.marked e in
          rw (eq-eqb (get_or s.1 n 0) 0 e) (record {
            written = rw (worked_is n s.0 h) at (written-take (groups S L m os G) (orbits S L m os G) nan mean old n h s.0 R.written f);
            marked = rw (marked_are S L m os G n h) at (marked-take (groups S L m os G) (orbits S L m os G) n h s.1 R.marked f);
          })
      go (no e) =
          let f = met (groups S L m os G) (orbits S L m os G) n h s.1 R.marked e in
          rw (ne_eqb (get_or s.1 n 0) 0 e) (record {
            written = written_skip (groups S L m os G) (orbits S L m os G) nan mean old n h s.0 R.written f;
            marked = marked_skip (groups S L m os G) (orbits S L m os G) n h s.1 R.marked f;
          })

  reached : (done : List ℕ) → length old ≡ size S m → length done ≡ times_power S.n_satom m S.n_patom → ((b : ℕ) → b < times_power S.n_satom m S.n_patom → get_or done b 0 ≡ 0)
      → (n : ℕ) → n ≤ times_power S.n_satom m S.n_patom → Reached mean S L m os G old n (times n (marked_visit mean m os S) (old, done))
  unfolding times
  reached done lo ld z zero h = record {
    written = written_start (groups S L m os G) (orbits S L m os G) nan mean old lo;
    marked = marked_start (groups S L m os G) (orbits S L m os G) done ld z;
  }
  reached done lo ld z (suc n) h = reached-next n (times n (marked_visit mean m os S) (old, done)) h (reached done lo ld z n (omega arith))

  pub marked-leaves : (done : List ℕ) → length old ≡ size S m → length done ≡ times_power S.n_satom m S.n_patom → ((b : ℕ) → b < times_power S.n_satom m S.n_patom → get_or done b 0 ≡ 0)
      → (times (times_power S.n_satom m S.n_patom) (marked_visit mean m os S) (old, done)).0 ≡ symmetrized nan mean S m os old
  marked-leaves done lo ld z =
      symmetrizes S L m os G nan mean old _ (reached done lo ld z (times_power S.n_satom m S.n_patom) (omega arith)).written

  -- ---- with a test

  module _ (first : ℕ → Bool)
      (yes-first : (n : ℕ) → n < times_power S.n_satom m S.n_patom → first n ≡ true → fb_of (groups S L m os G) (n * in_block m) ≡ n)
      (not_first : (n : ℕ) → n < times_power S.n_satom m S.n_patom → first n ≡ false → fb_of (groups S L m os G) (n * in_block m) < n) where
    written_next : (n : ℕ) (xs : List Float) → n < times_power S.n_satom m S.n_patom → Written (groups S L m os G) nan mean old n xs
        → Written (groups S L m os G) nan mean old (suc n) (first_visit mean m os first S n xs)
    unfolding first_visit
    written_next n xs h W = go (first n) refl
      where
        go : (b : Bool) → first n ≡ b → Written (groups S L m os G) nan mean old (suc n) (cond (first n) (worked mean m os S n xs) xs)
        go true e = rw e (rw (worked_is n xs h) at (written-take (groups S L m os G) (orbits S L m os G) nan mean old n h xs W (yes-first n h e)))
        go false e = rw e (written_skip (groups S L m os G) (orbits S L m os G) nan mean old n h xs W (not_first n h e))

    written-to : length old ≡ size S m → (n : ℕ) → n ≤ times_power S.n_satom m S.n_patom → Written (groups S L m os G) nan mean old n (times n (first_visit mean m os first S) old)
    unfolding times
    written-to lo zero h = written_start (groups S L m os G) (orbits S L m os G) nan mean old lo
    written-to lo (suc n) h = written_next n (times n (first_visit mean m os first S) old) h (written-to lo n (omega arith))

    pub first-leaves : length old ≡ size S m → times (times_power S.n_satom m S.n_patom) (first_visit mean m os first S) old ≡ symmetrized nan mean S m os old
    first-leaves lo = symmetrizes S L m os G nan mean old _ (written-to lo (times_power S.n_satom m S.n_patom) (omega arith))

  -- the first block of the group of block n is the lowest of the group's blocks
  lowest_is : (n : ℕ) → n < times_power S.n_satom m S.n_patom → fb_of (groups S L m os G) (n * in_block m) ≡ least (group_blocks S m os n)
  unfolding first_block
  lowest_is n h = ap least (marked_are S L m os G n h)

  pub lowest-leaves : length old ≡ size S m → times (times_power S.n_satom m S.n_patom) (first_visit mean m os (is_first m os S) S) old ≡ symmetrized nan mean S m os old
  unfolding is_first
  lowest-leaves lo =
      first-leaves (λ n. eqb (least (group_blocks S m os n)) n)
      (λ n h e. lowest_is n h ∙ eqb-true (least (group_blocks S m os n)) n e)
      (λ n h e.
      let l = lowest_is n h in
      let u = first_le (groups S L m os G) (orbits S L m os G) n h in
      let d = eqb-false (least (group_blocks S m os n)) n e in
      go _ _ n l u d) lo
    where
      go : (a b n : ℕ) → a ≡ b → a ≤ n → (b ≡ n → ⊥) → a < n
      go a b n e u d = let f : (a ≡ n → ⊥) = λ g. d (sym e ∙ g) in omega arith
