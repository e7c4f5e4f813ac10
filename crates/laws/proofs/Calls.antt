-- Compact and full agree on the grid, said of the calls (document 02, A.11): where none of them is refused, a set that is read out and then
-- symmetrized has the bits of one that is symmetrized and then read out. Assumes nothing.
use Rattle.std.specs.Prelude.{Ok, ◌≡◌, List, ℕ, length, Float}
use Rattle.std.proofs.Math.Path.{sym, ap}
use Rattle.std.proofs.Common.{◌∙◌}
use Rattle.std.specs.Float.Ieee.{nan}
use Rattle.tables.specs.Answers.{Answer}
use Rattle.tables.specs.Answers.{is_refusal, after, after-done}
use Rattle.tables.specs.Shifts.{Laws}
use Rattle.tables.specs.Compact.{ShiftTables, shifts_of}
use Rattle.tables.proofs.CompactLaws.{done-tables}
use Rattle.tables.specs.Limits.{limit3, limit4}
use Rattle.places.specs.Places.{size, length-fill}
use Rattle.places.specs.Permutations.{perms3, perms4}
use Rattle.places.specs.WholeLaws.{full_shifts}
use Rattle.orbits.specs.Symmetric.{symmetrized, mean6}
use Rattle.fc3.specs.Symmetrize as third-order
use Rattle.fc4.specs.Mean24.{mean24}
use Rattle.fc4.specs.Symmetrize as fourth-order
use Rattle.read_out.specs.FullSet.{full_set}
use Rattle.read_out.specs.ReadOut.{judged_read_out, compact_to_full, compact_to_full_fc3, compact_to_full_fc4}
use Rattle.laws.specs.Agree.{GridSet}
use Rattle.laws.proofs.AgreeLaws.{agrees3, agrees4}

-- what a call leaves that is done
left : {A : Type 0} (a : Answer) (new old : A) → a ≡ Ok tt → after a new old ≡ new
left a new old e = after-done a new old (ap is_refusal e)

-- reading out: what is left, and what is known of the tables
module _ (limit m : ℕ) (full set : List Float) (T : ShiftTables) (d : (compact_to_full limit m full set T).0 ≡ Ok tt) where
  judged : judged_read_out limit m (length full) (length set) T ≡ Ok tt
  judged = unfold compact_to_full in d

  pub read-out-left : (compact_to_full limit m full set T).1 ≡ full_set nan (shifts_of T) m set
  unfolding compact_to_full
  read-out-left = left _ (full_set nan (shifts_of T) m set) full d

  pub set_long : length set ≡ size (shifts_of T) m
  unfolding judged_read_out size
  set_long = (done-tables limit _ T judged).0.0

  pub rules : Laws (shifts_of T)
  unfolding judged_read_out
  rules = (done-tables limit _ T judged).2

  -- another set of the same length is read out too
  pub again : (other : List Float) → length other ≡ length set → (compact_to_full limit m full other T).1 ≡ full_set nan (shifts_of T) m other
  unfolding compact_to_full
  again other e = left _ (full_set nan (shifts_of T) m other) full (ap (λ l. judged_read_out limit m (length full) l T) e ∙ judged)

-- THIRD ORDER
module _ (T : ShiftTables) (full set : List Float) (work : List ℕ) where
  pub third : (compact_to_full_fc3 full set T).0 ≡ Ok tt → (third-order.set_permutation_symmetry_compact_fc3 set T work).0 ≡ Ok tt
      → (third-order.set_permutation_symmetry_fc3 (compact_to_full_fc3 full set T).1 T.n_satom).0 ≡ Ok tt → GridSet set
      → (third-order.set_permutation_symmetry_fc3 (compact_to_full_fc3 full set T).1 T.n_satom).1
      ≡ (compact_to_full_fc3 full (third-order.set_permutation_symmetry_compact_fc3 set T work).1 T).1
  third r c f g =
      let S = shifts_of T in
      let F = full_set nan S 2 set in
      let C = symmetrized nan mean6 S 2 perms3 set in
      let e : (compact_to_full_fc3 full set T).1 ≡ F = read-out-left limit3 2 full set T r in
      let k : (third-order.set_permutation_symmetry_compact_fc3 set T work).1 ≡ C = compact_left c in
      let l : length C ≡ length set = unfold symmetrized in length-fill S 2 _ ∙ sym (set_long limit3 2 full set T r) in
      full-left f
      ∙ ap (symmetrized nan mean6 (full_shifts T.n_satom) 2 perms3) e
      ∙ agrees3 S (rules limit3 2 full set T r) set (set_long limit3 2 full set T r) g
      ∙ sym (again limit3 2 full set T r C l)
      ∙ ap (λ s. (compact_to_full_fc3 full s T).1) (sym k)
    where
      compact_left : (third-order.set_permutation_symmetry_compact_fc3 set T work).0 ≡ Ok tt → (third-order.set_permutation_symmetry_compact_fc3 set T work).1 ≡ symmetrized nan mean6 (shifts_of T) 2 perms3 set
      compact_left c = unfold third-order.set_permutation_symmetry_compact_fc3 in left _ (symmetrized nan mean6 (shifts_of T) 2 perms3 set) set c

      full-left : (third-order.set_permutation_symmetry_fc3 (compact_to_full_fc3 full set T).1 T.n_satom).0 ≡ Ok tt
          → (third-order.set_permutation_symmetry_fc3 (compact_to_full_fc3 full set T).1 T.n_satom).1 ≡ symmetrized nan mean6 (full_shifts T.n_satom) 2 perms3 (compact_to_full_fc3 full set T).1
      full-left f = unfold third-order.set_permutation_symmetry_fc3 in left _ (symmetrized nan mean6 (full_shifts T.n_satom) 2 perms3 (compact_to_full_fc3 full set T).1) (compact_to_full_fc3 full set T).1 f

-- FOURTH ORDER
module _ (T : ShiftTables) (full set : List Float) (work fullWork : List ℕ) where
  pub fourth : (compact_to_full_fc4 full set T).0 ≡ Ok tt → (fourth-order.set_permutation_symmetry_compact_fc4 set T work).0 ≡ Ok tt
      → (fourth-order.set_permutation_symmetry_fc4 (compact_to_full_fc4 full set T).1 fullWork T.n_satom).0 ≡ Ok tt → GridSet set
      → (fourth-order.set_permutation_symmetry_fc4 (compact_to_full_fc4 full set T).1 fullWork T.n_satom).1
      ≡ (compact_to_full_fc4 full (fourth-order.set_permutation_symmetry_compact_fc4 set T work).1 T).1
  fourth r c f g =
      let S = shifts_of T in
      let C = symmetrized nan mean24 S 3 perms4 set in
      let e : (compact_to_full_fc4 full set T).1 ≡ full_set nan S 3 set = read-out-left limit4 3 full set T r in
      let k : (fourth-order.set_permutation_symmetry_compact_fc4 set T work).1 ≡ C = compact_left c in
      let l : length C ≡ length set = unfold symmetrized in length-fill S 3 _ ∙ sym (set_long limit4 3 full set T r) in
      full-left f
      ∙ ap (symmetrized nan mean24 (full_shifts T.n_satom) 3 perms4) e
      ∙ agrees4 S (rules limit4 3 full set T r) set (set_long limit4 3 full set T r) g
      ∙ sym (again limit4 3 full set T r C l)
      ∙ ap (λ s. (compact_to_full_fc4 full s T).1) (sym k)
    where
      compact_left : (fourth-order.set_permutation_symmetry_compact_fc4 set T work).0 ≡ Ok tt → (fourth-order.set_permutation_symmetry_compact_fc4 set T work).1 ≡ symmetrized nan mean24 (shifts_of T) 3 perms4 set
      compact_left c = unfold fourth-order.set_permutation_symmetry_compact_fc4 in left _ (symmetrized nan mean24 (shifts_of T) 3 perms4 set) set c

      full-left : (fourth-order.set_permutation_symmetry_fc4 (compact_to_full_fc4 full set T).1 fullWork T.n_satom).0 ≡ Ok tt
          → (fourth-order.set_permutation_symmetry_fc4 (compact_to_full_fc4 full set T).1 fullWork T.n_satom).1 ≡ symmetrized nan mean24 (full_shifts T.n_satom) 3 perms4 (compact_to_full_fc4 full set T).1
      full-left f =
          unfold fourth-order.set_permutation_symmetry_fc4 in left _ (symmetrized nan mean24 (full_shifts T.n_satom) 3 perms4 (compact_to_full_fc4 full set T).1) (compact_to_full_fc4 full set T).1 f
