-- The stored block of a read-out entry, from the tables as a call is given them. Assumes nothing.
use Rattle.std.specs.Prelude.{◌≡◌, refl, ℕ, ◌+◌, ◌*◌, ◌≤◌, ◌<◌, List, [], ◌∷◌, map, ℤ, length}
use Rattle.std.proofs.Common.{sym, ap, ap₂, ◌∙◌, le_trans}
use Rattle.std.proofs.lemmas.List.{length-map}
use Rattle.lists.specs.Digits.{horner, times_power, in_row, horner-below}
use Rattle.lists.specs.Elements.{Below, all_map}
use Rattle.tables.specs.Conditions.{index_at, Readable, IndexTable, read}
use Rattle.tables.specs.Shifts.{row, s2pp_at, nsym_at}
use Rattle.tables.specs.Compact.{ShiftTables, shift_tables, shifts_of, TablesFit, perms_is, s2pp_is, nsym_is}
use Rattle.places.specs.Addresses.{stored_block}

-- the tables that a read-out looks at; p2s and the other two counts are not among them
abbrev read_tables : ℕ → List ℤ → List ℤ → List ℤ → ShiftTables
read_tables n s2pp nsym_list perms = shift_tables [] s2pp nsym_list perms n 0 0

-- stored_block of these, as a call is given them
unfoldable pub stored_in : ℕ → List ℤ → List ℤ → List ℤ → ℕ → List ℕ → ℕ
stored_in n s2pp nsym_list perms i js = stored_block (shifts_of (read_tables n s2pp nsym_list perms)) i js

-- tables that passed refusals 1, 2 and 3, as far as a read-out reads them
pub record Tables (n : ℕ) (s2pp nsym_list perms : List ℤ) : Type 0 where
  pub n_patom : ℕ
  pub num_trans : ℕ
  pub satoms : n ≤ 1024
  pub patoms : n_patom ≤ 1024
  pub s2pp-fit : IndexTable n n_patom s2pp
  pub nsym_fit : IndexTable n num_trans nsym_list
  pub perms-fit : IndexTable (num_trans * n) n perms

-- ---- from the guard's record

pub tables : (limit : ℕ) (T : ShiftTables) → limit ≤ 1024 → TablesFit limit T → Tables T.n_satom T.s2pp T.nsym_list T.perms
tables limit T h F = record {
  n_patom = T.n_patom;
  num_trans = T.num_trans;
  satoms = le_trans F.satoms h;
  patoms = le_trans F.patoms h;
  s2pp-fit = F.s2pp-fit;
  nsym_fit = F.nsym_fit;
  perms-fit = F.perms-fit;
}

-- it is the block of the call's own tables
pub stored_in_lem : (T : ShiftTables) (i : ℕ) (js : List ℕ) → stored_in T.n_satom T.s2pp T.nsym_list T.perms i js ≡ stored_block (shifts_of T) i js
unfolding stored_in stored_block row s2pp_at nsym_at
stored_in_lem T i js = refl

-- it is what the entries say: the block of s2pp[i] and of where row nsym_list[i] sends js
pub stored-read : (n : ℕ) (s2pp nsym_list perms : List ℤ) (i : ℕ) (js : List ℕ)
    → stored_in n s2pp nsym_list perms i js ≡ horner n (index_at s2pp i) (map (λ j. index_at perms (index_at nsym_list i * n + j)) js)
unfolding stored_in stored_block
stored-read n s2pp nsym_list perms i js =
    let T : ShiftTables = read_tables n s2pp nsym_list perms in
    sym (ap₂ (horner n) (s2pp_is T i) (images (index_at nsym_list i) js ∙ ap (λ t. map (row (shifts_of T) t) js) (nsym_is T i)))
  where
    images : (t : ℕ) (js : List ℕ) → map (λ j. index_at perms (t * n + j)) js ≡ map (row (shifts_of (read_tables n s2pp nsym_list perms)) t) js
    images t [] = refl
    images t (j ∷ js) = ap₂ ◌∷◌ (perms_is (read_tables n s2pp nsym_list perms) t j) (images t js)

-- ---- what is read

module _ {n : ℕ} {s2pp nsym_list perms : List ℤ} (T : Tables n s2pp nsym_list perms) (i : ℕ) (h : i < n) where
  pub s2pp-read : Readable s2pp i × (index_at s2pp i < T.n_patom)
  s2pp-read = read T.s2pp-fit i h

  pub s2pp-small : (p : ℕ) → p ≡ index_at s2pp i → p < 1024
  s2pp-small p e = rw e (le_trans s2pp-read.1 T.patoms)

  pub nsym_read : Readable nsym_list i × (index_at nsym_list i < T.num_trans)
  nsym_read = read T.nsym_fit i h

  pub perms-read : (j : ℕ) → j < n → Readable perms (index_at nsym_list i * n + j) × (index_at perms (index_at nsym_list i * n + j) < n)
  perms-read j g = read T.perms-fit (index_at nsym_list i * n + j) (in_row T.num_trans n (index_at nsym_list i) j nsym_read.1 g)

  -- the same along the row that was read
  pub along : (t j : ℕ) → t ≡ index_at nsym_list i → j < n → Readable perms (t * n + j)
  along t j e g = rw e (perms-read j g).0

  pub along-below : (t j b : ℕ) → t ≡ index_at nsym_list i → b ≡ index_at perms (t * n + j) → j < n → b < n
  along-below t j b e f g = rw (f, e) (perms-read j g).1

  -- the stored block is one of the set's
  pub stored-below : (js : List ℕ) → Below n js → stored_in n s2pp nsym_list perms i js < times_power n (length js) T.n_patom
  stored-below js b =
      let f : ℕ → ℕ = λ j. index_at perms (index_at nsym_list i * n + j) in
      rw (stored-read n s2pp nsym_list perms i js) (rw (length-map js f) at
      (horner-below n T.n_patom (index_at s2pp i) (map f js) s2pp-read.1 (all_map (λ j. j < n) (λ j. j < n) f js (λ j g. (perms-read j g).1) b)))
