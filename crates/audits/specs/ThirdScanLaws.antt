-- The six blocks of a group from the atoms of one of them, and the table of positions. Assumes nothing.
use Rattle.std.specs.Prelude.{◌≡◌, refl, List, [], ◌∷◌, ℕ, ◌/◌, ◌%◌, ◌<◌, length, get_or}
use Rattle.std.proofs.Common.{sym, ap₂, ◌∙◌, arith, lit≤}
use Rattle.std.proofs.Math.Path.{fun_ext}
use Rattle.lists.specs.Tab.{tab, tab_from}
use Rattle.lists.specs.Elements.{straight, pick}
use Rattle.lists.specs.Digits.{times_power, rest, digits, rest_below, digits-below}
use Rattle.tables.specs.Shifts.{Shifts, p2s_at}
use Rattle.tables.specs.Limits.{limit3}
use Rattle.tables.specs.Conditions.{Readable, index_at, read}
use Rattle.tables.specs.Compact.{ShiftTables, shifts_of, TablesFit, p2s_is}
use Rattle.places.specs.Places.{in_block}
use Rattle.places.specs.Permutations.{perms3, six-group}
use Rattle.places.specs.Addresses.{stored_block}
use Rattle.places.specs.ReadOuts.{Tables, tables, stored_in, stored_in_lem}
use Rattle.orbits.specs.Blockwise.{block_atoms, stored_atoms, opened_atoms, atoms_at}
use Rattle.orbits.specs.Transposed.{counterpart}
use Rattle.orbits.specs.Groups.{group_blocks}
use Rattle.audits.specs.Blocks.{Orders, position_table, table-count, table-entry}

pub in27 : in_block 2 ≡ 27
unfolding in_block times_power
in27 = refl

count : length perms3 ≡ 6
unfolding perms3
count = refl

first : get_or perms3 0 [] ≡ straight 3
unfolding perms3 straight tab tab_from
first = refl

pub orders : {t : List ℕ} → t ≡ position_table 2 perms3 → Orders 2 perms3 t
orders e = record {
  group = six-group;
  first = first;
  few = rw count (omega arith);
  more = rw count (omega arith);
  width = rw in27 (omega arith);
  count = table-count 2 perms3 e;
  entry = table-entry 2 perms3 e;
}

-- ---- the blocks of a group

-- f gives the block of a first atom and the others
abbrev pub blocks_of : (ℕ → List ℕ → ℕ) → ℕ → ℕ → ℕ → List ℕ
blocks_of f i j k = f i (j ∷ k ∷ []) ∷ f i (k ∷ j ∷ []) ∷ f j (i ∷ k ∷ []) ∷ f j (k ∷ i ∷ []) ∷ f k (i ∷ j ∷ []) ∷ f k (j ∷ i ∷ []) ∷ []

group_are : (S : Shifts) (b : ℕ) → group_blocks S 2 perms3 b ≡ (let n = S.n_satom in blocks_of (stored_block S) (p2s_at S (b / n / n)) (b / n % n) (b % n))
unfolding group_blocks perms3 counterpart pick opened_atoms stored_atoms block_atoms atoms_at rest digits stored_block
group_are S b = refl

pub same-atoms : (f : ℕ → List ℕ → ℕ) {i j k j' k' b0 b1 b2 b3 b4 b5 : ℕ}
    → b0 ≡ f i (j ∷ k ∷ []) → b1 ≡ f i (k ∷ j ∷ []) → b2 ≡ f j (i ∷ k ∷ []) → b3 ≡ f j (k ∷ i ∷ []) → b4 ≡ f k (i ∷ j ∷ []) → b5 ≡ f k (j ∷ i ∷ [])
    → j ≡ j' → k ≡ k' → b0 ∷ b1 ∷ b2 ∷ b3 ∷ b4 ∷ b5 ∷ [] ≡ blocks_of f i j' k'
same-atoms f e0 e1 e2 e3 e4 e5 ej ek = rw (e0, e1, e2, e3, e4, e5, ej, ek) refl

module _ (T : ShiftTables) (F : TablesFit limit3 T) (b : ℕ) (h : b < times_power T.n_satom 2 T.n_patom) where
  pub read-tables : Tables T.n_satom T.s2pp T.nsym_list T.perms
  read-tables = tables limit3 T (lit≤ tt) F

  first_below : b / T.n_satom / T.n_satom < T.n_patom
  unfolding rest
  first_below = rest_below T.n_satom 2 T.n_patom b h

  pub others_below : (b / T.n_satom % T.n_satom < T.n_satom) × (b % T.n_satom < T.n_satom)
  unfolding digits rest
  others_below = let d = digits-below T.n_satom 2 T.n_patom b h in (d.0, d.1.0)

  pub satoms_pos : 0 < T.n_satom
  satoms_pos = let d = others_below in omega arith

  pub p2s-read : Readable T.p2s (b / T.n_satom / T.n_satom) × (index_at T.p2s (b / T.n_satom / T.n_satom) < T.n_satom)
  p2s-read = read F.p2s-fit (b / T.n_satom / T.n_satom) first_below

  pub found_are : (i : ℕ) → i ≡ index_at T.p2s (b / T.n_satom / T.n_satom)
      → blocks_of (stored_in T.n_satom T.s2pp T.nsym_list T.perms) i (b / T.n_satom % T.n_satom) (b % T.n_satom) ≡ group_blocks (shifts_of T) 2 perms3 b
  found_are i e =
      let n = T.n_satom in
      ap₂ (λ f i. blocks_of f i (b / n % n) (b % n)) (fun_ext (λ i. fun_ext (λ js. stored_in_lem T i js))) (e ∙ p2s_is T (b / n / n)) ∙ sym (group_are (shifts_of T) b)
