-- Sets and shift tables that passed the guard of a transpose, at every order, and how a program tells a pair of first atoms whose blocks stay.
-- Assumes nothing.
use Rattle.std.specs.Prelude.{◌≡◌, Bool, true, false, ◌&&◌, ℕ, ◌+◌, ◌*◌, ◌≤◌, ◌<◌, eqb}
use Rattle.std.proofs.Common.{sym, ap, ap₂, ◌∙◌, le_trans, arith, lit≤}
use Rattle.lists.specs.Digits.{times_power, in_row}
use Rattle.tables.specs.Shifts.{Laws, row, p2s_at}
use Rattle.tables.specs.Limits.{limit2}
use Rattle.tables.specs.Conditions.{Readable, index_at, read}
use Rattle.tables.specs.Compact.{ShiftTables, shifts_of, TablesFit, Compact, p2s_is, s2pp_is, nsym_is, perms_is}
use Rattle.blocks.specs.Block.{fits}
use Rattle.places.specs.Places.{size}
use Rattle.places.specs.Moves.{stays}
use Rattle.places.specs.ReadOuts.{Tables, tables}
use Rattle.orbits.specs.Blockwise.{in_block}
use Rattle.orbits.specs.Transposed.{size_blocks}
use Rattle.orbits.specs.Trading.{stays-rep, stays-apart, stays-told}

-- shift tables that passed the guard of any order, and a set of order m + 1 over them
pub record Sound (T : ShiftTables) : Type 0 where
  pub fit : TablesFit limit2 T
  pub rules : Laws (shifts_of T)

pub record Trading (m lenSet : ℕ) (T : ShiftTables) : Type 0 where
  pub set-length : lenSet ≡ size (shifts_of T) m
  pub sound : Sound T

-- a pair (p, j) of first atoms: i is p's representative
pub record PairAt (m lenSet : ℕ) (T : ShiftTables) (p i j : ℕ) : Type 0 where
  pub trading : Trading m lenSet T
  pub first : p < T.n_patom
  pub second : j < T.n_satom
  pub rep : i ≡ index_at T.p2s p

pub trading : {limit m lenSet k lenWork : ℕ} (T : ShiftTables) → limit ≤ limit2 → Compact limit m lenSet k lenWork T → Trading m lenSet T
unfolding size
trading T h R =
    let F = R.fit in
    record {
      set-length = R.set-length;
      sound = record {
        fit = record {
          satoms = le_trans F.satoms h;
          patoms = le_trans F.patoms h;
          shifts = le_trans F.shifts h;
          perms-fit = F.perms-fit;
          p2s-fit = F.p2s-fit;
          s2pp-fit = F.s2pp-fit;
          nsym_fit = F.nsym_fit;
        };
        rules = R.rules;
      };
    }

-- a block of w numbers lies inside the set
pub block_in : {m lenSet : ℕ} (T : ShiftTables) → Trading m lenSet T → (w : ℕ) → in_block m ≡ w → (b : ℕ) → b < times_power T.n_satom m T.n_patom → b * w + w ≤ lenSet
block_in {m} T R w e b h =
    let B = times_power T.n_satom m T.n_patom in
    rw (R.set-length ∙ size_blocks (shifts_of T) m ∙ ap (λ c. B * c) e) (fits w b B h)

-- ---- what the program reads

pub read-tables : (T : ShiftTables) → Sound T → Tables T.n_satom T.s2pp T.nsym_list T.perms
read-tables T Z = tables limit2 T (lit≤ tt) Z.fit

pub prim_small : (T : ShiftTables) → Sound T → (p : ℕ) → p < T.n_patom → p < 1024
prim_small T Z p h = let g = Z.fit.patoms in omega arith

pub rep-read : (T : ShiftTables) → Sound T → (p : ℕ) → p < T.n_patom → Readable T.p2s p × (index_at T.p2s p < T.n_satom)
rep-read T Z p h = read Z.fit.p2s-fit p h

module _ (T : ShiftTables) (Z : Sound T) (p j : ℕ) (hp : p < T.n_patom) (hj : j < T.n_satom) where
  pub home_read : Readable T.s2pp j
  home_read = (read Z.fit.s2pp-fit j hj).0

  pub way_read : Readable T.nsym_list j
  way_read = (read Z.fit.nsym_fit j hj).0

  -- row r is j's, and i is p's representative
  pub image-read : (r i : ℕ) → r ≡ index_at T.nsym_list j → i ≡ index_at T.p2s p → Readable T.perms (r * T.n_satom + i)
  image-read r i e f =
      rw (e, f)
      (read Z.fit.perms-fit (index_at T.nsym_list j * T.n_satom + index_at T.p2s p)
      (in_row T.num_trans T.n_satom (index_at T.nsym_list j) (index_at T.p2s p) (read Z.fit.nsym_fit j hj).1 (rep-read T Z p hp).1)).0

  -- ---- the test of a pair that stays: j is p's representative, j belongs to another atom, or the row of j decides

  pub told-rep : (i : ℕ) → i ≡ index_at T.p2s p → i ≡ j → false ≡ stays (shifts_of T) p j
  told-rep i e f = sym (stays-rep (shifts_of T) Z.rules p j hp (sym (p2s_is T p) ∙ sym e ∙ f))

  pub told-apart : (h : ℕ) → h ≡ index_at T.s2pp j → (h ≡ p → ⊥) → false ≡ stays (shifts_of T) p j
  told-apart h e n = sym (stays-apart (shifts_of T) Z.rules p j hp hj (λ q. n (e ∙ s2pp_is T j ∙ q)))

  pub told : (i h r m : ℕ) → i ≡ index_at T.p2s p → (i ≡ j → ⊥) → h ≡ index_at T.s2pp j → h ≡ p → r ≡ index_at T.nsym_list j → m ≡ index_at T.perms (r * T.n_satom + i)
      → eqb m j ≡ stays (shifts_of T) p j
  told i h r m ei n eh q er em =
      let ri : i ≡ p2s_at (shifts_of T) p = ei ∙ p2s_is T p in
      ap (λ m. eqb m j) (em ∙ perms_is T r i ∙ ap₂ (row (shifts_of T)) (er ∙ nsym_is T j) ri)
      ∙ stays-told (shifts_of T) Z.rules p j hp hj (λ z. n (ri ∙ z)) (sym (eh ∙ s2pp_is T j) ∙ q)

-- the test where half shifts do not stay, and where they do
pub told-off : (h b : Bool) → h ≡ false → false ≡ (h && b)
told-off h b e = ap (λ h. h && b) (sym e)

pub told-on : (h b : Bool) {r : Bool} → h ≡ true → r ≡ b → r ≡ (h && b)
told-on h b e f = f ∙ ap (λ h. h && b) (sym e)
