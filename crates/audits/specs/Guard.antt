-- The guards of the audits, what is known of a set that passed one, and the tables of a full set. Assumes nothing.
use Rattle.audits.specs.declared.Difference.{Difference}
use Rattle.std.specs.Prelude.{Err, Ok, Option, Result, ◌≡◌, Bool, false, not, ◌||◌, List, [], ◌∷◌, map, ℕ, zero, suc, ◌+◌, ◌*◌, ◌-◌, ◌/◌, ◌≤◌, ◌<◌, eqb, ℤ, pos, length, take, drop, replicate, Float}
use Rattle.std.proofs.Math.Path.{sym, ap}
use Rattle.std.proofs.Common.{ap₂, ◌∙◌, subst, le_trans, mul-le-mul, mul-div_cancel, arith, lt-ltb}
use Rattle.std.proofs.lemmas.List.{length-map, length-replicate, get_or-replicate}
use Rattle.lists.specs.Tab.{tab, length-tab, get_or-tab, is_tab, part-tab, tab_ext}
use Rattle.lists.specs.Elements.{Below, straight, get_d_map}
use Rattle.tables.specs.Answers.{Answer}
use Rattle.tables.specs.declared.Refusal.{Refusal}
use Rattle.tables.specs.declared.Refusal.TheVariants.{CountAboveLimit, WrongLength}
use Rattle.tables.specs.Answers.{refuse_if, passed}
use Rattle.tables.specs.Conditions.{any_above, any_wrong, nat, below, out_of_range, none_out, or_false}
use Rattle.tables.specs.Lengths.{set_blocks, set_length}
use Rattle.tables.specs.Shifts.{Shifts, Laws}
use Rattle.tables.specs.Full.{judged_full, done_full}
use Rattle.tables.specs.Compact.{ShiftTables, shift_tables, shifts_of, TablesFit, table_lengths, judged_entries, judged_tables, judged_compact, judged_set}
use Rattle.tables.proofs.CompactLaws.{done-tables}
use Rattle.lists.specs.Digits.{times_power}
use Rattle.places.specs.Places.{size, in_block}
use Rattle.blocks.specs.Block.{fits}
use Rattle.orbits.specs.Transposed.{in_block_pos, size_blocks}
use Rattle.places.specs.WholeLaws.{full_shifts, whole-laws}
use Rattle.places.specs.ReadOuts.{Tables, stored_in, stored-below}
use Rattle.audits.specs.Audit.{found_after, audited, audit_compact, audit_full}

-- a set of rank m + 1 that passed
pub record Ready (limit m len : ℕ) (T : ShiftTables) : Type 0 where
  pub fit : TablesFit limit T
  pub rules : Laws (shifts_of T)
  pub set-length : len ≡ size (shifts_of T) m

-- it has so many blocks
pub block-count : (limit m len : ℕ) (T : ShiftTables) → Ready limit m len T → (w : ℕ) → in_block m ≡ w → len / w ≡ times_power T.n_satom m T.n_patom
block-count limit m len T R w e =
    ap (λ c. len / c) (sym e) ∙ ap (λ l. l / in_block m) (R.set-length ∙ size_blocks (shifts_of T) m) ∙ mul-div_cancel (times_power T.n_satom m T.n_patom) (in_block_pos m)

-- which are few enough to be counted
rooms_below : (b k n c : ℕ) → b ≤ 1024 → n ≤ c → times_power b k n ≤ times_power 1024 k c
unfolding times_power
rooms_below b zero n c h l = l
rooms_below b (suc k) n c h l = rooms_below b k (n * b) (c * 1024) h (mul-le-mul l h)

few_rooms : (m x : ℕ) → m ≤ 3 → x ≤ times_power 1024 m 1024 → x * in_block m < 281474976710656
unfolding times_power in_block
few_rooms zero x h l = omega arith
few_rooms (suc zero) x h l = omega arith
few_rooms (suc (suc zero)) x h l = omega arith
few_rooms (suc (suc (suc zero))) x h l = omega arith
few_rooms (suc (suc (suc (suc m)))) x h l = absurd (omega arith)

pub few-numbers : (limit m len : ℕ) (T : ShiftTables) → limit ≤ 1024 → m ≤ 3 → Ready limit m len T → len < 281474976710656
few-numbers limit m len T h l R =
    let n = le_trans R.fit.satoms h in
    let p = le_trans R.fit.patoms h in
    rw (R.set-length, size_blocks (shifts_of T) m) (few_rooms m (times_power T.n_satom m T.n_patom) l (rooms_below T.n_satom m T.n_patom 1024 n p))

-- and each lies inside it
pub block_inside : (limit m len : ℕ) (T : ShiftTables) → Ready limit m len T → (w : ℕ) → in_block m ≡ w → (b : ℕ) → b < times_power T.n_satom m T.n_patom → b * w + w ≤ len
block_inside limit m len T R w e b h =
    subst (λ (w : ℕ). b * w + w ≤ len) e (rw (R.set-length, size_blocks (shifts_of T) m) (fits (in_block m) b (times_power T.n_satom m T.n_patom) h))

-- the stored block of a first atom and others is one of the set of these legs
pub stored-within : (limit : ℕ) (T : ShiftTables) → limit ≤ 1024 → TablesFit limit T → (i : ℕ) → i < T.n_satom → (js : List ℕ) → Below T.n_satom js
    → stored_in T.n_satom T.s2pp T.nsym_list T.perms i js < times_power T.n_satom (length js) T.n_patom
stored-within limit T h F i hi js b =
    let t : Tables T.n_satom T.s2pp T.nsym_list T.perms = record {
      n_patom = T.n_patom;
      num_trans = T.num_trans;
      satoms = le_trans F.satoms h;
      patoms = le_trans F.patoms h;
      s2pp-fit = F.s2pp-fit;
      nsym_fit = F.nsym_fit;
      perms-fit = F.perms-fit;
    } in
    stored-below t i hi js b

-- ---- compact sets

pub ready_compact : (limit m len : ℕ) (T : ShiftTables) → judged_set limit m len [] T ≡ Ok tt → Ready limit m len T
unfolding size
ready_compact limit m len T e =
    let (l, F, L) = done-tables limit _ T e in
    record { fit = F; rules = L; set-length = l.0 }

-- what passed the guard of a call with a work slice passes this one
chain : (x y t : Bool) (next : Answer) → x ≡ false → y ≡ false → t ≡ false → next ≡ Ok tt → refuse_if x CountAboveLimit (refuse_if ((y || false) || t) WrongLength next) ≡ Ok tt
chain x y t next ex ey et en = rw (ex, ey, et) en

pub set-done : (limit m len k lenWork : ℕ) (T : ShiftTables) → judged_compact limit m len k lenWork T ≡ Ok tt → judged_set limit m len [] T ≡ Ok tt
unfolding judged_compact judged_tables
set-done limit m len k lenWork T e =
    let (q1, e1) = passed _ _ _ e in
    let (q2, e2) = passed _ _ _ e1 in
    let (hl, ht) = or_false (any_wrong ((len, set_length T.n_patom T.n_satom m) ∷ ((lenWork, set_blocks T.n_patom T.n_satom k) ∷ []))) (any_wrong (table_lengths T)) q2 in
    let (y, _) = or_false (not (eqb len (set_length T.n_patom T.n_satom m))) (any_wrong ((lenWork, set_blocks T.n_patom T.n_satom k) ∷ [])) hl in
    chain (any_above limit (T.n_satom ∷ (T.n_patom ∷ (T.num_trans ∷ [])))) (not (eqb len (set_length T.n_patom T.n_satom m))) (any_wrong (table_lengths T)) (judged_entries T) q1 y ht e2

module _ (limit m : ℕ) (os : List (List ℕ)) (set : List Float) (T : ShiftTables) where
  pub compact_refused : (r : Refusal) → judged_set limit m (length set) [] T ≡ Err r → Err r ≡ audit_compact limit m os set T
  unfolding audit_compact
  compact_refused r e = sym (ap (λ g. found_after g (audited (shifts_of T) m os set)) e)

  pub compact_done : judged_set limit m (length set) [] T ≡ Ok tt → {a : Result (Option Difference) Refusal} → a ≡ audited (shifts_of T) m os set → a ≡ audit_compact limit m os set T
  unfolding audit_compact
  compact_done e p = p ∙ sym (ap (λ g. found_after g (audited (shifts_of T) m os set)) e)

-- ---- full sets: the tables in which every atom is its own representative

abbrev pub counted : ℕ → List ℤ
counted n = tab n (λ k. pos k)

abbrev pub noughts : ℕ → List ℤ
noughts n = replicate n (pos 0)

abbrev pub full_tables : ℕ → ShiftTables
full_tables n = shift_tables (counted n) (counted n) (noughts n) (counted n) n n 1

-- the first n entries of longer ones
pub part-counted : (N n : ℕ) → n ≤ N → take (n - 0) (drop 0 (counted N)) ≡ counted n
part-counted N n h =
    let e : n - 0 ≡ n = omega arith in
    ap (λ k. take k (drop 0 (counted N))) e
    ∙ part-tab (pos 0) 0 n (counted N) (rw (length-tab N (λ k. pos k)) (omega arith))
    ∙ tab_ext (pos 0) n _ (λ k. pos k) (λ k l. let z : 0 + k ≡ k = omega arith in get_or-tab N (λ k. pos k) (0 + k) (pos 0) (omega arith) ∙ ap pos z)

pub part-noughts : (N n : ℕ) → n ≤ N → take (n - 0) (drop 0 (noughts N)) ≡ noughts n
part-noughts N n h =
    let e : n - 0 ≡ n = omega arith in
    ap (λ k. take k (drop 0 (noughts N))) e
    ∙ part-tab (pos 0) 0 n (noughts N) (rw (length-replicate N (pos 0)) (omega arith))
    ∙ tab_ext (pos 0) n _ (λ k. pos 0) (λ k l. get_or-replicate N (0 + k) (pos 0) (pos 0) (omega arith))
    ∙ sym (is_tab (pos 0) n (λ k. pos 0) (noughts n) (length-replicate n (pos 0)) (λ k l. get_or-replicate n k (pos 0) (pos 0) l))

nat-counted : (n : ℕ) → map nat (counted n) ≡ straight n
unfolding straight
nat-counted n =
    is_tab 0 n (λ k. k) (map nat (counted n)) (length-map (counted n) nat ∙ length-tab n (λ k. pos k))
    (λ k h. get_d_map nat (counted n) k (pos 0) 0 (rw (length-tab n (λ k. pos k)) h) ∙ ap nat (get_or-tab n (λ k. pos k) k (pos 0) h))

nat-noughts : (n : ℕ) → map nat (noughts n) ≡ replicate n 0
nat-noughts n =
    is_tab 0 n (λ k. 0) (map nat (noughts n)) (length-map (noughts n) nat ∙ length-replicate n (pos 0))
    (λ k h. get_d_map nat (noughts n) k (pos 0) 0 (rw (length-replicate n (pos 0)) h) ∙ ap nat (get_or-replicate n k (pos 0) (pos 0) h))
    ∙ sym (is_tab 0 n (λ k. 0) (replicate n 0) (length-replicate n 0) (λ k h. get_or-replicate n k 0 0 h))

abbrev shifts_by : ℕ → List ℕ → List ℕ → Shifts
shifts_by n l z = record { n_satom = n; n_patom = n; num_trans = 1; perms = l; p2s = l; s2pp = l; nsym_list = z }

pub whole-shifts : (n : ℕ) → shifts_of (full_tables n) ≡ full_shifts n
unfolding full_shifts
whole-shifts n =
    ap₂ (shifts_by n) (nat-counted n) (nat-noughts n)

whole-fit : (limit n : ℕ) → n ≤ limit → 1 ≤ limit → TablesFit limit (full_tables n)
whole-fit limit n h l =
    let within : out_of_range n (counted n) ≡ false =
    none_out n (counted n) (λ i g.
    let g' : i < n = rw (length-tab n (λ k. pos k)) at g in
    ap (below n) (get_or-tab n (λ k. pos k) i (pos 0) g') ∙ lt-ltb i n g') in
    let one : n ≡ 1 * n = omega arith in
    let nulls : out_of_range 1 (noughts n) ≡ false =
    none_out 1 (noughts n) (λ i g.
    let g' : i < n = rw (length-replicate n (pos 0)) at g in
    ap (below 1) (get_or-replicate n i (pos 0) (pos 0) g')) in
    record {
      satoms = h;
      patoms = h;
      shifts = l;
      perms-fit = record { has = length-tab n (λ k. pos k) ∙ one; within = within };
      p2s-fit = record { has = length-tab n (λ k. pos k); within = within };
      s2pp-fit = record { has = length-tab n (λ k. pos k); within = within };
      nsym_fit = record { has = length-replicate n (pos 0); within = nulls };
    }

pub ready-whole : (limit m len n : ℕ) → 1 ≤ limit → judged_full limit m len [] n ≡ Ok tt → Ready limit m len (full_tables n)
unfolding size
ready-whole limit m len n l e =
    let (few, long, _) = done_full limit m len [] n e in
    record {
      fit = whole-fit limit n few l;
      rules = subst Laws (sym (whole-shifts n)) (whole-laws n);
      set-length = long;
    }

module _ (limit m : ℕ) (os : List (List ℕ)) (set : List Float) (n : ℕ) where
  pub whole-refused : (r : Refusal) → judged_full limit m (length set) [] n ≡ Err r → Err r ≡ audit_full limit m os set n
  unfolding audit_full
  whole-refused r e = sym (ap (λ g. found_after g (audited (full_shifts n) m os set)) e)

  pub whole-done : judged_full limit m (length set) [] n ≡ Ok tt → {a : Result (Option Difference) Refusal} → a ≡ audited (shifts_of (full_tables n)) m os set → a ≡ audit_full limit m os set n
  unfolding audit_full
  whole-done e p = p ∙ ap (λ S. audited S m os set) (whole-shifts n) ∙ sym (ap (λ g. found_after g (audited (full_shifts n) m os set)) e)
