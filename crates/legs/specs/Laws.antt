-- The sums that the loops make, block by stored block, are those of the definition, one after another, and so is the call's answer. For every rank at
-- once. Assumes nothing.
use Rattle.std.specs.Prelude.{Err, Ok, ◌≡◌, length, replicate, Float}
use Rattle.std.proofs.Math.Path.{refl, sym, ap, ap₂}
use Rattle.std.proofs.Common.{◌∙◌, mod-eq_of_lt, not-suc-le-zero, suc-ne-zero, le_refl, arith, length-set, get_or-set_other}
use mathlib.Core.List.{List, [], ◌∷◌}
use Prim.Native.Nat.{ℕ, zero, suc, ◌+◌, ◌*◌, ◌-◌, ◌/◌, ◌%◌, ◌≤◌, ◌<◌}
use Rattle.std.proofs.Math.Nat.{suc_inj}
use Rattle.std.proofs.Math.ListN.{get_or, set}
use Rattle.std.proofs.lemmas.List.{length-replicate, get_or-replicate}
use Rattle.std.specs.Float.Ieee.{nan, add, binary64}
use Rattle.lists.specs.Tab.{tab, length-tab, get_or-tab, is_tab, tab_ext, fill_more, times, times_more, times-same, times_nest}
use Rattle.lists.specs.Floats.{plus_zero}
use Rattle.lists.specs.Digits.{times_power, rest, digits, length_digits, digits-below, quotient, remainder}
use Rattle.lists.specs.Elements.{Below}
use Rattle.blocks.specs.Block.{block, get_or-block}
use Rattle.tables.specs.declared.Refusal.{Refusal}
use Rattle.tables.specs.Shifts.{Shifts}
use Rattle.tables.specs.Full.{judged_full}
use Rattle.tables.specs.Compact.{ShiftTables, shifts_of, judged_set}
use Rattle.places.specs.Places.{legs_of, read_out, in_block, full_shifts}
use Rattle.places.specs.Addresses.{stored_block}
use Rattle.places.specs.ReadOuts.{stored_in, stored_in_lem}
use Rattle.read_out.specs.Blocks.{block_of, read_at_lem}
use Rattle.audits.specs.Guard.{Ready, block_inside, stored-within, full_tables, whole-shifts}
use Rattle.reports.specs.declared.seen.Seen.{Seen}
use Rattle.reports.specs.Loops.{look, look_at, look_numbers, nothing_seen, concluded}
use Rattle.reports.specs.Seen.{rows-looked, look-same, report_of, after-done, after-refused}
use Rattle.legs.specs.Legs.{insert_at, leg_sum, others, leg_sum_at, leg_report, leg_report_compact, leg_report_full}

-- blocks of w numbers added one after another: f i is the number of block i
unfoldable pub block_sums : ℕ → (ℕ → ℕ) → ℕ → List Float → List Float
block_sums w f n set = tab w (λ k. times n (λ i s. add binary64 s (get_or (block w (f i) set) k nan)) plus_zero)

pub length-sums : (w : ℕ) (f : ℕ → ℕ) (n : ℕ) (set : List Float) → length (block_sums w f n set) ≡ w
unfolding block_sums
length-sums w f n set = length-tab w _

pub sums_none : (w : ℕ) (f : ℕ → ℕ) (set : List Float) → replicate w plus_zero ≡ block_sums w f 0 set
unfolding block_sums times
sums_none w f set = is_tab nan w (λ k. plus_zero) (replicate w plus_zero) (length-replicate w plus_zero) (λ k h. get_or-replicate w k plus_zero nan h)

-- one block more
pub sums-more : (w : ℕ) (f : ℕ → ℕ) (i : ℕ) (set : List Float) {s b r : List Float} → s ≡ block_sums w f i set → b ≡ block w (f i) set
    → r ≡ tab (length s) (λ k. add binary64 (get_or s k nan) (get_or b k nan)) → r ≡ block_sums w f (i + 1) set
unfolding block_sums
sums-more w f i set {s} {b} es eb er =
    let F : ℕ → ℕ → Float → Float = λ k i s. add binary64 s (get_or (block w (f i) set) k nan) in
    er ∙ ap (λ n. tab n (λ k. add binary64 (get_or s k nan) (get_or b k nan))) (ap length es ∙ length-tab w _)
    ∙ tab_ext nan w _ _ (λ k h.
    ap (λ b. add binary64 (get_or s k nan) (get_or b k nan)) eb
    ∙ times_more i (F k) plus_zero (ap (λ s. get_or s k nan) es ∙ get_or-tab w (λ k. times i (F k) plus_zero) k nan h) refl)

-- ---- numbers added one after another: those before place k are

pub record Adding (s₀ b : List Float) (k : ℕ) (s : List Float) : Type 0 where
  pub within : k ≤ length b
  pub long : length s ≡ length s₀
  pub done : (j : ℕ) → j < k → get_or s j nan ≡ add binary64 (get_or s₀ j nan) (get_or b j nan)
  pub left : (j : ℕ) → k ≤ j → get_or s j nan ≡ get_or s₀ j nan

pub adding_none : (s b : List Float) → Adding s b 0 s
adding_none s b = record { within = omega arith; long = refl; done = λ j h. absurd (not-suc-le-zero h); left = λ j h. refl }

pub adding_more : (s₀ b : List Float) (k : ℕ) (s : List Float) → k < length b → length b ≡ length s₀ → Adding s₀ b k s
    → Adding s₀ b (k + 1) (set s k (add binary64 (get_or s k nan) (get_or b k nan)))
adding_more s₀ b k s h e a = record {
  within = omega arith;
  long = length-set s k _ ∙ a.long;
  done = fill_more nan (λ j. add binary64 (get_or s₀ j nan) (get_or b j nan)) s k _ (omega (arith, a.long, e, h)) (ap (λ x. add binary64 x (get_or b k nan)) (a.left k (le_refl k))) a.done;
  left = λ j l. get_or-set_other s k j _ nan (λ g. omega (arith, g, l)) ∙ a.left j (omega (arith, l));
}

pub adding_all : (s₀ b : List Float) (k : ℕ) (s : List Float) → length b ≤ k → length b ≡ length s₀ → Adding s₀ b k s
    → s ≡ tab (length s₀) (λ j. add binary64 (get_or s₀ j nan) (get_or b j nan))
adding_all s₀ b k s h e a = is_tab nan (length s₀) _ s a.long (λ j l. a.done j (omega (arith, h, e, l)))

-- the block that has atom i as that of leg `leg`
abbrev pub leg_block : Shifts → ℕ → ℕ → ℕ → ℕ → ℕ
leg_block S m leg t i = block_of S (insert_at leg i (digits S.n_satom m t))

length_insert : (leg i : ℕ) (ks : List ℕ) → length (insert_at leg i ks) ≡ suc (length ks)
unfolding insert_at
length_insert zero i ks = refl
length_insert (suc leg) i [] = refl
length_insert (suc leg) i (k ∷ ks) = ap suc (length_insert leg i ks)

module _ (S : Shifts) (m : ℕ) (set : List Float) where
  abbrev w : ℕ
  w = in_block m

  abbrev n : ℕ
  n = S.n_satom

  -- the sum by blocks
  pub sum_is : (leg t k : ℕ) → k < w → get_or (block_sums w (leg_block S m leg t) n set) k nan ≡ leg_sum S m set leg t k
  unfolding block_sums leg_sum
  sum_is leg t k h =
      get_or-tab w _ k nan h
      ∙ times-same n _ _ plus_zero (λ i hi s.
      let ks = insert_at leg i (digits n m t) in
      ap (add binary64 s)
      (get_or-block w (block_of S ks) set k h
      ∙ sym (read_at_lem nan S set m k ks (length_insert leg i (digits n m t) ∙ ap suc (length_digits n m t)) ∙ ap (λ k. get_or set (block_of S ks * w + k) nan) (mod-eq_of_lt h))))

  -- ---- what the loops compute: the line of other atoms t of leg number e, counted from the last leg; all lines of a leg; all legs

  unfoldable pub line_seen : ℕ → ℕ → ℕ → Seen → Seen
  line_seen c e t s = look_numbers ((e * others S m set + t) * c) (block_sums c (leg_block S m (m - e) t) n set) s

  unfoldable pub leg_seen : ℕ → ℕ → Seen → Seen
  leg_seen c e s = times (others S m set) (line_seen c e) s

  unfoldable pub all_seen : Seen
  all_seen = times (suc m * others S m set * w) (λ z. look z (leg_sum_at S m set z)) nothing_seen

  pub line-seen : (e t : ℕ) → t < others S m set → (s : Seen)
      → line_seen w e t s ≡ look_at ((e * others S m set + t) * w) w (λ k. leg_sum_at S m set ((e * others S m set + t) * w + k)) s
  unfolding line_seen block_sums
  line-seen e t ht s =
      let q = e * others S m set + t in
      ap (λ l. look_at (q * w) l (λ k. get_or (block_sums w (leg_block S m (m - e) t) n set) k nan) s) (length-tab w _)
      ∙ look-same (q * w) w _ _ s (λ k hk.
      sum_is (m - e) t k hk
      ∙ sym (ap₂ (λ q k. leg_sum S m set (m - q / others S m set) (q % others S m set) k) (quotient w q k hk) (remainder w q k hk)
      ∙ ap₂ (λ e t. leg_sum S m set (m - e) t k) (quotient (others S m set) e t ht) (remainder (others S m set) e t ht)))

  -- a look at one line is that of the definition
  pub look_is : (c e t : ℕ) (s : Seen) {first : ℕ} {x : List Float} → first ≡ (e * others S m set + t) * c → x ≡ block_sums c (leg_block S m (m - e) t) n set
      → look_numbers first x s ≡ line_seen c e t s
  unfolding line_seen
  look_is c e t s ef ex = ap₂ (λ first x. look_numbers first x s) ef ex

  pub report_is : {c : Seen} → c ≡ all_seen → concluded c ≡ leg_report S m set
  unfolding all_seen
  report_is e = report_of (suc m * others S m set * w) (leg_sum_at S m set) e

-- ---- the blocks that the loops read, order by order

module _ (T : ShiftTables) (t i : ℕ) where
  abbrev satoms : ℕ
  satoms = T.n_satom

  abbrev F : ℕ → List ℕ → ℕ
  F = stored_in satoms T.s2pp T.nsym_list T.perms

  module _ {q a b leg : ℕ} where
    pub leg3_0 : leg ≡ 0 → a ≡ t / satoms % satoms → b ≡ t % satoms → q ≡ F i (a ∷ b ∷ []) → q ≡ leg_block (shifts_of T) 2 leg t i
    unfolding block_of insert_at digits rest
    leg3_0 el ea eb e = e ∙ stored_in_lem T i (a ∷ b ∷ []) ∙ rw (el, ea, eb) refl

    pub leg3_1 : leg ≡ 1 → a ≡ t / satoms % satoms → b ≡ t % satoms → q ≡ F a (i ∷ b ∷ []) → q ≡ leg_block (shifts_of T) 2 leg t i
    unfolding block_of insert_at digits rest
    leg3_1 el ea eb e = e ∙ stored_in_lem T a (i ∷ b ∷ []) ∙ rw (el, ea, eb) refl

    pub leg3_2 : leg ≡ 2 → a ≡ t / satoms % satoms → b ≡ t % satoms → q ≡ F a (b ∷ i ∷ []) → q ≡ leg_block (shifts_of T) 2 leg t i
    unfolding block_of insert_at digits rest
    leg3_2 el ea eb e = e ∙ stored_in_lem T a (b ∷ i ∷ []) ∙ rw (el, ea, eb) refl

  module _ {q a b c leg : ℕ} where
    pub leg4_0 : leg ≡ 0 → a ≡ t / satoms / satoms % satoms → b ≡ t / satoms % satoms → c ≡ t % satoms → q ≡ F i (a ∷ b ∷ c ∷ []) → q ≡ leg_block (shifts_of T) 3 leg t i
    unfolding block_of insert_at digits rest
    leg4_0 el ea eb ec e = e ∙ stored_in_lem T i (a ∷ b ∷ c ∷ []) ∙ rw (el, ea, eb, ec) refl

    pub leg4_1 : leg ≡ 1 → a ≡ t / satoms / satoms % satoms → b ≡ t / satoms % satoms → c ≡ t % satoms → q ≡ F a (i ∷ b ∷ c ∷ []) → q ≡ leg_block (shifts_of T) 3 leg t i
    unfolding block_of insert_at digits rest
    leg4_1 el ea eb ec e = e ∙ stored_in_lem T a (i ∷ b ∷ c ∷ []) ∙ rw (el, ea, eb, ec) refl

    pub leg4_2 : leg ≡ 2 → a ≡ t / satoms / satoms % satoms → b ≡ t / satoms % satoms → c ≡ t % satoms → q ≡ F a (b ∷ i ∷ c ∷ []) → q ≡ leg_block (shifts_of T) 3 leg t i
    unfolding block_of insert_at digits rest
    leg4_2 el ea eb ec e = e ∙ stored_in_lem T a (b ∷ i ∷ c ∷ []) ∙ rw (el, ea, eb, ec) refl

    pub leg4_3 : leg ≡ 3 → a ≡ t / satoms / satoms % satoms → b ≡ t / satoms % satoms → c ≡ t % satoms → q ≡ F a (b ∷ c ∷ i ∷ []) → q ≡ leg_block (shifts_of T) 3 leg t i
    unfolding block_of insert_at digits rest
    leg4_3 el ea eb ec e = e ∙ stored_in_lem T a (b ∷ c ∷ i ∷ []) ∙ rw (el, ea, eb, ec) refl

-- they lie inside the set
below_insert : (n leg i : ℕ) (ks : List ℕ) → i < n → Below n ks → Below n (insert_at leg i ks)
unfolding insert_at
below_insert n zero i ks h b = (h, b)
below_insert n (suc leg) i [] h b = (h, tt)
below_insert n (suc leg) i (k ∷ ks) h b = (b.0, below_insert n leg i ks h b.1)

module _ (limit m len : ℕ) (T : ShiftTables) (R : Ready limit m len T) (h : limit ≤ 1024) (w : ℕ) (ew : in_block m ≡ w) where
  list_inside : (ks : List ℕ) → length ks ≡ suc m → Below T.n_satom ks → block_of (shifts_of T) ks * w + w ≤ len
  unfolding block_of
  list_inside [] e b = absurd (suc-ne-zero _ (sym e))
  list_inside (a ∷ js) e b =
      block_inside limit m len T R w ew (stored_block (shifts_of T) a js) (rw (stored_in_lem T a js, suc_inj e) at (stored-within limit T h R.fit a b.0 js b.1))

pub leg-inside : (limit m len : ℕ) (T : ShiftTables) → Ready limit m len T → limit ≤ 1024 → (leg t i : ℕ) → t < times_power T.n_satom m 1 → i < T.n_satom
    → (w : ℕ) → in_block m ≡ w → leg_block (shifts_of T) m leg t i * w + w ≤ len
leg-inside limit m len T R h leg t i ht hi w e =
    let n = T.n_satom in
    list_inside limit m len T R h w e (insert_at leg i (digits n m t)) (length_insert leg i (digits n m t) ∙ ap suc (length_digits n m t))
    (below_insert n leg i (digits n m t) hi (digits-below n m 1 t ht))

-- ---- the answer

module _ (limit m : ℕ) (set : List Float) where
  pub compact_given : (T : ShiftTables) → judged_set limit m (length set) [] T ≡ Ok tt → {c : Seen} → c ≡ all_seen (shifts_of T) m set → Ok (concluded c) ≡ leg_report_compact limit m set T
  unfolding leg_report_compact
  compact_given T e f = after-done e (report_is (shifts_of T) m set f)

  pub compact_refused : (T : ShiftTables) (r : Refusal) → judged_set limit m (length set) [] T ≡ Err r → Err r ≡ leg_report_compact limit m set T
  unfolding leg_report_compact
  compact_refused T r e = after-refused (leg_report (shifts_of T) m set) e

  pub full-given : (n : ℕ) → judged_full limit m (length set) [] n ≡ Ok tt → {c : Seen} → c ≡ all_seen (shifts_of (full_tables n)) m set → Ok (concluded c) ≡ leg_report_full limit m set n
  unfolding leg_report_full
  full-given n e f = after-done e (report_is (full_shifts n) m set (f ∙ ap (λ S. all_seen S m set) (whole-shifts n)))

  pub full-refused : (n : ℕ) (r : Refusal) → judged_full limit m (length set) [] n ≡ Err r → Err r ≡ leg_report_full limit m set n
  unfolding leg_report_full
  full-refused n r e = after-refused (leg_report (full_shifts n) m set) e
