-- Document 02, A.7 and A.13, as laws about the definitions: a rendered roll is a roll and is read back, and a roll is rendered from its
-- records; so two rolls hold the same records in one order exactly if their bytes are the same.
-- Assumes nothing.
use Rattle.std.specs.Prelude.{◌≡◌, true, false, ◌↔◌, leb}
use Rattle.std.proofs.Math.Path.{refl, sym, ap, ap₂, subst}
use Rattle.std.proofs.Common.{◌∙◌, take-append-drop, take-add}
use Rattle.std.proofs.Math.Bool.{not}
use mathlib.Core.List.{List, [], ◌∷◌, ◌++◌, append_assoc, append-nil}
use Prim.Native.Nat.{ℕ, zero, suc, ◌+◌, ◌*◌, ◌-◌, ◌≤◌, ◌<◌}
use native.Mathlib.Omega.{arith}
use Rattle.std.proofs.Math.Dec.{eqb}
use Rattle.std.proofs.Math.ListN.{length, get_or, take, drop, length-append, length-take}
use Rattle.std.proofs.Math.Seq.{split_at, drop-drop, length-take-le, drop-length}
use borrow.Author.Tests.{eqb-true, le-leb, eq-eqb}
use Rattle.lists.specs.Tests.{every, some, every_of, some_of, and_fst, both, refuted, some_at}
use Rattle.lists.specs.Tab.{tab, length-tab, get_or-tab, tab_ext}
use Rattle.lists.specs.Elements.{All, all-at}
use Rattle.lists.specs.Members.{of_get_or}
use Rattle.roll.specs.Format.{Entry, in_four, in_fours, joined, starts_of, record_ruled, keeps_rules, rendered}
use Rattle.roll.specs.Reading.{four_at, trailer_at, count_of, listed, entry_at, record_start, is_start, ruled_at, follow, listed_once, sized, framed, in_order, is_roll, each_once, is_former_roll, entries_of}
use Rattle.roll.specs.StartLaws.{start-apart, ends-before, head-before, follow-ruled}
use Rattle.roll.specs.NumberLaws.{Bytes, four-written, four-small, read_back, length_fours, fours_more, fours_tab}
use Rattle.roll.specs.Rendering.{Fits, start_at, start_list, start-at, tab-starts, tab-entries, starts_in, entries_in, records_back}
use Rattle.roll.specs.HoldingLaws.{framed-following, framed-sized, is_framed, is_listing, former-framed, former_listing, length-starts-from, length-rendered}
use Rattle.roll.specs.ListingLaws.{Differ, listed_in_order}

-- the list `order` has each start of the records once: as many numbers as records, each of them a start, none twice
pub record Lists (rs : List Entry) (order : List ℕ) : Type 0 where
  pub many : length order ≡ length rs
  pub starts : (i : ℕ) → i < length rs → (k : ℕ) × (k < length rs) × (get_or (starts_of rs) k 0 ≡ get_or order i 0)
  pub once : Differ (length rs) (λ i. get_or order i 0)

-- a record that may stand in a roll: its numbers have 4 bytes each, and it keeps the rules
abbrev pub Good : Entry → Type 0
Good r = Fits r × (keeps_rules r ≡ true)

-- ---- a rendered roll is read back

module _ (rs : List Entry) (order : List ℕ) (few : length rs ≤ 1000) (small : length (rendered rs order) ≤ 65536) where
  abbrev b : List ℕ
  b = rendered rs order

  abbrev n : ℕ
  n = length rs

  abbrev t : ℕ
  t = length (joined rs)

  long : length b ≡ t + 4 * length order + 8
  long = length-rendered rs order

  t-small : t < 4294967296
  t-small = omega (arith, long)

  pub count_back : count_of b ≡ n
  unfolding count_of rendered
  count_back =
      let x = joined rs ++ in_fours order in
      let e : b ≡ x ++ (in_four n ++ in_four t) = sym (append_assoc (joined rs) (in_fours order) (in_four n ++ in_four t)) in
      let l : length b - 8 ≡ length x = omega (arith, long, length-append (joined rs) (in_fours order), length_fours order) in
      ap (four_at b) l ∙ ap (λ z. four_at z (length x)) e ∙ four-written x n (in_four t) (omega arith)

  pub trailer_back : trailer_at b ≡ t
  unfolding trailer_at rendered
  trailer_back =
      let x = (joined rs ++ in_fours order) ++ in_four n in
      let e : b ≡ x ++ in_four t =
      sym (append_assoc (joined rs) (in_fours order) (in_four n ++ in_four t)) ∙ sym (append_assoc (joined rs ++ in_fours order) (in_four n) (in_four t)) in
      let l : length b - 4 ≡ length x = omega (arith, long, length-append (joined rs ++ in_fours order) (in_four n), length-append (joined rs) (in_fours order), length_fours order) in
      ap (four_at b) l ∙ ap (λ z. four_at z (length x)) e ∙ four-written x t [] t-small

  starts_back : (start_at b 0 n ≡ t) × (start_list b 0 n ≡ starts_of rs)
  unfolding rendered
  starts_back =
      let i = starts_in b rs 0 (in_fours order ++ (in_four n ++ in_four t)) refl in
      let z : 0 + t ≡ t = omega arith in
      (i.0 ∙ z, i.1)

  pub end_back : record_start b n ≡ t
  end_back = start-at b n ∙ starts_back.0

  pub start_back : (k : ℕ) → k < n → record_start b k ≡ get_or (starts_of rs) k 0
  start_back k h = sym (get_or-tab n (record_start b) k 0 h) ∙ ap (λ l. get_or l k 0) (sym (tab-starts b n) ∙ starts_back.1)

  -- reading a rendered roll gives its records back
  pub entries_back : All Fits rs → entries_of b ≡ rs
  unfolding entries_of rendered
  entries_back f =
      ap (λ m. tab m (λ i. entry_at b (record_start b i))) count_back ∙ sym (tab-entries b n) ∙ entries_in b rs 0 (in_fours order ++ (in_four n ++ in_four t)) f refl

  pub listed_back : (i : ℕ) → i < length order → get_or order i 0 < 4294967296 → listed b i ≡ get_or order i 0
  unfolding listed rendered in_fours
  listed_back i h g =
      let v = get_or order i 0 in
      let p = take i order in
      let q = drop (suc i) order in
      let rest = in_four n ++ in_four t in
      let s : in_fours order ≡ in_fours p ++ (in_four v ++ in_fours q) = ap in_fours (split_at order i 0 h) ∙ fours_more p (v ∷ q) in
      let x = joined rs ++ in_fours p in
      let e : b ≡ x ++ (in_four v ++ (in_fours q ++ rest)) =
      ap (λ z. joined rs ++ (z ++ rest)) s
      ∙ ap (λ z. joined rs ++ z) (append_assoc (in_fours p) (in_four v ++ in_fours q) rest ∙ ap (λ z. in_fours p ++ z) (append_assoc (in_four v) (in_fours q) rest))
      ∙ sym (append_assoc (joined rs) (in_fours p) (in_four v ++ (in_fours q ++ rest))) in
      let l : trailer_at b + 4 * i ≡ length x = omega (arith, trailer_back, length-append (joined rs) (in_fours p), length_fours p, length-take-le i order (omega arith)) in
      ap (four_at b) l ∙ ap (λ z. four_at z (length x)) e ∙ four-written x v (in_fours q ++ rest) g

  module _ (G : All Good rs) (many : length order ≡ length rs) where
    fits : All Fits rs
    fits = of_get_or Fits rs (entry_at b 0) (λ k h. (all-at Good rs k (entry_at b 0) G h).0)

    entry-at : (k : ℕ) → k < n → entry_at b (record_start b k) ≡ get_or rs k (entry_at b 0)
    unfolding entries_of
    entry-at k h = sym (get_or-tab (count_of b) (λ i. entry_at b (record_start b i)) k (entry_at b 0) (subst (λ m. k < m) (sym count_back) h)) ∙ ap (λ l. get_or l k (entry_at b 0)) (entries_back fits)

    ruled-at : (k : ℕ) → k < n → ruled_at b (record_start b k) ≡ true
    unfolding ruled_at entry_at
    ruled-at k h =
        let r = get_or rs k (entry_at b 0) in
        ap (λ (e : Entry). record_ruled e.kind e.number e.earlier) (entry-at k h) ∙ and_fst (record_ruled r.kind r.number r.earlier) (leb (length r.label) 255) (all-at Good rs k (entry_at b 0) G h).1

    follows : follow b (count_of b) (trailer_at b) ≡ true
    unfolding follow
    follows =
        rw (count_back, trailer_back)
        (both (eqb (record_start b n) t) (every n (λ i. ruled_at b (record_start b i))) (eq-eqb (record_start b n) t end_back) (every_of n (λ i. ruled_at b (record_start b i)) ruled-at))

    -- a rendered roll is framed as one
    pub rendered-framed : framed b ≡ true
    unfolding framed
    rendered-framed =
        both (sized b) (follow b (count_of b) (trailer_at b))
        (both (leb 8 (length b)) _ (le-leb 8 (length b) (omega (arith, long)))
        (both (leb (length b) 65536) _ (le-leb (length b) 65536 small)
        (both (leb (count_of b) 1000) _ (le-leb (count_of b) 1000 (omega (arith, count_back)))
        (eq-eqb (trailer_at b + 4 * count_of b + 8) (length b) (omega (arith, long, count_back, trailer_back, many))))))
        follows

  module _ (G : All Good rs) (L : Lists rs order) where
    value-at : (i : ℕ) → i < n → (k : ℕ) × (k < n) × (record_start b k ≡ listed b i) × (listed b i ≡ get_or order i 0)
    value-at i h =
        let (k, l, e) = L.starts i h in
        let s : record_start b k ≡ get_or order i 0 = start_back k l ∙ e in
        let g : get_or order i 0 < 4294967296 = omega (arith, s, ends-before b k n l, end_back, t-small) in
        let v = listed_back i (subst (λ m. i < m) (sym L.many) h) g in
        (k, l, s ∙ sym v, v)

    not-before : (i : ℕ) → i < n → some i (λ k. eqb (listed b k) (listed b i)) ≡ false
    not-before i h =
        refuted (some i (λ k. eqb (listed b k) (listed b i))) (λ q.
        let (a, g, w) = some_at i (λ k. eqb (listed b k) (listed b i)) q in
        L.once a i g h (sym (value-at a (omega arith)).3 ∙ eqb-true (listed b a) (listed b i) w ∙ (value-at i h).3))

    once-at : (i : ℕ) → i < n → listed_once b i ≡ true
    unfolding listed_once is_start
    once-at i h =
        let (k, l, e, v) = value-at i h in
        both (is_start b (listed b i)) (not (some i (λ k. eqb (listed b k) (listed b i))))
        (some_of (count_of b) (λ k. eqb (record_start b k) (listed b i)) k (subst (λ m. k < m) (sym count_back) l) (eq-eqb (record_start b k) (listed b i) e))
        (ap not (not-before i h))

    -- by the former rule it is a roll, in whatever order its starts are listed
    pub rendered-former : is_former_roll b ≡ true
    unfolding is_former_roll each_once
    rendered-former =
        both (framed b) (each_once b) (rendered-framed G L.many) (every_of (count_of b) (λ i. listed_once b i) (λ i h. once-at i (subst (λ m. i < m) count_back h)))

-- a roll rendered with its starts in rising order is a roll
module _ (rs : List Entry) (few : length rs ≤ 1000) (small : length (rendered rs (starts_of rs)) ≤ 65536) (G : All Good rs) where
  abbrev u : List ℕ
  u = rendered rs (starts_of rs)

  listed_start : (i : ℕ) → i < length rs → listed u i ≡ record_start u i
  listed_start i h =
      let s = start_back rs (starts_of rs) few small i h in
      let g : get_or (starts_of rs) i 0 < 4294967296 =
      omega (arith, s, ends-before u i (length rs) h, end_back rs (starts_of rs) few small, length-rendered rs (starts_of rs), small) in
      listed_back rs (starts_of rs) few small i (subst (λ m. i < m) (sym (length-starts-from 0 rs)) h) g ∙ sym s

  pub rendered_is : is_roll u ≡ true
  unfolding is_roll
  rendered_is =
      both (framed u) (in_order u) (rendered-framed rs (starts_of rs) few small G (length-starts-from 0 rs))
      (every_of (count_of u) (λ i. eqb (listed u i) (record_start u i)) (λ i h.
      eq-eqb (listed u i) (record_start u i) (listed_start i (subst (λ m. i < m) (count_back rs (starts_of rs) few small) h))))

-- ---- a roll is rendered from its records

module _ (b : List ℕ) (B : Bytes b) (F : framed b ≡ true) where
  rules_at : (k : ℕ) → k < count_of b → record_ruled (get_or b (record_start b k) 0) (four_at b (record_start b k + 1)) (four_at b (record_start b k + 5)) ≡ true
  unfolding ruled_at
  rules_at k l = follow-ruled b (count_of b) (trailer_at b) (framed-following b F) k l

  good_at : (k : ℕ) → k < count_of b → Good (entry_at b (record_start b k))
  unfolding entry_at
  good_at k l =
      let at = record_start b k in
      let L = get_or b (at + 9) 0 in
      let short : length (take L (drop (at + 10) b)) ≤ 255 = omega (arith, length-take L (drop (at + 10) b), B (at + 9)) in (
        (four-small b (at + 1) B, four-small b (at + 5) B),
        both (record_ruled (get_or b at 0) (four_at b (at + 1)) (four_at b (at + 5))) (leb (length (take L (drop (at + 10) b))) 255) (rules_at k l) (le-leb (length (take L (drop (at + 10) b))) 255 short),
      )

  -- each record that is read keeps the rules
  pub good_framed : All Good (entries_of b)
  unfolding entries_of
  good_framed =
      of_get_or Good (tab (count_of b) (λ i. entry_at b (record_start b i))) (entry_at b 0)
      (λ k h. let l : k < count_of b = subst (λ m. k < m) (length-tab (count_of b) (λ i. entry_at b (record_start b i))) h in
      subst Good (sym (get_or-tab (count_of b) (λ i. entry_at b (record_start b i)) k (entry_at b 0) l)) (good_at k l))

  -- the bytes of the trailer's list
  list_back : (m : ℕ) → trailer_at b + 4 * m ≤ length b → in_fours (tab m (listed b)) ≡ take (4 * m) (drop (trailer_at b) b)
  unfolding listed in_fours tab
  list_back zero h = refl
  list_back (suc m) h =
      let t = trailer_at b in
      let e : 4 * suc m ≡ 4 * m + 4 = omega arith in
      let s : suc m ≡ m + 1 = omega arith in
      ap (λ j. in_fours (tab j (listed b))) s ∙ sym (fours_tab m (listed b))
      ∙ ap₂ ◌++◌ (list_back m (omega arith)) (read_back b (t + 4 * m) B (omega arith) ∙ ap (take 4) (sym (drop-drop (4 * m) t b)))
      ∙ sym (take-add (4 * m) 4 (drop t b)) ∙ ap (λ j. take j (drop t b)) (sym e)

  ends_8 : (n t : ℕ) → length b - 8 ≡ t + 4 * n → in_four (count_of b) ≡ take 4 (drop (t + 4 * n) b)
  unfolding count_of
  ends_8 n t a = read_back b (length b - 8) B (omega (arith, (framed-sized b F).whole)) ∙ ap (λ m. take 4 (drop m b)) a

  ends_4 : (n t : ℕ) → length b - 4 ≡ t + 4 * n + 4 → in_four (trailer_at b) ≡ take 4 (drop (t + (4 * n + 4)) b)
  unfolding trailer_at
  ends_4 n t c = read_back b (length b - 4) B (omega (arith, (framed-sized b F).whole)) ∙ ap (λ m. take 4 (drop m b)) (let z : length b - 4 ≡ t + (4 * n + 4) = omega arith in z)

  parts : (n : ℕ) (l : List ℕ) → drop (4 * n + 8) l ≡ [] → l ≡ take (4 * n) l ++ (take 4 (drop (4 * n) l) ++ take 4 (drop (4 * n + 4) l))
  parts n l w =
      let m = 4 * n in
      let e : drop 4 (drop (m + 4) l) ≡ [] = drop-drop 4 (m + 4) l ∙ ap (λ k. drop k l) (let z : m + 4 + 4 ≡ m + 8 = omega arith in z) ∙ w in
      let f : drop (m + 4) l ≡ take 4 (drop (m + 4) l) = sym (take-append-drop 4 (drop (m + 4) l)) ∙ ap (λ z. take 4 (drop (m + 4) l) ++ z) e ∙ append-nil (take 4 (drop (m + 4) l)) in
      sym (take-append-drop m l)
      ∙ ap (λ z. take m l ++ z) (sym (take-append-drop 4 (drop m l)) ∙ ap (λ z. take 4 (drop m l) ++ z) (drop-drop 4 m l ∙ f))

  -- framed bytes are their records, rendered with their own list
  pub framed_is : b ≡ rendered (entries_of b) (tab (count_of b) (listed b))
  unfolding rendered entries_of
  framed_is =
      let n = count_of b in
      let t = trailer_at b in
      let S = framed-sized b F in
      let J : joined (tab n (λ i. entry_at b (record_start b i))) ≡ take t b = records_back b B n (omega (arith, S.ends, S.whole)) ∙ ap (λ m. take m b) S.ends in
      let j : length (joined (tab n (λ i. entry_at b (record_start b i)))) ≡ t = ap length J ∙ length-take-le t b (omega (arith, S.whole)) in
      let a : length b - 8 ≡ t + 4 * n = omega (arith, S.whole) in
      let c : length b - 4 ≡ t + 4 * n + 4 = omega (arith, S.whole) in
      let w : drop (4 * n + 8) (drop t b) ≡ [] = drop-drop (4 * n + 8) t b ∙ ap (λ m. drop m b) (let z : t + (4 * n + 8) ≡ length b = omega (arith, S.whole) in z) ∙ drop-length b in
      let X : in_four n ≡ take 4 (drop (4 * n) (drop t b)) = ends_8 n t a ∙ ap (take 4) (sym (drop-drop (4 * n) t b)) in
      let Y : in_four t ≡ take 4 (drop (4 * n + 4) (drop t b)) = ends_4 n t c ∙ ap (take 4) (sym (drop-drop (4 * n + 4) t b)) in
      sym (take-append-drop t b)
      ∙ ap₂ ◌++◌ (sym J) (parts n (drop t b) w
      ∙ ap₂ ◌++◌ (sym (list_back n (omega (arith, S.whole)))) (ap₂ ◌++◌ (sym X) (sym Y)))
      ∙ ap₂ (λ x y. joined (tab n (λ i. entry_at b (record_start b i))) ++ (in_fours (tab n (listed b)) ++ (in_four x ++ in_four y))) (sym (length-tab n (λ i. entry_at b (record_start b i)))) (sym j)

  -- the starts of the records that are read are where those stand
  starts_are : tab (count_of b) (record_start b) ≡ starts_of (entries_of b)
  unfolding rendered entries_of
  starts_are =
      let rs = tab (count_of b) (λ i. entry_at b (record_start b i)) in
      let l : length rs ≡ count_of b = length-tab (count_of b) (λ i. entry_at b (record_start b i)) in
      let e = (starts_in b rs 0 (in_fours (tab (count_of b) (listed b)) ++ (in_four (length rs) ++ in_four (length (joined rs)))) framed_is).1 in
      sym (tab-starts b (count_of b)) ∙ ap (start_list b 0) (sym l) ∙ e

  pub many-entries : length (entries_of b) ≡ count_of b
  unfolding entries_of
  many-entries = length-tab (count_of b) (λ i. entry_at b (record_start b i))

-- each record of a roll keeps the rules
pub good_entries : (b : List ℕ) → Bytes b → is_roll b ≡ true → All Good (entries_of b)
good_entries b B R = good_framed b B (is_framed b R)

-- ---- A.13: there is one roll of a list of records

-- a roll is its records, rendered with their starts in rising order
pub roll_is : (b : List ℕ) → Bytes b → is_roll b ≡ true → b ≡ rendered (entries_of b) (starts_of (entries_of b))
roll_is b B R =
    let F = is_framed b R in
    framed_is b B F ∙ ap (rendered (entries_of b)) (tab_ext 0 (count_of b) (listed b) (record_start b) (is_listing b R) ∙ starts_are b B F)

-- two rolls hold the same records in one order exactly if their bytes are the same
pub same_bytes : (a b : List ℕ) → Bytes a → Bytes b → is_roll a ≡ true → is_roll b ≡ true → (entries_of a ≡ entries_of b) ↔ (a ≡ b)
same_bytes a b A B P Q = (λ e. roll_is a A P ∙ ap (λ rs. rendered rs (starts_of rs)) e ∙ sym (roll_is b B Q), ap entries_of)

-- ---- the two rules beside each other

-- a roll is one by the former rule
pub is_former : (b : List ℕ) → is_roll b ≡ true → is_former_roll b ≡ true
unfolding is_former_roll each_once listed_once is_start
is_former b R = both (framed b) (every (count_of b) (listed_once b)) (is_framed b R) (every_of (count_of b) (listed_once b) once)
  where
    once : (i : ℕ) → i < count_of b → listed_once b i ≡ true
    once i h =
        let e = is_listing b R i h in
        both (is_start b (listed b i)) (not (some i (λ k. eqb (listed b k) (listed b i))))
        (some_of (count_of b) (λ k. eqb (record_start b k) (listed b i)) i h (eq-eqb (record_start b i) (listed b i) (sym e)))
        (ap not (refuted (some i (λ k. eqb (listed b k) (listed b i))) (λ q.
        let (k, l, w) = some_at i (λ k. eqb (listed b k) (listed b i)) q in
        let s : record_start b k ≡ record_start b i = sym (is_listing b R k (omega arith)) ∙ eqb-true (listed b k) (listed b i) w ∙ e in
        absurd (omega (arith, start-apart b k i s)))))

-- a list rises
abbrev pub Rises : List ℕ → Type 0
Rises b = (i : ℕ) → i + 1 < count_of b → listed b i < listed b (i + 1)

-- what A.13 refuses is just the other orders: a roll is a roll by the former rule whose list rises
pub in_order_lem : (b : List ℕ) → (is_roll b ≡ true) ↔ ((is_former_roll b ≡ true) × Rises b)
unfolding is_roll
in_order_lem b = (λ R. (is_former b R, rises R), λ p. back p.0 p.1)
  where
    rises : is_roll b ≡ true → Rises b
    rises R i h = omega (arith, is_listing b R i (omega arith), is_listing b R (i + 1) h, head-before b i (i + 1) (omega arith))

    back : is_former_roll b ≡ true → Rises b → is_roll b ≡ true
    back R up =
        both (framed b) (in_order b) (former-framed b R)
        (every_of (count_of b) (λ i. eqb (listed b i) (record_start b i)) (λ i h. eq-eqb (listed b i) (record_start b i) (listed_in_order b (former_listing b R) up i h)))

-- an older roll comes over: its records, rendered anew, are a roll of as many bytes that holds the same records
pub comes_over : (b : List ℕ) → Bytes b → is_former_roll b ≡ true
    → let u = rendered (entries_of b) (starts_of (entries_of b)) in (is_roll u ≡ true) × (entries_of u ≡ entries_of b) × (length u ≡ length b)
comes_over b B R =
    let F = former-framed b R in
    let rs = entries_of b in
    let S = framed-sized b F in
    let G = good_framed b B F in
    let n = many-entries b B F in
    let long : length (rendered rs (starts_of rs)) ≡ length b =
    length-rendered rs (starts_of rs) ∙ omega (arith, length-starts-from 0 rs, n, length-tab (count_of b) (listed b), length-rendered rs (tab (count_of b) (listed b)), ap length (framed_is b B F)) in
    let few : length rs ≤ 1000 = omega (arith, n, S.few) in
    let small : length (rendered rs (starts_of rs)) ≤ 65536 = omega (arith, long, S.small) in
    (rendered_is rs few small G, entries_back rs (starts_of rs) few small (fits rs (starts_of rs) few small G (length-starts-from 0 rs)), long)
