-- That what the code of A.12 gathers, record by record, is what specs/RetireAll names. Assumes nothing.
use Rattle.std.specs.Prelude.{◌≡◌, Bool, true, false, ◌&&◌, ◌||◌, ◌⊎◌, List, [], ◌∷◌, ◌++◌, ℕ, zero, suc, ◌+◌, ◌*◌, ◌≤◌, ◌<◌, ltb, length, get_or, take, drop, Result, Ok, Err}
use Rattle.std.proofs.Math.Path.{refl, sym, ap, ap₂}
use Rattle.std.proofs.Math.Seq.{drop-cons, drop-length}
use Rattle.std.proofs.Common.{◌∙◌, subst, true≢false, inl, inr, add-one, arith}
use Rattle.std.proofs.Math.Bool.{not, cond}
use Rattle.std.proofs.lemmas.Bool.{false≢true}
use Rattle.std.proofs.Math.Dec.{eqb}
use borrow.Author.Tests.{eq-eqb, ne_eqb, lt-ltb, le-ltb, ltb-false}
use Rattle.lists.specs.Tests.{or_true}
use Rattle.lists.specs.Cases.{lt_or_le}
use Rattle.lists.specs.Tab.{tab, tab_from}
use Rattle.tables.specs.declared.Refusal.{Refusal}
use Rattle.tables.specs.declared.Refusal.TheVariants.{NotARoll, NotLawful, UnknownSet, NoRoom}
use Rattle.roll.specs.Format.{Entry}
use Rattle.roll.specs.Reading.{four_at, record_start, entry_at, count_of, is_roll, entries_of, roll_bytes, holds_roll}
use Rattle.roll.specs.HoldingLaws.{within-limits, at-least-eight, bytes-there, bytes_past, held_by}
use Rattle.roll.specs.AppendCalls.{passes, appended}
use Rattle.standing.specs.Register.{Register, register_of, lawful}
use Rattle.standing.specs.Walk.{record_of, register_after, lawful_to, Notes, tab-next, entries-lawful, entries_register, entries-many}
use Rattle.standing.specs.Chains.{chain_end, carried, carried_is}
use Rattle.standing.proofs.Laws.{named, lawful-to}
use Rattle.standing.specs.RetireAll.{chain_end_of, waits, inserted, numbers_passing, to_retire, retirement, add_all, judged_retire, retire_after, retire_all}
use Rattle.standing.specs.Steps.{waits_at, gathered_to, many, Retirable}

gathered_next : (w : Entry → Bool) (ys : List ℕ) (rs : List Entry) (r : Entry)
    → numbers_passing w ys (rs ++ (r ∷ [])) ≡ cond (w r) (inserted r.number (numbers_passing w ys rs)) (numbers_passing w ys rs)
unfolding numbers_passing
gathered_next w ys [] r = refl
gathered_next w ys (x ∷ xs) r = gathered_next w (cond (w x) (inserted x.number ys) ys) xs r

pub gathered_is : (w v : Entry → Bool) (f : ℕ → Entry) (n : ℕ) → ((r : Entry) → w r ≡ v r) → numbers_passing w [] (tab n f) ≡ gathered_to v f n
unfolding tab tab_from numbers_passing gathered_to
gathered_is w v f zero h = refl
gathered_is w v f (suc n) h =
    ap (numbers_passing w []) (tab-next n f) ∙ gathered_next w [] (tab n f) (f n)
    ∙ ap₂ (λ t ys. cond t (inserted (f n).number ys) ys) (h (f n)) (gathered_is w v f n h)

-- ---- a lawful roll

module _ (b : List ℕ) (R : is_roll b ≡ true) (L : lawful (entries_of b) ≡ true) where
  abbrev n : ℕ
  n = count_of b

  abbrev f : ℕ → Entry
  f = record_of b

  abbrev rs : List Entry
  rs = entries_of b

  last_is : (y : ℕ) → chain_end_of rs y ≡ carried f n y
  last_is y = ap₂ (λ k g. chain_end k g y) (entries-many b) (entries_register b) ∙ sym (carried_is f n (named b R L) (lawful-to b R L) y)

  waits_is : (x : ℕ) (r : Entry) → waits rs x r ≡ waits_at f n (carried f n x) r
  unfolding waits waits_at
  waits_is x r =
      ap₂ (λ s t. not (eqb r.kind 3) && (s && t)) (ap₂ eqb (last_is r.number) (last_is x)) (ap (λ (g : Register). not (g.retired r.number)) (entries_register b))

  pub to_retire_is : (x : ℕ) → to_retire rs x ≡ gathered_to (waits_at f n (carried f n x)) f n
  unfolding entries_of record_of
  to_retire_is x = gathered_is (waits rs x) (waits_at f n (carried f n x)) f n (waits_is x)

-- ---- what the answer says

abbrev is_add : Result ℕ Refusal → Bool
is_add (Ok k) = true
is_add (Err r) = false

pub no_add : {r : Refusal} {m : ℕ} {A : Type 0} → Err r ≡ Ok m → A
no_add e = absurd (false≢true (ap is_add e))

chosen : (a b c d : Bool) (k m : ℕ) → cond (not a) (Err NotARoll) (cond (not b) (Err NotLawful) (cond (not c) (Err UnknownSet) (cond d (Err NoRoom) (Ok k)))) ≡ Ok m
    → (a ≡ true) × (b ≡ true) × (c ≡ true) × (d ≡ false) × (k ≡ m)
chosen true true true true k m e = no_add e
chosen true true true false k m e = (refl, refl, refl, refl, ap many e)
chosen true true false d k m e = no_add e
chosen true false c d k m e = no_add e
chosen false b c d k m e = no_add e

pub add_says : (s : List ℕ) (count x m : ℕ) → judged_retire s count x ≡ Ok m → Retirable s count x m
unfolding judged_retire
add_says s count x m e =
    let b = roll_bytes s count in
    let rs = entries_of b in
    let k = length (to_retire rs x) in
    let (r, l, d, p, q) = chosen (is_roll b) (lawful rs) ((register_of rs).delivered x) (passes s (length rs + k) (count + 14 * k)) k m e in
    record { roll = r; law = l; known = d; room = subst (λ i. passes s (length rs + i) (count + 14 * i) ≡ false) q p; many = q }

-- ---- the code's tests

module _ (s : List ℕ) (count x : ℕ) where
  abbrev b₀ : List ℕ
  b₀ = roll_bytes s count

  pub says_7 : is_roll b₀ ≡ false → Err NotARoll ≡ judged_retire s count x
  unfolding judged_retire
  says_7 e = rw e refl

  module _ (R : is_roll b₀ ≡ true) where
    pub says_9 : lawful (entries_of b₀) ≡ false → Err NotLawful ≡ judged_retire s count x
    unfolding judged_retire
    says_9 e = rw (R, e) refl

    module _ (L : lawful (entries_of b₀) ≡ true) where
      pub says_11 : (register_of (entries_of b₀)).delivered x ≡ false → Err UnknownSet ≡ judged_retire s count x
      unfolding judged_retire
      says_11 e = rw (R, L, e) refl

      module _ (K : (register_of (entries_of b₀)).delivered x ≡ true) (m : ℕ) (q : length (to_retire (entries_of b₀) x) ≡ m) where
        abbrev w : ℕ
        w = count + 14 * m

        judged_is : judged_retire s count x ≡ cond (passes s (count_of b₀ + m) w) (Err NoRoom) (Ok m)
        unfolding judged_retire
        judged_is = rw (R, L, K, q, entries-many b₀) refl

        pub says_8 : (1000 < count_of b₀ + m) ⊎ ((65536 < w) ⊎ (length s < w)) → Err NoRoom ≡ judged_retire s count x
        unfolding passes
        says_8 (inl h) = sym (judged_is ∙ rw (lt-ltb 1000 (count_of b₀ + m) h) refl)
        says_8 (inr (inl h)) = sym (judged_is ∙ rw (lt-ltb 65536 w h, or_true (ltb 1000 (count_of b₀ + m))) refl)
        says_8 (inr (inr h)) = sym (judged_is ∙ rw (lt-ltb (length s) w h, or_true (ltb 65536 w), or_true (ltb 1000 (count_of b₀ + m))) refl)

        pub says_add : count_of b₀ + m ≤ 1000 → w ≤ 65536 → w ≤ length s → Ok m ≡ judged_retire s count x
        unfolding passes
        says_add h g l = sym (judged_is ∙ rw (le-ltb 1000 (count_of b₀ + m) h, le-ltb 65536 w g, le-ltb (length s) w l) refl)

-- ---- one record more

module _ (b : List ℕ) where
  module _ (n last at : ℕ) where
    abbrev test : Bool
    test = waits_at (record_of b) n last (entry_at b at)

    pub waits-retirement : get_or b at 0 ≡ 3 → false ≡ test
    unfolding waits_at entry_at
    waits-retirement e = rw (eq-eqb (get_or b at 0) 3 e) refl

    module _ (d : get_or b at 0 ≡ 3 → ⊥) {set c : ℕ} (q : set ≡ four_at b (at + 1)) (e : c ≡ carried (record_of b) n set) where
      test_is : test ≡ (eqb c last && not ((register_after (record_of b) n).retired set))
      unfolding waits_at entry_at
      test_is = rw (ne_eqb (get_or b at 0) 3 d, e, q) refl

      pub waits-elsewhere : (c ≡ last → ⊥) → false ≡ test
      waits-elsewhere h = sym (test_is ∙ rw (ne_eqb c last h) refl)

      pub waits_open : {t : Bool} → c ≡ last → t ≡ (register_after (record_of b) n).retired set → not t ≡ test
      waits_open h t = ap not t ∙ sym (test_is ∙ rw (eq-eqb c last h) refl)

  pub gathered-one : (w : Entry → Bool) (i p : ℕ) {z ys : List ℕ} {y : ℕ} {t : Bool} → p ≡ record_start b i → ys ≡ gathered_to w (record_of b) i → y ≡ four_at b (p + 1) → t ≡ w (entry_at b p)
      → z ≡ cond t (inserted y ys) ys → z ≡ gathered_to w (record_of b) (i + 1)
  unfolding gathered_to record_of entry_at
  gathered-one w i p {z} {ys} {y} {t} e g f h k =
      k ∙ ap₂ (λ s j. cond s (inserted j ys) ys) (h ∙ ap (λ j. w (entry_at b j)) e) (f ∙ ap (λ j. four_at b (j + 1)) e)
      ∙ ap (λ l. cond (w (entry_at b (record_start b i))) (inserted (four_at b (record_start b i + 1)) l) l) g ∙ ap (gathered_to w (record_of b)) (sym (add-one i))

-- ---- retirements one by one

pub adds_none : (s : List ℕ) (count : ℕ) → add_all s count [] ≡ s
unfolding add_all
adds_none s count = refl

pub adds_one : (s : List ℕ) (count y : ℕ) (ys : List ℕ) → add_all s count (y ∷ ys) ≡ add_all (appended s count (retirement y)).1 (count + 14) ys
unfolding add_all
adds_one s count y ys = refl

-- ---- a number put in where it is wanted

pub put_in : (y : ℕ) (ys : List ℕ) {w : Bool} {z : List ℕ} → w ≡ true → z ≡ inserted y ys → z ≡ cond w (inserted y ys) ys
put_in y ys e h = rw e h

pub left_out : (y : ℕ) (ys : List ℕ) {w : Bool} → w ≡ false → ys ≡ cond w (inserted y ys) ys
left_out y ys e = rw e refl

pub gathered-no : (b : List ℕ) (w : Entry → Bool) (l : List ℕ) → take 0 l ≡ gathered_to w (record_of b) 0
unfolding gathered_to
gathered-no b w l = refl

-- ---- the loop that appends

drop-next : (l : List ℕ) (m i : ℕ) → i < m → m ≤ length l → drop i (take m l) ≡ (get_or l i 0 ∷ drop (suc i) (take m l))
drop-next [] m i h k = absurd (omega (arith, h, k))
drop-next (x ∷ xs) zero i h k = absurd (omega (arith, h))
drop-next (x ∷ xs) (suc m) zero h k = refl
drop-next (x ∷ xs) (suc m) (suc i) h k = drop-next xs m i (omega (arith, h)) (omega (arith, k))

drop_all : (l : List ℕ) (m : ℕ) → drop m (take m l) ≡ []
drop_all l zero = refl
drop_all [] (suc m) = refl
drop_all (x ∷ xs) (suc m) = drop_all xs m

pub adds-first : (s l : List ℕ) (count m : ℕ) → add_all s count (take m l) ≡ add_all s count (drop 0 (take m l))
adds-first s l count m = refl

pub adds-more : (s lent left l : List ℕ) (count long m i : ℕ) {r : Result ℕ Refusal} → i < m → m ≤ length l → (r, left) ≡ appended lent long (retirement (get_or l i 0))
    → add_all s count (take m l) ≡ add_all lent long (drop i (take m l)) → add_all s count (take m l) ≡ add_all left (long + 14) (drop (i + 1) (take m l))
adds-more s lent left l count long m i h k e q =
    q ∙ ap (add_all lent long) (drop-next l m i h k) ∙ adds_one lent long (get_or l i 0) (drop (suc i) (take m l))
    ∙ ap₂ (λ z j. add_all z (long + 14) (drop j (take m l))) (ap (λ (t : Result ℕ Refusal × List ℕ). t.1) (sym e)) (sym (add-one i))

pub adds-last : (s lent l : List ℕ) (count long m : ℕ) → add_all s count (take m l) ≡ add_all lent long (drop m (take m l)) → lent ≡ add_all s count (take m l)
adds-last s lent l count long m q = sym (q ∙ ap (add_all lent long) (drop_all l m) ∙ adds_none lent long)

-- the same of the whole list

pub adds-further : (s lent left l : List ℕ) (count long i : ℕ) {r : Result ℕ Refusal} → i < length l → (r, left) ≡ appended lent long (retirement (get_or l i 0))
    → add_all s count l ≡ add_all lent long (drop i l) → add_all s count l ≡ add_all left (long + 14) (drop (i + 1) l)
adds-further s lent left l count long i h e q =
    q ∙ ap (add_all lent long) (drop-cons l i 0 h) ∙ adds_one lent long (get_or l i 0) (drop (suc i) l)
    ∙ ap₂ (λ z j. add_all z (long + 14) (drop j l)) (ap (λ (t : Result ℕ Refusal × List ℕ). t.1) (sym e)) (sym (add-one i))

pub adds-end : (s lent l : List ℕ) (count long : ℕ) → add_all s count l ≡ add_all lent long (drop (length l) l) → lent ≡ add_all s count l
adds-end s lent l count long q = sym (q ∙ ap (add_all lent long) (drop-length l) ∙ adds_none lent long)

-- ---- a roll in the first bytes of a slice

pub roll-there : (s : List ℕ) (count : ℕ) → is_roll (roll_bytes s count) ≡ true → (holds_roll s count ≡ true) × (roll_bytes s count ≡ take count s)
roll-there s count R = go (lt_or_le (length s) count)
  where
    go : (length s < count) ⊎ (count ≤ length s) → (holds_roll s count ≡ true) × (roll_bytes s count ≡ take count s)
    go (inl h) = let l : 8 ≤ length (roll_bytes s count) = at-least-eight (roll_bytes s count) R in absurd (omega (arith, l, ap length (bytes_past s count h)))
    go (inr h) =
        let e = bytes-there s count h in
        (sym (held_by s count h (sym R ∙ ap is_roll (sym e))), sym e)

pub count_small : (s bb : List ℕ) (count : ℕ) → bb ≡ roll_bytes s count → is_roll bb ≡ true → count ≤ 65536
count_small s bb count e R = (within-limits s count (roll-there s count (ap is_roll (sym e) ∙ R)).0).1

-- ---- the answer, by the code's tests: bb are the roll's bytes, n is its record count

module _ (s bb : List ℕ) (count x n : ℕ) (e : bb ≡ roll_bytes s count) where
  pub not_7 : is_roll bb ≡ false → Err NotARoll ≡ judged_retire s count x
  not_7 h = says_7 s count x (ap is_roll (sym e) ∙ h)

  module _ (R : is_roll bb ≡ true) (N : n ≡ count_of bb) where
    is_roll₀ : is_roll (roll_bytes s count) ≡ true
    is_roll₀ = ap is_roll (sym e) ∙ R

    law_is : lawful (entries_of bb) ≡ lawful_to (record_of bb) n
    law_is = entries-lawful bb ∙ ap (lawful_to (record_of bb)) (sym N)

    law₀ : lawful (entries_of (roll_bytes s count)) ≡ lawful_to (record_of bb) n
    law₀ = ap (λ l. lawful (entries_of l)) (sym e) ∙ law_is

    register₀ : register_of (entries_of (roll_bytes s count)) ≡ register_after (record_of bb) n
    register₀ = ap (λ l. register_of (entries_of l)) (sym e) ∙ entries_register bb ∙ ap (register_after (record_of bb)) (sym N)

    pub not_9 : lawful_to (record_of bb) n ≡ false → Err NotLawful ≡ judged_retire s count x
    not_9 h = says_9 s count x is_roll₀ (law₀ ∙ h)

    module _ (L : lawful_to (record_of bb) n ≡ true) {d t : Bool} {y : ℕ} (F : Notes (register_after (record_of bb) n) x d t y) where
      known₀ : (register_of (entries_of (roll_bytes s count))).delivered x ≡ d
      known₀ = ap (λ (g : Register). g.delivered x) register₀ ∙ sym F.delivers

      pub not_11 : d ≡ false → Err UnknownSet ≡ judged_retire s count x
      not_11 h = says_11 s count x is_roll₀ (law₀ ∙ L) (known₀ ∙ h)

      module _ (K : d ≡ true) {last : ℕ} (E : last ≡ carried (record_of bb) n x) where
        abbrev found : List ℕ
        found = gathered_to (waits_at (record_of bb) n last) (record_of bb) n

        found_is : found ≡ to_retire (entries_of (roll_bytes s count)) x
        found_is =
            ap₂ (λ k l. gathered_to (waits_at (record_of bb) k l) (record_of bb) k) N (E ∙ ap (λ k. carried (record_of bb) k x) N)
            ∙ sym (to_retire_is bb R (law_is ∙ L) x) ∙ ap (λ l. to_retire (entries_of l) x) e

        pub the_list : {zs : List ℕ} → zs ≡ found → zs ≡ to_retire (entries_of (roll_bytes s count)) x
        the_list G = G ∙ found_is

        count₀ : count_of (roll_bytes s count) ≡ n
        count₀ = ap count_of (sym e) ∙ sym N

        module _ {m : ℕ} (M : length found ≡ m) where
          many₀ : length (to_retire (entries_of (roll_bytes s count)) x) ≡ m
          many₀ = ap length (sym found_is) ∙ M

          pub not_8 : (1000 < n + m) ⊎ ((65536 < count + 14 * m) ⊎ (length s < count + 14 * m)) → Err NoRoom ≡ judged_retire s count x
          not_8 h = says_8 s count x is_roll₀ (law₀ ∙ L) (known₀ ∙ K) m many₀ (subst (λ k. (1000 < k + m) ⊎ ((65536 < count + 14 * m) ⊎ (length s < count + 14 * m))) (sym count₀) h)

          pub may_add : n + m ≤ 1000 → count + 14 * m ≤ 65536 → count + 14 * m ≤ length s → Ok m ≡ judged_retire s count x
          may_add h g l = says_add s count x is_roll₀ (law₀ ∙ L) (known₀ ∙ K) m many₀ (subst (λ k. k + m ≤ 1000) (sym count₀) h) g l

-- ---- the call

or_false : (a c : Bool) → (a || c) ≡ false → (a ≡ false) × (c ≡ false)
or_false true c e = absurd (true≢false e)
or_false false c e = (refl, e)

-- what is added is inside the limits
pub add-limits : (s : List ℕ) (count x : ℕ) {m : ℕ} {j : Result ℕ Refusal} → j ≡ judged_retire s count x → j ≡ Ok m → (m ≤ 1000) × (count + 14 * m ≤ 65536)
unfolding passes
add-limits s count x {m} p q =
    let P = add_says s count x m (sym p ∙ q) in
    let k = length (entries_of (roll_bytes s count)) + m in
    let w = count + 14 * m in
    let a = or_false (ltb 1000 k) (ltb 65536 w || ltb (length s) w) P.room in
    let l1 = ltb-false 1000 k a.0 in
    let l2 = ltb-false 65536 w (or_false (ltb 65536 w) (ltb (length s) w) a.1).0 in
    (omega (arith, l1), l2)

pub retire_add : (s : List ℕ) (count x : ℕ) {m : ℕ} {j : Result ℕ Refusal} {l z : List ℕ} → j ≡ judged_retire s count x → j ≡ Ok m → l ≡ to_retire (entries_of (roll_bytes s count)) x → z ≡ add_all s count l
    → ◌≡◌ {A = Result ℕ Refusal × List ℕ} (Ok (count + 14 * m), z) (retire_all s count x)
unfolding retire_all
retire_add s count x {m} p q h k =
    ap (λ (y : List ℕ). (Ok (count + 14 * m), y)) (k ∙ ap (add_all s count) h) ∙ ap (λ (i : Result ℕ Refusal). retire_after i s count (to_retire (entries_of (roll_bytes s count)) x)) (sym q ∙ p)

pub retire_not : (s : List ℕ) (count x : ℕ) {r : Refusal} {j : Result ℕ Refusal} → j ≡ judged_retire s count x → j ≡ Err r → ◌≡◌ {A = Result ℕ Refusal × List ℕ} (Err r, s) (retire_all s count x)
unfolding retire_all
retire_not s count x p q = ap (λ (i : Result ℕ Refusal). retire_after i s count (to_retire (entries_of (roll_bytes s count)) x)) (sym q ∙ p)
