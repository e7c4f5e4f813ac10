-- Closed rows by few tests: the generators keep the representatives' rows together and commute with one another's shifts from the right.
-- Then one row after another is a row, and closed rows pass the tests.
-- Assumes nothing.
use mathlib.Core.Path.{◌≡◌, refl, sym, ap, ◌∙◌}
use mathlib.Core.List.{List}
use mathlib.Core.Logic.{◌⊎◌, inl, inr}
use Prim.Native.Nat.{ℕ, ◌+◌, ◌*◌, ◌-◌, ◌≤◌, ◌<◌}
use native.Mathlib.Omega.{arith}
use lib.IntN.{ℤ}
use lib.ListN.{length, get_or, set, replicate, length-set, length-replicate, get_or-replicate, get_or-eq_default}
use lib.Seq.{get_or-set_other, get_or-set_same}
use Rattle.lists.specs.Cases.{lt_or_le, eq_or_ne}
use Rattle.lists.specs.Digits.{in_row}
use Rattle.tables.specs.Conditions.{index_at, Readable, read}
use Rattle.shifts.specs.Rows.{Rows, image, Composed, Closed, Sent}
use Rattle.shifts.specs.Loops.{Marked, Made, shift_none, generator, shift-after, Known, More, KeepsAt, right_of, Commutes, Settled}

pub image-below : {n m : ℕ} {perms : List ℤ} → Rows n m perms → (t a : ℕ) → t < m → a < n → image perms n t a < n
image-below {n} {m} R t a ht ha = (read R.table _ (in_row m n t a ht ha)).1

pub image-read : {n m : ℕ} {perms : List ℤ} → Rows n m perms → (t a : ℕ) → t < m → a < n → Readable perms (t * n + a)
image-read {n} {m} R t a ht ha = (read R.table _ (in_row m n t a ht ha)).0

-- every atom has its row
pub sent_pos : {n m nP : ℕ} {perms p2s s2pp : List ℤ} {sent : List ℕ} → Sent n m nP perms p2s s2pp sent → (a : ℕ) → a < n → 0 < get_or sent a 0
sent_pos Z a ha = let (t, ht, e, f) = Z.named a ha in omega arith

pub sender_below : {n m nP : ℕ} {perms p2s s2pp : List ℤ} {sent : List ℕ} → Sent n m nP perms p2s s2pp sent → (a : ℕ) → a < n → get_or sent a 0 - 1 < m
sender_below Z a ha = let (t, ht, e, f) = Z.named a ha in omega arith

-- a shift from the right stays within the atoms
pub right-below : {n m nP : ℕ} {perms p2s s2pp : List ℤ} {sent : List ℕ} → Sent n m nP perms p2s s2pp sent → (s : ℕ) → s < m → (a : ℕ) → a < n → right_of perms n p2s s2pp sent s a < n
right-below {m = m} {sent = sent} Z s hs a ha =
    let (t, ht, e, f) = Z.named a ha in
    let q : get_or sent a 0 - 1 < m = omega arith in
    image-below Z.rows _ _ q (image-below Z.rows s _ hs (read Z.reps _ (read Z.orbs a ha).1).1)

pub commutes-same : {n m : ℕ} {perms : List ℤ} → Rows n m perms → (h k : ℕ → ℕ) → ((a : ℕ) → a < n → h a ≡ k a) → (g : ℕ) → g < m → Commutes n perms g h → Commutes n perms g k
commutes-same {n} {m} {perms} R h k e g hg C a ha =
    ap (image perms n g) (sym (e a ha)) ∙ C a ha ∙ e (image perms n g a) (image-below R g a hg ha)

pub get_or-zeros : (n x : ℕ) → ◌≡◌ {A = ℕ} (get_or (replicate n 0) x 0) 0
get_or-zeros n x = go (lt_or_le x n)
  where
    go : (x < n) ⊎ (n ≤ x) → ◌≡◌ {A = ℕ} (get_or (replicate n 0) x 0) 0
    go (inl h) = get_or-replicate {A = ℕ} n x 0 0 h
    go (inr h) = get_or-eq_default {A = ℕ} (replicate n 0) 0 (rw (length-replicate {A = ℕ} n 0) h)

pub gens_more : (gens : List ℕ) (u : ℕ) → u < 1024 → length gens ≡ 1024 → More gens (set gens u 1) × (get_or (set gens u 1) u 0 ≡ 0 → ⊥)
gens_more gens u h size = (λ k p. at k p (eq_or_ne k u), is)
  where
    is : get_or (set gens u 1) u 0 ≡ 0 → ⊥
    is z = let e : get_or (set gens u 1) u 0 ≡ 1 = get_or-set_same gens u 1 0 (rw size h) in omega arith

    at : (k : ℕ) → (get_or gens k 0 ≡ 0 → ⊥) → (k ≡ u) ⊎ (k ≡ u → ⊥) → get_or (set gens u 1) k 0 ≡ 0 → ⊥
    at k p (inl e) z = is (ap (λ x. get_or (set gens u 1) x 0) (sym e) ∙ z)
    at k p (inr e) z = p (sym (get_or-set_other gens u k 1 0 e) ∙ z)

-- ---- making rows

module _ (n m : ℕ) (perms : List ℤ) (gens : List ℕ) where
  pub made_more : (gens' : List ℕ) → More gens gens' → {u : ℕ} → Made n m perms gens u → Made n m perms gens' u
  made_more gens' h (shift_none e) = shift_none e
  made_more gens' h (generator {u} p) = generator (h u p)
  made_more gens' h (shift-after hr hg r g e) = shift-after hr hg (made_more gens' h r) (made_more gens' h g) e

  pub known_more : (gens' known : List ℕ) → More gens gens' → Known n m perms gens known → Known n m perms gens' known
  known_more gens' known h K =
      record {
        size = K.size;
        made = λ v hv p. made_more gens' h (K.made v hv p);
        next = λ v x hv hx e. made_more gens' h (K.next v x hv hx e);
      }

  -- row v is put after row r in the list
  module _ (known : List ℕ) (r v : ℕ) (R : Rows n m perms) (hr : r < m) (hv : v < m) (K : Known n m perms gens known) (mr : Made n m perms gens r) (mv : Made n m perms gens v) where
    entry_of : (w : ℕ) → (w ≡ r) ⊎ (w ≡ r → ⊥) → (w ≡ v) ⊎ (w ≡ v → ⊥)
        → ((w ≡ r) × (get_or (set (set known v (get_or known r 0)) r (v + 1)) w 0 ≡ v + 1))
        ⊎ (((w ≡ v) × (get_or (set (set known v (get_or known r 0)) r (v + 1)) w 0 ≡ get_or known r 0)) ⊎ (get_or (set (set known v (get_or known r 0)) r (v + 1)) w 0 ≡ get_or known w 0))
    entry_of w (inl e) d =
        inl (
          e,
          ap (λ k. get_or (set (set known v (get_or known r 0)) r (v + 1)) k 0) e
              ∙ get_or-set_same (set known v (get_or known r 0)) r (v + 1) 0 (omega (arith, length-set known v (get_or known r 0), K.size, R.shifts)),
        )
    entry_of w (inr e) (inl d) =
        inr (inl (
          d,
          get_or-set_other (set known v (get_or known r 0)) r w (v + 1) 0 e ∙ ap (λ k. get_or (set known v (get_or known r 0)) k 0) d
              ∙ get_or-set_same known v (get_or known r 0) 0 (omega (arith, K.size, R.shifts)),
        ))
    entry_of w (inr e) (inr d) = inr (inr (get_or-set_other (set known v (get_or known r 0)) r w (v + 1) 0 e ∙ get_or-set_other known v w (get_or known r 0) 0 d))

    pub known-linked : Known n m perms gens (set (set known v (get_or known r 0)) r (v + 1))
    known-linked =
        record {
          size = length-set (set known v (get_or known r 0)) r (v + 1) ∙ length-set known v (get_or known r 0) ∙ K.size;
          made = λ w hw p. is_made w hw p (entry_of w (eq_or_ne w r) (eq_or_ne w v));
          next = λ w x hw hx q. is_next w x hw hx q (entry_of w (eq_or_ne w r) (eq_or_ne w v));
        }
      where
        is_made : (w : ℕ) → w < m → (get_or (set (set known v (get_or known r 0)) r (v + 1)) w 0 ≡ 0 → ⊥)
            → ((w ≡ r) × (get_or (set (set known v (get_or known r 0)) r (v + 1)) w 0 ≡ v + 1))
            ⊎ (((w ≡ v) × (get_or (set (set known v (get_or known r 0)) r (v + 1)) w 0 ≡ get_or known r 0)) ⊎ (get_or (set (set known v (get_or known r 0)) r (v + 1)) w 0 ≡ get_or known w 0))
            → Made n m perms gens w
        is_made w hw p (inl e) = rw e.0 mr
        is_made w hw p (inr (inl e)) = rw e.0 mv
        is_made w hw p (inr (inr e)) = K.made w hw (λ z. p (e ∙ z))

        is_next : (w x : ℕ) → w < m → x < m → get_or (set (set known v (get_or known r 0)) r (v + 1)) w 0 ≡ x + 1
            → ((w ≡ r) × (get_or (set (set known v (get_or known r 0)) r (v + 1)) w 0 ≡ v + 1))
            ⊎ (((w ≡ v) × (get_or (set (set known v (get_or known r 0)) r (v + 1)) w 0 ≡ get_or known r 0)) ⊎ (get_or (set (set known v (get_or known r 0)) r (v + 1)) w 0 ≡ get_or known w 0))
            → Made n m perms gens x
        is_next w x hw hx q (inl e) = let f = e.1 in let same : x ≡ v = omega arith in rw same mv
        is_next w x hw hx q (inr (inl e)) = K.next r x hr hx (sym e.1 ∙ q)
        is_next w x hw hx q (inr (inr e)) = K.next w x hw hx (sym e ∙ q)

  -- what commutes with the generators commutes with every row made of them
  pub made-commutes : Rows n m perms → (h : ℕ → ℕ) → ((a : ℕ) → a < n → h a < n)
      → ((g : ℕ) → g < m → (get_or gens g 0 ≡ 0 → ⊥) → Commutes n perms g h)
      → {u : ℕ} → u < m → Made n m perms gens u → Commutes n perms u h
  made-commutes R h hb hc hu (shift_none e) a ha = e (h a) (hb a ha) ∙ ap h (sym (e a ha))
  made-commutes R h hb hc hu (generator {u} p) a ha = hc u hu p a ha
  made-commutes R h hb hc hu (shift-after {r} {g} {v} hr hg mr mg e) a ha =
      sym (e (h a) (hb a ha)) ∙ ap (image perms n g) (made-commutes R h hb hc hr mr a ha)
      ∙ made-commutes R h hb hc hg mg (image perms n r a) (image-below R r a hr ha) ∙ ap h (e a ha)

-- ---- the tests are enough

module _ (n m nP : ℕ) (perms p2s s2pp : List ℤ) (sent gens : List ℕ) (Z : Sent n m nP perms p2s s2pp sent) where
  -- row u after row t agrees with a row at the representatives
  Agrees : ℕ → Type 0
  Agrees u = (t : ℕ) → t < m → (v : ℕ) × (v < m) × ((p : ℕ) → p < nP → image perms n u (image perms n t (index_at p2s p)) ≡ image perms n v (index_at p2s p))

  -- a map that commutes with the generators and agrees with row u at the representatives
  record Right (u : ℕ) : Type 0 where
    map : ℕ → ℕ
    stays : (a : ℕ) → a < n → map a < n
    at : (p : ℕ) → p < nP → map (index_at p2s p) ≡ image perms n u (index_at p2s p)
    commutes : (g : ℕ) → g < m → (get_or gens g 0 ≡ 0 → ⊥) → Commutes n perms g map

  rep-below : (p : ℕ) → p < nP → index_at p2s p < n
  rep-below p hp = (read Z.reps p hp).1

  orb_below : (a : ℕ) → a < n → index_at s2pp a < nP
  orb_below a ha = (read Z.orbs a ha).1

  keeps-agrees : (g : ℕ) → g < m → ((a : ℕ) → a < n → KeepsAt n perms p2s s2pp sent g a) → Agrees g
  unfolding Agrees
  keeps-agrees g hg K t ht =
      let b = image perms n t (index_at p2s 0) in
      let hb = image-below Z.rows t (index_at p2s 0) ht (rep-below 0 Z.rep) in
      let (v, hv, e, f) = Z.named (image perms n g b) (image-below Z.rows g b hg hb) in (
        v,
        hv,
        λ p hp.
            let a = image perms n t (index_at p2s p) in
            let ha = image-below Z.rows t (index_at p2s p) ht (rep-below p hp) in
            let (w, hw, i, j) = Z.named (image perms n g a) (image-below Z.rows g a hg ha) in
            let s : get_or sent a 0 - 1 ≡ t = omega (arith, Z.names p t hp ht) in
            let q : get_or sent (image perms n g a) 0 ≡ get_or sent (image perms n g b) 0 =
            (K a ha).1 ∙ ap (λ x. get_or sent (image perms n g (image perms n x (index_at p2s 0))) 0) s in
            let same : w ≡ v = omega arith in
            let orb : index_at s2pp (image perms n g a) ≡ p = (K a ha).0 ∙ Z.kept p t hp ht in
            sym i ∙ ap (λ x. image perms n x (index_at p2s (index_at s2pp (image perms n g a)))) same ∙ ap (λ x. image perms n v (index_at p2s x)) orb,
      )

  made-agrees : ((g : ℕ) → g < m → (get_or gens g 0 ≡ 0 → ⊥) → Agrees g) → {u : ℕ} → u < m → Made n m perms gens u → Agrees u
  unfolding Agrees
  made-agrees h hu (shift_none e) t ht = (t, ht, λ p hp. e _ (image-below Z.rows t (index_at p2s p) ht (rep-below p hp)))
  made-agrees h hu (generator {u} p) t ht = h u hu p t ht
  made-agrees h hu (shift-after {r} {g} {v} hr hg mr mg e) t ht =
      let (w, hw, i) = made-agrees h hr mr t ht in
      let (x, hx, j) = made-agrees h hg mg w hw in (
        x,
        hx,
        λ p hp.
            sym (e _ (image-below Z.rows t (index_at p2s p) ht (rep-below p hp))) ∙ ap (image perms n g) (i p hp) ∙ j p hp,
      )

  right_of_lem : (s : ℕ) → s < m → ((g : ℕ) → g < m → (get_or gens g 0 ≡ 0 → ⊥) → Commutes n perms g (right_of perms n p2s s2pp sent s)) → Right s
  right_of_lem s hs C =
      record {
        map = right_of perms n p2s s2pp sent s;
        stays = right-below Z s hs;
        at = λ p hp.
            let (z, hz, e) = Z.null in
            let r = index_at p2s p in
            let i : image perms n z r ≡ r = e r (rep-below p hp) in
            let k : index_at s2pp r ≡ p = ap (index_at s2pp) (sym i) ∙ Z.kept p z hp hz in
            let f : get_or sent r 0 ≡ z + 1 = ap (λ x. get_or sent x 0) (sym i) ∙ Z.names p z hp hz in
            let j : get_or sent r 0 - 1 ≡ z = omega arith in
            ap (λ x. image perms n x (image perms n s (index_at p2s (index_at s2pp r)))) j
            ∙ ap (λ x. image perms n z (image perms n s (index_at p2s x))) k
            ∙ e _ (image-below Z.rows s r hs (rep-below p hp));
        commutes = C;
      }

  made-right : ((s : ℕ) → s < m → (get_or gens s 0 ≡ 0 → ⊥) → Right s) → {u : ℕ} → u < m → Made n m perms gens u → Right u
  made-right h hu (shift_none e) =
      record { map = λ a. a; stays = λ a ha. ha; at = λ p hp. sym (e _ (rep-below p hp)); commutes = λ g hg p a ha. refl }
  made-right h hu (generator {u} p) = h u hu p
  made-right h hu (shift-after {r} {g} {v} hr hg mr mg e) =
      let A = made-right h hr mr in
      let B = made-right h hg mg in
      record {
        map = λ a. A.map (B.map a);
        stays = λ a ha. A.stays (B.map a) (B.stays a ha);
        at = λ p hp.
            ap A.map (B.at p hp)
            ∙ sym (made-commutes n m perms gens Z.rows A.map A.stays A.commutes hg mg (index_at p2s p) (rep-below p hp))
            ∙ ap (image perms n g) (A.at p hp) ∙ e _ (rep-below p hp);
        commutes = λ k hk p a ha. A.commutes k hk p (B.map a) (B.stays a ha) ∙ ap A.map (B.commutes k hk p a ha);
      }

  pub all_closed : ((u : ℕ) → u < m → Made n m perms gens u)
      → ((s : ℕ) → s < m → (get_or gens s 0 ≡ 0 → ⊥) → Settled n m perms p2s s2pp sent gens s)
      → Closed n m perms
  unfolding Agrees
  all_closed M T t u ht hu =
      let (v, hv, e) = made-agrees (λ g hg p. keeps-agrees g hg (T g hg p).0) hu (M u hu) t ht in (
        v,
        hv,
        λ a ha.
            let (k, hk, i, _) = Z.named a ha in
            let p = index_at s2pp a in
            let hp = orb_below a ha in
            let r = index_at p2s p in
            let hr = rep-below p hp in
            let R = made-right (λ s hs q. right_of_lem s hs (T s hs q).1) hk (M k hk) in
            let c : (w : ℕ) → w < m → Commutes n perms w R.map = λ w hw. made-commutes n m perms gens Z.rows R.map R.stays R.commutes hw (M w hw) in
            let at : R.map r ≡ a = R.at p hp ∙ i in
            ap (λ x. image perms n u (image perms n t x)) (sym at)
            ∙ ap (image perms n u) (c t ht r hr)
            ∙ c u hu (image perms n t r) (image-below Z.rows t r ht hr)
            ∙ ap R.map (e p hp)
            ∙ sym (c v hv r hr)
            ∙ ap (image perms n v) at,
      )

-- ---- closed rows pass the tests

module _ (n m : ℕ) (perms : List ℤ) (base : ℕ) (sent : List ℕ) (M : Marked n m perms base sent) (C : Closed n m perms) where
  pub mark_composed : (t u v : ℕ) → t < m → u < m → get_or sent (image perms n u (image perms n t base)) 0 ≡ v + 1 → Composed n perms t u v
  mark_composed t u v ht hu e =
      let (w, hw, q) = C t u ht hu in
      let z : get_or sent (image perms n u (image perms n t base)) 0 ≡ w + 1 = ap (λ x. get_or sent x 0) (q base M.below) ∙ M.names w hw in
      let same : w ≡ v = omega arith in
      λ a ha. q a ha ∙ ap (λ x. image perms n x a) same

module _ (n m nP : ℕ) (perms p2s s2pp : List ℤ) (sent : List ℕ) (Z : Sent n m nP perms p2s s2pp sent) (C : Closed n m perms) where
  module _ (g : ℕ) (hg : g < m) (a : ℕ) (ha : a < n) where
    -- atom a is what row t makes of a representative, and row g makes of it what row v does
    pub settles : (t : ℕ) × (t < m) × (get_or sent a 0 - 1 ≡ t) × (v : ℕ) × (v < m) × Composed n perms t g v
        × (image perms n g a ≡ image perms n v (index_at p2s (index_at s2pp a)))
    settles =
        let (t, ht, e, f) = Z.named a ha in
        let (v, hv, q) = C t g ht hg in
        let s : get_or sent a 0 - 1 ≡ t = omega arith in
        let r = index_at p2s (index_at s2pp a) in
        let hr = (read Z.reps _ (read Z.orbs a ha).1).1 in
        (t, ht, s, v, hv, q, ap (image perms n g) (sym e) ∙ q r hr)

    pub closed-keeps : KeepsAt n perms p2s s2pp sent g a
    closed-keeps =
        let (t, ht, s, v, hv, q, e) = settles in
        let hp = (read Z.orbs a ha).1 in
        let i : image perms n g (image perms n (get_or sent a 0 - 1) (index_at p2s 0)) ≡ image perms n v (index_at p2s 0) =
        ap (λ x. image perms n g (image perms n x (index_at p2s 0))) s ∙ q _ (read Z.reps 0 Z.rep).1 in (
          ap (index_at s2pp) e ∙ Z.kept _ v hp hv,
          ap (λ x. get_or sent x 0) e ∙ Z.names _ v hp hv ∙ sym (ap (λ x. get_or sent x 0) i ∙ Z.names 0 v Z.rep hv),
        )

    pub closed-commutes : (s : ℕ) → s < m → image perms n g (right_of perms n p2s s2pp sent s a) ≡ right_of perms n p2s s2pp sent s (image perms n g a)
    closed-commutes s hs =
        let (t, ht, i, v, hv, q, e) = settles in
        let p = index_at s2pp a in
        let hp = (read Z.orbs a ha).1 in
        let r = index_at p2s p in
        let b = image perms n s r in
        let hb = image-below Z.rows s r hs (read Z.reps p hp).1 in
        let o : index_at s2pp (image perms n g a) ≡ p = ap (index_at s2pp) e ∙ Z.kept p v hp hv in
        let f : get_or sent (image perms n g a) 0 ≡ v + 1 = ap (λ x. get_or sent x 0) e ∙ Z.names p v hp hv in
        let j : get_or sent (image perms n g a) 0 - 1 ≡ v = omega arith in
        ap (λ x. image perms n g (image perms n x b)) i ∙ q b hb
        ∙ sym (ap (λ x. image perms n x (image perms n s (index_at p2s (index_at s2pp (image perms n g a))))) j ∙ ap (λ x. image perms n v (image perms n s (index_at p2s x))) o)

-- the list of the null shift alone
pub known_start : (n m : ℕ) (perms : List ℤ) (gens : List ℕ) (z : ℕ) → z < 1024 → Made n m perms gens z → Known n m perms gens (set (replicate 1024 0) z (m + 1))
known_start n m perms gens z hz mz =
    record {
      size = length-set (replicate 1024 0) z (m + 1) ∙ length-replicate {A = ℕ} 1024 0;
      made = λ w hw p. is_made w p (eq_or_ne w z);
      next = λ w x hw hx q. is_next w x hx q (eq_or_ne w z);
    }
  where
    is_made : (w : ℕ) → (get_or (set (replicate 1024 0) z (m + 1)) w 0 ≡ 0 → ⊥) → (w ≡ z) ⊎ (w ≡ z → ⊥) → Made n m perms gens w
    is_made w p (inl e) = rw e mz
    is_made w p (inr e) = absurd (p (get_or-set_other (replicate 1024 0) z w (m + 1) 0 e ∙ get_or-zeros 1024 w))

    is_next : (w x : ℕ) → x < m → get_or (set (replicate 1024 0) z (m + 1)) w 0 ≡ x + 1 → (w ≡ z) ⊎ (w ≡ z → ⊥) → Made n m perms gens x
    is_next w x hx q (inl e) =
        let f : get_or (set (replicate 1024 0) z (m + 1)) w 0 ≡ m + 1 =
        ap (λ k. get_or (set (replicate 1024 0) z (m + 1)) k 0) e ∙ get_or-set_same (replicate 1024 0) z (m + 1) 0 (rw (length-replicate {A = ℕ} 1024 0) hz) in
        absurd (omega arith)
    is_next w x hx q (inr e) =
        let f : get_or (set (replicate 1024 0) z (m + 1)) w 0 ≡ 0 = get_or-set_other (replicate 1024 0) z w (m + 1) 0 e ∙ get_or-zeros 1024 w in
        absurd (omega arith)

module _ (n m nP : ℕ) (perms p2s s2pp : List ℤ) (sent : List ℕ) (Z : Sent n m nP perms p2s s2pp sent) where
  pub closed-settled : Closed n m perms → (gens : List ℕ) (s : ℕ) → s < m → Settled n m perms p2s s2pp sent gens s
  closed-settled C gens s hs =
      (λ a ha. closed-keeps n m nP perms p2s s2pp sent Z C s hs a ha, λ g hg z a ha. closed-commutes n m nP perms p2s s2pp sent Z C g hg a ha s hs)

  module _ (base : ℕ) (e : base ≡ index_at p2s 0) where
    -- the first representative
    pub base_marked : Marked n m perms base sent
    base_marked =
        record {
          rows = Z.rows;
          below = rw e (read Z.reps 0 Z.rep).1;
          names = λ t ht. rw e (Z.names 0 t Z.rep ht);
          named = λ a ha. let (t, ht, i, f) = Z.named a ha in (omega arith, omega arith);
        }

    -- its own row is the null shift
    pub base_null : (get_or sent base 0 - 1 < m) × (0 < get_or sent base 0) × ((gens : List ℕ) → Made n m perms gens (get_or sent base 0 - 1))
    base_null =
        let (z, hz, i) = Z.null in
        let M = base_marked in
        let f : get_or sent base 0 ≡ z + 1 = ap (λ x. get_or sent x 0) (sym (i base M.below)) ∙ M.names z hz in
        let q : get_or sent base 0 - 1 ≡ z = omega arith in
        (omega arith, omega arith, λ gens. rw q (shift_none i))
