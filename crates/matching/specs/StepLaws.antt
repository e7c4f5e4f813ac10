-- The steps of the search: each branch of the code as a law. Assumes nothing.
use Rattle.std.specs.Prelude.{◌≡◌, ◌⊎◌, Bool, true, not, ◌&&◌, List, ℕ, suc, ◌+◌, ◌-◌, ◌≤◌, ◌<◌, eqb, ℤ, pos, negsuc, get_or, set}
use Rattle.std.proofs.Math.Path.{refl}
use Rattle.std.proofs.Common.{sym, ap, ◌∙◌, subst, inl, inr, true≢false, arith, length-set, ext_get_or, get_or-set_same, get_or-set_other}
use Rattle.std.proofs.Math.Bool.{false}
use Rattle.std.proofs.lemmas.Bool.{false≢true}
use borrow.Author.Tests.{eq-eqb, not-true, not-false}
use Rattle.lists.specs.Cases.{lt_or_le, eq_or_ne}
use Rattle.lists.specs.Tests.{split, not-both, and_fst, and_snd}
use Rattle.tables.specs.Conditions.{nat, index_at}
use Rattle.matching.specs.Matching.{is_filled}
use Rattle.matching.specs.Slots.{slot_at}
use Rattle.matching.specs.Bijection.{Taken}
use Rattle.matching.specs.Counts.{count_mono, count-without, without, without_other, count_same}
use Rattle.matching.specs.Groups.{Held, Partial, marked, Marks, HeldMarked, Closed, held_below}
use Rattle.matching.specs.Chains.{unmarked, is_open, Ready, Trying, Found, Grows, Settled, Stuck, Searched, Tried, Looked}

same-position : {i k : ℕ} → pos i ≡ pos k → i ≡ k
same-position e = cc

free-or-held : {k i : ℕ} → negsuc k ≡ pos i → ⊥
free-or-held e = let z : ◌≡◌ {A = ℕ} 0 1 = cc in omega arith

-- ---- what is read from a slot

pub filled_pos : (slots : List ℤ) (j : ℕ) → is_filled (slot_at slots j) ≡ true → slot_at slots j ≡ pos (index_at slots j)
unfolding index_at
filled_pos slots j e = go (slot_at slots j) e
  where
    go : (z : ℤ) → is_filled z ≡ true → z ≡ pos (nat z)
    go (pos k) e = refl
    go (negsuc k) e = absurd (false≢true e)

pub free_neg : (is_near : ℕ → ℕ → Bool) (n : ℕ) (slots : List ℤ) → Partial is_near n slots → (j : ℕ) → j < n → is_filled (slot_at slots j) ≡ false → slot_at slots j ≡ negsuc 0
free_neg is_near n slots P j h e = go (P.each j h)
  where
    go : (slot_at slots j ≡ negsuc 0) ⊎ Taken is_near n slots j → slot_at slots j ≡ negsuc 0
    go (inl f) = f
    go (inr (i, l, f, c)) = absurd (not-both (ap is_filled f) e)

-- ---- marks

module _ (n : ℕ) (marks : List ℕ) (M : Marks n marks) (i : ℕ) (h : i < n) where
  abbrev pub met : List ℕ
  met = set marks i 1

  at_it : get_or met i 0 ≡ 1
  at_it = get_or-set_same marks i 1 0 (omega (arith, M.len))

  at_other : (k : ℕ) → (k ≡ i → ⊥) → get_or met k 0 ≡ get_or marks k 0
  at_other k d = get_or-set_other marks i k 1 0 d

  pub met-marks : Marks n met
  met-marks = record { len = length-set marks i 1 ∙ M.len; bits = λ k. go k (eq_or_ne k i) }
    where
      go : (k : ℕ) → (k ≡ i) ⊎ (k ≡ i → ⊥) → get_or met k 0 ≤ 1
      go k (inl e) = let q : get_or met k 0 ≡ 1 = ap (λ k. get_or met k 0) e ∙ at_it in omega arith
      go k (inr d) = rw (at_other k d) (M.bits k)

  pub met_it : marked met i ≡ true
  met_it = ap (λ x. eqb x 1) at_it

  pub met-other : (k : ℕ) → (k ≡ i → ⊥) → marked met k ≡ marked marks k
  met-other k d = ap (λ x. eqb x 1) (at_other k d)

  pub met-grows : Grows marks met
  met-grows k e = go (eq_or_ne k i)
    where
      go : (k ≡ i) ⊎ (k ≡ i → ⊥) → marked met k ≡ true
      go (inl q) = ap (marked met) q ∙ met_it
      go (inr d) = met-other k d ∙ e

  -- one position fewer is left
  pub met-count : marked marks i ≡ false → suc (unmarked n met) ≡ unmarked n marks
  met-count e =
      sym (count-without n i (λ k. not (marked marks k)) h (ap not e)
      ∙ ap suc (count_same n (without i (λ k. not (marked marks k))) (λ k. not (marked met k)) (λ k l. go k (eq_or_ne k i))))
    where
      go : (k : ℕ) → (k ≡ i) ⊎ (k ≡ i → ⊥) → without i (λ k. not (marked marks k)) k ≡ not (marked met k)
      go k (inl q) = rw (q, eq-eqb i i refl, met_it) (last (not (marked marks i)))
        where
          last : (b : Bool) → (b && false) ≡ false
          last true = refl
          last false = refl
      go k (inr d) = without_other i (λ k. not (marked marks k)) k d ∙ ap not (sym (met-other k d))

pub fewer-unmarked : (n : ℕ) (a b : List ℕ) → Grows a b → unmarked n b ≤ unmarked n a
fewer-unmarked n a b g = count_mono n (λ k. not (marked b k)) (λ k. not (marked a k)) (λ k l e. go k e (split (marked a k)))
  where
    go : (k : ℕ) → not (marked b k) ≡ true → (marked a k ≡ true) ⊎ (marked a k ≡ false) → not (marked a k) ≡ true
    go k e (inl p) = absurd (not-both (g k p) (not-true (marked b k) e))
    go k e (inr p) = ap not p

held-grows : (slots : List ℤ) (a b : List ℕ) (j : ℕ) → Grows a b → HeldMarked slots a j → HeldMarked slots b j
held-grows slots a b j g (k, e, m) = (k, e, g k m)

-- ---- one slot changes hands

module _ (is_near : ℕ → ℕ → Bool) (n : ℕ) (slots : List ℤ) (P : Partial is_near n slots) (i j : ℕ) (hi : i < n) (hj : j < n) (out : Held n slots i → ⊥) (close : is_near i j ≡ true) where
  abbrev pub given : List ℤ
  given = set slots j (pos i)

  given-at : slot_at given j ≡ pos i
  given-at = get_or-set_same slots j (pos i) (pos 0) (omega (arith, P.len))

  given-other : (k : ℕ) → (k ≡ j → ⊥) → slot_at given k ≡ slot_at slots k
  given-other k d = get_or-set_other slots j k (pos i) (pos 0) d

  pub given-partial : Partial is_near n given
  given-partial = record {
    len = length-set slots j (pos i) ∙ P.len;
    each = λ k h. each k h (eq_or_ne k j) (P.each k h);
    apart = λ k l p hk hl e f. apart k l p hk hl e f (eq_or_ne k j) (eq_or_ne l j);
  }
    where
      each : (k : ℕ) → k < n → (k ≡ j) ⊎ (k ≡ j → ⊥) → (slot_at slots k ≡ negsuc 0) ⊎ Taken is_near n slots k → (slot_at given k ≡ negsuc 0) ⊎ Taken is_near n given k
      each k h (inl q) t = inr (i, hi, ap (slot_at given) q ∙ given-at, ap (is_near i) q ∙ close)
      each k h (inr d) (inl e) = inl (given-other k d ∙ e)
      each k h (inr d) (inr (p, l, e, c)) = inr (p, l, given-other k d ∙ e, c)

      apart : (k l p : ℕ) → k < n → l < n → slot_at given k ≡ pos p → slot_at given l ≡ pos p → (k ≡ j) ⊎ (k ≡ j → ⊥) → (l ≡ j) ⊎ (l ≡ j → ⊥) → k ≡ l
      apart k l p hk hl e f (inl q) (inl r) = q ∙ sym r
      apart k l p hk hl e f (inl q) (inr d) = absurd (out (l, hl, sym (given-other l d) ∙ f ∙ sym e ∙ ap (slot_at given) q ∙ given-at))
      apart k l p hk hl e f (inr d) (inl r) = absurd (out (k, hk, sym (given-other k d) ∙ e ∙ sym f ∙ ap (slot_at given) r ∙ given-at))
      apart k l p hk hl e f (inr d) (inr b) = P.apart k l p hk hl (sym (given-other k d) ∙ e) (sym (given-other l b) ∙ f)

  pub given_holds : Held n given i
  given_holds = (j, hj, given-at)

  -- a position in another slot is there still
  pub given-keeps : (p : ℕ) → (slot_at slots j ≡ pos p → ⊥) → Held n slots p → Held n given p
  given-keeps p other (k, h, e) = go (eq_or_ne k j)
    where
      go : (k ≡ j) ⊎ (k ≡ j → ⊥) → Held n given p
      go (inl q) = absurd (other (ap (slot_at slots) (sym q) ∙ e))
      go (inr d) = (k, h, given-other k d ∙ e)

  -- the slot was free
  pub free-found : slot_at slots j ≡ negsuc 0 → Found is_near n i slots given
  free-found f = record { partial = given-partial; placed = given_holds; kept = λ p h. given-keeps p (λ e. free-or-held (sym f ∙ e)) h }

  -- it held k, which looks for another
  module _ (k : ℕ) (e : slot_at slots j ≡ pos k) where
    pub driven_out : (k ≡ i → ⊥) → Held n given k → ⊥
    driven_out d (l, h, f) = go (eq_or_ne l j)
      where
        go : (l ≡ j) ⊎ (l ≡ j → ⊥) → ⊥
        go (inl q) = d (same-position (sym f ∙ ap (slot_at given) q ∙ given-at))
        go (inr b) = b (P.apart l j k h hj (sym (given-other l b) ∙ f) e)

    pub chain-found : (new : List ℤ) → Found is_near n k given new → Found is_near n i slots new
    chain-found new F = record { partial = F.partial; placed = F.kept i given_holds; kept = λ p h. go p h (eq_or_ne p k) }
      where
        go : (p : ℕ) → Held n slots p → (p ≡ k) ⊎ (p ≡ k → ⊥) → Held n new p
        go p h (inl q) = subst (λ p. Held n new p) (sym q) F.placed
        go p h (inr d) = F.kept p (given-keeps p (λ f. d (same-position (sym f ∙ e))) h)

    -- given back, the slots are as they were
    pub given_back : set given j (pos k) ≡ slots
    given_back =
        ext_get_or (pos 0) (set given j (pos k)) slots (length-set given j (pos k) ∙ length-set slots j (pos i)) (λ l h. go l (eq_or_ne l j))
      where
        go : (l : ℕ) → (l ≡ j) ⊎ (l ≡ j → ⊥) → get_or (set given j (pos k)) l (pos 0) ≡ get_or slots l (pos 0)
        go l (inl q) = rw q (get_or-set_same given j (pos k) (pos 0) (rw (length-set slots j (pos i)) (omega (arith, P.len))) ∙ sym e)
        go l (inr d) = get_or-set_other given j l (pos k) (pos 0) d ∙ given-other l d

    -- what is held by a marked position in the meantime is so afterwards
    pub held_back_lem : (marks : List ℕ) → marked marks k ≡ true → (l : ℕ) → HeldMarked given marks l → HeldMarked slots marks l
    held_back_lem marks m l (p, f, a) = go (eq_or_ne l j)
      where
        go : (l ≡ j) ⊎ (l ≡ j → ⊥) → HeldMarked slots marks l
        go (inl q) = (k, ap (slot_at slots) q ∙ e, m)
        go (inr d) = (p, sym (given-other l d) ∙ f, a)

-- ---- the try of slot j

module _ (is_near : ℕ → ℕ → Bool) (n : ℕ) (slots : List ℤ) (marks : List ℕ) (i j left : ℕ) (T : Trying is_near n slots marks i j left) where
  nothing : Settled is_near n slots marks marks
  nothing p h m f = absurd (not-both m f)

  idle : Stuck is_near n slots slots marks marks
  idle = record { same = refl; settled = nothing }

  grown : Grows marks marks
  grown k m = m

  -- far from i
  pub tried-far : is_near i j ≡ false → Tried is_near n slots marks i j false slots marks
  tried-far f = record { marks_are = T.homeless.marks_are; grows = grown; found = λ e. absurd (false≢true e); stuck = λ e. idle; closed = λ e m. absurd (not-both m f) }

  -- free
  pub tried-free : is_near i j ≡ true → slot_at slots j ≡ negsuc 0 → Tried is_near n slots marks i j true (set slots j (pos i)) marks
  tried-free c f = record {
    marks_are = T.homeless.marks_are;
    grows = grown;
    found = λ e. free-found is_near n slots T.homeless.partial i j T.homeless.inside T.slot T.homeless.out c f;
    stuck = λ e. absurd (true≢false e);
    closed = λ e. absurd (true≢false e);
  }

  module _ (c : is_near i j ≡ true) (k : ℕ) (e : slot_at slots j ≡ pos k) where
    -- it holds a position that was met
    pub tried-met : marked marks k ≡ true → Tried is_near n slots marks i j false slots marks
    tried-met m = record { marks_are = T.homeless.marks_are; grows = grown; found = λ e. absurd (false≢true e); stuck = λ e. idle; closed = λ _ _. (k, e, m) }

    abbrev pub one_deeper : List ℤ
    one_deeper = set slots j (pos i)

    -- it holds k, which was not met: k looks for a slot, one position deeper
    pub deeper : marked marks k ≡ false → Ready is_near n one_deeper marks k (left - 1)
    deeper f =
        let H = T.homeless in
        let d : k ≡ i → ⊥ = λ q. not-both T.met (ap (marked marks) (sym q) ∙ f) in
        record {
          homeless = record {
            small = H.small;
            partial = given-partial is_near n slots H.partial i j H.inside T.slot H.out c;
            marks_are = H.marks_are;
            inside = (held_below is_near n slots H.partial j k T.slot e).0;
            out = driven_out is_near n slots H.partial i j H.inside T.slot H.out c k e d;
          };
          fresh = f;
          deep = let t = T.deep in omega arith;
        }

    pub tried-found : (new : List ℤ) (marks' : List ℕ) → Searched is_near n one_deeper marks k true new marks' → Tried is_near n slots marks i j true new marks'
    tried-found new marks' S = let H = T.homeless in record {
      marks_are = S.marks_are;
      grows = S.grows;
      found = λ _. chain-found is_near n slots H.partial i j H.inside T.slot H.out c k e new (S.found refl);
      stuck = λ e. absurd (true≢false e);
      closed = λ e. absurd (true≢false e);
    }

    pub tried-stuck : (new : List ℤ) (marks' : List ℕ) → Searched is_near n one_deeper marks k false new marks' → Tried is_near n slots marks i j false (set new j (pos k)) marks'
    tried-stuck new marks' S =
        let H = T.homeless in
        let K = S.stuck refl in
        let back = held_back_lem is_near n slots H.partial i j H.inside T.slot H.out c k e marks' S.met in
        record {
          marks_are = S.marks_are;
          grows = S.grows;
          found = λ e. absurd (false≢true e);
          stuck = λ _. record {
            same = ap (λ s. set s j (pos k)) K.same ∙ given_back is_near n slots H.partial i j H.inside T.slot H.out c k e;
            settled = λ p h m f l hl a. back l (K.settled p h m f l hl a);
          };
          closed = λ _ _. (k, e, S.met);
        }

  -- far, or held by a position that was met
  pub tried_shut : is_open is_near slots marks i j ≡ false → Tried is_near n slots marks i j false slots marks
  unfolding is_open
  tried_shut e = go (split (is_near i j)) (split (is_filled (slot_at slots j)))
    where
      go : (is_near i j ≡ true) ⊎ (is_near i j ≡ false) → (is_filled (slot_at slots j) ≡ true) ⊎ (is_filled (slot_at slots j) ≡ false)
          → Tried is_near n slots marks i j false slots marks
      go (inr f) b = tried-far f
      go (inl c) (inl f) = tried-met c (index_at slots j) (filled_pos slots j f) (not-false (marked marks (index_at slots j)) (rw (c, f) at e))
      go (inl c) (inr f) = absurd (true≢false (rw (c, f) at e))

-- which slots are open, case by case
module _ (is_near : ℕ → ℕ → Bool) (slots : List ℤ) (marks : List ℕ) (i j : ℕ) where
  pub open_far : is_near i j ≡ false → false ≡ is_open is_near slots marks i j
  unfolding is_open
  open_far f = rw f refl

  pub open_free : is_near i j ≡ true → is_filled (slot_at slots j) ≡ false → true ≡ is_open is_near slots marks i j
  unfolding is_open
  open_free c f = rw (c, f) refl

  pub open_held : is_near i j ≡ true → is_filled (slot_at slots j) ≡ true → not (marked marks (index_at slots j)) ≡ is_open is_near slots marks i j
  unfolding is_open
  open_held c f = rw (c, f) refl

-- an open slot is near, and holds no position that was met
module _ (is_near : ℕ → ℕ → Bool) (slots : List ℤ) (marks : List ℕ) (i j : ℕ) (e : is_open is_near slots marks i j ≡ true) where
  pub open_near : is_near i j ≡ true
  unfolding is_open
  open_near = and_fst (is_near i j) _ e

  pub open_fresh : is_filled (slot_at slots j) ≡ true → marked marks (index_at slots j) ≡ false
  unfolding is_open
  open_fresh f = not-true (marked marks (index_at slots j)) (rw f at (and_snd (is_near i j) _ e))

-- ---- the search: all slots in order

module _ (is_near : ℕ → ℕ → Bool) (n : ℕ) (slots : List ℤ) (marks : List ℕ) (i left : ℕ) (R : Ready is_near n slots marks i left) where
  abbrev first : List ℕ
  first = set marks i 1

  M : Marks n marks
  M = R.homeless.marks_are

  hi : i < n
  hi = R.homeless.inside

  pub looked-none : Looked is_near n slots first first i 0
  looked-none = record { marks_are = met-marks n marks M i hi; grows = λ k m. m; settled = λ p h m f. absurd (not-both m f); closed = λ k h. absurd (omega arith) }

  -- what the next try may start from
  pub trying : (now' : List ℕ) (j : ℕ) → j < n → Looked is_near n slots first now' i j → Trying is_near n slots now' i j left
  trying now' j h L = let H = R.homeless in record {
    homeless = record { small = H.small; partial = H.partial; marks_are = L.marks_are; inside = H.inside; out = H.out };
    met = L.grows i (met_it n marks M i hi);
    slot = h;
    deep = let a = fewer-unmarked n first now' L.grows in let b = met-count n marks M i hi R.fresh in let d = R.deep in omega arith;
  }

  -- after a try in vain
  pub looked-more : (now' later : List ℕ) (new : List ℤ) (j : ℕ) → Looked is_near n slots first now' i j → Tried is_near n slots now' i j false new later → Looked is_near n slots first later i (j + 1)
  looked-more now' later new j L T = record {
    marks_are = T.marks_are;
    grows = λ k m. T.grows k (L.grows k m);
    settled = λ p h m f. settled p h m f (split (marked now' p));
    closed = λ k h e. closed k h e (lt_or_le k j);
  }
    where
      settled : (p : ℕ) → p < n → marked later p ≡ true → marked first p ≡ false → (marked now' p ≡ true) ⊎ (marked now' p ≡ false) → Closed is_near n slots later p
      settled p h m f (inl a) = λ k hk c. held-grows slots now' later k T.grows (L.settled p h a f k hk c)
      settled p h m f (inr a) = (T.stuck refl).settled p h m a

      closed : (k : ℕ) → k < j + 1 → is_near i k ≡ true → (k < j) ⊎ (j ≤ k) → HeldMarked slots later k
      closed k h c (inl l) = held-grows slots now' later k T.grows (L.closed k l c)
      closed k h c (inr l) = let q : j ≡ k = omega arith in subst (λ k. is_near i k ≡ true → HeldMarked slots later k) q (T.closed refl) c

  pub searched-found : (now' later : List ℕ) (new : List ℤ) (j : ℕ) → Looked is_near n slots first now' i j → Tried is_near n slots now' i j true new later → Searched is_near n slots marks i true new later
  searched-found now' later new j L T = record {
    marks_are = T.marks_are;
    grows = λ k m. T.grows k (L.grows k (met-grows n marks M i hi k m));
    met = T.grows i (L.grows i (met_it n marks M i hi));
    found = λ _. T.found refl;
    stuck = λ e. absurd (true≢false e);
  }

  pub searched-stuck : (now' : List ℕ) (new : List ℤ) → new ≡ slots → Looked is_near n slots first now' i n → Searched is_near n slots marks i false new now'
  searched-stuck now' new same L = record {
    marks_are = L.marks_are;
    grows = λ k m. L.grows k (met-grows n marks M i hi k m);
    met = L.grows i (met_it n marks M i hi);
    found = λ e. absurd (false≢true e);
    stuck = λ _. record { same = same; settled = λ p h m f. settled p h m f (eq_or_ne p i) };
  }
    where
      settled : (p : ℕ) → p < n → marked now' p ≡ true → marked marks p ≡ false → (p ≡ i) ⊎ (p ≡ i → ⊥) → Closed is_near n slots now' p
      settled p h m f (inl q) = λ k hk c. L.closed k hk (ap (λ p. is_near p k) (sym q) ∙ c)
      settled p h m f (inr d) = L.settled p h m (met-other n marks M i hi p d ∙ f)
