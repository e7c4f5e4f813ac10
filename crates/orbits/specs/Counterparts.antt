-- A set in blocks, each with a counterpart, worked over pair by pair: block b and its counterpart are read, and both are written from what was read.
-- Transposes exchange the two (`join` takes the other number), averages take their mean. Blocks that stay are passed over.
-- The loop visits the blocks from first to last and works at the lower block of each pair; what it leaves is said place by place from the old set only.
-- Assumes nothing.
use Rattle.std.specs.Prelude.{◌≡◌, ◌⊎◌, Bool, ◌||◌, List, length, get_or}
use Rattle.std.proofs.Math.Path.{refl, sym, ap, ap₂}
use Rattle.std.proofs.Common.{◌∙◌, inl, inr, div-lt_iff_lt-mul, mod-lt, arith}
use Rattle.std.proofs.Math.Bool.{true, false, not, cond}
use Prim.Native.Nat.{ℕ, zero, suc, ◌+◌, ◌*◌, ◌/◌, ◌%◌, ◌≤◌, ◌<◌, min}
use Rattle.std.proofs.Math.Nat.{mul-add-div_right, div-eq_of_lt, add-zero}
use Rattle.std.proofs.Math.Decide.{ℕ_discrete, dec_lt}
use Rattle.std.proofs.Math.Seq.{ext_get_or}
use Rattle.std.proofs.Math.Dec.{eqb, ltb}
use borrow.Author.Tests.{eq-eqb, ne_eqb, lt-ltb, le-ltb}
use Rattle.lists.specs.Cases.{later}
use Rattle.lists.specs.Digits.{in_row}
use Rattle.lists.specs.Tab.{tab, length-tab, get_or-tab, times}

-- B blocks of c numbers; the counterpart of block b; where position k of a block stands in the counterpart; the blocks that stay
pub record Blocks : Type 0 where
  pub B : ℕ
  pub c : ℕ
  pub other : ℕ → ℕ
  pub permuted : ℕ → ℕ
  pub stays : ℕ → Bool

-- the counterparts come in pairs
pub record Paired (G : Blocks) : Type 0 where
  pub pos : 0 < G.c
  pub other-below : (b : ℕ) → b < G.B → G.other b < G.B
  pub other-undo : (b : ℕ) → b < G.B → G.other (G.other b) ≡ b
  pub permuted-below : (k : ℕ) → k < G.c → G.permuted k < G.c
  pub stays-other : (b : ℕ) → b < G.B → G.stays (G.other b) ≡ G.stays b

-- the place that trades with q
unfoldable pub across : Blocks → ℕ → ℕ
across G q = G.other (q / G.c) * G.c + G.permuted (q % G.c)

module _ {A : Type 0} (z : A) (join : A → A → A) (G : Blocks) where
  -- what place q holds when its block and the counterpart are worked over
  unfoldable pub joined : List A → ℕ → A
  unfolding across
  joined l q = join (get_or l q z) (get_or l (across G q) z)

  -- block b and its counterpart worked over
  unfoldable pub worked_over : ℕ → List A → List A
  unfolding joined
  worked_over b l = tab (length l) (λ q. cond (eqb (q / G.c) b || eqb (q / G.c) (G.other b)) (joined l q) (get_or l q z))

  -- one visit of the loop: block b is worked over unless it stays or was met with a lower one
  unfoldable pub visit : ℕ → List A → List A
  unfolding worked_over
  visit b l = cond (G.stays b || ltb (G.other b) b) l (worked_over b l)

  -- every block worked over, but those that stay
  unfoldable pub all_worked : List A → List A
  unfolding joined
  all_worked old = tab (G.B * G.c) (λ q. cond (G.stays (q / G.c)) (get_or old q z) (joined old q))

-- ---- the loop leaves that set

module _ {A : Type 0} (z : A) (join : A → A → A) (G : Blocks) (P : Paired G) where
  open G use {B, c, other, permuted, stays}

  block-below : (q : ℕ) → q < B * c → q / c < B
  block-below q h = (div-lt_iff_lt-mul P.pos).1 h

  across-below : (q : ℕ) → q < B * c → across G q < B * c
  unfolding across
  across-below q h = in_row B c (other (q / c)) (permuted (q % c)) (P.other-below (q / c) (block-below q h)) (P.permuted-below (q % c) (mod-lt q P.pos))

  across-block : (q : ℕ) → across G q / c ≡ other (q / c)
  unfolding across
  across-block q =
      mul-add-div_right P.pos (other (q / c)) (permuted (q % c))
      ∙ ap (λ x. other (q / c) + x) (div-eq_of_lt (P.permuted-below (q % c) (mod-lt q P.pos))) ∙ add-zero (other (q / c))

  -- the visit at which place q is worked over
  abbrev first : ℕ → ℕ
  first q = min (q / c) (other (q / c))

  -- THE INVARIANT: the places whose first visit is below n hold the new number, all others the old one
  pub record Stage (old : List A) (n : ℕ) (l : List A) : Type 0 where
    pub size : length l ≡ B * c
    pub numbers : (q : ℕ) → q < B * c → get_or l q z ≡ cond (stays (q / c) || not (ltb (first q) n)) (get_or old q z) (joined z join G old q)

  pub stage_start : (old : List A) → length old ≡ B * c → Stage old 0 old
  stage_start old e = record {
    size = e;
    numbers = λ q h. go q (stays (q / c));
  }
    where
      go : (q : ℕ) (s : Bool) → get_or old q z ≡ cond (s || not (ltb (first q) 0)) (get_or old q z) (joined z join G old q)
      go q true = refl
      go q false = rw (le-ltb (first q) 0 (omega arith))

  same_stage : (old l : List A) (n : ℕ) → Stage old n l → ((q : ℕ) → q < B * c → (stays (q / c) ≡ true) ⊎ (first q ≡ n → ⊥)) → Stage old (suc n) l
  same_stage old l n I h = record {
    size = I.size;
    numbers = λ q hq. I.numbers q hq ∙ go q (h q hq);
  }
    where
      go : (q : ℕ) → (stays (q / c) ≡ true) ⊎ (first q ≡ n → ⊥)
          → cond (stays (q / c) || not (ltb (first q) n)) (get_or old q z) (joined z join G old q)
          ≡ cond (stays (q / c) || not (ltb (first q) (suc n))) (get_or old q z) (joined z join G old q)
      go q (inl e) = rw e
      go q (inr e) = ap (λ t. cond (stays (q / c) || not t) (get_or old q z) (joined z join G old q)) (sym (later (first q) n e))

  module _ (old l : List A) (n : ℕ) (hn : n < B) (I : Stage old n l) where
    -- where place q's first visit is n, its numbers are still the old ones
    still : (q : ℕ) → q < B * c → first q ≡ n → get_or l q z ≡ get_or old q z
    still q h e = I.numbers q h ∙ go (stays (q / c))
      where
        go : (s : Bool) → cond (s || not (ltb (first q) n)) (get_or old q z) (joined z join G old q) ≡ get_or old q z
        go true = refl
        go false = rw (le-ltb (first q) n (omega arith))

    first-across : (q : ℕ) → q < B * c → first (across G q) ≡ first q
    first-across q h =
        let e = across-block q in
        let f = P.other-undo (q / c) (block-below q h) in
        rw (e, f) (omega arith)

    joined-old : (q : ℕ) → q < B * c → first q ≡ n → joined z join G l q ≡ joined z join G old q
    unfolding joined
    joined-old q h e = ap₂ join (still q h e) (still (across G q) (across-below q h) (first-across q h ∙ e))

    -- the block is passed over
    passed_over : (stays n ≡ true) ⊎ (other n < n) → Stage old (suc n) l
    passed_over s = same_stage old l n I (λ q hq. go q hq s (ℕ_discrete (q / c) n) (ℕ_discrete (first q) n))
      where
        go : (q : ℕ) → q < B * c → (stays n ≡ true) ⊎ (other n < n) → Dec (q / c ≡ n) → Dec (first q ≡ n) → (stays (q / c) ≡ true) ⊎ (first q ≡ n → ⊥)
        go q hq s d (no f) = inr f
        go q hq (inl t) (yes e) (yes f) = inl (ap stays e ∙ t)
        go q hq (inl t) (no e) (yes f) =
            let g : other (q / c) ≡ n = omega arith in
            inl (sym (P.stays-other (q / c) (block-below q hq)) ∙ ap stays g ∙ t)
        go q hq (inr t) (yes e) (yes f) = absurd (let g : other (q / c) ≡ other n = ap other e in omega arith)
        go q hq (inr t) (no e) (yes f) =
            absurd
            (let g : other (q / c) ≡ n = omega arith in
            let k : q / c ≡ other n = sym (P.other-undo (q / c) (block-below q hq)) ∙ ap other g in
            omega arith)

    -- or worked over with its counterpart
    taken_up : stays n ≡ false → n ≤ other n → Stage old (suc n) (worked_over z join G n l)
    unfolding worked_over
    taken_up s le = record {
      size = length-tab (length l) _ ∙ I.size;
      numbers = λ q hq.
          get_or-tab (length l) (λ q. cond (eqb (q / c) n || eqb (q / c) (other n)) (joined z join G l q) (get_or l q z)) q z (rw I.size hq)
          ∙ go q hq (ℕ_discrete (q / c) n) (ℕ_discrete (q / c) (other n));
    }
      where
        new : (q : ℕ) → q < B * c → first q ≡ n → stays (q / c) ≡ false
            → joined z join G l q ≡ cond (stays (q / c) || not (ltb (first q) (suc n))) (get_or old q z) (joined z join G old q)
        new q hq e t = joined-old q hq e ∙ sym (rw (t, lt-ltb (first q) (suc n) (omega arith)))

        go : (q : ℕ) → q < B * c → Dec (q / c ≡ n) → Dec (q / c ≡ other n)
            → cond (eqb (q / c) n || eqb (q / c) (other n)) (joined z join G l q) (get_or l q z)
            ≡ cond (stays (q / c) || not (ltb (first q) (suc n))) (get_or old q z) (joined z join G old q)
        go q hq (yes e) d =
            let g : other (q / c) ≡ other n = ap other e in
            let f : first q ≡ n = omega arith in
            ap (λ t. cond (t || eqb (q / c) (other n)) (joined z join G l q) (get_or l q z)) (eq-eqb (q / c) n e) ∙ new q hq f (ap stays e ∙ s)
        go q hq (no e) (yes d) =
            let g : other (q / c) ≡ n = ap other d ∙ P.other-undo n hn in
            let f : first q ≡ n = omega arith in
            ap₂ (λ t u. cond (t || u) (joined z join G l q) (get_or l q z)) (ne_eqb (q / c) n e) (eq-eqb (q / c) (other n) d)
            ∙ new q hq f (ap stays d ∙ P.stays-other n hn ∙ s)
        go q hq (no e) (no d) =
            let f : first q ≡ n → ⊥ = λ f. d (let g : other (q / c) ≡ n = omega arith in sym (P.other-undo (q / c) (block-below q hq)) ∙ ap other g) in
            ap₂ (λ t u. cond (t || u) (joined z join G l q) (get_or l q z)) (ne_eqb (q / c) n e) (ne_eqb (q / c) (other n) d)
            ∙ I.numbers q hq ∙ ap (λ t. cond (stays (q / c) || not t) (get_or old q z) (joined z join G old q)) (sym (later (first q) n f))

    pub stage_next : Stage old (suc n) (visit z join G n l)
    unfolding visit
    stage_next = go (stays n) refl (dec_lt (other n) n)
      where
        go : (s : Bool) → stays n ≡ s → Dec (other n < n) → Stage old (suc n) (cond (stays n || ltb (other n) n) l (worked_over z join G n l))
        go true e d = rw e (passed_over (inl e))
        go false e (yes h) = rw (e, lt-ltb (other n) n h) (passed_over (inr h))
        go false e (no h) = rw (e, le-ltb (other n) n (omega arith)) (taken_up e (omega arith))

  pub stage_end : (old l : List A) → Stage old B l → l ≡ all_worked z join G old
  unfolding all_worked
  stage_end old l I =
      ext_get_or z l _ (I.size ∙ sym (length-tab (B * c) _)) (λ q h.
      let hq : q < B * c = rw I.size at h in
      I.numbers q hq ∙ at q (block-below q hq) (stays (q / c)) ∙ sym (get_or-tab (B * c) _ q z hq))
    where
      at : (q : ℕ) → q / c < B → (s : Bool) → cond (s || not (ltb (first q) B)) (get_or old q z) (joined z join G old q) ≡ cond s (get_or old q z) (joined z join G old q)
      at q h true = refl
      at q h false = rw (lt-ltb (first q) B (omega arith))

  -- the whole loop
  stages : (old : List A) → length old ≡ B * c → (n : ℕ) → n ≤ B → Stage old n (times n (visit z join G) old)
  unfolding times
  stages old e zero h = stage_start old e
  stages old e (suc n) h = stage_next old (times n (visit z join G) old) n h (stages old e n (omega arith))

  pub loop_leaves : (old : List A) → length old ≡ B * c → times B (visit z join G) old ≡ all_worked z join G old
  loop_leaves old e = stage_end old (times B (visit z join G) old) (stages old e B (omega arith))
