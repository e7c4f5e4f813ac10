-- The steps of the symmetrizer's loop keep its invariant, and at the end each place holds its mean. Assumes nothing.
use Rattle.std.specs.Prelude.{◌≡◌, ◌⊎◌, length}
use Rattle.std.proofs.Math.Path.{refl, ap}
use Rattle.std.proofs.Common.{sym, ◌∙◌, inl, inr, div-add-mod', mod-lt, mul-div_cancel, add-zero, div-lt_iff_lt-mul, mul-le-mul_right, not-suc-le-zero, arith, ltb-true, ltb-false, lt-ltb, le-ltb}
use Rattle.std.proofs.Math.Bool.{true, false, cond}
use Prim.Native.Nat.{ℕ, zero, suc, ◌+◌, ◌*◌, ◌/◌, ◌%◌, ◌≤◌, ◌<◌}
use Rattle.std.proofs.Math.Nat.{mul-add-div_right, div-eq_of_lt}
use Rattle.std.proofs.Math.Decide.{ℕ_discrete}
use mathlib.Core.List.{List, map}
use Rattle.std.proofs.Math.ListN.{get_or}
use Rattle.std.proofs.Math.Dec.{ltb}
use Rattle.lists.specs.Tests.{split, not-both, refuted}
use Rattle.lists.specs.Cases.{later}
use Rattle.lists.specs.Elements.{map_same}
use Rattle.lists.specs.Members.{In, in_all, in_map, map_in, map-sub, least_le, least-same}
use Rattle.orbits.specs.Symmetric.{first_block}
use Rattle.orbits.proofs.SymmetricLaws.{leader_in, leader-block, leader-last}
use Rattle.orbits.specs.Spread.{flag, set_all, mean_of, spread, has, has_in, in_has, length-set_all, get_or-set_all, Groups, Orbits, fb_of, lead_of, blocks_of, new_of, Written, Marked}

module _ (G : Groups) (O : Orbits G) where
  open G use {N, B, c, imgs}

  abbrev fb : ℕ → ℕ
  fb = fb_of G

  abbrev lead : ℕ → ℕ
  lead = lead_of G

  in_block_lem : (n k : ℕ) → k < c → (n * c + k) / c ≡ n
  in_block_lem n k h = mul-add-div_right O.pos n k ∙ ap (λ x. n + x) (div-eq_of_lt h) ∙ add-zero n

  at_block : (n : ℕ) → n * c / c ≡ n
  at_block n = mul-div_cancel n O.pos

  place-below : (n k : ℕ) → n < B → k < c → n * c + k < N
  place-below n k hn hk = rw O.whole (omega (arith, mul-le-mul_right c hn))

  block_start : (n : ℕ) → n < B → n * c < N
  block_start n hn = let h = place-below n 0 hn O.pos in omega arith

  block-below : (q : ℕ) → q < N → q / c < B
  block-below q h = (div-lt_iff_lt-mul O.pos).1 (rw (← O.whole) h)

  fb_le : (q r : ℕ) → In r (imgs q) → fb q ≤ r / c
  unfolding first_block
  fb_le q r i = least_le (map (λ a. a / c) (imgs q)) (r / c) (in_map (λ a. a / c) (imgs q) r i)

  fb-mate : (q r : ℕ) → q < N → In r (imgs q) → fb r ≡ fb q
  unfolding first_block
  fb-mate q r h i =
      least-same (map (λ a. a / c) (imgs r)) (map (λ a. a / c) (imgs q))
      (map-sub (λ a. a / c) (imgs r) (imgs q) (O.there q r h i)) (map-sub (λ a. a / c) (imgs q) (imgs r) (O.back q r h i))

  fb-block : (q r : ℕ) → q < N → r < N → q / c ≡ r / c → fb q ≡ fb r
  unfolding first_block
  fb-block q r hq hr e =
      least-same (map (λ a. a / c) (imgs q)) (map (λ a. a / c) (imgs r)) (O.blocks q r hq hr e) (O.blocks r q hr hq (sym e))

  -- the leader is one of the images, it lies in the first block, and no other image in that block is later
  lead_in : (q : ℕ) → q < N → In (lead q) (imgs q)
  lead_in q h = leader_in c (imgs q) q (O.own q h)

  lead_block : (q : ℕ) → q < N → lead q / c ≡ fb q
  lead_block q h = leader-block c (imgs q) q (O.own q h)

  lead-last : (q r : ℕ) → q < N → In r (imgs q) → r / c ≡ fb q → r ≤ lead q
  lead-last q r h i e = leader-last c (imgs q) q (O.own q h) r i (e ∙ sym (lead_block q h))

  -- A group whose first block is n has n itself for its first block.
  fb-first : (q : ℕ) → q < N → fb (fb q * c) ≡ fb q
  fb-first q h =
      let hl = O.inside q (lead q) h (lead_in q h) in
      let b : fb q * c < N = block_start (fb q) (rw (lead_block q h) at (block-below (lead q) hl)) in
      fb-block (fb q * c) (lead q) b hl (at_block (fb q) ∙ sym (lead_block q h)) ∙ fb-mate q (lead q) h (lead_in q h)

  -- Where n is the first block of its group, the images of its places have n for their first block.
  pub group-first : (n k q : ℕ) → n < B → fb (n * c) ≡ n → k < c → In q (imgs (n * c + k)) → fb q ≡ n
  group-first n k q hn f hk i =
      let h = place-below n k hn hk in
      fb-mate (n * c + k) q h i ∙ fb-block (n * c + k) (n * c) h (block_start n hn) (in_block_lem n k hk ∙ sym (at_block n)) ∙ f

  -- ---- the steps

  module _ {A : Type 0} (z : A) (mean : List A → A) (old : List A) where
    abbrev new : ℕ → A
    new = new_of G z mean old

    module _ (n : ℕ) (hn : n < B) (l : List A) (I : Written G z mean old n l) where
      -- skipped: no group has n for its first block
      none_first : fb (n * c) < n → (q : ℕ) → q < N → fb q ≡ n → ⊥
      none_first t q h f = let g : fb (n * c) ≡ n = rw f at (fb-first q h) in omega arith

      module _ (f : fb (n * c) ≡ n) where
        fb_base : (k : ℕ) → k < c → fb (n * c + k) ≡ n
        fb_base k hk = fb-block (n * c + k) (n * c) (place-below n k hn hk) (block_start n hn) (in_block_lem n k hk ∙ sym (at_block n)) ∙ f

        -- the reads of group n are of old numbers
        mean-old : (k : ℕ) → k < c → mean_of z mean c imgs l (n * c + k) ≡ mean_of z mean c imgs old (n * c + k)
        unfolding mean_of
        mean-old k hk =
            ap mean (map_same (λ r. In r (imgs (n * c + k))) (λ r. get_or l r z) (λ r. get_or old r z) (imgs (n * c + k)) (λ r i.
            let hq = place-below n k hn hk in
            let e : ltb (fb r) n ≡ false = rw (fb-mate (n * c + k) r hq i, fb_base k hk) (le-ltb n n (omega arith)) in
            I.numbers r (O.inside (n * c + k) r hq i) ∙ ap (λ b. cond b (new r) (get_or old r z)) e)
            (in_all (λ r. In r (imgs (n * c + k))) (imgs (n * c + k)) (λ r i. i)))

        -- a place is written by direction k just where it is an image of n * c + k; the last such direction holds
        length-spread : (k : ℕ) → length (spread z mean c imgs l n k) ≡ N
        unfolding spread
        length-spread zero = I.size_set
        length-spread (suc k) = length-set_all (imgs (n * c + k)) _ (spread z mean c imgs l n k) ∙ length-spread k

        spread-out : (k q : ℕ) → q < N → ((j : ℕ) → j < k → In q (imgs (n * c + j)) → ⊥) → get_or (spread z mean c imgs l n k) q z ≡ get_or l q z
        unfolding spread
        spread-out zero q h o = refl
        spread-out (suc k) q h o =
            get_or-set_all (imgs (n * c + k)) _ (spread z mean c imgs l n k) q z (rw (length-spread k) h)
            ∙ ap (λ b. cond b (mean_of z mean c imgs l (n * c + k)) (get_or (spread z mean c imgs l n k) q z)) (refuted (has q (imgs (n * c + k))) (λ e. o k (omega arith) (has_in q (imgs (n * c + k)) e)))
            ∙ spread-out k q h (λ j hj. o j (omega arith))

        spread_at : (k d q : ℕ) → q < N → d < k → In q (imgs (n * c + d)) → ((j : ℕ) → d < j → j < k → In q (imgs (n * c + j)) → ⊥)
            → get_or (spread z mean c imgs l n k) q z ≡ mean_of z mean c imgs l (n * c + d)
        unfolding spread
        spread_at zero d q h hd i o = absurd (not-suc-le-zero hd)
        spread_at (suc k) d q h hd i o =
            get_or-set_all (imgs (n * c + k)) _ (spread z mean c imgs l n k) q z (rw (length-spread k) h) ∙ go (ℕ_discrete d k) (spread_at k d q h)
          where
            go : Dec (d ≡ k)
                → (d < k → In q (imgs (n * c + d)) → ((j : ℕ) → d < j → j < k → In q (imgs (n * c + j)) → ⊥) → get_or (spread z mean c imgs l n k) q z ≡ mean_of z mean c imgs l (n * c + d))
                → cond (has q (imgs (n * c + k))) (mean_of z mean c imgs l (n * c + k)) (get_or (spread z mean c imgs l n k) q z) ≡ mean_of z mean c imgs l (n * c + d)
            go (yes e) r = rw (← e, in_has q (imgs (n * c + d)) i)
            go (no e) r =
                rw (refuted (has q (imgs (n * c + k))) (λ t. o k (omega arith) (omega arith) (has_in q (imgs (n * c + k)) t)))
                (r (omega arith) i (λ j a b. o j a (omega arith)))

        -- the places that are written are those whose group has n for its first block
        in_group : (q k : ℕ) → q < N → k < c → In q (imgs (n * c + k)) → fb q ≡ n
        in_group q k h hk i = group-first n k q hn f hk i

        numbers-next : (q : ℕ) → q < N → get_or (spread z mean c imgs l n c) q z ≡ cond (ltb (fb q) (suc n)) (new q) (get_or old q z)
        numbers-next q h = go (ℕ_discrete (fb q) n)
          where
            go : Dec (fb q ≡ n) → get_or (spread z mean c imgs l n c) q z ≡ cond (ltb (fb q) (suc n)) (new q) (get_or old q z)
            go (no e) =
                spread-out c q h (λ j hj i. e (in_group q j h hj i)) ∙ I.numbers q h
                ∙ ap (λ b. cond b (new q) (get_or old q z)) (sym (later (fb q) n e))
            go (yes e) =
                let p = lead q in
                let hp = O.inside q p h (lead_in q h) in
                let d = p % c in
                let b : p / c ≡ n = lead_block q h ∙ e in
                let s : n * c + d ≡ p = rw b at (div-add-mod' p c) in
                let i : In q (imgs (n * c + d)) = rw s (O.back q p h (lead_in q h) q (O.own q h)) in
                spread_at c d q h (mod-lt p O.pos) i (λ j a hj k.
                let hq = place-below n j hn hj in
                let t : n * c + j ≤ p = lead-last q (n * c + j) h (O.back (n * c + j) q hq k (n * c + j) (O.own (n * c + j) hq)) (in_block_lem n j hj ∙ sym e) in
                omega arith)
                ∙ mean-old d (mod-lt p O.pos) ∙ ap (mean_of z mean c imgs old) s
                ∙ ap (λ b. cond b (new q) (get_or old q z)) (sym (lt-ltb (fb q) (suc n) (omega arith)))

      -- THE STEP, as a program takes it: the group of block n was met before, and the loop goes on
      pub written_skip : fb (n * c) < n → Written G z mean old (suc n) l
      written_skip e = record {
        size_set = I.size_set;
        numbers = λ q h. I.numbers q h ∙ ap (λ b. cond b (new q) (get_or old q z)) (sym (later (fb q) n (none_first e q h)));
      }

      -- or n is its first block: the group is worked out and written
      pub written-take : fb (n * c) ≡ n → Written G z mean old (suc n) (spread z mean c imgs l n c)
      written-take e = record {
        size_set = length-spread e c;
        numbers = numbers-next e;
      }

    pub written_start : length old ≡ N → Written G z mean old 0 old
    written_start lo = record {
      size_set = lo;
      numbers = λ q hq. ap (λ b. cond b (new q) (get_or old q z)) (sym (le-ltb (fb q) 0 (omega arith)));
    }

    pub finish : (l : List A) → Written G z mean old B l → (q : ℕ) → q < N → get_or l q z ≡ new q
    finish l I q h =
        let t : fb q < B = rw (lead_block q h) at (block-below (lead q) (O.inside q (lead q) h (lead_in q h))) in
        I.numbers q h ∙ ap (λ b. cond b (new q) (get_or old q z)) (lt-ltb (fb q) B t)

  -- no block of the group of n comes before its first block
  pub first_le : (n : ℕ) → n < B → fb (n * c) ≤ n
  first_le n hn = rw (at_block n) at (fb_le (n * c) (n * c) (O.own (n * c) (block_start n hn)))

  -- ---- the done table: the own mark tells whether the group was met

  module _ (n : ℕ) (hn : n < B) (done : List ℕ) (M : Marked G n done) where
    pub met : (get_or done n 0 ≡ 0 → ⊥) → fb (n * c) < n
    met h = go (split (ltb (fb (n * c)) n))
      where
        go : (ltb (fb (n * c)) n ≡ true) ⊎ (ltb (fb (n * c)) n ≡ false) → fb (n * c) < n
        go (inl e) = ltb-true (fb (n * c)) n e
        go (inr e) = absurd (h (M.marks n hn ∙ ap flag e))

    pub not-met : get_or done n 0 ≡ 0 → fb (n * c) ≡ n
    not-met h = go (split (ltb (fb (n * c)) n))
      where
        go : (ltb (fb (n * c)) n ≡ true) ⊎ (ltb (fb (n * c)) n ≡ false) → fb (n * c) ≡ n
        go (inl e) = absurd (let q : ◌≡◌ {A = ℕ} 0 1 = sym h ∙ M.marks n hn ∙ ap flag e in omega arith)
        go (inr e) = let t = ltb-false (fb (n * c)) n e in let u = first_le n hn in omega arith

    pub marked_skip : fb (n * c) < n → Marked G (suc n) done
    marked_skip e = record {
      size_done = M.size_done;
      marks = λ b hb. M.marks b hb ∙ ap flag (sym (later (fb (b * c)) n (λ f.
          let g : fb (n * c) ≡ n = rw f at (fb-first (b * c) (block_start b hb)) in
          omega arith)));
    }

    marks-next : fb (n * c) ≡ n → (b : ℕ) → b < B → get_or (set_all (map (λ r. r / c) (imgs (n * c))) 1 done) b 0 ≡ flag (ltb (fb (b * c)) (suc n))
    marks-next f b hb = get_or-set_all (map (λ r. r / c) (imgs (n * c))) 1 done b 0 (rw M.size_done hb) ∙ go (split (has b (map (λ r. r / c) (imgs (n * c)))))
      where
        go : (has b (map (λ r. r / c) (imgs (n * c))) ≡ true) ⊎ (has b (map (λ r. r / c) (imgs (n * c))) ≡ false)
            → cond (has b (map (λ r. r / c) (imgs (n * c)))) 1 (get_or done b 0) ≡ flag (ltb (fb (b * c)) (suc n))
        go (inl e) =
            let (r, j, q) = map_in (λ r. r / c) (imgs (n * c)) b (has_in b (map (λ r. r / c) (imgs (n * c))) e) in
            let hr = O.inside (n * c) r (block_start n hn) j in
            let g : fb (b * c) ≡ n = fb-block (b * c) r (block_start b hb) hr (at_block b ∙ q) ∙ fb-mate (n * c) r (block_start n hn) j ∙ f in
            rw e (ap flag (sym (lt-ltb (fb (b * c)) (suc n) (omega arith))))
        go (inr e) =
            rw e (M.marks b hb ∙ ap flag (sym (later (fb (b * c)) n (λ g.
            let hs = block_start b hb in
            let p = lead (b * c) in
            let i = lead_in (b * c) hs in
            let hp = O.inside (b * c) p hs i in
            let k = in_map (λ r. r / c) (imgs p) (b * c) (O.back (b * c) p hs i (b * c) (O.own (b * c) hs)) in
            let m = O.blocks p (n * c) hp (block_start n hn) (lead_block (b * c) hs ∙ g ∙ sym (at_block n)) (b * c / c) k in
            not-both (in_has b (map (λ r. r / c) (imgs (n * c))) (rw (at_block b) at m)) e))))

    pub marked-take : fb (n * c) ≡ n → Marked G (suc n) (set_all (blocks_of G n) 1 done)
    marked-take e = record {
      size_done = length-set_all (map (λ r. r / c) (imgs (n * c))) 1 done ∙ M.size_done;
      marks = marks-next e;
    }

  pub marked_start : (done : List ℕ) → length done ≡ B → ((b : ℕ) → b < B → get_or done b 0 ≡ 0) → Marked G 0 done
  marked_start done ld h = record {
    size_done = ld;
    marks = λ b hb. rw (le-ltb (fb (b * c)) 0 (omega arith)) (h b hb);
  }
