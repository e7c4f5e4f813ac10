-- A block and its counterpart worked over by two reads and two writes of whole blocks: how a program does `worked_over`. One law for every width.
-- Assumes nothing.
use Rattle.std.specs.Prelude.{◌≡◌, ◌||◌, ℕ, ◌+◌, ◌*◌, ◌/◌, ◌%◌, ◌<◌, List, Float}
use Rattle.std.proofs.Math.Path.{refl, sym, ap, ap₂}
use Rattle.std.proofs.Common.{◌∙◌, div-add-mod'}
use Rattle.std.proofs.Math.Bool.{cond}
use Rattle.std.proofs.Math.Nat.{mod-lt}
use Rattle.std.proofs.Math.Decide.{ℕ_discrete}
use Rattle.std.proofs.Math.ListN.{length, get_or}
use Rattle.std.proofs.Math.Seq.{ext_get_or}
use Rattle.std.proofs.Math.Dec.{eqb}
use Rattle.std.specs.Float.Ieee.{nan}
use borrow.Author.Tests.{eq-eqb, ne_eqb}
use Rattle.lists.specs.Tab.{tab, length-tab, get_or-tab}
use Rattle.blocks.specs.Block.{block, put_block, length-put_block, get_or-block, put-inside, put-outside}
use Rattle.orbits.specs.Counterparts.{Blocks, Paired, across, joined, worked_over}

module _ (join : Float → Float → Float) (c : ℕ) (permuted : ℕ → ℕ) where
  -- the block v with the numbers of w, its counterpart
  unfoldable pub joined_block : List Float → List Float → List Float
  joined_block v w = tab c (λ k. join (get_or v k nan) (get_or w (permuted k) nan))

  -- blocks a and b of a set, each written with the numbers of both
  unfoldable pub joined_pair : ℕ → ℕ → List Float → List Float
  unfolding joined_block
  joined_pair a b xs = put_block c b (joined_block (block c b xs) (block c a xs)) (put_block c a (joined_block (block c a xs) (block c b xs)) xs)

module _ (join : Float → Float → Float) (G : Blocks) (P : Paired G) where
  open G use {B, c, other, permuted, stays}

  -- place q of block a, whose counterpart is b
  at_joined : (xs : List Float) (a b q : ℕ) → q / c ≡ a → other a ≡ b → get_or (joined_block join c permuted (block c a xs) (block c b xs)) (q % c) nan ≡ joined nan join G xs q
  unfolding joined_block joined across
  at_joined xs a b q e f =
      let h = mod-lt q P.pos in
      get_or-tab c (λ k. join (get_or (block c a xs) k nan) (get_or (block c b xs) (permuted k) nan)) (q % c) nan h
      ∙ ap₂ join
      (get_or-block c a xs (q % c) h ∙ ap (λ x. get_or xs (x * c + q % c) nan) (sym e) ∙ ap (λ x. get_or xs x nan) (div-add-mod' q c))
      (get_or-block c b xs (permuted (q % c)) (P.permuted-below (q % c) h) ∙ ap (λ x. get_or xs (x * c + permuted (q % c)) nan) (sym (ap other e ∙ f)))

  pub pair_is : (xs : List Float) (n : ℕ) → n < B → joined_pair join c permuted n (other n) xs ≡ worked_over nan join G n xs
  unfolding joined_pair worked_over
  pair_is xs n hn =
      let m = other n in
      let one = put_block c n (joined_block join c permuted (block c n xs) (block c m xs)) xs in
      let l : length one ≡ length xs = length-put_block c n (joined_block join c permuted (block c n xs) (block c m xs)) xs in
      ext_get_or nan (put_block c m (joined_block join c permuted (block c m xs) (block c n xs)) one) _
      (length-put_block c m (joined_block join c permuted (block c m xs) (block c n xs)) one ∙ l ∙ sym (length-tab (length xs) _))
      (λ q h.
      let hq : q < length xs = rw (length-put_block c m (joined_block join c permuted (block c m xs) (block c n xs)) one, l) at h in
      at q hq (ℕ_discrete (q / c) m) (ℕ_discrete (q / c) n)
      ∙ sym (get_or-tab (length xs) (λ q. cond (eqb (q / c) n || eqb (q / c) m) (joined nan join G xs q) (get_or xs q nan)) q nan hq))
    where
      at : (q : ℕ) → q < length xs → Dec (q / c ≡ other n) → Dec (q / c ≡ n)
          → get_or (put_block c (other n) (joined_block join c permuted (block c (other n) xs) (block c n xs)) (put_block c n (joined_block join c permuted (block c n xs) (block c (other n) xs)) xs)) q nan
          ≡ cond (eqb (q / c) n || eqb (q / c) (other n)) (joined nan join G xs q) (get_or xs q nan)
      at q h (yes e) d =
          put-inside c (other n) (joined_block join c permuted (block c (other n) xs) (block c n xs)) (put_block c n (joined_block join c permuted (block c n xs) (block c (other n) xs)) xs) q (rw (length-put_block c n (joined_block join c permuted (block c n xs) (block c (other n) xs)) xs) h) e
          ∙ at_joined xs (other n) n q e (P.other-undo n hn) ∙ by d
        where
          by : Dec (q / c ≡ n) → joined nan join G xs q ≡ cond (eqb (q / c) n || eqb (q / c) (other n)) (joined nan join G xs q) (get_or xs q nan)
          by (yes f) = rw (eq-eqb (q / c) n f)
          by (no f) = rw (ne_eqb (q / c) n f, eq-eqb (q / c) (other n) e)
      at q h (no e) (yes f) =
          put-outside c (other n) (joined_block join c permuted (block c (other n) xs) (block c n xs)) (put_block c n (joined_block join c permuted (block c n xs) (block c (other n) xs)) xs) q (rw (length-put_block c n (joined_block join c permuted (block c n xs) (block c (other n) xs)) xs) h) e
          ∙ put-inside c n (joined_block join c permuted (block c n xs) (block c (other n) xs)) xs q h f
          ∙ at_joined xs n (other n) q f refl ∙ rw (eq-eqb (q / c) n f)
      at q h (no e) (no f) =
          put-outside c (other n) (joined_block join c permuted (block c (other n) xs) (block c n xs)) (put_block c n (joined_block join c permuted (block c n xs) (block c (other n) xs)) xs) q (rw (length-put_block c n (joined_block join c permuted (block c n xs) (block c (other n) xs)) xs) h) e
          ∙ put-outside c n (joined_block join c permuted (block c n xs) (block c (other n) xs)) xs q h f
          ∙ rw (ne_eqb (q / c) n f, ne_eqb (q / c) (other n) e)
