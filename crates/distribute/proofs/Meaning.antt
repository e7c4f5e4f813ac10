-- What `distribute_fc3` and `distribute_fc4` leave, block by block. Assumes nothing.
use Rattle.std.specs.Prelude.{◌≡◌, cond, List, [], ◌∷◌, map, ℕ, suc, ◌+◌, ◌*◌, ◌^◌, ◌<◌, ◌≤◌, eqb, ℤ, length, get_or, Float}
use Rattle.std.proofs.Math.Path.{refl, ap}
use Rattle.std.proofs.Common.{sym, ◌∙◌, subst, ext_get_or, eq-eqb, ne_eqb}
use Rattle.std.specs.Float.Ieee.{nan}
use Rattle.lists.specs.Tab.{length-tab, get_or-tab}
use Rattle.lists.specs.Digits.{horner, rest, rest_horner, digits-horner}
use Rattle.blocks.specs.Block.{block, get_or-block, length-block, block_of_lem, place_of, inside}
use Rattle.rotations.specs.Rotation.{rotated}
use Rattle.tables.specs.Conditions.{index_at}
use Rattle.distribute.specs.Slab.{slab_source, distributed}

length-rotated : (m : List Float) (n : ℕ) (t : List Float) → length (rotated m n t) ≡ 3 ^ n
unfolding rotated
length-rotated m n t = length-tab (3 ^ n) _

module _ (mapping : List ℤ) (rotation : List Float) (n k target source : ℕ) (fc : List Float) where
  abbrev w : ℕ
  w = 3 ^ suc k

  abbrev new : List Float
  new = distributed mapping rotation n k target source fc

  at_place : (b p : ℕ) → p < w → b * w + w ≤ length fc
      → get_or new (b * w + p) nan
      ≡ cond (eqb (rest n k b) target) (get_or (rotated rotation (suc k) (block w (slab_source mapping n k source b) fc)) p nan) (get_or fc (b * w + p) nan)
  unfolding distributed
  at_place b p h l = get_or-tab (length fc) _ (b * w + p) nan (inside w b p (length fc) h l) ∙ rw (block_of_lem w b p h, place_of w b p h) refl

  -- a block of the target slab is its source block rotated
  pub target_block : (b : ℕ) → b * w + w ≤ length fc → rest n k b ≡ target → block w b new ≡ rotated rotation (suc k) (block w (slab_source mapping n k source b) fc)
  target_block b l e =
      let r = rotated rotation (suc k) (block w (slab_source mapping n k source b) fc) in
      ext_get_or nan (block w b new) r (length-block w b new ∙ sym (length-rotated rotation (suc k) _)) (λ p g.
      let h : p < w = subst (λ (x : ℕ). p < x) (length-block w b new) g in
      get_or-block w b new p h ∙ at_place b p h l ∙ rw (eq-eqb (rest n k b) target e) refl)

  -- a block of another slab stays
  pub other_block_lem : (b : ℕ) → b * w + w ≤ length fc → (rest n k b ≡ target → ⊥) → block w b new ≡ block w b fc
  other_block_lem b l e =
      ext_get_or nan (block w b new) (block w b fc) (length-block w b new ∙ sym (length-block w b fc)) (λ p g.
      let h : p < w = subst (λ (x : ℕ). p < x) (length-block w b new) g in
      get_or-block w b new p h ∙ at_place b p h l ∙ rw (ne_eqb (rest n k b) target e) (sym (get_or-block w b fc p h)))

-- ---- third order: block (target, i, j) of the new set is block (source, map i, map j) of the old one, rotated; other slabs stay

module _ (mapping : List ℤ) (rotation : List Float) (n target source : ℕ) (fc : List Float) (i j : ℕ) (hi : i < n) (hj : j < n) where
  pub third : ((target * n + i) * n + j) * 27 + 27 ≤ length fc
      → block 27 ((target * n + i) * n + j) (distributed mapping rotation n 2 target source fc) ≡ rotated rotation 3 (block 27 ((source * n + index_at mapping i) * n + index_at mapping j) fc)
  unfolding slab_source horner
  third l =
      target_block mapping rotation n 2 target source fc ((target * n + i) * n + j) l (rest_horner n target (i ∷ j ∷ []) (hi, (hj, tt)))
      ∙ ap (λ ds. rotated rotation 3 (block 27 (horner n source (map (index_at mapping) ds)) fc)) (digits-horner n target (i ∷ j ∷ []) (hi, (hj, tt)))

  pub third-stays : (t : ℕ) → (t ≡ target → ⊥) → ((t * n + i) * n + j) * 27 + 27 ≤ length fc
      → block 27 ((t * n + i) * n + j) (distributed mapping rotation n 2 target source fc) ≡ block 27 ((t * n + i) * n + j) fc
  unfolding horner
  third-stays t ne l =
      other_block_lem mapping rotation n 2 target source fc ((t * n + i) * n + j) l (λ e. ne (sym (rest_horner n t (i ∷ j ∷ []) (hi, (hj, tt))) ∙ e))

-- ---- fourth order: block (target, i, j, l) likewise

module _ (mapping : List ℤ) (rotation : List Float) (n target source : ℕ) (fc : List Float) (i j l : ℕ) (hi : i < n) (hj : j < n) (hl : l < n) where
  pub fourth : (((target * n + i) * n + j) * n + l) * 81 + 81 ≤ length fc
      → block 81 (((target * n + i) * n + j) * n + l) (distributed mapping rotation n 3 target source fc)
      ≡ rotated rotation 4 (block 81 (((source * n + index_at mapping i) * n + index_at mapping j) * n + index_at mapping l) fc)
  unfolding slab_source horner
  fourth f =
      target_block mapping rotation n 3 target source fc (((target * n + i) * n + j) * n + l) f (rest_horner n target (i ∷ j ∷ l ∷ []) (hi, (hj, (hl, tt))))
      ∙ ap (λ ds. rotated rotation 4 (block 81 (horner n source (map (index_at mapping) ds)) fc)) (digits-horner n target (i ∷ j ∷ l ∷ []) (hi, (hj, (hl, tt))))

  pub fourth-stays : (t : ℕ) → (t ≡ target → ⊥) → (((t * n + i) * n + j) * n + l) * 81 + 81 ≤ length fc
      → block 81 (((t * n + i) * n + j) * n + l) (distributed mapping rotation n 3 target source fc) ≡ block 81 (((t * n + i) * n + j) * n + l) fc
  unfolding horner
  fourth-stays t ne f =
      other_block_lem mapping rotation n 3 target source fc (((t * n + i) * n + j) * n + l) f (λ e. ne (sym (rest_horner n t (i ∷ j ∷ l ∷ []) (hi, (hj, (hl, tt)))) ∙ e))
