use Rattle.std.proofs.lemmas.Result.{err_from_is_err_and}
use Rattle.tables.specs.Answers.{passes, refuses}
use mathlib.Core.Path.{◌≡◌, sym, ap, ◌∙◌}
use mathlib.Core.Bool.{false}
use Prim.Native.Nat.{suc, ◌^◌}
use native.Mathlib.Omega.{arith}
use Rattle.tables.specs.Answers.{is_refusal, is_done}
use Rattle.tables.specs.Conditions.{read}
use Rattle.tables.specs.Lengths.{set-blocks}
use Rattle.rotations.specs.Rotation.{coefficients, rotated}
use Rattle.distribute.specs.Slab.{move}
use Rattle.distribute.specs.SlabLaws.{whole-block, ready, refused, done_call}
use Rattle.distribute.proofs.LoopLaws.{loops_distribute}
use Rattle.blocks.specs.Inside.{inside_slab}
use Rattle.distribute.proofs.slabs.distribute.Goals as goal

pub returns-in_err-judge_slabs : goal.returns-in_err-judge_slabs
returns-in_err-judge_slabs g c =
    let a = c.args in
    let e = c.judge_slabs.ensures in
    let p = err_from_is_err_and c.from_residual.result c.from_residual.ensures.1 in
    rw (p.1, p.2) (rw (← c.in_err-judge_slabs.was) (refused a.limit a.k a.fc.now a.target a.source a.atom_mapping.now a.num_atom a.rot_cart.now a.num_first c.judge_slabs.result e (refuses c.in_err-judge_slabs.was)))

pub read9-requires : goal.read9-requires
read9-requires g c =
    let a = c.args in
    let e = c.judge_slabs.ensures in
    let r : is_refusal c.judge_slabs.result ≡ false = passes c.in_ok-judge_slabs.was in
    let R = ready a.limit a.k _ _ _ _ _ _ _ (sym e ∙ is_done c.judge_slabs.result r) in
    omega (arith, R.rotation_length)

pub coefficients-requires : goal.coefficients-requires
coefficients-requires g c = omega (arith, g.S.Block.Order.small)

pub fill-requires : goal.fill-requires
fill-requires g c =
    let a = c.args in
    let e = c.judge_slabs.ensures in
    let r : is_refusal c.judge_slabs.result ≡ false = passes c.in_ok-judge_slabs.was in
    let R = ready a.limit a.k _ _ _ _ _ _ _ (sym e ∙ is_done c.judge_slabs.result r) in
    let l = R.set-length ∙ set-blocks a.num_first a.num_atom a.k in
    let o = c.requires.order in (
      omega (arith, g.S.Block.Order.small),
      (
        R.mapping_fit,
        rw (o.0, o.2) (
          inside_slab a.num_atom (3 ^ suc a.k) a.k a.target a.num_first _ R.target_below l,
          inside_slab a.num_atom (3 ^ suc a.k) a.k a.source a.num_first _ R.source-below l,
        ),
      ),
    )

pub returns : goal.returns
returns g c =
    let a = c.args in
    let e = c.judge_slabs.ensures in
    let r : is_refusal c.judge_slabs.result ≡ false = passes c.in_ok-judge_slabs.was in
    let R = ready a.limit a.k _ _ _ _ _ _ _ (sym e ∙ is_done c.judge_slabs.result r) in
    let l = R.set-length ∙ set-blocks a.num_first a.num_atom a.k in
    let o = c.requires.order in
    let ec = c.coefficients.ensures ∙ ap (λ m. coefficients m g.S.Block.Order.legs g.S.Block.Order.width) (c.read9.ensures ∙ whole-block a.rot_cart.now R.rotation_length) in
    let moved : c.fill.new.fc ≡ move a.atom_mapping.now a.num_atom (3 ^ suc a.k) (rotated a.rot_cart.now (suc a.k)) a.k a.target a.source a.fc.now =
    c.fill.ensures a.rot_cart.now ec ∙ rw (o.0, o.1, o.2) in
    done_call a.limit a.k a.fc.now a.target a.source a.atom_mapping.now a.num_atom a.rot_cart.now a.num_first c.judge_slabs.result e r
    (moved
    ∙ loops_distribute a.atom_mapping.now a.rot_cart.now a.num_atom a.k a.target a.source a.num_first a.fc.now (omega (arith, o.2, g.S.Block.Order.some))
    (λ i h. (read R.mapping_fit i h).1) l R.target_below R.source-below R.apart)
