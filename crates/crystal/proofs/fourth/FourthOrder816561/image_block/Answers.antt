use Prim.Native.Nat.{◌+◌, ◌*◌, ◌/◌, ◌%◌, ◌<◌}
use native.Mathlib.Nat.{mod-lt}
use mathlib.Core.Path.{◌≡◌, ap, ◌∙◌}
use Rattle.tables.specs.Conditions.{index_at}
use Rattle.tables.specs.Compact.{ShiftTables, given}
use Rattle.crystal.specs.FourthImages as images
use Rattle.crystal.proofs.fourth.FourthOrder816561.image_block.Goals as goal

pub column_of-requires : goal.column_of-requires
column_of-requires c = images.satoms_pos _ c.requires.0 c.args.b c.requires.2

pub row_of-pjk-requires : goal.row_of-pjk-requires
row_of-pjk-requires c = images.satoms_pos _ c.requires.0 c.args.b c.requires.2

pub column_of-requires-2 : goal.column_of-requires-2
column_of-requires-2 c = images.satoms_pos _ c.requires.0 c.args.b c.requires.2

pub row_of-pj-requires : goal.row_of-pj-requires
row_of-pj-requires c = images.satoms_pos _ c.requires.0 c.args.b c.requires.2

pub column_of-requires-3 : goal.column_of-requires-3
column_of-requires-3 c = images.satoms_pos _ c.requires.0 c.args.b c.requires.2

pub row_of-requires : goal.row_of-requires
row_of-requires c = images.satoms_pos _ c.requires.0 c.args.b c.requires.2

pub p2s_at-i-requires : goal.p2s_at-i-requires
p2s_at-i-requires c =
    let a = c.args in
    let er : c.row_of-pj.result ≡ a.b / a.tables.now.n_satom / a.tables.now.n_satom = c.row_of-pj.ensures ∙ ap (λ x. x / a.tables.now.n_satom) c.row_of-pjk.ensures in
    let ep : c.row_of.result ≡ a.b / a.tables.now.n_satom / a.tables.now.n_satom / a.tables.now.n_satom = c.row_of.ensures ∙ ap (λ x. x / a.tables.now.n_satom) er in
    rw ep (images.p2s-read _ c.requires.0 a.b c.requires.2).0

pub image-x-requires : goal.image-x-requires
image-x-requires c =
    let a = c.args in
    let h = images.satoms_pos _ c.requires.0 a.b c.requires.2 in
    let er : c.row_of-pj.result ≡ a.b / a.tables.now.n_satom / a.tables.now.n_satom = c.row_of-pj.ensures ∙ ap (λ x. x / a.tables.now.n_satom) c.row_of-pjk.ensures in
    let ep : c.row_of.result ≡ a.b / a.tables.now.n_satom / a.tables.now.n_satom / a.tables.now.n_satom = c.row_of.ensures ∙ ap (λ x. x / a.tables.now.n_satom) er in
    let i : c.p2s_at-i.result.0 < a.tables.now.n_satom = rw (c.p2s_at-i.ensures, ep) (images.p2s-read _ c.requires.0 a.b c.requires.2).1 in
    let j : c.column_of-3.result < a.tables.now.n_satom = rw c.column_of-3.ensures (mod-lt _ h) in
    let k : c.column_of-2.result < a.tables.now.n_satom = rw c.column_of-2.ensures (mod-lt _ h) in
    let l : c.column_of.result < a.tables.now.n_satom = rw c.column_of.ensures (mod-lt _ h) in
    (c.requires.1.each _ i).0

pub image-y-requires : goal.image-y-requires
image-y-requires c =
    let a = c.args in
    let h = images.satoms_pos _ c.requires.0 a.b c.requires.2 in
    let er : c.row_of-pj.result ≡ a.b / a.tables.now.n_satom / a.tables.now.n_satom = c.row_of-pj.ensures ∙ ap (λ x. x / a.tables.now.n_satom) c.row_of-pjk.ensures in
    let ep : c.row_of.result ≡ a.b / a.tables.now.n_satom / a.tables.now.n_satom / a.tables.now.n_satom = c.row_of.ensures ∙ ap (λ x. x / a.tables.now.n_satom) er in
    let i : c.p2s_at-i.result.0 < a.tables.now.n_satom = rw (c.p2s_at-i.ensures, ep) (images.p2s-read _ c.requires.0 a.b c.requires.2).1 in
    let j : c.column_of-3.result < a.tables.now.n_satom = rw c.column_of-3.ensures (mod-lt _ h) in
    let k : c.column_of-2.result < a.tables.now.n_satom = rw c.column_of-2.ensures (mod-lt _ h) in
    let l : c.column_of.result < a.tables.now.n_satom = rw c.column_of.ensures (mod-lt _ h) in
    (c.requires.1.each _ j).0

pub image-z-requires : goal.image-z-requires
image-z-requires c =
    let a = c.args in
    let h = images.satoms_pos _ c.requires.0 a.b c.requires.2 in
    let er : c.row_of-pj.result ≡ a.b / a.tables.now.n_satom / a.tables.now.n_satom = c.row_of-pj.ensures ∙ ap (λ x. x / a.tables.now.n_satom) c.row_of-pjk.ensures in
    let ep : c.row_of.result ≡ a.b / a.tables.now.n_satom / a.tables.now.n_satom / a.tables.now.n_satom = c.row_of.ensures ∙ ap (λ x. x / a.tables.now.n_satom) er in
    let i : c.p2s_at-i.result.0 < a.tables.now.n_satom = rw (c.p2s_at-i.ensures, ep) (images.p2s-read _ c.requires.0 a.b c.requires.2).1 in
    let j : c.column_of-3.result < a.tables.now.n_satom = rw c.column_of-3.ensures (mod-lt _ h) in
    let k : c.column_of-2.result < a.tables.now.n_satom = rw c.column_of-2.ensures (mod-lt _ h) in
    let l : c.column_of.result < a.tables.now.n_satom = rw c.column_of.ensures (mod-lt _ h) in
    (c.requires.1.each _ k).0

pub image-w-requires : goal.image-w-requires
image-w-requires c =
    let a = c.args in
    let h = images.satoms_pos _ c.requires.0 a.b c.requires.2 in
    let er : c.row_of-pj.result ≡ a.b / a.tables.now.n_satom / a.tables.now.n_satom = c.row_of-pj.ensures ∙ ap (λ x. x / a.tables.now.n_satom) c.row_of-pjk.ensures in
    let ep : c.row_of.result ≡ a.b / a.tables.now.n_satom / a.tables.now.n_satom / a.tables.now.n_satom = c.row_of.ensures ∙ ap (λ x. x / a.tables.now.n_satom) er in
    let i : c.p2s_at-i.result.0 < a.tables.now.n_satom = rw (c.p2s_at-i.ensures, ep) (images.p2s-read _ c.requires.0 a.b c.requires.2).1 in
    let j : c.column_of-3.result < a.tables.now.n_satom = rw c.column_of-3.ensures (mod-lt _ h) in
    let k : c.column_of-2.result < a.tables.now.n_satom = rw c.column_of-2.ensures (mod-lt _ h) in
    let l : c.column_of.result < a.tables.now.n_satom = rw c.column_of.ensures (mod-lt _ h) in
    (c.requires.1.each _ l).0

pub stored_block4-requires : goal.stored_block4-requires
stored_block4-requires c =
    let a = c.args in
    let h = images.satoms_pos _ c.requires.0 a.b c.requires.2 in
    let er : c.row_of-pj.result ≡ a.b / a.tables.now.n_satom / a.tables.now.n_satom = c.row_of-pj.ensures ∙ ap (λ x. x / a.tables.now.n_satom) c.row_of-pjk.ensures in
    let ep : c.row_of.result ≡ a.b / a.tables.now.n_satom / a.tables.now.n_satom / a.tables.now.n_satom = c.row_of.ensures ∙ ap (λ x. x / a.tables.now.n_satom) er in
    let i : c.p2s_at-i.result.0 < a.tables.now.n_satom = rw (c.p2s_at-i.ensures, ep) (images.p2s-read _ c.requires.0 a.b c.requires.2).1 in
    let j : c.column_of-3.result < a.tables.now.n_satom = rw c.column_of-3.ensures (mod-lt _ h) in
    let k : c.column_of-2.result < a.tables.now.n_satom = rw c.column_of-2.ensures (mod-lt _ h) in
    let l : c.column_of.result < a.tables.now.n_satom = rw c.column_of.ensures (mod-lt _ h) in
    let x : c.image-x.result.0 < a.tables.now.n_satom = rw c.image-x.ensures (c.requires.1.each _ i).1 in
    let y : c.image-y.result.0 < a.tables.now.n_satom = rw c.image-y.ensures (c.requires.1.each _ j).1 in
    let z : c.image-z.result.0 < a.tables.now.n_satom = rw c.image-z.ensures (c.requires.1.each _ k).1 in
    let v : c.image-w.result.0 < a.tables.now.n_satom = rw c.image-w.ensures (c.requires.1.each _ l).1 in
    (images.read-tables _ c.requires.0 a.b c.requires.2, x, y, z, v)

pub returns : goal.returns
returns c =
    let a = c.args in
    let T : ShiftTables = given a.tables.now in
    let er : c.row_of-pj.result ≡ a.b / a.tables.now.n_satom / a.tables.now.n_satom = c.row_of-pj.ensures ∙ ap (λ x. x / a.tables.now.n_satom) c.row_of-pjk.ensures in
    let ep : c.row_of.result ≡ a.b / a.tables.now.n_satom / a.tables.now.n_satom / a.tables.now.n_satom = c.row_of.ensures ∙ ap (λ x. x / a.tables.now.n_satom) er in
    let ej : c.column_of-3.result ≡ a.b / a.tables.now.n_satom / a.tables.now.n_satom % a.tables.now.n_satom = c.column_of-3.ensures ∙ ap (λ x. x % a.tables.now.n_satom) er in
    let ek : c.column_of-2.result ≡ a.b / a.tables.now.n_satom % a.tables.now.n_satom = c.column_of-2.ensures ∙ ap (λ x. x % a.tables.now.n_satom) c.row_of-pjk.ensures in
    images.image_is T c.requires.0 a.b c.requires.2 a.operations.now a.r
    (c.p2s_at-i.ensures ∙ ap (index_at a.tables.now.p2s.now) ep) c.image-x.ensures
    (c.image-y.ensures ∙ ap (λ j. index_at a.operations.now (a.r * a.tables.now.n_satom + j)) ej)
    (c.image-z.ensures ∙ ap (λ j. index_at a.operations.now (a.r * a.tables.now.n_satom + j)) ek)
    (c.image-w.ensures ∙ ap (λ j. index_at a.operations.now (a.r * a.tables.now.n_satom + j)) c.column_of.ensures) c.stored_block4.ensures
