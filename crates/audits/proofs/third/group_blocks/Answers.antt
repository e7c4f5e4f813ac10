use Prim.Native.Nat.{◌/◌, ◌%◌, ◌<◌}
use mathlib.Core.Path.{◌≡◌, ap, ◌∙◌}
use Rattle.tables.specs.Conditions.{index_at}
use Rattle.places.specs.ReadOuts.{stored_in}
use Rattle.audits.specs.ThirdScanLaws.{same-atoms, read-tables, others_below, satoms_pos, p2s-read, found_are}
use Rattle.audits.proofs.third.group_blocks.Goals as goal

pub column_of-requires : goal.column_of-requires
column_of-requires c = satoms_pos _ c.requires.0 c.args.b c.requires.1

pub row_of-pj-requires : goal.row_of-pj-requires
row_of-pj-requires c = satoms_pos _ c.requires.0 c.args.b c.requires.1

pub column_of-requires-2 : goal.column_of-requires-2
column_of-requires-2 c = satoms_pos _ c.requires.0 c.args.b c.requires.1

pub row_of-requires : goal.row_of-requires
row_of-requires c = satoms_pos _ c.requires.0 c.args.b c.requires.1

pub p2s_at-i-requires : goal.p2s_at-i-requires
p2s_at-i-requires c =
    let ep : c.row_of.result ≡ _ = c.row_of.ensures ∙ ap (λ x. x / c.args.tables.now.n_satom) c.row_of-pj.ensures in
    rw ep (p2s-read _ c.requires.0 c.args.b c.requires.1).0

pub stored_block3-ijk-requires : goal.stored_block3-ijk-requires
stored_block3-ijk-requires c =
    let F = c.requires.0 in
    let h = c.requires.1 in
    let o = others_below _ F c.args.b h in
    let ej : c.column_of-2.result ≡ _ = c.column_of-2.ensures ∙ ap (λ x. x % c.args.tables.now.n_satom) c.row_of-pj.ensures in
    let ep : c.row_of.result ≡ _ = c.row_of.ensures ∙ ap (λ x. x / c.args.tables.now.n_satom) c.row_of-pj.ensures in
    let i : c.p2s_at-i.result.0 < c.args.tables.now.n_satom = rw (c.p2s_at-i.ensures, ep) (p2s-read _ F c.args.b h).1 in
    let j : c.column_of-2.result < c.args.tables.now.n_satom = rw ej o.0 in
    let k : c.column_of.result < c.args.tables.now.n_satom = rw c.column_of.ensures o.1 in
    let t = read-tables _ F c.args.b h in
    (t, i, j, k)

pub stored_block3-ikj-requires : goal.stored_block3-ikj-requires
stored_block3-ikj-requires c =
    let F = c.requires.0 in
    let h = c.requires.1 in
    let o = others_below _ F c.args.b h in
    let ej : c.column_of-2.result ≡ _ = c.column_of-2.ensures ∙ ap (λ x. x % c.args.tables.now.n_satom) c.row_of-pj.ensures in
    let ep : c.row_of.result ≡ _ = c.row_of.ensures ∙ ap (λ x. x / c.args.tables.now.n_satom) c.row_of-pj.ensures in
    let i : c.p2s_at-i.result.0 < c.args.tables.now.n_satom = rw (c.p2s_at-i.ensures, ep) (p2s-read _ F c.args.b h).1 in
    let j : c.column_of-2.result < c.args.tables.now.n_satom = rw ej o.0 in
    let k : c.column_of.result < c.args.tables.now.n_satom = rw c.column_of.ensures o.1 in
    let t = read-tables _ F c.args.b h in
    (t, i, k, j)

pub stored_block3-jik-requires : goal.stored_block3-jik-requires
stored_block3-jik-requires c =
    let F = c.requires.0 in
    let h = c.requires.1 in
    let o = others_below _ F c.args.b h in
    let ej : c.column_of-2.result ≡ _ = c.column_of-2.ensures ∙ ap (λ x. x % c.args.tables.now.n_satom) c.row_of-pj.ensures in
    let ep : c.row_of.result ≡ _ = c.row_of.ensures ∙ ap (λ x. x / c.args.tables.now.n_satom) c.row_of-pj.ensures in
    let i : c.p2s_at-i.result.0 < c.args.tables.now.n_satom = rw (c.p2s_at-i.ensures, ep) (p2s-read _ F c.args.b h).1 in
    let j : c.column_of-2.result < c.args.tables.now.n_satom = rw ej o.0 in
    let k : c.column_of.result < c.args.tables.now.n_satom = rw c.column_of.ensures o.1 in
    let t = read-tables _ F c.args.b h in
    (t, j, i, k)

pub stored_block3-jki-requires : goal.stored_block3-jki-requires
stored_block3-jki-requires c =
    let F = c.requires.0 in
    let h = c.requires.1 in
    let o = others_below _ F c.args.b h in
    let ej : c.column_of-2.result ≡ _ = c.column_of-2.ensures ∙ ap (λ x. x % c.args.tables.now.n_satom) c.row_of-pj.ensures in
    let ep : c.row_of.result ≡ _ = c.row_of.ensures ∙ ap (λ x. x / c.args.tables.now.n_satom) c.row_of-pj.ensures in
    let i : c.p2s_at-i.result.0 < c.args.tables.now.n_satom = rw (c.p2s_at-i.ensures, ep) (p2s-read _ F c.args.b h).1 in
    let j : c.column_of-2.result < c.args.tables.now.n_satom = rw ej o.0 in
    let k : c.column_of.result < c.args.tables.now.n_satom = rw c.column_of.ensures o.1 in
    let t = read-tables _ F c.args.b h in
    (t, j, k, i)

pub stored_block3-kij-requires : goal.stored_block3-kij-requires
stored_block3-kij-requires c =
    let F = c.requires.0 in
    let h = c.requires.1 in
    let o = others_below _ F c.args.b h in
    let ej : c.column_of-2.result ≡ _ = c.column_of-2.ensures ∙ ap (λ x. x % c.args.tables.now.n_satom) c.row_of-pj.ensures in
    let ep : c.row_of.result ≡ _ = c.row_of.ensures ∙ ap (λ x. x / c.args.tables.now.n_satom) c.row_of-pj.ensures in
    let i : c.p2s_at-i.result.0 < c.args.tables.now.n_satom = rw (c.p2s_at-i.ensures, ep) (p2s-read _ F c.args.b h).1 in
    let j : c.column_of-2.result < c.args.tables.now.n_satom = rw ej o.0 in
    let k : c.column_of.result < c.args.tables.now.n_satom = rw c.column_of.ensures o.1 in
    let t = read-tables _ F c.args.b h in
    (t, k, i, j)

pub stored_block3-kji-requires : goal.stored_block3-kji-requires
stored_block3-kji-requires c =
    let F = c.requires.0 in
    let h = c.requires.1 in
    let o = others_below _ F c.args.b h in
    let ej : c.column_of-2.result ≡ _ = c.column_of-2.ensures ∙ ap (λ x. x % c.args.tables.now.n_satom) c.row_of-pj.ensures in
    let ep : c.row_of.result ≡ _ = c.row_of.ensures ∙ ap (λ x. x / c.args.tables.now.n_satom) c.row_of-pj.ensures in
    let i : c.p2s_at-i.result.0 < c.args.tables.now.n_satom = rw (c.p2s_at-i.ensures, ep) (p2s-read _ F c.args.b h).1 in
    let j : c.column_of-2.result < c.args.tables.now.n_satom = rw ej o.0 in
    let k : c.column_of.result < c.args.tables.now.n_satom = rw c.column_of.ensures o.1 in
    let t = read-tables _ F c.args.b h in
    (t, k, j, i)

pub returns : goal.returns
returns c =
    let a = c.args in
    let f = stored_in a.tables.now.n_satom a.tables.now.s2pp.now a.tables.now.nsym_list.now a.tables.now.perms.now in
    let ej : c.column_of-2.result ≡ _ = c.column_of-2.ensures ∙ ap (λ x. x % a.tables.now.n_satom) c.row_of-pj.ensures in
    let ep : c.row_of.result ≡ _ = c.row_of.ensures ∙ ap (λ x. x / a.tables.now.n_satom) c.row_of-pj.ensures in
    let ei : c.p2s_at-i.result.0 ≡ index_at a.tables.now.p2s.now _ = c.p2s_at-i.ensures ∙ ap (index_at a.tables.now.p2s.now) ep in
    same-atoms f c.stored_block3-ijk.ensures c.stored_block3-ikj.ensures c.stored_block3-jik.ensures c.stored_block3-jki.ensures c.stored_block3-kij.ensures c.stored_block3-kji.ensures ej c.column_of.ensures
    ∙ found_are _ c.requires.0 c.args.b c.requires.1 _ ei
