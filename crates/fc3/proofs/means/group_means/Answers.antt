use mathlib.Core.Path.{◌∙◌}
use Rattle.fc3.specs.Mean.{six-sums, lnm-permuted, mln-permuted, mnl-permuted, nlm-permuted, nml-permuted, means_are}
use Rattle.fc3.proofs.means.group_means.Goals as goal

pub returns : goal.returns
returns c =
    let s = c.args in
    six-sums c.sixths.ensures c.plus-kji.ensures c.plus-kij.ensures c.plus-jki.ensures c.plus-jik.ensures c.plus-ikj.ensures
    c.read27-ijk.ensures (lnm-permuted c.permute_lnm.ensures c.read27.ensures) (mln-permuted c.permute_mln.ensures c.read27-2.ensures)
    (mnl-permuted c.permute_mnl.ensures c.read27-3.ensures) (nlm-permuted c.permute_nlm.ensures c.read27-4.ensures)
    (nml-permuted c.permute_nml.ensures c.read27-5.ensures)
    ∙ means_are s.fc3.now s.b0 s.b1 s.b2 s.b3 s.b4 s.b5
