use mathlib.Core.Path.{◌∙◌}
use Rattle.fc3.specs.Mean.{six-sums, lnm-permuted, mln-permuted, mnl-permuted, nlm-permuted, nml-permuted, means_are}
use Rattle.fc3.proofs.means.means_last_two.Goals as goal

pub returns : goal.returns
returns c =
    let s = c.args in
    six-sums c.sixths.ensures c.plus-kji.ensures c.plus-kij.ensures c.plus-jki.ensures c.plus-jik.ensures c.plus-ikj.ensures
    c.read27-x.ensures (lnm-permuted c.permute_lnm.ensures c.read27-x.ensures) (mln-permuted c.permute_mln.ensures c.read27-y.ensures)
    (mnl-permuted c.permute_mnl.ensures c.read27-z.ensures) (nlm-permuted c.permute_nlm.ensures c.read27-y.ensures)
    (nml-permuted c.permute_nml.ensures c.read27-z.ensures)
    ∙ means_are s.fc3.now s.abb s.abb s.bab s.bba s.bab s.bba
