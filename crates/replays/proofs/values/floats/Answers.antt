use Rattle.std.proofs.Common.{rules}
use Rattle.std.specs.Float.{nan}
use Rattle.lists.specs.Tab.{is_tab}
use Rattle.replays.specs.Values.{float_at}
use Rattle.replays.proofs.values.floats.Goals as goal

pub returns : goal.returns
returns c =
    let a = c.args in
    is_tab nan _ (λ i. float_at a.r.now a.from i) c.fill_by.new.out c.fill_by.auto.out (λ k h. let p = c.fill_by.ensures nan k h in search rules)
