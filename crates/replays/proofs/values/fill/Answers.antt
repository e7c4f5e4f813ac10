use Rattle.std.proofs.Common.{rules}
use Rattle.std.specs.Float.{nan}
use Rattle.lists.specs.Tab.{is_tab}
use Rattle.replays.specs.Values.{value_at}
use Rattle.replays.proofs.values.fill.Goals as goal

pub returns : goal.returns
returns c =
    let a = c.args in
    is_tab nan _ (λ i. value_at a.seed a.kind i) c.fill_by.new.out c.fill_by.auto.out (λ k h. let p = c.fill_by.ensures nan k h in search rules)
