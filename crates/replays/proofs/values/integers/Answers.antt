use Rattle.std.proofs.Common.{pos, rules}
use Rattle.lists.specs.Tab.{is_tab}
use Rattle.replays.specs.Values.{table_entry}
use Rattle.replays.proofs.values.integers.Goals as goal

pub returns : goal.returns
returns c =
    let a = c.args in
    is_tab (pos 0) _ (λ i. table_entry a.r.now a.from i) c.fill_by.new.out c.fill_by.auto.out (λ k h. let p = c.fill_by.ensures (pos 0) k h in search rules)
