use Rattle.std.proofs.Common.{pos, rules}
use Rattle.lists.specs.Tab.{is_tab}
use Rattle.replays.specs.Values.{integer_at}
use Rattle.replays.proofs.values.fill_integers.Goals as goal

pub returns : goal.returns
returns c =
    let a = c.args in
    is_tab (pos 0) _ (λ i. integer_at a.seed i) c.fill_by.new.out c.fill_by.auto.out (λ k h. let p = c.fill_by.ensures (pos 0) k h in search rules)
