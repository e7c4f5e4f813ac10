use Rattle.std.proofs.Common.{rules}
use Rattle.lists.specs.Tab.{is_tab}
use Rattle.replays.specs.Values.{byte_at}
use Rattle.replays.proofs.values.fill_bytes.Goals as goal

pub returns : goal.returns
returns c =
    let a = c.args in
    is_tab 0 _ (λ i. byte_at a.seed i) c.fill_by.new.out c.fill_by.auto.out (λ k h. let p = c.fill_by.ensures 0 k h in search rules)
