use Rattle.std.proofs.Common.{◌+◌, ◌%◌, ◌^◌, rules}
use Rattle.lists.specs.Tab.{is_tab}
use Rattle.replays.specs.Values.{byte_of}
use Rattle.replays.proofs.values.bytes.Goals as goal

pub returns : goal.returns
returns c =
    let a = c.args in
    is_tab 0 _ (λ i. byte_of a.r.now ((a.from + i) % 2 ^ 64)) c.fill_by.new.out c.fill_by.auto.out (λ k h. let p = c.fill_by.ensures 0 k h in search rules)
