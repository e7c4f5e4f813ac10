use Rattle.std.proofs.Common.{◌≡◌, ◌+◌, ◌*◌, length, drop}
use Rattle.standing.specs.RetireAll.{add_all}
use Rattle.standing.proofs.retire.add_all.Given as goal

abbrev pub invariant-loop-set : goal.invariant-loop-set
invariant-loop-set l = (l.long ≡ l.count + 14 * l.set-index) × (length l.lent ≡ length l.initial.lent) × (add_all l.initial.lent l.count l.list ≡ add_all l.lent l.long (drop l.set-index l.list))
