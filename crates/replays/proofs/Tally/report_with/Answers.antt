use Rattle.std.proofs.Common.{ℕ, List, ◌++◌, OnOk, Option, Result, Ok, Err}
use Rattle.std.specs.Io.KnownBytes.{Appends}
use Rattle.std.proofs.KnownBytes.{Appends-trans}
use Rattle.replays.specs.Report.{report_text}
use Rattle.replays.proofs.Tally.report_with.Goals as goal

-- bs was written, and then cs, unless the last call failed
both : {T E : Type 0} (a b c : Option (List ℕ)) (r : Result T E) (bs cs : List ℕ) → Appends a b bs → OnOk r (Appends b c cs) → OnOk r (Appends a c (bs ++ cs))
both a b c (Ok x) bs cs p q = Appends-trans a b c bs cs p q
both a b c (Err e) bs cs p q = tt

pub returns : goal.returns
unfolding report_text
returns g c =
    both _ _ _ _ _ _ c.in_ok-first_line.ensures
    (both _ _ _ _ _ _ c.in_ok-line.ensures
    (both _ _ _ _ _ _ c.in_ok-line-2.ensures
    (both _ _ _ _ _ _ c.in_ok-line-3.ensures
    (both _ _ _ _ _ _ c.in_ok-line-4.ensures
    (both _ _ _ _ _ _ c.in_ok-line-5.ensures
    (both _ _ _ _ _ _ c.in_ok-line-6.ensures
    (both _ _ _ _ _ _ c.in_ok-line-7.ensures c.line-8.ensures)))))))
