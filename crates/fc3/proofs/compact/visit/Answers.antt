use mathlib.Core.Path.{sym, ap, ◌∙◌}
use lib.ListN.{get_or}
use Rattle.fc3.specs.Loops.{at-below, plain3, visit-free, visit-met}
use Rattle.fc3.proofs.compact.visit.Goals as goal

pub bounds-done-n : goal.bounds-done-n
bounds-done-n c =
    let a = c.args in
    rw (c.block3-n.ensures ∙ plain3 _ _ _ _) (rw c.requires.ready.work-length (at-below _ _ _ _ c.requires.ready a.p.0 a.j.0 a.k.0 c.requires.atoms))

pub returns-then-done-n-eq0 : goal.returns-then-done-n-eq0
returns-then-done-n-eq0 c =
    let a = c.args in
    c.take.ensures ∙ sym (visit-free _ _ (a.fc3.now, a.done.now) (ap (λ n. get_or a.done.now n 0) (sym (c.block3-n.ensures ∙ plain3 _ _ _ _)) ∙ c.if-done-n-eq0.true))

pub returns-else-done-n-eq0 : goal.returns-else-done-n-eq0
returns-else-done-n-eq0 c =
    let a = c.args in
    sym (visit-met _ _ (a.fc3.now, a.done.now) (λ e. c.if-done-n-eq0.false (ap (λ n. get_or a.done.now n 0) (c.block3-n.ensures ∙ plain3 _ _ _ _) ∙ e)))
