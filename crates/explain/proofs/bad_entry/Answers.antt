use mathlib.Core.Path.{refl, ◌∙◌}
use borrow.Author.Tests.{not-true, not-false}
use Rattle.lists.specs.Lowest.{lowest}
use Rattle.tables.specs.Compact.{ShiftTables, given}
use Rattle.tables.proofs.Loops.{told-no, told_yes}
use Prim.Native.Nat.{suc}
use Rattle.explain.specs.Explain.{bound_tables, out_at, first_beyond}
use Rattle.explain.specs.Laws.{here, next, entry-at}
use Rattle.explain.proofs.bad_entry.Goals as goal

pub returns-then-not-all_below : goal.returns-then-not-all_below
returns-then-not-all_below c =
    let a = c.args in
    let T : ShiftTables = given a.tables.now in
    c.because.ensures ∙ entry-at T 0 (here 3 _ (not-false _ (told-no c.all_below.ensures c.if-not-all_below.true-raw))) c.first_beyond-k.ensures

pub returns-then-not-all_below-2 : goal.returns-then-not-all_below-2
returns-then-not-all_below-2 c =
    let a = c.args in
    let T : ShiftTables = given a.tables.now in
    c.because-then-not-all_below-2.ensures ∙ entry-at T 1 (next 3 _ (not-true _ (told_yes c.all_below.ensures c.if-not-all_below.false-raw)) (here 2 _ (not-false _ (told-no c.all_below-2.ensures c.if-not-all_below-2.true-raw)))) c.first_beyond-k-then-not-all_below-2.ensures

pub returns-then-not-all_below-3 : goal.returns-then-not-all_below-3
returns-then-not-all_below-3 c =
    let a = c.args in
    let T : ShiftTables = given a.tables.now in
    c.because-then-not-all_below-3.ensures ∙ entry-at T 2 (next 3 _ (not-true _ (told_yes c.all_below.ensures c.if-not-all_below.false-raw)) (next 2 _ (not-true _ (told_yes c.all_below-2.ensures c.if-not-all_below-2.false-raw)) (here 1 _ (not-false _ (told-no c.all_below-3.ensures c.if-not-all_below-3.true-raw))))) c.first_beyond-k-then-not-all_below-3.ensures

pub returns-then-not-all_below-4 : goal.returns-then-not-all_below-4
returns-then-not-all_below-4 c =
    let a = c.args in
    let T : ShiftTables = given a.tables.now in
    c.because-then-not-all_below-4.ensures ∙ entry-at T 3 (next 3 _ (not-true _ (told_yes c.all_below.ensures c.if-not-all_below.false-raw)) (next 2 _ (not-true _ (told_yes c.all_below-2.ensures c.if-not-all_below-2.false-raw)) (next 1 _ (not-true _ (told_yes c.all_below-3.ensures c.if-not-all_below-3.false-raw)) (here 0 _ (not-false _ (told-no c.all_below-4.ensures c.if-not-all_below-4.true-raw)))))) c.first_beyond-k-then-not-all_below-4.ensures

pub returns : goal.returns
unfolding first_beyond lowest
returns c =
    let a = c.args in
    let T : ShiftTables = given a.tables.now in
    c.because-2.ensures ∙ entry-at T 4 (next 3 (λ i. out_at (bound_tables T) i) (not-true _ (told_yes c.all_below.ensures c.if-not-all_below.false-raw)) (next 2 (λ i. out_at (bound_tables T) (suc i)) (not-true _ (told_yes c.all_below-2.ensures c.if-not-all_below-2.false-raw)) (next 1 (λ i. out_at (bound_tables T) (suc (suc i))) (not-true _ (told_yes c.all_below-3.ensures c.if-not-all_below-3.false-raw)) (next 0 (λ i. out_at (bound_tables T) (suc (suc (suc i)))) (not-true _ (told_yes c.all_below-4.ensures c.if-not-all_below-4.false-raw)) refl)))) refl
