use mathlib.Core.Path.{refl, sym, ◌∙◌}
use Prim.Native.Nat.{◌<◌}
use native.Mathlib.Omega.{arith}
use borrow.Author.Tests.{eq-eqb, ne_eqb}
use Rattle.lists.specs.Tests.{refuted, not-both, same_test}
use Rattle.tables.specs.Compact.{ShiftTables, shifts_of, fit-within, given}
use Rattle.tables.specs.Conditions.{read}
use Rattle.tables.specs.Shifts.{counts_agree, ruled}
use Rattle.shifts.proofs.Inverses.{all-ruled, ruled-spread, ruled-placed, ruled-closed, closed-rows, closed_none, placed-kept, placed-free, sent_of}
use Rattle.shifts.proofs.Together.{product_small, rules_of, same-null}
use Rattle.tables.proofs.Loops.{told-no, told_yes}
use Rattle.shifts.proofs.rules.keeps_rules.Goals as goal

pub overflow_mul-tables : goal.overflow_mul-tables
overflow_mul-tables c = omega (arith, product_small c.args.tables.now.n_patom c.args.tables.now.num_trans c.requires.patoms c.requires.shifts)

pub returns-then-tables : goal.returns-then-tables
unfolding counts_agree
returns-then-tables c =
    let a = c.args in
    let T : ShiftTables = given a.tables.now in
    sym (refuted (ruled (shifts_of T)) (λ e. not-both (rules_of (shifts_of T) e).0 (ne_eqb _ _ c.if-tables.true)))

pub returns-then-not-has_null : goal.returns-then-not-has_null
returns-then-not-has_null c =
    let a = c.args in
    let T : ShiftTables = given a.tables.now in
    sym (refuted (ruled (shifts_of T)) (λ e. not-both (rules_of (shifts_of T) e).1.1.0 (sym (same-null T) ∙ told-no c.has_null.ensures c.if-not-has_null.true-raw)))

pub returns-then-not-nsym_lands : goal.returns-then-not-nsym_lands
returns-then-not-nsym_lands c =
    let a = c.args in
    let T : ShiftTables = given a.tables.now in
    sym (refuted (ruled (shifts_of T)) (λ e. not-both (rules_of (shifts_of T) e).1.1.1.1.1.1.1 (told-no c.nsym_lands.ensures c.if-not-nsym_lands.true-raw)))

pub place_all-requires : goal.place_all-requires
place_all-requires c = let F = c.requires in (F.p2s-fit, F.s2pp-fit, record { atoms = F.satoms; shifts = F.shifts; table = F.perms-fit }, refl)

pub returns-then-not-place_all : goal.returns-then-not-place_all
returns-then-not-place_all c =
    let a = c.args in
    let T : ShiftTables = given a.tables.now in
    sym (refuted (ruled (shifts_of T)) (λ e. not-both (c.place_all.ensures.1 (ruled-spread T c.requires e)) c.if-not-place_all.true))

pub all_placed-requires : goal.all_placed-requires
all_placed-requires c = omega (arith, c.requires.satoms)

pub returns-then-not-all_placed : goal.returns-then-not-all_placed
returns-then-not-all_placed c =
    let a = c.args in
    let w = c.place_all in
    let T : ShiftTables = given a.tables.now in
    let L = w.ensures.0 c.if-not-place_all.false in
    sym (refuted (ruled (shifts_of T)) (λ e. not-both (c.all_placed.ensures.1 (ruled-placed T c.requires _ L e)) c.if-not-all_placed.true))

pub returns-then-tables-eq0 : goal.returns-then-tables-eq0
unfolding counts_agree
returns-then-tables-eq0 c =
    let a = c.args in
    let T : ShiftTables = given a.tables.now in
    let L = c.place_all.ensures.0 c.if-not-place_all.false in
    sym (all-ruled (shifts_of T) (fit-within T c.requires) (eq-eqb _ _ c.if-tables.false)
    (sym (same-null T) ∙ told_yes c.has_null.ensures c.if-not-has_null.false-raw)
    (told_yes c.nsym_lands.ensures c.if-not-nsym_lands.false-raw)
    (placed-kept T c.requires _ L)
    (placed-free T c.requires _ L)
    (closed-rows T c.requires (closed_none T c.requires c.if-tables-eq0.true)))

pub rows_closed-requires : goal.rows_closed-requires
rows_closed-requires c =
    let a = c.args in
    let T : ShiftTables = given a.tables.now in
    let L = c.place_all.ensures.0 c.if-not-place_all.false in
    let C = c.all_placed.ensures.0 c.if-not-all_placed.false in
    let atom : 0 < a.tables.now.n_satom = omega arith in
    sent_of T c.requires _ L (sym (same-null T) ∙ told_yes c.has_null.ensures c.if-not-has_null.false-raw) C (omega (arith, (read c.requires.s2pp-fit 0 atom).1))

pub returns : goal.returns
unfolding counts_agree
returns c =
    let a = c.args in
    let T : ShiftTables = given a.tables.now in
    let L = c.place_all.ensures.0 c.if-not-place_all.false in
    same_test _ (ruled (shifts_of T))
    (λ e.
    all-ruled (shifts_of T) (fit-within T c.requires) (eq-eqb _ _ c.if-tables.false)
    (sym (same-null T) ∙ told_yes c.has_null.ensures c.if-not-has_null.false-raw)
    (told_yes c.nsym_lands.ensures c.if-not-nsym_lands.false-raw)
    (placed-kept T c.requires _ L)
    (placed-free T c.requires _ L)
    (closed-rows T c.requires (c.rows_closed.ensures.0 e)))
    (λ e. c.rows_closed.ensures.1 (ruled-closed T c.requires e))
