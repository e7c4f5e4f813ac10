use Rattle.std.specs.Prelude.{Ok, Some}
use Prim.Native.Nat.{ℕ, ◌≤◌, ◌<◌}
use native.Mathlib.Omega.{arith}
use mathlib.Core.Path.{ap, ◌∙◌, subst}
use Rattle.lists.specs.Digits.{times_power}
use Rattle.tables.specs.Limits.{limit4}
use Rattle.tables.specs.Compact.{ShiftTables, shifts_of, given}
use Rattle.places.specs.Permutations.{perms4}
use Rattle.audits.specs.Blocks.{alike-none, fits_w, all-passed}
use Rattle.audits.proofs.BlocksLaws.{passed-w, some-w, found-w}
use Rattle.audits.specs.Guard.{block-count}
use Rattle.audits.proofs.LaterLaws.{walked}
use Rattle.audits.specs.FourthScanLaws.{in81, orders, blocks-few, blocks-some}
use Rattle.audits.proofs.fourth.scan.Goals as goal

pub next-b-requires : goal.next-b-requires
next-b-requires c =
    let R = c.requires in
    let a = c.args in
    let T : ShiftTables = given a.tables.now in
    let n = c.row_of-count.ensures ∙ block-count limit4 3 _ T R 81 in81 in
    (omega arith, blocks-few T R.fit n, blocks-some T n)

pub loop-b-init : goal.loop-b-init
loop-b-init c =
    let R = c.requires in
    let a = c.args in
    let T : ShiftTables = given a.tables.now in
    let n = c.row_of-count.ensures ∙ block-count limit4 3 _ T R 81 in81 in
    let x = c.next-b.ensures in
    (x.to, walked (shifts_of T) R.rules a.fc.now x n (alike-none _ _ _ _))

pub group_blocks-bs-requires : goal.group_blocks-bs-requires
group_blocks-bs-requires c =
    let R = c.requires in
    let a = c.args in
    let T : ShiftTables = given a.tables.now in
    let l = c.loop-b in
    let n = c.row_of-count.ensures ∙ block-count limit4 3 _ T R 81 in81 in
    let hb : l.b < times_power a.tables.now.n_satom 3 a.tables.now.n_patom = subst (λ (x : ℕ). l.b < x) n c.loop-b-test.true in
    let O = orders c.addresses-t.ensures in
    (R.fit, hb)

pub look-k-requires : goal.look-k-requires
look-k-requires c =
    let R = c.requires in
    let a = c.args in
    let T : ShiftTables = given a.tables.now in
    let l = c.loop-b in
    let n = c.row_of-count.ensures ∙ block-count limit4 3 _ T R 81 in81 in
    let hb : l.b < times_power a.tables.now.n_satom 3 a.tables.now.n_patom = subst (λ (x : ℕ). l.b < x) n c.loop-b-test.true in
    let O = orders c.addresses-t.ensures in
    fits_w (shifts_of T) R.rules 3 perms4 _ O a.fc.now R.set-length 81 in81 l.b hb _ c.group_blocks-bs.ensures

pub difference-requires : goal.difference-requires
difference-requires c =
    let R = c.requires in
    let a = c.args in
    let T : ShiftTables = given a.tables.now in
    let l = c.loop-b in
    let n = c.row_of-count.ensures ∙ block-count limit4 3 _ T R 81 in81 in
    let hb : l.b < times_power a.tables.now.n_satom 3 a.tables.now.n_patom = subst (λ (x : ℕ). l.b < x) n c.loop-b-test.true in
    let O = orders c.addresses-t.ensures in
    let eb = c.group_blocks-bs.ensures in (
      fits_w (shifts_of T) R.rules 3 perms4 _ O a.fc.now R.set-length 81 in81 l.b hb _ eb,
      c.if-k-lt81.true,
      some-w (shifts_of T) R.rules 3 perms4 _ O a.fc.now R.set-length 81 in81 l.b hb _ eb _ c.look-k.ensures c.if-k-lt81.true,
    )

pub returns-then-k-lt81 : goal.returns-then-k-lt81
returns-then-k-lt81 c =
    let R = c.requires in
    let a = c.args in
    let T : ShiftTables = given a.tables.now in
    let l = c.loop-b in
    let n = c.row_of-count.ensures ∙ block-count limit4 3 _ T R 81 in81 in
    let hb : l.b < times_power a.tables.now.n_satom 3 a.tables.now.n_patom = subst (λ (x : ℕ). l.b < x) n c.loop-b-test.true in
    let O = orders c.addresses-t.ensures in
    let eb = c.group_blocks-bs.ensures in
    ap (λ d. Ok (Some d)) c.difference.ensures
    ∙ found-w (shifts_of T) R.rules 3 perms4 _ O a.fc.now R.set-length 81 in81 l.b hb _ eb _ c.look-k.ensures c.if-k-lt81.true l.invariant.1

pub next-b-requires-in-loop-b : goal.next-b-requires-in-loop-b
next-b-requires-in-loop-b c =
    let R = c.requires in
    let a = c.args in
    let T : ShiftTables = given a.tables.now in
    let n = c.row_of-count.ensures ∙ block-count limit4 3 _ T R 81 in81 in
    let g = c.loop-b-test.true in
    (omega arith, blocks-few T R.fit n, blocks-some T n)

pub loop-b-smaller : goal.loop-b-smaller
loop-b-smaller c = let x = c.next-b-in-loop-b.ensures.from in let y = c.loop-b-test.true in omega arith

pub loop-b-preserved : goal.loop-b-preserved
loop-b-preserved c =
    let R = c.requires in
    let a = c.args in
    let T : ShiftTables = given a.tables.now in
    let l = c.loop-b in
    let n = c.row_of-count.ensures ∙ block-count limit4 3 _ T R 81 in81 in
    let hb : l.b < times_power a.tables.now.n_satom 3 a.tables.now.n_patom = subst (λ (x : ℕ). l.b < x) n c.loop-b-test.true in
    let O = orders c.addresses-t.ensures in
    let eb = c.group_blocks-bs.ensures in
    let x = c.next-b-in-loop-b.ensures in
    (x.to, walked (shifts_of T) R.rules a.fc.now x n (passed-w (shifts_of T) R.rules 3 perms4 _ O a.fc.now R.set-length 81 in81 l.b hb _ eb _ c.look-k.ensures c.if-k-lt81.false l.invariant.1))

pub returns : goal.returns
returns c =
    let R = c.requires in
    let a = c.args in
    let T : ShiftTables = given a.tables.now in
    let l = c.loop-b in
    let n = c.row_of-count.ensures ∙ block-count limit4 3 _ T R 81 in81 in
    let hb : times_power a.tables.now.n_satom 3 a.tables.now.n_patom ≤ l.b = subst (λ (x : ℕ). x ≤ l.b) n c.loop-b-test.false in
    all-passed (shifts_of T) R.rules 3 perms4 _ (orders c.addresses-t.ensures) a.fc.now R.set-length l.b hb l.invariant.1
