use mathlib.Core.Path.{◌≡◌, refl, ◌∙◌}
use native.Mathlib.Omega.{arith}
use Rattle.lists.specs.Tab.{times_none, times_more}
use Rattle.tables.specs.Conditions.{index_at}
use Rattle.places.specs.ReadOuts.{s2pp-read, nsym_read, perms-read}
use Rattle.blocks.specs.Inside.{inside_slab}
use Rattle.read_out.specs.Copies.{copy_legs, copy_rows}
use Rattle.read_out.proofs.fc2.rows.Goals as goal

pub loop-i-init : goal.loop-i-init
loop-i-init c = (omega arith, refl, times_none _ _)

pub nsym_at-t-requires : goal.nsym_at-t-requires
nsym_at-t-requires c = (nsym_read c.requires.read-tables c.loop-i.i (omega arith)).0

pub s2pp_at-p-requires : goal.s2pp_at-p-requires
s2pp_at-p-requires c = (s2pp-read c.requires.read-tables c.loop-i.i (omega arith)).0

pub line-requires : goal.line-requires
line-requires c =
    let a = c.args in
    let l = c.loop-i in
    let R = c.requires in rw (c.nsym_at-t.ensures, c.s2pp_at-p.ensures, l.invariant.1) (record {
      along = perms-read R.read-tables l.i (omega arith);
      blocks_in = (
        inside_slab a.tables.now.n_satom 9 1 l.i a.tables.now.n_satom _ (omega arith) R.full-length,
        inside_slab a.tables.now.n_satom 9 1 _ R.read-tables.n_patom _ (s2pp-read R.read-tables l.i (omega arith)).1 R.set-length,
      );
    })

pub loop-i-preserved : goal.loop-i-preserved
loop-i-preserved c =
    let a = c.args in
    let l = c.loop-i in
    let r : c.line.new.full ≡ copy_legs a.tables.now.perms.now a.tables.now.n_satom 9 (index_at a.tables.now.nsym_list.now l.i) 1 l.i (index_at a.tables.now.s2pp.now l.i) a.fc2.now l.full =
    ◌∙◌ {b = copy_legs a.tables.now.perms.now a.tables.now.n_satom 9 c.nsym_at-t.result 1 l.i c.s2pp_at-p.result.0 a.fc2.now l.full}
    c.line.ensures (rw (c.nsym_at-t.ensures, c.s2pp_at-p.ensures)) in
    (omega arith, c.line.auto.full ∙ l.invariant.1, times_more l.i (λ i. copy_legs a.tables.now.perms.now a.tables.now.n_satom 9 (index_at a.tables.now.nsym_list.now i) 1 i (index_at a.tables.now.s2pp.now i) a.fc2.now) a.full.now l.invariant.2 r)

pub returns : goal.returns
unfolding copy_rows
returns c =
    let l = c.loop-i in
    let i : l.i ≡ c.args.tables.now.n_satom = omega arith in
    l.invariant.2 ∙ rw i
