use Rattle.std.specs.Prelude.{Err}
use mathlib.Core.Path.{◌≡◌}
use mathlib.Core.Bool.{true, false}
use mathlib.Core.List.{List}
use Prim.Native.Nat.{ℕ, ◌<◌, ◌≤◌}
use native.Mathlib.Nat.{le_trans}
use lib.IntN.{ℤ}
use lib.ListN.{length}
use Rattle.tables.specs.declared.Refusal.TheVariants.{CountAboveLimit, BadSlab}
use Rattle.tables.specs.Conditions.{out_of_range}
use Rattle.tables.specs.Lengths.{set_length}
use mathlib.Core.Path.{sym, ◌∙◌}
use borrow.Author.Tests.{lt-ltb, le-ltb, le-leb, lt-leb, eq-eqb, ne_eqb, not-true, not-false}
use Rattle.distribute.specs.Slab.{judged_slabs}
use Rattle.distribute.proofs.slabs.judge_slabs.Goals as goal

-- the two facts that edits of the tests for them break
many-slabs : (limit k lengthFc : ℕ) (mapping : List ℤ) (n lengthRotation F target source : ℕ) → n ≤ limit → limit < F
    → Err CountAboveLimit ≡ judged_slabs limit k lengthFc mapping n lengthRotation F target source
unfolding judged_slabs
many-slabs limit k lengthFc mapping n lengthRotation F target source h g = simp (le-ltb _ _ h, lt-ltb _ _ g)

same-slab : (limit k lengthFc : ℕ) (mapping : List ℤ) (n lengthRotation F target source : ℕ) → n ≤ limit → F ≤ limit → lengthFc ≡ set_length F n k → length mapping ≡ n → lengthRotation ≡ 9
    → out_of_range n mapping ≡ false → target < F → source < F → target ≡ source → Err BadSlab ≡ judged_slabs limit k lengthFc mapping n lengthRotation F target source
unfolding judged_slabs
same-slab limit k lengthFc mapping n lengthRotation F target source h1 h2 h3 h4 h5 o h7 h8 h9 =
    simp (le-ltb _ _ h1, le-ltb _ _ h2, eq-eqb _ _ h3, eq-eqb _ _ h4, eq-eqb _ _ h5, o, lt-leb _ _ h7, lt-leb _ _ h8, eq-eqb _ _ h9)

pub returns-then-num_atom-limit : goal.returns-then-num_atom-limit
unfolding judged_slabs
returns-then-num_atom-limit c =
    simp (lt-ltb _ _ c.if-num_atom-limit.true)

pub returns-then-num_first-limit : goal.returns-then-num_first-limit
returns-then-num_first-limit c =
    let a = c.args in
    many-slabs a.limit a.k a.set_len a.atom_mapping.now a.num_atom a.rotation_length a.num_first a.target a.source c.if-num_atom-limit.false c.if-num_first-limit.true

pub set_length-requires : goal.set_length-requires
set_length-requires c =
    let p = c.requires in
    (le_trans c.if-num_first-limit.false p.0, le_trans c.if-num_atom-limit.false p.0, p.1)

pub returns-then-set_len-set_length : goal.returns-then-set_len-set_length
unfolding judged_slabs
returns-then-set_len-set_length c =
    simp (
      le-ltb _ _ c.if-num_atom-limit.false,
      le-ltb _ _ c.if-num_first-limit.false,
      ne_eqb _ _ (λ z. c.if-set_len-set_length.true (z ∙ sym c.set_length.ensures)),
    )

pub returns-then-atom_mapping-num_atom : goal.returns-then-atom_mapping-num_atom
unfolding judged_slabs
returns-then-atom_mapping-num_atom c =
    simp (
      le-ltb _ _ c.if-num_atom-limit.false,
      le-ltb _ _ c.if-num_first-limit.false,
      eq-eqb _ _ (c.if-set_len-set_length.false ∙ c.set_length.ensures),
      ne_eqb _ _ c.if-atom_mapping-num_atom.true,
    )

pub returns-then-rotation_length-ne9 : goal.returns-then-rotation_length-ne9
unfolding judged_slabs
returns-then-rotation_length-ne9 c =
    simp (
      le-ltb _ _ c.if-num_atom-limit.false,
      le-ltb _ _ c.if-num_first-limit.false,
      eq-eqb _ _ (c.if-set_len-set_length.false ∙ c.set_length.ensures),
      eq-eqb _ _ c.if-atom_mapping-num_atom.false,
      ne_eqb _ _ c.if-rotation_length-ne9.true,
    )

pub returns-then-not-all_below : goal.returns-then-not-all_below
unfolding judged_slabs
returns-then-not-all_below c =
    let a = c.args in
    let o : out_of_range a.num_atom a.atom_mapping.now ≡ true =
    not-false _ (sym c.all_below.ensures ∙ c.if-not-all_below.true) in
    simp (
      le-ltb _ _ c.if-num_atom-limit.false,
      le-ltb _ _ c.if-num_first-limit.false,
      eq-eqb _ _ (c.if-set_len-set_length.false ∙ c.set_length.ensures),
      eq-eqb _ _ c.if-atom_mapping-num_atom.false,
      eq-eqb _ _ c.if-rotation_length-ne9.false,
      o,
    )

pub returns-then-target-num_first : goal.returns-then-target-num_first
unfolding judged_slabs
returns-then-target-num_first c =
    let a = c.args in
    let o : out_of_range a.num_atom a.atom_mapping.now ≡ false =
    not-true _ (sym c.all_below.ensures ∙ c.if-not-all_below.false) in
    simp (
      le-ltb _ _ c.if-num_atom-limit.false,
      le-ltb _ _ c.if-num_first-limit.false,
      eq-eqb _ _ (c.if-set_len-set_length.false ∙ c.set_length.ensures),
      eq-eqb _ _ c.if-atom_mapping-num_atom.false,
      eq-eqb _ _ c.if-rotation_length-ne9.false,
      o,
      le-leb _ _ c.if-target-num_first.true,
    )

pub returns-then-source-num_first : goal.returns-then-source-num_first
unfolding judged_slabs
returns-then-source-num_first c =
    let a = c.args in
    let o : out_of_range a.num_atom a.atom_mapping.now ≡ false =
    not-true _ (sym c.all_below.ensures ∙ c.if-not-all_below.false) in
    simp (
      le-ltb _ _ c.if-num_atom-limit.false,
      le-ltb _ _ c.if-num_first-limit.false,
      eq-eqb _ _ (c.if-set_len-set_length.false ∙ c.set_length.ensures),
      eq-eqb _ _ c.if-atom_mapping-num_atom.false,
      eq-eqb _ _ c.if-rotation_length-ne9.false,
      o,
      lt-leb _ _ c.if-target-num_first.false,
      le-leb _ _ c.if-source-num_first.true,
    )

pub returns-then-target-source : goal.returns-then-target-source
returns-then-target-source c =
    let a = c.args in
    let o : out_of_range a.num_atom a.atom_mapping.now ≡ false =
    not-true _ (sym c.all_below.ensures ∙ c.if-not-all_below.false) in
    same-slab a.limit a.k a.set_len a.atom_mapping.now a.num_atom a.rotation_length a.num_first a.target a.source
    c.if-num_atom-limit.false
    c.if-num_first-limit.false
    (c.if-set_len-set_length.false ∙ c.set_length.ensures)
    c.if-atom_mapping-num_atom.false
    c.if-rotation_length-ne9.false
    o
    c.if-target-num_first.false
    c.if-source-num_first.false
    c.if-target-source.true

pub returns : goal.returns
unfolding judged_slabs
returns c =
    let a = c.args in
    let o : out_of_range a.num_atom a.atom_mapping.now ≡ false =
    not-true _ (sym c.all_below.ensures ∙ c.if-not-all_below.false) in
    simp (
      le-ltb _ _ c.if-num_atom-limit.false,
      le-ltb _ _ c.if-num_first-limit.false,
      eq-eqb _ _ (c.if-set_len-set_length.false ∙ c.set_length.ensures),
      eq-eqb _ _ c.if-atom_mapping-num_atom.false,
      eq-eqb _ _ c.if-rotation_length-ne9.false,
      o,
      lt-leb _ _ c.if-target-num_first.false,
      lt-leb _ _ c.if-source-num_first.false,
      ne_eqb _ _ c.if-target-source.false,
    )
