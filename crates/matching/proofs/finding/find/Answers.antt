use mathlib.Core.Path.{sym, ap, ◌∙◌}
use native.Mathlib.Omega.{arith}
use Prim.Native.Nat.{ℕ}
use lib.IntN.{negsuc}
use lib.ListN.{length, replicate}
use Rattle.distances.specs.Near.{near, distance}
use Rattle.matching.proofs.FindingOutcomeLaws.{greedy-left, greedy-told, greedy-length, greedy-ready, from-greedy, found-greedy, found-one, found_none}
use Rattle.matching.proofs.finding.find.Goals as goal

pub fill-m-requires : goal.fill-m-requires
fill-m-requires c = c.requires.2

pub place_rest-requires : goal.place_rest-requires
place_rest-requires c =
    let a = c.args in
    let e = greedy-left (distance a.cell a.pos.now a.rot_pos.now) (length a.rot_atom.now) _ _ c.fill-m.ensures in
    let l = greedy-length (near a.cell a.pos.now a.rot_pos.now) (length a.rot_atom.now) _ e in record { partial = (greedy-ready (near a.cell a.pos.now a.rot_pos.now) (length a.rot_atom.now) _ e, omega (arith, l, c.requires.0), c.requires.1 ∙ sym l); triples = record { pos_len = omega (arith, l, c.requires.2.pos_len); rot_len = omega (arith, l, c.requires.2.rot_len) } }

pub returns-then-is_matched : goal.returns-then-is_matched
returns-then-is_matched c =
    let a = c.args in
    let d = distance a.cell a.pos.now a.rot_pos.now in
    let n = length a.rot_atom.now in
    found-greedy (near a.cell a.pos.now a.rot_pos.now) n _ _
    (sym (greedy-told d n _ _ c.fill-m.ensures) ∙ sym c.is_matched.ensures ∙ c.if-is_matched.true)
    (greedy-left d n _ _ c.fill-m.ensures)
    (c.unmark.ensures ∙ ap (λ (k : ℕ). replicate k 0) c.requires.1)

pub returns-then-place_rest : goal.returns-then-place_rest
returns-then-place_rest c =
    let a = c.args in
    let near-it = near a.cell a.pos.now a.rot_pos.now in
    let n = length a.rot_atom.now in
    let e = greedy-left (distance a.cell a.pos.now a.rot_pos.now) n _ _ c.fill-m.ensures in
    let w = c.place_rest in
    found-one near-it n _ _ _ _ (from-greedy near-it n _ e _ _ _ w.ensures) c.if-place_rest.true
    (w.auto.rot_atom ∙ greedy-length near-it n _ e)
    (c.unmark-then-place_rest.ensures ∙ ap (λ (k : ℕ). replicate k 0) (w.auto.marks ∙ c.requires.1))

pub returns : goal.returns
returns c =
    let a = c.args in
    let near-it = near a.cell a.pos.now a.rot_pos.now in
    let n = length a.rot_atom.now in
    let e = greedy-left (distance a.cell a.pos.now a.rot_pos.now) n _ _ c.fill-m.ensures in
    let w = c.place_rest in
    let z = c.none_found.ensures in
    found_none near-it n _ _ _ _ _ (from-greedy near-it n _ e _ _ _ w.ensures) c.if-place_rest.false z.0
    (z.1 ∙ ap (λ (k : ℕ). replicate k (negsuc 0)) (w.auto.rot_atom ∙ greedy-length near-it n _ e))
