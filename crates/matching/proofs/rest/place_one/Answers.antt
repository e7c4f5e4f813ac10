use mathlib.Core.Path.{◌≡◌, ap, ◌∙◌}
use lib.ListN.{length, replicate, length-replicate}
use Rattle.matching.specs.Rest.{placed_already, starts}
use Rattle.matching.proofs.RestLaws.{placed-now}
use Rattle.matching.proofs.rest.place_one.Goals as goal

pub returns-then-is_held : goal.returns-then-is_held
returns-then-is_held c =
    let a = c.args in
    placed_already _ _ a.rot_atom.now c.requires.partial.0 a.i c.requires.partial.1 a.marks.now (c.is_held.ensures.is_held c.if-is_held.true)

pub search-requires : goal.search-requires
search-requires c =
    let a = c.args in
    let n = length a.rot_atom.now in
    let e : c.unmark.new.marks ≡ replicate n 0 = c.unmark.ensures ∙ ap (λ k. replicate k 0) c.requires.partial.3 in
    let l : length c.unmark.new.marks ≡ n = ap length e ∙ length-replicate n 0 in
    let R = starts _ n a.rot_atom.now c.requires.partial.0 a.i c.requires.partial.1 c.requires.partial.2 (c.is_held.ensures.is_out c.if-is_held.false) in record { ready = rw (l, e) R; triples = c.requires.triples }

pub returns : goal.returns
returns c =
    let a = c.args in
    let n = length a.rot_atom.now in
    let e : c.unmark.new.marks ≡ replicate n 0 = c.unmark.ensures ∙ ap (λ k. replicate k 0) c.requires.partial.3 in
    let w = c.search in
    placed-now _ n a.rot_atom.now c.requires.partial.0 a.i c.requires.partial.1 c.requires.partial.2 (c.is_held.ensures.is_out c.if-is_held.false) _ _ _ (rw e at w.ensures)
