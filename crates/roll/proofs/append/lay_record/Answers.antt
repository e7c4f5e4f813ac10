use Rattle.std.proofs.Common.{◌≡◌, ℕ, List, [], ◌∷◌, ◌++◌, ◌+◌, ◌<◌, ◌%◌, length, set, refl, sym, ap, ap₂, take-append-drop, length-set, ◌∙◌, arith}
use Rattle.std.proofs.lemmas.List.{take-set, drop-set}
use Rattle.roll.specs.Format.{in_four}
use Rattle.roll.specs.Laid.{laid, laid-laid}
use Rattle.roll.specs.StoringLaws.{record_stored}
use Rattle.roll.proofs.append.lay_record.Goals as goal

-- one byte written is one byte laid
set_laid : (s : List ℕ) (at x : ℕ) → at < length s → set s at x ≡ laid s at (x ∷ [])
unfolding laid
set_laid s at x h = sym (take-append-drop at (set s at x)) ∙ ap₂ ◌++◌ (take-set s at x) (drop-set s at x h)

pub returns : goal.returns
returns c =
    let a = c.args in
    let s = a.s.now in
    let n : length a.label.now ≡ length a.label.now % 256 = omega arith in
    let kind = a.kind ∷ [] in
    let set = kind ++ in_four a.set in
    let earlier = set ++ in_four a.earlier in
    let s₁ = c.lay_four.ensures ∙ ap (λ x. laid x (a.at + 1) (in_four a.set)) (set_laid s a.at a.kind (omega arith)) ∙ laid-laid s a.at kind (omega arith) (in_four a.set) in
    let s₂ = c.lay_four-2.ensures ∙ ap (λ x. laid x (a.at + 5) (in_four a.earlier)) s₁ ∙ laid-laid s a.at set (omega arith) (in_four a.earlier) in
    let s₃ = set_laid c.lay_four-2.new.s (a.at + 9) (length a.label.now) (omega (arith, c.lay_four.auto.s, c.lay_four-2.auto.s, length-set s a.at a.kind)) ∙ ap (λ x. laid x (a.at + 9) (length a.label.now ∷ [])) s₂ ∙ laid-laid s a.at earlier (omega arith) (length a.label.now ∷ []) in
    record_stored s _ _ a.at a.kind a.set a.earlier a.label.now _ _ _ _ _ _ _ _ _
    refl refl refl refl refl refl refl refl n c.requires.1 (omega arith) s₃ c.lay.ensures
