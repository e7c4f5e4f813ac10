use Rattle.std.proofs.Common.{◌≡◌, ℕ, ◌+◌, ◌*◌, ap, ◌∙◌}
use lib.Ieee.{Float, binary64, of_bits}
use Rattle.replays.specs.Values.{stirred, drawn, class_of, shaped_bits, pattern_of, value_at}
use Rattle.replays.proofs.values.value.Goals as goal

-- what the calls of one value give: the class's pattern, from the three numbers drawn
drawn-so : (seed kind i a b d class bits : ℕ) (x : Float) → a ≡ drawn seed i → b ≡ stirred a → d ≡ stirred b
    → class ≡ class_of kind a → bits ≡ shaped_bits class (b + 4294967296 * d) → x ≡ of_bits binary64 bits → x ≡ value_at seed kind i
unfolding value_at
drawn-so seed kind i a b d class bits x ea eb ed ec es ex =
    let f : b ≡ stirred (drawn seed i) = eb ∙ ap stirred ea in
    let g : d ≡ stirred (stirred (drawn seed i)) = ed ∙ ap stirred f in
    let p : b + 4294967296 * d ≡ pattern_of (drawn seed i) = ap (λ (n : ℕ). n + 4294967296 * d) f ∙ ap (λ (n : ℕ). stirred (drawn seed i) + 4294967296 * n) g in
    let k : class ≡ class_of kind (drawn seed i) = ec ∙ ap (class_of kind) ea in
    ex ∙ ap (of_bits binary64) (es ∙ ap (λ (n : ℕ). shaped_bits n (b + 4294967296 * d)) k ∙ ap (shaped_bits (class_of kind (drawn seed i))) p)

pub returns : goal.returns
returns c =
    let a = c.args in
    let d = c.draw-a in
    drawn-so a.seed a.kind a.i d.result c.stir-b.result c.stir-c.result c.class.result c.shaped.result _
    d.ensures.0
    c.stir-b.ensures.0
    c.stir-c.ensures.0
    c.class.ensures
    c.shaped.ensures
    c.float.ensures
